-- Octets and their digits.
use Rattle.std.proofs.Common.{◌≡◌, ℕ, zero, suc, ◌+◌, ◌-◌, ◌*◌, ◌/◌, ◌%◌, ◌<◌, ◌≤◌, Some, List, [], ◌∷◌, ◌++◌, map, length, get_or, take, drop, set, replicate, sym, refl, ap, ◌∙◌, arith, length-drop}
use Rattle.std.specs.List.{concat}
use Rattle.std.specs.Simd.{first_chunks}
use Rattle.std.proofs.ByRecursion.{All-get_or, All-take}
use Rattle.std.proofs.lemmas.List.{get_or-map, length-map, length-take, map-append, take_more, take_more_set, take-append-drop, drop-set-lt, drop-drop, drop-replicate}
use Rattle.script.specs.Hex.{octet_text, hex, octets_in, Sound, Filling}
use Rattle.script.specs.Numbers.{Bytes}
use Rattle.script.specs.Reading.{Reads}
use Rattle.script.specs.declared.hexadecimal.Octets.{Octets}

pub length_hex : (bs : List ℕ) → length (hex bs) ≡ 2 * length bs
length_hex [] = refl
length_hex (b ∷ bs) = omega (arith, length_hex bs)

-- what is held and the zeros behind are all of the places
pub places : (o : Octets) → Sound o → o.bytes ≡ octets_in o ++ replicate (64 - o.count) 0
places o h = sym (take-append-drop o.count o.bytes) ∙ ap (λ (l : List ℕ). octets_in o ++ l) h.rest

pub held : (o : Octets) → Sound o → length (octets_in o) ≡ o.count
held o h = omega (arith, length-take o.count o.bytes, h.room, h.few)

pub small_in : (o : Octets) → Sound o → Bytes (octets_in o)
small_in o h = All-take (λ n. n ≤ 255) o.count o.bytes h.small

-- the places behind stay zero
pub rest_more : (bytes : List ℕ) (i v n : ℕ) → drop i bytes ≡ replicate (n - i) 0 → drop (i + 1) (set bytes i v) ≡ replicate (n - (i + 1)) 0
rest_more bytes i v n e =
    let s : n - i - 1 ≡ n - (i + 1) = omega arith in
    drop-set-lt (i + 1) bytes i v (omega arith)
    ∙ sym (drop-drop 1 i bytes)
    ∙ ap (λ (l : List ℕ). drop 1 l) e
    ∙ drop-replicate 1 (n - i) 0
    ∙ ap (λ k. replicate k 0) s

-- the text of octets is cut into the two digits of each
cut_in_pairs : (bs : List ℕ) → first_chunks 2 (length bs) (hex bs) ≡ map octet_text bs
cut_in_pairs [] = refl
cut_in_pairs (b ∷ bs) = ap (λ (l : List (List ℕ)). octet_text b ∷ l) (cut_in_pairs bs)

length_chunks : (k n : ℕ) (text : List ℕ) → length (first_chunks k n text) ≡ n
length_chunks k zero text = refl
length_chunks k (suc n) text = ap suc (length_chunks k n (drop k text))

-- pairs of digits, in a row
rejoined : (n : ℕ) (text : List ℕ) → length text ≡ 2 * n → concat (first_chunks 2 n text) ≡ text
rejoined zero [] h = refl
rejoined zero (b ∷ text) h = let z : ⊥ = omega arith in absurd z
rejoined (suc n) text h =
    ap (λ (l : List ℕ). take 2 text ++ l) (rejoined n (drop 2 text) (omega (arith, length-drop 2 text))) ∙ take-append-drop 2 text

in_a_row : (bs : List ℕ) → hex bs ≡ concat (map octet_text bs)
in_a_row [] = refl
in_a_row (b ∷ bs) = ap (λ (l : List ℕ). octet_text b ++ l) (in_a_row bs)

two : (n i : ℕ) (text : List ℕ) → i < n → 2 * n ≤ length text → get_or (get_or (first_chunks 2 n text) i []) 0 0 ∷ get_or (get_or (first_chunks 2 n text) i []) 1 0 ∷ [] ≡ get_or (first_chunks 2 n text) i []
two zero i text h l = let z : ⊥ = omega arith in absurd z
two (suc n) zero [] h l = let z : ⊥ = omega arith in absurd z
two (suc n) zero (a ∷ []) h l = let z : ⊥ = omega arith in absurd z
two (suc n) zero (a ∷ b ∷ text) h l = refl
two (suc n) (suc i) text h l = two n i (drop 2 text) (omega arith) (omega (arith, length-drop 2 text))

-- the pairs of a text with an even number of digits
module _ (text rest : List ℕ) (pairs : List (List ℕ)) (is : pairs ≡ first_chunks 2 (length text / 2) text) (left : length rest ≡ length text % 2) (none : length rest < 1) where
  pair : (i : ℕ) → i < length text / 2 → get_or (get_or pairs i []) 0 0 ∷ get_or (get_or pairs i []) 1 0 ∷ [] ≡ get_or pairs i []
  pair i h = rw is (two (length text / 2) i text h (omega arith))

  -- one octet more is the octet of one pair more
  pub one_more : (bytes : List ℕ) (i v : ℕ) → i < length bytes → i < length pairs → map octet_text (take i bytes) ≡ take i pairs →
      octet_text v ≡ get_or (get_or pairs i []) 0 0 ∷ get_or (get_or pairs i []) 1 0 ∷ [] → map octet_text (take (i + 1) (set bytes i v)) ≡ take (i + 1) pairs
  one_more bytes i v h g e f =
      let in' : i < length text / 2 = omega (arith, ap length is, length_chunks 2 (length text / 2) text, g) in
      ap (map octet_text) (take_more_set bytes i v h)
      ∙ map-append octet_text (take i bytes) (v ∷ [])
      ∙ ap (λ (l : List (List ℕ)). l ++ octet_text v ∷ []) e
      ∙ ap (λ (p : List ℕ). take i pairs ++ p ∷ []) (f ∙ pair i in')
      ∙ sym (take_more pairs i [] g)

  module _ (bs : List ℕ) (e : hex bs ≡ text) where
    cut_into : pairs ≡ map octet_text bs
    cut_into =
        let many : length text / 2 ≡ length bs = omega (arith, ap length e, length_hex bs) in
        is ∙ ap (λ n. first_chunks 2 n text) many ∙ ap (first_chunks 2 (length bs)) (sym e) ∙ cut_in_pairs bs

    -- as many octets have as many pairs
    pub as_many : length pairs ≡ length bs
    as_many = ap length cut_into ∙ length-map bs octet_text

    -- and each pair is the digits of an octet
    pub each : (i : ℕ) → i < length pairs → Bytes bs → (m : ℕ) × (m ≤ 255) × (octet_text m ≡ get_or (get_or pairs i []) 0 0 ∷ get_or (get_or pairs i []) 1 0 ∷ [])
    each i h small =
        let in' : i < length bs = omega (arith, as_many) in
        let same : get_or pairs i [] ≡ octet_text (get_or bs i 0) = ap (λ (ps : List (List ℕ)). get_or ps i []) cut_into ∙ get_or-map octet_text bs i 0 [] in' in
        (get_or bs i 0, All-get_or (λ b. b ≤ 255) bs i 0 in' small, sym same ∙ sym (pair i (omega (arith, as_many, length_hex bs, ap length e))))

  -- octets whose digits are the pairs
  pub filled : (o : Octets) → map octet_text (octets_in o) ≡ pairs → Sound o → 0 < o.count → Reads Filling (λ p. hex (octets_in p)) text (Some o)
  filled o e sound h = ((sound, h), in_a_row (octets_in o) ∙ ap concat (e ∙ is) ∙ rejoined (length text / 2) text (omega arith))
