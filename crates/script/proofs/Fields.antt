-- Fields of a line: numbers with one space between two.
use Rattle.std.proofs.Common.{◌≡◌, ℕ, ◌*◌, ◌^◌, ◌<◌, ◌≤◌, false, eqb, List, [], ◌∷◌, ◌++◌, map, length, get_or, decimal, Option, Result, Ok, Err, sym, refl, ap, ◌∙◌, subst, arith, lit<, length-append, Bor, MatchOption}
use Rattle.std.specs.Prelude.{IfOk, IsOk, ◌↔◌}
use Rattle.std.specs.Result.{result_ok}
use Rattle.std.proofs.lemmas.List.{get_or-map, length-map}
use Rattle.std.specs.List.{All, AllByRecursion, slice_split, join_with_byte}
use Rattle.std.proofs.lemmas.Str.Parse.{not_in_digits}
use Rattle.std.proofs.lemmas.Fmt.{digits_decimal, length-decimal-le}
use Rattle.std.proofs.lemmas.List.Elements.{All-from_get_or}
use Rattle.std.proofs.lemmas.List.Splits.{slice_split_none, slice_split_at, join_with_byte-slice_split}
use Rattle.std.proofs.lemmas.Str.Pattern.{IsSplitOnceResult, split_after}
use Rattle.std.proofs.ByRecursion.{All-get_or, All-weaker}
use Rattle.std.proofs.lemmas.Bool.Decides.{nat_tests}
use Rattle.script.specs.Numbers.{spaced, Bytes, SoManyBytes}
use Rattle.script.specs.Reading.{Reads}
use Rattle.script.proofs.Numerals.{own}

-- a decimal holds no space
pub spaceless : (n : ℕ) → n < 2 ^ 64 → (i : ℕ) → i < length (decimal n) → get_or (decimal n) i 0 ≡ 32 → ⊥
spaceless n h = not_in_digits own (decimal n) 32 (digits_decimal own n h) (λ b. omega (arith, b.0))

three : (n : ℕ) → n ≤ 255 → length (decimal n) ≤ 3
three n h = length-decimal-le 3 n (omega arith) (omega arith) (omega arith)

-- numbers of up to 64 bits, of which bytes are
abbrev pub Small : List ℕ → Type 0
Small ns = AllByRecursion (λ n. n < 2 ^ 64) ns

pub wider : (ns : List ℕ) → Bytes ns → Small ns
wider ns h = All-weaker (λ n. n ≤ 255) (λ n. n < 2 ^ 64) (λ n g. omega arith) ns h

apart : (b : ℕ) → (b ≡ 32 → ⊥) → eqb b 32 ≡ false
apart b h = grind (arith, nat_tests)

uncut : (n : ℕ) → n < 2 ^ 64 → All (λ b. eqb b 32 ≡ false) (decimal n)
uncut n h = All-from_get_or (λ b. eqb b 32 ≡ false) (decimal n) 0 (λ i l. apart (get_or (decimal n) i 0) (spaceless n h i l))

-- a byte has three digits at most, and a space parts two
pub spaced_long : (ns : List ℕ) → Bytes ns → length (spaced ns) ≤ 4 * length ns
spaced_long [] h = omega arith
spaced_long (n ∷ []) h = omega (arith, three n h.0)
spaced_long (n ∷ m ∷ ns) h = omega (arith, three n h.0, length-append (decimal n) (32 ∷ spaced (m ∷ ns)), spaced_long (m ∷ ns) h.1)

-- the text of numbers is cut into their decimals
pub cut_at_spaces : (ns : List ℕ) → 0 < length ns → Small ns → slice_split (λ b. eqb b 32) (spaced ns) ≡ map decimal ns
cut_at_spaces [] h s = let z : ⊥ = omega arith in absurd z
cut_at_spaces (n ∷ []) h s = slice_split_none (λ b. eqb b 32) (decimal n) (uncut n s.0)
cut_at_spaces (n ∷ m ∷ ns) h s =
    slice_split_at (λ b. eqb b 32) (decimal n) 32 (spaced (m ∷ ns)) (uncut n s.0) refl
    ∙ ap (λ (r : List (List ℕ)). decimal n ∷ r) (cut_at_spaces (m ∷ ns) (omega arith) s.1)

-- a number, a space and a rest
pub split_first : (n : ℕ) (rest bs : List ℕ) (r : Option (Bor (List ℕ) × Bor (List ℕ))) → IsSplitOnceResult 32 bs r → n < 2 ^ 64 → decimal n ++ (32 ∷ rest) ≡ bs →
    MatchOption r ⊥ (λ x. (x.0.now ≡ decimal n) × (x.1.now ≡ rest))
split_first n rest bs r h small e = split_after 32 bs (decimal n) rest r h (lit< tt) (sym e) (spaceless n small)

module _ (text : List ℕ) (n : ℕ) (some : 0 < n) where
  abbrev parts : List (List ℕ)
  parts = slice_split (λ b. eqb b 32) text

  module _ (ns : List ℕ) (h : SoManyBytes n ns) (e : spaced ns ≡ text) where
    cut_into : parts ≡ map decimal ns
    cut_into = ap (slice_split (λ b. eqb b 32)) (sym e) ∙ cut_at_spaces ns (omega (arith, h.0)) (wider ns h.1)

    -- as many bytes have as many pieces
    pub as_many : length parts ≡ n
    as_many = ap length cut_into ∙ length-map ns decimal ∙ h.0

    -- and each piece is the decimal of a byte
    pub each : (k : ℕ) (piece : List ℕ) → k < length parts → piece ≡ get_or parts k piece → (m : ℕ) × (m ≤ 255) × (decimal m ≡ piece)
    each k piece l at =
        let in' : k < length ns = omega (arith, as_many, h.0) in
        (get_or ns k 0, All-get_or (λ b. b ≤ 255) ns k 0 in' h.1, sym (at ∙ ap (λ (ps : List (List ℕ)). get_or ps k piece) cut_into ∙ get_or-map decimal ns k 0 piece in'))

  -- bytes whose decimals are the cut_at_spaces, in an array where they are so many
  pub filled : {E : Type 0} (values : List ℕ) (r : Result (List ℕ) E) → map decimal values ≡ parts → Bytes values → IsOk r ↔ (length values ≡ n) → IfOk r (λ a. a ≡ values) →
      Reads (SoManyBytes n) spaced text (result_ok r)
  filled values (Ok a) e small many same =
      let is : a ≡ values = same in
      let long : length values ≡ n = many.0 refl in
      ((ap length is ∙ long, subst Bytes (sym is) small), ap spaced is ∙ ap (join_with_byte 32) e ∙ join_with_byte-slice_split 32 text)
  filled values (Err d) e small many same = λ ns h f.
      let z = many.1 (sym (length-map values decimal) ∙ ap length e ∙ as_many ns h f) in
      cc
