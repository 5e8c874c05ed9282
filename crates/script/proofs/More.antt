-- More laws of digits, fields and lines, which no proof of this repository cites.
use Rattle.std.specs.Prelude.{◌≢◌, MatchBool, IsOk, OnOk, ◌↔◌}
use Rattle.std.proofs.Common.{◌≡◌, ℕ, zero, suc, ◌+◌, ◌-◌, ◌*◌, ◌/◌, ◌%◌, ◌^◌, ◌<◌, ◌≤◌, min, Bool, true, false, cond, List, [], ◌∷◌, ◌++◌, length, get_or, take, drop, set, Some, None, Ok, Err, decimal, Option, Result, sym, refl, ap, ◌∙◌, subst, ⊎_elim, append-nil, append_assoc, arith, lit<, length-append, Bor, MatchOption}
use borrow.Rule.Slice.PartMut.{put_mid}
use Rattle.std.specs.Result.{result_ok, is_err}
use Rattle.std.specs.Str.Parse.{ParsesUnsigned}
use Rattle.std.proofs.ByRecursion.{All-get_or}
use Rattle.std.proofs.lemmas.Bool.{false≢true, cases_lt, lt-ltb, le-ltb}
use Rattle.std.proofs.lemmas.List.{take_more, take_more_set, take_all, length-take, drop_all}
use Rattle.std.proofs.lemmas.Str.Pattern.{IsSplitOnceResult, split_after}
use Rattle.head.specs.declared.checks.Sample.{Sample}
use Rattle.script.specs.Events.{letter_of, kind_of, fields_of, text_of, sample_bytes, InRange, Of, Only}
use Rattle.script.specs.Hex.{hex_digit, octet_text, hex, octets_in, Filling}
use Rattle.script.specs.Lines.{with_byte, onto}
use Rattle.script.specs.Numbers.{plain, spaced, Bytes}
use Rattle.script.specs.Reading.{Reads}
use Rattle.script.specs.declared.event.EventLine.{EventLine}
use Rattle.script.specs.declared.hexadecimal.Octets.{Octets}
use Rattle.script.specs.declared.event.EventLine.TheVariants.{Frame, Ticks, Sample as Sampled, Second}
use Rattle.script.specs.declared.outcome.Kind.{Kind}
use Rattle.script.specs.declared.outcome.Kind.TheVariants.{PowerOn, Frame as OfFrame, Ticks as OfTicks, Sample as OfSample, Second as OfSecond}
use Rattle.script.proofs.Apart.{only}
use Rattle.script.proofs.Brought.{cut_line, line_reads}
use Rattle.script.proofs.Chunks.{fits, overflows}
use Rattle.script.proofs.Digits.{length_hex, held, small_in}
use Rattle.script.proofs.Fields.{split_first}
use Rattle.script.proofs.Numerals.{ok_of, read_below, reads_some}

-- octets and their digits

pub hex_append : (xs ys : List ℕ) → hex (xs ++ ys) ≡ hex xs ++ hex ys
hex_append [] ys = refl
hex_append (x ∷ xs) ys = ap (λ (l : List ℕ). hex_digit (x / 16) ∷ hex_digit (x % 16) ∷ l) (hex_append xs ys)

pub two_more : (text : List ℕ) (i : ℕ) → 2 * i + 1 < length text → take (2 * (i + 1)) text ≡ take (2 * i) text ++ (get_or text (2 * i) 0 ∷ get_or text (2 * i + 1) 0 ∷ [])
two_more text i h =
    let s : 2 * (i + 1) ≡ 2 * i + 1 + 1 = omega arith in
    ap (λ n. take n text) s
    ∙ take_more text (2 * i + 1) 0 h
    ∙ ap (λ (l : List ℕ). l ++ (get_or text (2 * i + 1) 0 ∷ [])) (take_more text (2 * i) 0 (omega arith))
    ∙ append_assoc (take (2 * i) text) (get_or text (2 * i) 0 ∷ []) (get_or text (2 * i + 1) 0 ∷ [])

-- one octet more has two digits more
pub hex_more : (bytes text : List ℕ) (i v : ℕ) → i < length bytes → 2 * i + 1 < length text → hex (take i bytes) ≡ take (2 * i) text →
    octet_text v ≡ get_or text (2 * i) 0 ∷ get_or text (2 * i + 1) 0 ∷ [] → hex (take (i + 1) (set bytes i v)) ≡ take (2 * (i + 1)) text
hex_more bytes text i v h g e f =
    ap hex (take_more_set bytes i v h)
    ∙ hex_append (take i bytes) (v ∷ [])
    ∙ ap (λ (l : List ℕ). l ++ octet_text v) e
    ∙ ap (λ (l : List ℕ). take (2 * i) text ++ l) f
    ∙ sym (two_more text i g)

-- the two digits of an octet, by its place
pub hex_at : (bs : List ℕ) (i : ℕ) → i < length bs → octet_text (get_or bs i 0) ≡ get_or (hex bs) (2 * i) 0 ∷ get_or (hex bs) (2 * i + 1) 0 ∷ []
hex_at [] i h = let z : ⊥ = omega arith in absurd z
hex_at (b ∷ bs) zero h = refl
hex_at (b ∷ bs) (suc i) h =
    let s : 2 * suc i ≡ suc (suc (2 * i)) = omega arith in
    let t : 2 * suc i + 1 ≡ suc (suc (2 * i + 1)) = omega arith in
    rw (t, s) (hex_at bs i (omega arith))

-- how many octets a text writes
pub counted : (o : Octets) (text : List ℕ) → Filling o → hex (octets_in o) ≡ text → (length text ≡ 2 * o.count) × (1 ≤ o.count) × (o.count ≤ 64)
counted o text h e = (omega (arith, ap length e, length_hex (octets_in o), held o h.0), h.1, h.0.few)

-- where two digits write no octet, the text writes none
pub none_at : (o : Octets) (text : List ℕ) (i : ℕ) → 2 * i + 1 < length text →
    ((b : ℕ) → b ≤ 255 → octet_text b ≡ get_or text (2 * i) 0 ∷ get_or text (2 * i + 1) 0 ∷ [] → ⊥) → Filling o → hex (octets_in o) ≡ text → ⊥
none_at o text i lt none h e =
    let n = counted o text h e in
    let in' : i < length (octets_in o) = omega (arith, n.0, held o h.0) in
    none (get_or (octets_in o) i 0) (All-get_or (λ b. b ≤ 255) (octets_in o) i 0 in' (small_in o h.0))
    (hex_at (octets_in o) i in' ∙ ap (λ (t : List ℕ). get_or t (2 * i) 0 ∷ get_or t (2 * i + 1) 0 ∷ []) e)

-- fields of bytes

-- whether a text is that of as many bytes as there are places; if so these are in the places
abbrev pub Filled : List ℕ → List ℕ → Bool → Type 0
Filled text values r =
    MatchBool r (Bytes values × (spaced values ≡ text)) ((ns : List ℕ) → length ns ≡ length values → Bytes ns → spaced ns ≢ text)

-- one place: no number means no list of one number
pub none_alone : (vs ns text : List ℕ) → length vs ≡ 1 → length ns ≡ length vs → Bytes ns → spaced ns ≡ text → ((n : ℕ) → n ≤ 255 → decimal n ≡ text → ⊥) → ⊥
none_alone vs [] text one same small e none = omega arith
none_alone vs (n ∷ []) text one same small e none = none n small.0 e
none_alone vs (n ∷ m ∷ ns) text one same small e none = omega arith

-- one place, filled
pub alone : (vs text : List ℕ) (n : ℕ) → length vs ≡ 1 → n ≤ 255 → decimal n ≡ text → Bytes (set vs 0 n) × (spaced (set vs 0 n) ≡ text)
alone [] text n one h e = let z : ⊥ = omega arith in absurd z
alone (v ∷ []) text n one h e = ((h, tt), e)
alone (v ∷ w ∷ vs) text n one h e = let z : ⊥ = omega arith in absurd z

-- two or more: the first field, and the others
pub split_fields : (ns bs : List ℕ) (r : Option (Bor (List ℕ) × Bor (List ℕ))) → IsSplitOnceResult 32 bs r → 1 < length ns → Bytes ns → spaced ns ≡ bs →
    MatchOption r ⊥ (λ x. (n : ℕ) × (m : ℕ) × (more : List ℕ) × (ns ≡ n ∷ m ∷ more) × (n ≤ 255) × (x.0.now ≡ decimal n) × (x.1.now ≡ spaced (m ∷ more)))
split_fields [] bs r h two small e = let z : ⊥ = omega arith in absurd z
split_fields (n ∷ []) bs r h two small e = let z : ⊥ = omega arith in absurd z
split_fields (n ∷ m ∷ more) bs r h two small e = joined r (split_first n (spaced (m ∷ more)) bs r h (omega (arith, small.0)) e)
  where
    joined : (o : Option (Bor (List ℕ) × Bor (List ℕ))) → MatchOption o ⊥ (λ x. (x.0.now ≡ decimal n) × (x.1.now ≡ spaced (m ∷ more))) →
        MatchOption o ⊥ (λ x. (n' : ℕ) × (m' : ℕ) × (more' : List ℕ) × (n ∷ m ∷ more ≡ n' ∷ m' ∷ more') × (n' ≤ 255) × (x.0.now ≡ decimal n') × (x.1.now ≡ spaced (m' ∷ more')))
    joined None z = z
    joined (Some x) z = (n, m, more, refl, small.0, z.0, z.1)

-- the first place is written, and then the others
pub written : (vs last : List ℕ) (n : ℕ) → 0 < length vs → put_mid 1 (length (set vs 0 n) - 1) (set vs 0 n) last ≡ n ∷ last
written [] last n h = let z : ⊥ = omega arith in absurd z
written (v ∷ vs) last n h = rw (drop_all (length (n ∷ vs) - 1) vs (omega arith)) (ap (λ (l : List ℕ). n ∷ l) (append-nil last))

pub going : (n : ℕ) (last text field more : List ℕ) (b : Bool) → 0 < length last → n ≤ 255 → decimal n ≡ field → text ≡ field ++ (32 ∷ more) →
    ((ns : List ℕ) → length ns ≡ suc (length last) → Bytes ns → spaced ns ≡ text → (m : ℕ) × (k : ℕ) × (rest : List ℕ) × (ns ≡ m ∷ k ∷ rest) × (m ≤ 255) × (field ≡ decimal m) × (more ≡ spaced (k ∷ rest))) →
    Filled more last b → Filled text (n ∷ last) b
going n [] text field more b h small e cut other f = let z : ⊥ = omega arith in absurd z
going n (x ∷ xs) text field more true h small e cut other f = let same = f.1 in ((small, f.0), cc)
going n (x ∷ xs) text field more false h small e cut other f = λ ns same bytes whole.
    let got = other ns same bytes whole in
    f (got.1 ∷ got.2) (omega (arith, ap length got.3)) (subst Bytes got.3 bytes).1 (sym got.6)

-- the first place and the others, filled or not
pub onward : (vs last text field more : List ℕ) (n : ℕ) (b : Bool) → 1 < length vs → length last ≡ length vs - 1 → n ≤ 255 → decimal n ≡ field → text ≡ field ++ (32 ∷ more) →
    ((ns : List ℕ) → length ns ≡ suc (length last) → Bytes ns → spaced ns ≡ text → (m : ℕ) × (k : ℕ) × (rest : List ℕ) × (ns ≡ m ∷ k ∷ rest) × (m ≤ 255) × (field ≡ decimal m) × (more ≡ spaced (k ∷ rest))) →
    Filled more last b → Filled text (put_mid 1 (length (set vs 0 n) - 1) (set vs 0 n) last) b
onward vs last text field more n b two len small e cut other f = rw (written vs last n (omega arith)) (going n last text field more b (omega arith) small e cut other f)

-- cut at the first space
pub cut : (xs ys r s : List ℕ) → ((i : ℕ) → i < length xs → get_or xs i 0 ≡ 32 → ⊥) → ((i : ℕ) → i < length ys → get_or ys i 0 ≡ 32 → ⊥) → xs ++ (32 ∷ r) ≡ ys ++ (32 ∷ s) →
    (xs ≡ ys) × (r ≡ s)
cut [] [] r s p q e = (refl, ap (λ (l : List ℕ). drop 1 l) e)
cut [] (y ∷ ys) r s p q e = let z : ⊥ = q 0 (omega arith) (sym (ap (λ (l : List ℕ). get_or l 0 0) e)) in absurd z
cut (x ∷ xs) [] r s p q e = let z : ⊥ = p 0 (omega arith) (ap (λ (l : List ℕ). get_or l 0 0) e) in absurd z
cut (x ∷ xs) (y ∷ ys) r s p q e =
    let rest = cut xs ys r s (λ i h. p (suc i) (omega arith)) (λ i h. q (suc i) (omega arith)) (ap (λ (l : List ℕ). drop 1 l) e) in
    (ap (λ n. n ∷ xs) (ap (λ (l : List ℕ). get_or l 0 0) e) ∙ ap (λ (l : List ℕ). y ∷ l) rest.0, rest.1)

-- a call of `parse`, by its result

module _ {E : Type 0} (bs : List ℕ) (r : Result ℕ E) (h : ParsesUnsigned 32 10 bs r) where
  pub read_decimal : plain bs ≡ true → (n : ℕ) → r ≡ Ok n → decimal n ≡ bs
  read_decimal p n e = (read_below bs r h p n (ap result_ok e)).1

  -- a decimal is read back
  pub reads_back : (n : ℕ) → n < 2 ^ 32 → decimal n ≡ bs → r ≡ Ok n
  reads_back n small e = ok_of r n (reads_some bs r h n small e)

-- a sample

-- no six bytes
pub sample_none : (values text : List ℕ) → length values ≡ 6 → ((ns : List ℕ) → length ns ≡ length values → Bytes ns → spaced ns ≡ text → ⊥) →
    (x : EventLine) → Of OfSample x → fields_of x ≡ text → ⊥
sample_none values text l none (Frame o) h e = omega (arith, h.1)
sample_none values text l none (Ticks n) h e = omega (arith, h.1)
sample_none values text l none (Sampled s) h e =
    none (sample_bytes s)
    (omega (arith, length-append s.plate (s.strip ++ s.anode), length-append s.strip s.anode, h.0.plates, h.0.strips, h.0.anodes))
    h.0.small e
sample_none values text l none (Second s) h e = omega (arith, h.1)

-- the sample of six bytes
abbrev pub sample_of : List ℕ → Sample
sample_of vs = record {
  plate = get_or vs 0 0 ∷ get_or vs 1 0 ∷ [];
  strip = get_or vs 2 0 ∷ get_or vs 3 0 ∷ [];
  anode = get_or vs 4 0 ∷ get_or vs 5 0 ∷ [];
}

pub six_bytes : (vs : List ℕ) → length vs ≡ 6 → sample_bytes (sample_of vs) ≡ vs
six_bytes [] l = let z : ⊥ = omega arith in absurd z
six_bytes (a ∷ []) l = let z : ⊥ = omega arith in absurd z
six_bytes (a ∷ b ∷ []) l = let z : ⊥ = omega arith in absurd z
six_bytes (a ∷ b ∷ c ∷ []) l = let z : ⊥ = omega arith in absurd z
six_bytes (a ∷ b ∷ c ∷ d ∷ []) l = let z : ⊥ = omega arith in absurd z
six_bytes (a ∷ b ∷ c ∷ d ∷ e ∷ []) l = let z : ⊥ = omega arith in absurd z
six_bytes (a ∷ b ∷ c ∷ d ∷ e ∷ f ∷ []) l = refl
six_bytes (a ∷ b ∷ c ∷ d ∷ e ∷ f ∷ g ∷ vs) l = let z : ⊥ = omega arith in absurd z

-- the letter of a line, and its fields

pub no_space : (k : Kind) (i : ℕ) → i < 1 → get_or (letter_of k ∷ []) i 0 ≡ 32 → ⊥
no_space PowerOn zero h e = omega arith
no_space OfFrame zero h e = omega arith
no_space OfTicks zero h e = omega arith
no_space OfSample zero h e = omega arith
no_space OfSecond zero h e = omega arith
no_space k (suc i) h e = omega arith

pub split_letter : (bs : List ℕ) (r : Option (Bor (List ℕ) × Bor (List ℕ))) → IsSplitOnceResult 32 bs r → (x : EventLine) → text_of x ≡ bs →
    MatchOption r ⊥ (λ p. (p.0.now ≡ letter_of (kind_of x) ∷ []) × (p.1.now ≡ fields_of x))
split_letter bs r h x e = split_after 32 bs (letter_of (kind_of x) ∷ []) (fields_of x) r h (lit< tt) (sym e) (no_space (kind_of x))

-- no other letter is one of an event
pub other_letter : (x : EventLine) (letter : List ℕ) → letter ≡ letter_of (kind_of x) ∷ [] → (letter ≡ 70 ∷ [] → ⊥) → (letter ≡ 84 ∷ [] → ⊥) → (letter ≡ 72 ∷ [] → ⊥) → (letter ≡ 83 ∷ [] → ⊥) → ⊥
other_letter (Frame o) letter e f t h s = f e
other_letter (Ticks n) letter e f t h s = t e
other_letter (Sampled y) letter e f t h s = h e
other_letter (Second m) letter e f t h s = s e

-- a line by its first space, its letter and its fields
pub read_line : (k : Kind) (line text : List ℕ) (p : Option (Bor (List ℕ) × Bor (List ℕ))) (l f : Bor (List ℕ)) (r : Option EventLine) →
    text ≡ line → IsSplitOnceResult 32 text p → p ≡ Some (l, f) → l.now ≡ letter_of k ∷ [] → Reads (Of k) fields_of f.now r → Reads InRange text_of line r × Only line r
read_line k line text p l f r same h e is got =
    let all = line_reads k line l.now f.now r (cut_line line text p l f same h e) is got in
    (all, only line r all)

-- a line that is kept in an array, byte by byte

-- a front that stops at the array's end
pub front : (n k m : ℕ) (xs : List ℕ) → length xs ≡ k → m ≡ min n k → take (m - 0) (drop 0 xs) ≡ take n xs
front n k m xs l e =
    ⊎_elim (λ h. let s : m - 0 ≡ n = omega arith in rw s refl)
    (λ h. let s : m - 0 ≡ k = omega arith in rw s (take_all k xs (omega arith) ∙ sym (take_all n xs (omega arith))))
    (cases_lt n k)

-- a byte that finds room
pub pushed : (bs : List ℕ) (n b : ℕ) (o : Bool) → length bs ≡ 130 → n < 130 → cond o None (Some (take (n + 1) (set bs n b))) ≡ with_byte (cond o None (Some (take n bs))) b
pushed bs n b true l h = refl
pushed bs n b false l h =
    rw (lt-ltb (length (take n bs)) 130 (omega (arith, length-take n bs))) (ap (λ (xs : List ℕ). Some xs) (take_more_set bs n b (omega arith)))

-- a byte that finds none
pub refused : (bs : List ℕ) (n b : ℕ) (o : Bool) → length bs ≡ 130 → 130 ≤ n → None ≡ with_byte (cond o None (Some (take n bs))) b
refused bs n b true l h = refl
refused bs n b false l h = rw (le-ltb (length (take n bs)) 130 (omega (arith, length-take n bs))) refl

-- a call that appends all of the bytes, or none where they do not fit

pub turned_down : {E : Type 0} (bs more : List ℕ) (r : Result (Unit {0}) E) → length bs ≤ 130 → IsOk r ↔ (length bs + length more ≤ 130) → is_err r ≡ true → None ≡ onto (Some bs) more
turned_down bs more (Ok u) h fit e = absurd (false≢true e)
turned_down bs more (Err d) h fit e =
    let no : length bs + length more ≤ 130 → ⊥ = λ l. false≢true (fit.1 l) in
    sym (overflows bs more h (omega arith))

pub taken : {E : Type 0} (bs more after : List ℕ) (r : Result (Unit {0}) E) → IsOk r ↔ (length bs + length more ≤ 130) → is_err r ≡ false → OnOk r (after ≡ bs ++ more) →
    Some after ≡ onto (Some bs) more
taken bs more after (Ok u) fit e ok = ap (λ (l : List ℕ). Some l) ok ∙ sym (fits bs more (fit.0 refl))
taken bs more after (Err d) fit e ok = absurd (false≢true (sym e))
