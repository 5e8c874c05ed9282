-- What an event line brings, from its fields.
use Rattle.std.proofs.Common.{◌≡◌, ℕ, ◌/◌, ◌%◌, ◌<◌, ◌≤◌, Bool, true, false, not, eqb, List, [], ◌∷◌, ◌++◌, length, Some, None, IsAscii, decimal, Option, sym, refl, ap, ◌∙◌, arith, lit<, Bor, MatchOption}
use Rattle.std.specs.Bool.{then_some}
use Rattle.std.proofs.lemmas.Str.Ascii.{IsAscii-nil, IsAscii-cons}
use Rattle.std.proofs.lemmas.Fmt.{decimal_injective, IsAscii-decimal}
use Rattle.std.proofs.lemmas.Str.Pattern.{IsSplitOnceResult, split_parts}
use Rattle.std.proofs.lemmas.Option.{MatchOption-at_some}
use Rattle.std.proofs.lemmas.Str.{IsAscii-append}
use Rattle.std.proofs.lemmas.Bool.Decides.{nat_tests}
use Rattle.head.specs.declared.checks.Mark.{Mark}
use Rattle.script.specs.Events.{letter_of, kind_of, frame_field, fields_of, text_of, sample_bytes, MarkFits, InRange, Of}
use Rattle.script.specs.Hex.{hex_digit, hex, octets_in}
use Rattle.script.specs.Numbers.{spaced, Bytes}
use Rattle.script.specs.Reading.{Reads}
use Rattle.script.specs.declared.event.EventLine.{EventLine}
use Rattle.script.specs.declared.event.EventLine.TheVariants.{Frame, Ticks, Sample as Sampled, Second}
use Rattle.script.specs.declared.outcome.Kind.{Kind}
use Rattle.script.specs.declared.outcome.Kind.TheVariants.{PowerOn, Frame as OfFrame, Ticks as OfTicks, Sample as OfSample, Second as OfSecond}
use Rattle.script.proofs.Digits.{small_in}
use Rattle.script.proofs.Fields.{split_first, Small, wider}

-- no ticks
pub ticks_none : (m : ℕ) (text : List ℕ) → m ≡ 0 → decimal m ≡ text → (x : EventLine) → Of OfTicks x → fields_of x ≡ text → ⊥
ticks_none m text z d (Frame o) h e = omega (arith, h.1)
ticks_none m text z d (Ticks n) h e =
    let same = decimal_injective n m (omega (arith, h.0.1)) (omega arith) (e ∙ sym d) in
    omega (arith, h.0.0)
ticks_none m text z d (Sampled s) h e = omega (arith, h.1)
ticks_none m text z d (Second s) h e = omega (arith, h.1)

-- ticks of a number, unless there are none
pub ticks_of : (n : ℕ) (text : List ℕ) (some : Bool) → n ≤ 65535 → decimal n ≡ text → some ≡ not (eqb n 0) → Reads (Of OfTicks) fields_of text (then_some some (Ticks n))
ticks_of n text true h d e = (((grind (arith, nat_tests), h), refl), d)
ticks_of n text false h d e = ticks_none n text (grind (arith, nat_tests)) d

-- a mark in two parts: the raw count, and the temperatures
abbrev pub Parts : List ℕ → List ℕ → Type 0
Parts first others = (m : Mark) × MarkFits m × (first ≡ decimal m.raw) × (others ≡ spaced m.temperatures)

pub spaced_more : (n : ℕ) (ns : List ℕ) → 0 < length ns → spaced (n ∷ ns) ≡ decimal n ++ (32 ∷ spaced ns)
spaced_more n [] h = let z : ⊥ = omega arith in absurd z
spaced_more n (m ∷ ns) h = refl

parted : (m : Mark) (r : Option (Bor (List ℕ) × Bor (List ℕ))) → MarkFits m → MatchOption r ⊥ (λ x. (x.0.now ≡ decimal m.raw) × (x.1.now ≡ spaced m.temperatures)) →
    MatchOption r ⊥ (λ x. Parts x.0.now x.1.now)
parted m None f z = z
parted m (Some x) f z = (m, f, z.0, z.1)

pub mark_parts : (bs : List ℕ) (r : Option (Bor (List ℕ) × Bor (List ℕ))) → IsSplitOnceResult 32 bs r → (x : EventLine) → Of OfSecond x → fields_of x ≡ bs →
    MatchOption r ⊥ (λ p. Parts p.0.now p.1.now)
mark_parts bs r cut (Frame o) h e = let z : ⊥ = omega (arith, h.1) in absurd z
mark_parts bs r cut (Ticks n) h e = let z : ⊥ = omega (arith, h.1) in absurd z
mark_parts bs r cut (Sampled s) h e = let z : ⊥ = omega (arith, h.1) in absurd z
mark_parts bs r cut (Second m) h e =
    parted m r h.0 (split_first m.raw (spaced m.temperatures) bs r cut (omega (arith, h.0.raw)) (sym (spaced_more m.raw m.temperatures (omega (arith, h.0.sensors))) ∙ e))

-- every byte of a line is ASCII

digit_ascii : (d : ℕ) → d < 16 → hex_digit d < 128
digit_ascii d h = grind (arith, nat_tests)

hex_ascii : (bs : List ℕ) → Bytes bs → IsAscii (hex bs)
hex_ascii [] h = IsAscii-nil
hex_ascii (b ∷ bs) h =
    IsAscii-cons (hex_digit (b / 16)) (hex_digit (b % 16) ∷ hex bs) (digit_ascii (b / 16) (omega (arith, h.0)))
    (IsAscii-cons (hex_digit (b % 16)) (hex bs) (digit_ascii (b % 16) (omega arith)) (hex_ascii bs h.1))

frame_ascii : (bs : List ℕ) → Bytes bs → IsAscii (frame_field bs)
frame_ascii [] h = IsAscii-cons 45 [] (lit< tt) IsAscii-nil
frame_ascii (b ∷ bs) h = hex_ascii (b ∷ bs) h

spaced_ascii : (ns : List ℕ) → Small ns → IsAscii (spaced ns)
spaced_ascii [] h = IsAscii-nil
spaced_ascii (n ∷ []) h = IsAscii-decimal n h.0
spaced_ascii (n ∷ m ∷ ns) h =
    IsAscii-append (decimal n) (32 ∷ spaced (m ∷ ns)) (IsAscii-decimal n h.0) (IsAscii-cons 32 (spaced (m ∷ ns)) (lit< tt) (spaced_ascii (m ∷ ns) h.1))

fields_ascii : (x : EventLine) → InRange x → IsAscii (fields_of x)
fields_ascii (Frame o) h = frame_ascii (octets_in o) (small_in o h)
fields_ascii (Ticks n) h = IsAscii-decimal n (omega (arith, h.1))
fields_ascii (Sampled s) h = spaced_ascii (sample_bytes s) (wider (sample_bytes s) h.small)
fields_ascii (Second m) h = spaced_ascii (m.raw ∷ m.temperatures) (omega (arith, h.raw), wider m.temperatures h.small)

letter_ascii : (k : Kind) → letter_of k < 128
letter_ascii PowerOn = lit< tt
letter_ascii OfFrame = lit< tt
letter_ascii OfTicks = lit< tt
letter_ascii OfSample = lit< tt
letter_ascii OfSecond = lit< tt

pub text_ascii : (x : EventLine) → InRange x → IsAscii (text_of x)
text_ascii x h = IsAscii-cons (letter_of (kind_of x)) (32 ∷ fields_of x) (letter_ascii (kind_of x)) (IsAscii-cons 32 (fields_of x) (lit< tt) (fields_ascii x h))

-- a line cut at its first space
pub cut_line : (line text : List ℕ) (r : Option (Bor (List ℕ) × Bor (List ℕ))) (l f : Bor (List ℕ)) → text ≡ line → IsSplitOnceResult 32 text r → r ≡ Some (l, f) → line ≡ l.now ++ (32 ∷ f.now)
cut_line line text r l f same h e = sym same ∙ (MatchOption-at_some _ _ (l, f) e (split_parts 32 text r h (lit< tt))).0

-- a line by its letter and its fields
pub line_reads : (k : Kind) (line letter fields : List ℕ) (r : Option EventLine) → line ≡ letter ++ (32 ∷ fields) → letter ≡ letter_of k ∷ [] → Reads (Of k) fields_of fields r →
    Reads InRange text_of line r
line_reads k line letter fields None cut e h = λ x inside whole.
    let same : text_of x ≡ letter_of k ∷ 32 ∷ fields = whole ∙ cut ∙ ap (λ (l : List ℕ). l ++ (32 ∷ fields)) e in
    h x (inside, cc) (cc)
line_reads k line letter fields (Some x) cut e h =
    (h.0.0, let a = h.0.1 in let b = h.1 in sym (cut ∙ ap (λ (l : List ℕ). l ++ (32 ∷ fields)) e ∙ (cc)))
