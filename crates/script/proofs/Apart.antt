-- Values with one text are one value.
use Rattle.std.proofs.Common.{◌≡◌, ℕ, ◌-◌, ◌/◌, ◌%◌, ◌<◌, ◌≤◌, List, [], ◌∷◌, ◌++◌, map, eqb, length, get_or, take, drop, replicate, Some, None, IsUtf8, decimal, Option, Result, MatchResult, sym, refl, ap, ◌∙◌, arith, length-append, Bor}
use Rattle.std.specs.List.{slice_split}
use Rattle.std.specs.Result.{result_ok}
use Rattle.std.proofs.lemmas.Result.{MatchResult-at_ok}
use Rattle.std.proofs.lemmas.Fmt.{decimal_injective}
use Rattle.std.proofs.lemmas.List.{take_at, drop_at}
use Rattle.std.proofs.lemmas.Str.Pattern.{IsSplitOnceResult}
use Rattle.std.proofs.lemmas.Bool.Decides.{nat_tests}
use Rattle.head.specs.declared.checks.Mark.{Mark}
use Rattle.head.specs.declared.checks.Sample.{Sample}
use Rattle.script.specs.Events.{letter_of, frame_field, fields_of, text_of, sample_bytes, SixBytes, MarkFits, InRange, Of, Only}
use Rattle.script.specs.Hex.{hex_digit, hex, octets_in, Sound}
use Rattle.script.specs.Numbers.{spaced, Bytes}
use Rattle.script.specs.Reading.{Reads}
use Rattle.script.specs.declared.event.EventLine.{EventLine}
use Rattle.script.specs.declared.event.EventLine.TheVariants.{Frame, Ticks, Sample as Sampled, Second}
use Rattle.script.specs.declared.hexadecimal.Octets.{Octets}
use Rattle.script.specs.declared.outcome.Kind.{Kind}
use Rattle.script.proofs.Brought.{cut_line, line_reads}
use Rattle.script.proofs.Digits.{places, held, small_in}
use Rattle.script.proofs.Numerals.{ok_of}
use Rattle.script.proofs.Fields.{Small, wider, cut_at_spaces}

decimals_apart : (ms ns : List ℕ) → Small ms → Small ns → map decimal ms ≡ map decimal ns → ms ≡ ns
decimals_apart [] [] p q e = refl
decimals_apart [] (n ∷ ns) p q e = cc
decimals_apart (m ∷ ms) [] p q e = cc
decimals_apart (m ∷ ms) (n ∷ ns) p q e =
    ap (λ k. k ∷ ms) (decimal_injective m n p.0 q.0 (cc)) ∙ ap (λ (l : List ℕ). n ∷ l) (decimals_apart ms ns p.1 q.1 (cc))

spaced_apart : (ms ns : List ℕ) → Small ms → Small ns → length ms ≡ length ns → spaced ms ≡ spaced ns → ms ≡ ns
spaced_apart [] [] p q l e = refl
spaced_apart [] (n ∷ ns) p q l e = let z : ⊥ = omega arith in absurd z
spaced_apart (m ∷ ms) ns p q l e =
    decimals_apart (m ∷ ms) ns p q (sym (cut_at_spaces (m ∷ ms) (omega arith) p) ∙ ap (slice_split (λ b. eqb b 32)) e ∙ cut_at_spaces ns (omega arith) q)

digit_apart : (c d : ℕ) → c < 16 → d < 16 → hex_digit c ≡ hex_digit d → c ≡ d
digit_apart c d h k e = grind (arith, nat_tests)

octet_apart : (a b : ℕ) → a ≤ 255 → b ≤ 255 → hex_digit (a / 16) ≡ hex_digit (b / 16) → hex_digit (a % 16) ≡ hex_digit (b % 16) → a ≡ b
octet_apart a b h k e f =
    let high = digit_apart (a / 16) (b / 16) (omega arith) (omega arith) e in
    let low = digit_apart (a % 16) (b % 16) (omega arith) (omega arith) f in
    omega arith

hex_apart : (cs bs : List ℕ) → Bytes cs → Bytes bs → hex cs ≡ hex bs → cs ≡ bs
hex_apart [] [] p q e = refl
hex_apart [] (b ∷ bs) p q e = let z : ⊥ = omega (arith, ap length e) in absurd z
hex_apart (a ∷ cs) [] p q e = let z : ⊥ = omega (arith, ap length e) in absurd z
hex_apart (a ∷ cs) (b ∷ bs) p q e =
    let same = octet_apart a b p.0 q.0 (ap (λ (l : List ℕ). get_or l 0 0) e) (ap (λ (l : List ℕ). get_or l 1 0) e) in
    ap (λ n. n ∷ cs) same ∙ ap (λ (l : List ℕ). b ∷ l) (hex_apart cs bs p.1 q.1 (ap (λ (l : List ℕ). drop 2 l) e))

frame_apart : (cs bs : List ℕ) → Bytes cs → Bytes bs → frame_field cs ≡ frame_field bs → cs ≡ bs
frame_apart [] [] p q e = refl
frame_apart [] (b ∷ bs) p q e = let z : ⊥ = omega (arith, ap length e) in absurd z
frame_apart (a ∷ cs) [] p q e = let z : ⊥ = omega (arith, ap length e) in absurd z
frame_apart (a ∷ cs) (b ∷ bs) p q e = hex_apart (a ∷ cs) (b ∷ bs) p q e

octets_apart : (o p : Octets) → Sound o → Sound p → octets_in o ≡ octets_in p → o ≡ p
octets_apart o p h k e =
    let n : o.count ≡ p.count = omega (arith, held o h, held p k, ap length e) in
    let b : o.bytes ≡ p.bytes = places o h ∙ ap (λ (l : List ℕ). l ++ replicate (64 - o.count) 0) e ∙ ap (λ m. octets_in p ++ replicate (64 - m) 0) n ∙ sym (places p k) in
    let made : List ℕ → ℕ → Octets = λ bytes count. record { bytes = bytes; count = count } in
    ap (λ (l : List ℕ). made l o.count) b ∙ ap (λ m. made p.bytes m) n

-- two lists in a row, cut where the first has its end
halves : (a b c d : List ℕ) (n : ℕ) → length a ≡ n → length c ≡ n → a ++ b ≡ c ++ d → (a ≡ c) × (b ≡ d)
halves a b c d n l m e =
    (sym (take_at a b n l) ∙ ap (λ (k : List ℕ). take n k) e ∙ take_at c d n m, sym (drop_at a b n l) ∙ ap (λ (k : List ℕ). drop n k) e ∙ drop_at c d n m)

six : (s : Sample) → SixBytes s → length (sample_bytes s) ≡ 6
six s h = omega (arith, length-append s.plate (s.strip ++ s.anode), length-append s.strip s.anode, h.plates, h.strips, h.anodes)

sample_apart : (s t : Sample) → SixBytes s → SixBytes t → spaced (sample_bytes s) ≡ spaced (sample_bytes t) → s ≡ t
sample_apart s t h k e =
    let all = spaced_apart (sample_bytes s) (sample_bytes t) (wider (sample_bytes s) h.small) (wider (sample_bytes t) k.small) (six s h ∙ sym (six t k)) e in
    let first = halves s.plate (s.strip ++ s.anode) t.plate (t.strip ++ t.anode) 2 h.plates k.plates all in
    let second' = halves s.strip s.anode t.strip t.anode 2 h.strips k.strips first.1 in
    let made : List ℕ → List ℕ → List ℕ → Sample = λ p q r. record { plate = p; strip = q; anode = r } in
    ap (λ (l : List ℕ). made l s.strip s.anode) first.0
    ∙ ap (λ (l : List ℕ). made t.plate l s.anode) second'.0
    ∙ ap (λ (l : List ℕ). made t.plate t.strip l) second'.1

mark_apart : (m n : Mark) → MarkFits m → MarkFits n → spaced (m.raw ∷ m.temperatures) ≡ spaced (n.raw ∷ n.temperatures) → m ≡ n
mark_apart m n h k e =
    let all = spaced_apart (m.raw ∷ m.temperatures) (n.raw ∷ n.temperatures) (omega (arith, h.raw), wider m.temperatures h.small) (omega (arith, k.raw), wider n.temperatures k.small)
    (omega (arith, h.sensors, k.sensors)) e in
    let made : ℕ → List ℕ → Mark = λ r t. record { raw = r; temperatures = t } in
    ap (λ r. made r m.temperatures) (ap (λ (l : List ℕ). get_or l 0 0) all) ∙ ap (λ (l : List ℕ). made n.raw l) (ap (λ (l : List ℕ). drop 1 l) all)

fields : (x y : EventLine) → text_of x ≡ text_of y → fields_of x ≡ fields_of y
fields x y e = ap (λ (l : List ℕ). drop 2 l) e

pub told_apart : (x y : EventLine) → InRange x → InRange y → text_of x ≡ text_of y → x ≡ y
told_apart (Frame o) (Frame p) h k e =
    ap (λ (z : Octets). Frame z) (octets_apart o p h k (frame_apart (octets_in o) (octets_in p) (small_in o h) (small_in p k) (fields (Frame o) (Frame p) e)))
told_apart (Frame o) (Ticks n) h k e = let z : ⊥ = omega (arith, ap (λ (l : List ℕ). get_or l 0 0) e) in absurd z
told_apart (Frame o) (Sampled t) h k e = let z : ⊥ = omega (arith, ap (λ (l : List ℕ). get_or l 0 0) e) in absurd z
told_apart (Frame o) (Second n) h k e = let z : ⊥ = omega (arith, ap (λ (l : List ℕ). get_or l 0 0) e) in absurd z
told_apart (Ticks m) (Frame p) h k e = let z : ⊥ = omega (arith, ap (λ (l : List ℕ). get_or l 0 0) e) in absurd z
told_apart (Ticks m) (Ticks n) h k e = ap (λ z. Ticks z) (decimal_injective m n (omega (arith, h.1)) (omega (arith, k.1)) (fields (Ticks m) (Ticks n) e))
told_apart (Ticks m) (Sampled t) h k e = let z : ⊥ = omega (arith, ap (λ (l : List ℕ). get_or l 0 0) e) in absurd z
told_apart (Ticks m) (Second n) h k e = let z : ⊥ = omega (arith, ap (λ (l : List ℕ). get_or l 0 0) e) in absurd z
told_apart (Sampled s) (Frame p) h k e = let z : ⊥ = omega (arith, ap (λ (l : List ℕ). get_or l 0 0) e) in absurd z
told_apart (Sampled s) (Ticks n) h k e = let z : ⊥ = omega (arith, ap (λ (l : List ℕ). get_or l 0 0) e) in absurd z
told_apart (Sampled s) (Sampled t) h k e = ap (λ (z : Sample). Sampled z) (sample_apart s t h k (fields (Sampled s) (Sampled t) e))
told_apart (Sampled s) (Second n) h k e = let z : ⊥ = omega (arith, ap (λ (l : List ℕ). get_or l 0 0) e) in absurd z
told_apart (Second m) (Frame p) h k e = let z : ⊥ = omega (arith, ap (λ (l : List ℕ). get_or l 0 0) e) in absurd z
told_apart (Second m) (Ticks n) h k e = let z : ⊥ = omega (arith, ap (λ (l : List ℕ). get_or l 0 0) e) in absurd z
told_apart (Second m) (Sampled t) h k e = let z : ⊥ = omega (arith, ap (λ (l : List ℕ). get_or l 0 0) e) in absurd z
told_apart (Second m) (Second n) h k e = ap (λ (z : Mark). Second z) (mark_apart m n h k (fields (Second m) (Second n) e))

pub only : (text : List ℕ) (r : Option EventLine) → Reads InRange text_of text r → Only text r
only text None h = tt
only text (Some x) h = λ y k e. told_apart y x k h.0 (e ∙ sym h.1)

-- a line that is text, by its first space, its letter and its fields
pub read_parts : {E : Type 0} (Q : E → Type 0) (k : Kind) (line : List ℕ) (u : Result (Bor (List ℕ)) E) (t : Bor (List ℕ)) (p : Option (Bor (List ℕ) × Bor (List ℕ))) (l f : Bor (List ℕ)) (r : Option EventLine) →
    MatchResult u (λ s. (s.now ≡ line) × IsUtf8 line) Q → result_ok u ≡ Some t → IsSplitOnceResult 32 t.now p → p ≡ Some (l, f) → l.now ≡ letter_of k ∷ [] → Reads (Of k) fields_of f.now r →
    Reads InRange text_of line r × Only line r
read_parts Q k line u t p l f r text ok h e is got =
    let same = MatchResult-at_ok _ _ t (ok_of u t ok) text in
    let all = line_reads k line l.now f.now r (cut_line line t.now p l f same.0 h e) is got in
    (all, only line r all)
