-- Bytes at the start of 130 places, with zeros behind them.
use Rattle.std.specs.Prelude.{◌≡◌, ℕ, ◌-◌, ◌≤◌, List, [], ◌++◌, length, take, drop, replicate, Some, None, Option}
use Rattle.std.specs.Option.{option_map, unwrap_or}
use Rattle.std.proofs.Common.{sym, ap, ◌∙◌, arith}
use Rattle.std.proofs.lemmas.List.{take-append-drop, length-take}

-- the first n of 130 places, and zeros in all the others
abbrev pub Padded : List ℕ → ℕ → Type 0
Padded bytes n = (length bytes ≡ 130) × (n ≤ 130) × (drop n bytes ≡ replicate (130 - n) 0)

-- the places that have just these bytes
abbrev pub padded : List ℕ → List ℕ
padded bs = bs ++ replicate (130 - length bs) 0

-- the bytes give the places back
pub gives_back : {R : Type 0} (made : List ℕ → Option ℕ → R) (bytes : List ℕ) (count : Option ℕ) → Padded bytes (unwrap_or count 0) →
    made (padded (unwrap_or (option_map (λ n. take n bytes) count) [])) (option_map length (option_map (λ n. take n bytes) count)) ≡ made bytes count
gives_back made bytes None h = ap (λ (l : List ℕ). made l None) (sym h.2)
gives_back made bytes (Some n) h =
    let many : length (take n bytes) ≡ n = omega (arith, length-take n bytes, h.0, h.1) in
    let same : padded (take n bytes) ≡ bytes = ap (λ m. take n bytes ++ replicate (130 - m) 0) many ∙ ap (λ (l : List ℕ). take n bytes ++ l) (sym h.2) ∙ take-append-drop n bytes in
    ap (λ (l : List ℕ). made l (Some (length (take n bytes)))) same ∙ ap (λ m. made bytes (Some m)) many
