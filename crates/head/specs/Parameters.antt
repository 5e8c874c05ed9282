-- The 25 parameters, by index: the lowest and the highest value allowed, and the default.
use Rattle.std.specs.Prelude.{ℕ, Bool, cond, ◌&&◌, List, [], ◌∷◌, map, nat_le, slice_index, slice_index_or}
use Rattle.std.specs.List.{range_with_len}
use Rattle.head.specs.declared.parameters.Range.{Range}

abbrev pub table : List (ℕ × ℕ × ℕ)
table =
    (0, 255, 40) ∷ (1, 255, 200) ∷ (0, 255, 10) ∷ (0, 255, 150) ∷ (0, 255, 50) ∷
    (0, 255, 180) ∷ (0, 255, 16) ∷ (1, 255, 5) ∷ (1, 255, 5) ∷ (1, 255, 5) ∷
    (0, 255, 100) ∷ (0, 255, 200) ∷ (0, 255, 200) ∷ (0, 255, 200) ∷ (0, 255, 200) ∷
    (0, 255, 200) ∷ (0, 255, 200) ∷ (0, 255, 200) ∷ (0, 255, 200) ∷ (0, 255, 0) ∷
    (0, 31, 0) ∷ (0, 1, 0) ∷ (0, 255, 60) ∷ (1, 255, 90) ∷ (0, 1, 1) ∷ []

abbrev pub row : ℕ × ℕ × ℕ → Range
row t = record { lowest = t.0; highest = t.1; default = t.2 }

-- the range of parameter i
abbrev pub range_at : ℕ → Range
range_at i = row (slice_index_or table i (0, 0, 0))

abbrev pub within : Range → ℕ → Bool
within r v = nat_le r.lowest v && nat_le v r.highest

-- the value v may stand at the index i
abbrev pub allowed : ℕ → ℕ → Bool
allowed i v = within (range_at i) v

-- what stands at i after power-on, where v was stored
abbrev pub restored : ℕ → ℕ → ℕ
restored i v = cond (allowed i v) v (range_at i).default

-- each stored parameter, or its default where it is outside its range
abbrev pub restored_all : List ℕ → List ℕ
restored_all stored = map (λ i. restored i (slice_index stored i)) (range_with_len 0 25)

-- every parameter at its default
abbrev pub usuals : List ℕ
usuals = map (λ i. (range_at i).default) (range_with_len 0 25)
