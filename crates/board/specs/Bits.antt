-- The bits of a number, lowest first, and a field of bits put into one.
use Rattle.std.specs.Prelude.{ℕ, zero, suc, ◌+◌, ◌*◌, ◌/◌, ◌%◌, ◌^◌, Bool, List, [], ◌∷◌, ◌==◌}

-- bit i
abbrev pub bit : ℕ → ℕ → Bool
bit w i = w / 2 ^ i % 2 == 1

-- the lowest n bits
unfoldable pub bits : ℕ → ℕ → List Bool
bits zero w = []
bits (suc n) w = (w % 2 == 1) ∷ bits n (w / 2)

-- the j bits from bit k on
abbrev pub field_at : ℕ → ℕ → ℕ → ℕ
field_at w j k = w / 2 ^ k % 2 ^ j

-- w with v in place of the j bits from bit k on
unfoldable pub put : ℕ → ℕ → ℕ → ℕ → ℕ
put w j k v = (w / 2 ^ (j + k) * 2 ^ j + v) * 2 ^ k + w % 2 ^ k
