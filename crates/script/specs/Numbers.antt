-- Decimal numbers, with one space between two.
use Rattle.std.specs.Prelude.{◌≡◌, ℕ, ◌≤◌, Bool, not, ◌&&◌, ◌||◌, List, map, length, decimal, ◌==◌, slice_index}
use Rattle.std.specs.List.{AllByRecursion, join_with_byte}

-- not empty, no sign, no leading zero
abbrev pub plain : List ℕ → Bool
plain bs = (not (length bs == 0) && not (slice_index bs 0 == 43)) && (not (slice_index bs 0 == 48) || length bs == 1)

-- the decimals of numbers, with one space between two
abbrev pub spaced : List ℕ → List ℕ
spaced ns = join_with_byte 32 (map decimal ns)

-- each is a byte: 0 to 255
abbrev pub Bytes : List ℕ → Type 0
Bytes ns = AllByRecursion (λ n. n ≤ 255) ns

-- so many bytes
abbrev pub SoManyBytes : ℕ → List ℕ → Type 0
SoManyBytes n ns = (length ns ≡ n) × Bytes ns
