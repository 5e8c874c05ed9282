-- Sums of bits.
use Rattle.std.proofs.Common.{◌≡◌, ℕ, zero, suc, ◌^◌, ◌<◌, ◌≤◌, Bool, true, false, List, [], ◌∷◌, map, reverse, length, arith, Bor}
use native.Mathlib.Nat.{pow-succ'}
use Rattle.std.proofs.lemmas.List.{length-map, length-reverse}
use mir.Val.{bool_byte}
use Rattle.script.specs.Outcomes.{sum_of_bits}

pub bit_le : (b : Bool) → bool_byte b ≤ 1
bit_le true = omega arith
bit_le false = omega arith

pub sum_lt : (bs : List Bool) (k : ℕ) → length bs ≤ k → sum_of_bits bs < 2 ^ k
sum_lt [] zero h = omega arith
sum_lt [] (suc k) h = omega (arith, pow-succ' 2 k, sum_lt [] k (omega arith))
sum_lt (b ∷ bs) zero h = let z : ⊥ = omega arith in absurd z
sum_lt (b ∷ bs) (suc k) h = omega (arith, pow-succ' 2 k, sum_lt bs k (omega arith), bit_le b)

-- while not all are read, there is room for one more
pub room : (on : List Bool) (so_far : List (Bor Bool)) (sum : ℕ) → length on ≤ 8 → length so_far < length (reverse on) → sum ≡ sum_of_bits (reverse (map (λ b. b.now) so_far)) → sum < 2 ^ 7
room on so_far sum h l e =
    let few : length (reverse (map (λ b. b.now) so_far)) ≤ 7 = simp (length-reverse, length-map) (omega (arith, length-reverse on)) in
    omega (arith, sum_lt (reverse (map (λ b. b.now) so_far)) 7 few)
