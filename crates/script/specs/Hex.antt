-- Octets in capital hexadecimal.
use Rattle.std.specs.Prelude.{◌≡◌, ℕ, ◌+◌, ◌-◌, ◌/◌, ◌%◌, ◌<◌, ◌≤◌, cond, List, [], ◌∷◌, length, take, drop, replicate, nat_lt}
use Rattle.std.specs.List.{flat_map}
use Rattle.script.specs.Numbers.{Bytes}
use Rattle.script.specs.declared.hexadecimal.Octets.{Octets}

-- the capital digit of a number below 16
abbrev pub hex_digit : ℕ → ℕ
hex_digit d = cond (nat_lt d 10) (48 + d) (55 + d)

-- the two digits of an octet
abbrev pub octet_text : ℕ → List ℕ
octet_text b = hex_digit (b / 16) ∷ hex_digit (b % 16) ∷ []

-- the digits of octets, without gaps
abbrev pub hex : List ℕ → List ℕ
hex bs = flat_map octet_text bs

-- the octets that are held
abbrev pub octets_in : Octets → List ℕ
octets_in o = take o.count o.bytes

-- 64 places of a byte each, zero after the octets that are held
pub record Sound (o : Octets) : Type 0 where
  pub room : length o.bytes ≡ 64
  pub few : o.count ≤ 64
  pub small : Bytes o.bytes
  pub rest : drop o.count o.bytes ≡ replicate (64 - o.count) 0

-- the same, with at least one octet
abbrev pub Filling : Octets → Type 0
Filling o = Sound o × (0 < o.count)
