use Rattle.std.proofs.Common.{◌≡◌, ◌-◌, length, map, take, drop, replicate}
use Rattle.script.specs.Hex.{octet_text}
use Rattle.script.specs.Numbers.{Bytes}
use Rattle.script.proofs.hexadecimal.read_octets.Given as goal

abbrev pub invariant-loop-place : goal.invariant-loop-place
invariant-loop-place l =
    (length l.bytes ≡ 64)
    × Bytes l.bytes
    × (drop l.place l.bytes ≡ replicate (64 - l.place) 0)
    × (map octet_text (take l.place l.bytes) ≡ take l.place l.pairs)
