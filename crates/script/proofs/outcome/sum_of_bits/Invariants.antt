use Rattle.std.proofs.Common.{◌≡◌, map, reverse}
use Rattle.script.specs.Outcomes.{sum_of_bits}
use Rattle.script.proofs.outcome.sum_of_bits.Given as goal

abbrev pub invariant-loop-bit : goal.invariant-loop-bit
invariant-loop-bit l = l.sum ≡ sum_of_bits (reverse (map (λ b. b.now) l.yielded))
