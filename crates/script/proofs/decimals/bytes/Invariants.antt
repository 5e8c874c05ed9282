use Rattle.std.proofs.Common.{◌≡◌, map, decimal}
use Rattle.script.specs.Numbers.{Bytes}
use Rattle.script.proofs.decimals.bytes.Given as goal

abbrev pub invariant-loop-field : goal.invariant-loop-field
invariant-loop-field g l = (map decimal l.values.items ≡ map (λ x. x.now) l.yielded) × Bytes l.values.items
