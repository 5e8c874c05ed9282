use Rattle.std.proofs.Common.{◌≡◌, false}
use Rattle.head.specs.Checks.{sensor_out, some_below}
use Rattle.head.proofs.checks.any_warm.Given as goal

-- none of the sensors so far is too warm
abbrev pub invariant-loop-i : goal.invariant-loop-i
invariant-loop-i l = some_below (sensor_out l.parameters l.temperature-items) l.i ≡ false
