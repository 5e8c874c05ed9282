use Rattle.std.proofs.Common.{◌≡◌, get_or}
use Rattle.head.specs.Logs.{restored_log}
use Rattle.head.specs.Parameters.{restored}
use Rattle.head.proofs.Halfway.{Halfway}
use Rattle.head.proofs.power.restore_all.Given as goal

abbrev pub invariant-loop-i : goal.invariant-loop-i
invariant-loop-i l =
    Halfway 0 (λ k. restored k (get_or l.fn.stored k 0)) (λ k. get_or l.fn.stored k 0) 25 l.value-items l.i
    × (l.log ≡ restored_log l.i l.fn.stored l.initial.log)
