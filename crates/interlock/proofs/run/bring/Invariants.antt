use Rattle.head.specs.State.{state_of}
use Rattle.interlock.specs.Runs.{Ran}
use Rattle.interlock.proofs.run.bring.Given as goal

abbrev pub invariant-loop-step : goal.invariant-loop-step
invariant-loop-step g l =
    let m = g.B.Board.means in
    Ran l.step-index l.initial.steps l.steps (state_of m l.initial.head) (state_of m l.head) l.initial.records l.records
