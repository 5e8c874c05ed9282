use Rattle.std.proofs.Common.{◌≡◌, ℕ, length, sym, refl, subst, arith}
use Rattle.head.specs.State.{state_of}
use Rattle.interlock.specs.Runs.{Ran}
use Rattle.interlock.proofs.Runs.{ran_more, run_stands, run_rates, run_log}
use Rattle.interlock.proofs.run.bring.Goals as goal

pub loop-step-preserved : goal.loop-step-preserved
loop-step-preserved g c =
    let one = c.bring_one-step.ensures in
    ran_more c.loop-step.step-index c.args.steps.now c.loop-step.steps c.bring_one-step.result (omega arith) _ _ _ _ _ _ _ refl one.shown one.became one.written c.loop-step.invariant

pub returns : goal.returns
returns g c =
    let m = g.B.Board.means in
    let end : c.loop-step.step-index ≡ length c.args.steps.now = omega arith in
    let all = subst (λ (n : ℕ). Ran n c.args.steps.now c.loop-step.steps (state_of m c.args.head.now) (state_of m c.loop-step.head) c.args.records.now c.loop-step.records) end c.loop-step.invariant in
    record { ran = all; promised = λ h led. run_stands _ _ _ _ _ _ _ all h led (sym all.as_many); logged = λ h led held. run_log _ _ _ _ _ _ _ all h led (sym all.as_many) held; rates = λ h led held. run_rates _ _ _ _ _ _ _ all h led (sym all.as_many) held }
