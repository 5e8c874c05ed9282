use Rattle.std.proofs.Common.{◌≡◌, ℕ, suc, ◌+◌, ◌-◌, subst, arith}
use Rattle.head.specs.State.{state_of}
use Rattle.interlock.specs.Events.{event_of}
use Rattle.headrun.specs.Lines.{Brought}
use Rattle.headrun.proofs.Times.{once_more}
use Rattle.headrun.proofs.drive.bring_times.Goals as goal

pub loop-n-preserved : goal.loop-n-preserved
loop-n-preserved g c =
    let m = g.B.Board.means in
    let count : suc (c.loop-n._n - 1) ≡ c.loop-n._n + 1 - 1 = omega arith in
    let all = once_more (c.loop-n._n - 1) _ _ _ _ _ _ _ _ c.loop-n.invariant c.bring_one.ensures in
    let more = subst (λ (n : ℕ). Brought n (event_of c.args.event) (state_of m c.args.head.now) (state_of m c.bring_one.new.head) c.args.records.now c.bring_one.new.records c.bring_one.result) count all in
    (more.ends, more.written)

pub returns : goal.returns
returns g c =
    let m = g.B.Board.means in
    let count : suc (c.loop-n._n - 1) ≡ c.args.times = omega arith in
    let all = once_more (c.loop-n._n - 1) _ _ _ _ _ _ _ _ c.loop-n.invariant c.bring_one-2.ensures in
    subst (λ (n : ℕ). Brought n (event_of c.args.event) (state_of m c.args.head.now) (state_of m c.bring_one-2.new.head) c.args.records.now c.bring_one-2.new.records c.bring_one-2.result) count all
