use Rattle.std.proofs.Common.{◌≡◌, ◌-◌}
use Rattle.head.specs.State.{state_of}
use Rattle.interlock.specs.Events.{event_of}
use Rattle.headrun.specs.Lines.{after_times, records_times}
use Rattle.headrun.proofs.drive.bring_times.Given as goal

-- one event less than the number of the next has come
abbrev pub invariant-loop-n : goal.invariant-loop-n
invariant-loop-n g l =
    let m = g.B.Board.means in
    let s = state_of m l.initial.head in
    let e = event_of l.event in
    (state_of m l.head ≡ after_times (l._n - 1) e s)
    × (l.records ≡ records_times (l._n - 1) e s l.initial.records)
