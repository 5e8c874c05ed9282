use Rattle.std.proofs.Common.{refl}
use Rattle.script.proofs.Brought.{ticks_of}
use Rattle.script.proofs.event.ticks.Goals as goal

pub returns : goal.returns
returns c =
    let got = c.in_ok-ticks.ensures in
    rw c.then_some.ensures (ticks_of c.in_ok-ticks.ticks c.args.fields.now _ got.0 got.1 refl)
