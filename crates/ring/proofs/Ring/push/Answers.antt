use Rattle.std.proofs.Common.{length, inl, inr, arith, refl}
use Rattle.std.proofs.lemmas.List.{length-set}
use Rattle.ring.proofs.Laws.{pushed, Up, On}
use Rattle.ring.proofs.Ring.push.Goals as goal
use Rattle.ring.proofs.Ring.push.Goals.{then-at-size, else-at-size, then-self-size, else-self-size}

pub returns : goal.returns
returns g c =
    let r = c.self.inside in
    let s = r.slots.now in
    let few = c.self.invariant.0 in
    let here = c.self.invariant.1 (omega arith) in
    let on : On (length s) r.next c.if-at-size.next =
    elim c.if-at-size.branch [ then-at-size w ↦ inl (w.if-at-size.true, w.next-is) | else-at-size w ↦ inr (w.if-at-size.false, w.next-is) ] in
    let up : Up (length s) r.count c.if-self-size.count =
    elim c.if-self-size.branch [ then-self-size w ↦ inl (w.if-self-size.true, w.count-is) | else-self-size w ↦ inr (w.if-self-size.false, w.count-is) ] in
    rw (← c.self.view_is, length-set s r.next c.args.newest, pushed s r.next c.if-at-size.next r.count c.if-self-size.count c.args.newest here few on up) refl
