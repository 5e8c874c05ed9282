use Rattle.std.proofs.Common.{arith}
use Rattle.std.proofs.lemmas.Iterator.Adapters.{YieldsList-from_rev_slice}
use Rattle.std.proofs.lemmas.Iterator.Consumers.{YieldsList-turn}
use Rattle.script.proofs.Sums.{bit_le, room}
use Rattle.script.proofs.outcome.sum_of_bits.Goals as goal

pub overflow_mul-sum : goal.overflow_mul-sum
overflow_mul-sum c =
    let turn = YieldsList-turn (YieldsList-from_rev_slice c.args.on.now (cc)) c.loop-bit.yielded _ c.loop-bit.yielded_by _ _ c.in-Some.bit c.in-Some.is c.next.ensures.steps in
    omega (arith, room c.args.on.now c.loop-bit.yielded c.loop-bit.sum c.requires turn.0 c.loop-bit.invariant)

pub overflow_add-sum : goal.overflow_add-sum
overflow_add-sum c =
    let turn = YieldsList-turn (YieldsList-from_rev_slice c.args.on.now (cc)) c.loop-bit.yielded _ c.loop-bit.yielded_by _ _ c.in-Some.bit c.in-Some.is c.next.ensures.steps in
    omega (arith, room c.args.on.now c.loop-bit.yielded c.loop-bit.sum c.requires turn.0 c.loop-bit.invariant, c.from.ensures, bit_le c.in-Some.bit.now)
