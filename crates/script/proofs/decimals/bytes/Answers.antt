use Rattle.std.proofs.Common.{length, sym, ap, ◌∙◌, arith, lit<}
use Rattle.std.proofs.lemmas.Iterator.Consumers.{YieldsList-turn, YieldsList-end}
use Rattle.std.proofs.lemmas.Iterator.Splits.{YieldsList-from_str_split}
use Rattle.std.proofs.lemmas.List.{length-map}
use Rattle.std.proofs.lemmas.Result.{MatchResult-at_err}
use Rattle.script.proofs.Numerals.{err_of}
use Rattle.script.proofs.Fields.{spaced_long, as_many, each, filled}
use Rattle.script.proofs.decimals.bytes.Goals as goal

pub returns-then-text : goal.returns-then-text
returns-then-text g c ns h e = omega (arith, spaced_long ns h.1, h.0, ap length e, c.if-text.true)

pub returns-in_err-number : goal.returns-in_err-number
returns-in_err-number g c =
    let road = YieldsList-from_str_split 32 c.args.text.now (lit< tt) (cc) (cc) (cc) in
    let turn = YieldsList-turn road c.loop-field.yielded _ c.loop-field.yielded_by _ _ c.in-Some.field c.in-Some.is c.next.ensures.steps in
    rw c.from_residual.ensures (λ ns h e.
    let m = each c.args.text.now g.row.N c.requires.some ns h e _ c.in-Some.field.now turn.0 turn.1 in
    c.in_err-number.ensures m.0 m.1 m.2)

pub returns-in_err-ok : goal.returns-in_err-ok
returns-in_err-ok g c =
    let road = YieldsList-from_str_split 32 c.args.text.now (lit< tt) (cc) (cc) (cc) in
    let turn = YieldsList-turn road c.loop-field.yielded _ c.loop-field.yielded_by _ _ c.in-Some.field c.in-Some.is c.next.ensures.steps in
    let err = err_of c.try_push.result (sym c.ok.ensures.value ∙ c.in_err-ok.was) in
    let full = MatchResult-at_err _ _ err.0 err.1 c.try_push.ensures.full in
    let same = ap length c.loop-field.invariant.0 in
    rw c.from_residual-in_err-ok.ensures (λ ns h e.
    omega (arith, turn.0, full, simp length-map at same, as_many c.args.text.now g.row.N c.requires.some ns h e))

pub returns : goal.returns
returns g c =
    let road = YieldsList-from_str_split 32 c.args.text.now (lit< tt) (cc) (cc) (cc) in
    let done = YieldsList-end road c.loop-field.yielded _ c.loop-field.yielded_by _ _ c.in-None.is c.next.ensures.steps in
    rw c.ok-2.ensures.value (filled c.args.text.now g.row.N c.requires.some c.loop-field.values.items c.into_inner.result
    (c.loop-field.invariant.0 ∙ done.0) c.loop-field.invariant.1 c.into_inner.ensures.variant c.into_inner.ensures.ok)
