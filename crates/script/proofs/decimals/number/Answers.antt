use Rattle.std.proofs.Common.{sym, refl, ap, ◌∙◌, arith}
use Rattle.std.proofs.lemmas.Bool.{both_ways}
use Rattle.script.specs.Numbers.{plain}
use Rattle.script.proofs.Numerals.{decimal_plain, read_below, reads_some, read_up_to}
use Rattle.script.proofs.decimals.number.Goals as goal

pub returns-then-not-is_plain : goal.returns-then-not-is_plain
returns-then-not-is_plain c n h e =
    both_ways (plain c.args.text.now) (ap plain (sym c.as_bytes.ensures.value) ∙ sym c.if-not-is_plain.ensures)
    (ap plain (sym e) ∙ decimal_plain n (omega arith))

pub returns-in_err-n : goal.returns-in_err-n
returns-in_err-n c = rw c.from_residual.ensures (λ n h e.
    let back = reads_some c.args.text.now c.parse.result c.parse.ensures.value.0 n (omega arith) e in
    cc (back, c.in_err-n.was, c.ok.ensures.value))

pub returns : goal.returns
returns c =
    let got = read_below c.args.text.now c.parse.result c.parse.ensures.value.0
    (ap plain (sym c.as_bytes.ensures.value) ∙ sym c.if-not-is_plain.ensures) c.in_ok-n.n (sym c.ok.ensures.value ∙ c.in_ok-n.was) in
    rw c.then_some.ensures (read_up_to c.args.text.now c.in_ok-n.n c.args.most _ got.1 got.0 (omega arith) refl)
