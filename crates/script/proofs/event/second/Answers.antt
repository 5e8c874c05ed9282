use Rattle.std.proofs.Common.{sym, arith}
use Rattle.script.proofs.Brought.{mark_parts}
use Rattle.script.proofs.event.second.Goals as goal

pub returns-in_err-first : goal.returns-in_err-first
returns-in_err-first c = rw c.from_residual.ensures (λ x h e.
    let got = mark_parts c.args.fields.now c.split_once.result c.split_once.ensures.cases x h e in
    simp c.in_err-first.was at got)

pub returns-in_err-raw : goal.returns-in_err-raw
returns-in_err-raw c = rw c.from_residual-in_err-raw.ensures (λ x h e.
    let got = mark_parts c.args.fields.now c.split_once.result c.split_once.ensures.cases x h e in
    let at = simp c.in_ok-first.was at got in
    c.in_err-raw.ensures at.0.raw (omega (arith, at.1.raw)) (sym at.2))

pub returns-in_err-temperatures : goal.returns-in_err-temperatures
returns-in_err-temperatures c = rw c.from_residual-in_err-temperatures.ensures (λ x h e.
    let got = mark_parts c.args.fields.now c.split_once.result c.split_once.ensures.cases x h e in
    let at = simp c.in_ok-first.was at got in
    c.in_err-temperatures.ensures at.0.temperatures (at.1.sensors, at.1.small) (sym at.3))
