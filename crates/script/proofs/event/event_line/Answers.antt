use Rattle.std.proofs.Common.{IsUtf8, sym, ◌∙◌, subst}
use Rattle.std.proofs.lemmas.Str.{IsUtf8-from_ascii}
use Rattle.std.proofs.lemmas.Result.{MatchResult-at_err}
use Rattle.script.specs.Events.{text_of}
use Rattle.script.specs.declared.outcome.Kind.TheVariants.{Frame as OfFrame, Ticks as OfTicks, Sample as OfSample, Second as OfSecond}
use Rattle.script.proofs.Apart.{read_parts}
use Rattle.script.proofs.Brought.{text_ascii}
use Rattle.script.proofs.Numerals.{err_of}
use Rattle.script.proofs.event.event_line.Goals as goal

pub returns-in_err-ok-clause-reads : goal.returns-in_err-ok-clause-reads
returns-in_err-ok-clause-reads c = rw c.from_residual.ensures (λ x h e.
    let err = err_of c.from_utf8.result (sym c.ok.ensures.value ∙ c.in_err-ok.was) in
    let not_text = MatchResult-at_err _ _ err.0 err.1 c.from_utf8.ensures.cases in
    not_text.0 (subst IsUtf8 e (IsUtf8-from_ascii (text_of x) (text_ascii x h))))

pub returns-in-F : goal.returns-in-F
returns-in-F c =
    let got = read_parts _ OfFrame c.args.line.now c.from_utf8.result c.in_ok-ok.field-0 c.split_once.result c.in_ok-letter.letter c.in_ok-letter.fields c.frame.result
    c.from_utf8.ensures.cases (sym c.ok.ensures.value ∙ c.in_ok-ok.was) c.split_once.ensures.cases c.in_ok-letter.was c.in-F.is c.frame.ensures in
    record { reads = got.0; only = got.1 }

pub returns-in-T : goal.returns-in-T
returns-in-T c =
    let got = read_parts _ OfTicks c.args.line.now c.from_utf8.result c.in_ok-ok.field-0 c.split_once.result c.in_ok-letter.letter c.in_ok-letter.fields c.ticks.result
    c.from_utf8.ensures.cases (sym c.ok.ensures.value ∙ c.in_ok-ok.was) c.split_once.ensures.cases c.in_ok-letter.was c.in-T.is c.ticks.ensures in
    record { reads = got.0; only = got.1 }

pub returns-in-H : goal.returns-in-H
returns-in-H c =
    let got = read_parts _ OfSample c.args.line.now c.from_utf8.result c.in_ok-ok.field-0 c.split_once.result c.in_ok-letter.letter c.in_ok-letter.fields c.sample.result
    c.from_utf8.ensures.cases (sym c.ok.ensures.value ∙ c.in_ok-ok.was) c.split_once.ensures.cases c.in_ok-letter.was c.in-H.is c.sample.ensures in
    record { reads = got.0; only = got.1 }

pub returns-in-S : goal.returns-in-S
returns-in-S c =
    let got = read_parts _ OfSecond c.args.line.now c.from_utf8.result c.in_ok-ok.field-0 c.split_once.result c.in_ok-letter.letter c.in_ok-letter.fields c.second.result
    c.from_utf8.ensures.cases (sym c.ok.ensures.value ∙ c.in_ok-ok.was) c.split_once.ensures.cases c.in_ok-letter.was c.in-S.is c.second.ensures in
    record { reads = got.0; only = got.1 }
