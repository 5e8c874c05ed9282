use Rattle.std.proofs.Common.{IsUtf8, decimal, sym, ◌∙◌, subst, arith}
use Rattle.std.proofs.lemmas.Fmt.{IsAscii-decimal}
use Rattle.std.proofs.lemmas.Str.{IsUtf8-from_ascii}
use Rattle.std.proofs.lemmas.Result.{MatchResult-at_err}
use Rattle.script.proofs.Numerals.{err_of}
use Rattle.script.proofs.decimals.count.Goals as goal

pub returns-in_err-text : goal.returns-in_err-text
returns-in_err-text c = rw c.from_residual.ensures (λ n h e.
    let err = err_of c.from_utf8.result (sym c.ok.ensures.value ∙ c.in_err-text.was) in
    let not_text = MatchResult-at_err _ _ err.0 err.1 c.from_utf8.ensures.cases in
    not_text.0 (subst IsUtf8 e (IsUtf8-from_ascii (decimal n) (IsAscii-decimal n (omega arith)))))
