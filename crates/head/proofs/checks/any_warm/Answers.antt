use Rattle.std.proofs.Common.{◌≡◌, ℕ, false, sym, subst, arith}
use Rattle.std.proofs.lemmas.Bool.{and_from, lt-ltb, not_from_false}
use Rattle.head.specs.Checks.{sensor_out, some_below, warm}
use Rattle.head.proofs.Someone.{some_at}
use Rattle.head.proofs.checks.any_warm.Goals as goal

pub returns-then-not-bit_of : goal.returns-then-not-bit_of
unfolding warm
returns-then-not-bit_of c =
    sym (some_at (sensor_out c.args.parameters.now c.args.temperatures) 8 c.loop-i.i (omega arith)
    (and_from _ _ (lt-ltb _ _ c.if-temperature-parameters.true) (not_from_false _ (sym c.if-not-bit_of.ensures))))

pub returns : goal.returns
unfolding warm
returns c =
    let at : c.loop-i.i ≡ 8 = omega arith in
    sym (subst (λ (n : ℕ). some_below (sensor_out c.args.parameters.now c.args.temperatures) n ≡ false) at c.loop-i.invariant)
