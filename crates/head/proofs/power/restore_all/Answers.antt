use Rattle.std.proofs.Common.{◌≡◌, ℕ, get_or, refl, ap, ◌∙◌, subst, add-one, arith, rules}
use Rattle.std.proofs.lemmas.List.FromFn.{fill_by_all}
use Rattle.head.specs.Logs.{kept_log, restored_log}
use Rattle.head.specs.Parameters.{restored}
use Rattle.head.proofs.Halfway.{wrote}
use Rattle.head.proofs.power.restore_all.Goals as goal

pub loop-i-init : goal.loop-i-init
unfolding restored_log
loop-i-init c = (record { size = search rules; front = λ k h. absurd (omega arith); back = λ k h b. refl }, refl)

pub loop-i-preserved : goal.loop-i-preserved
unfolding restored_log
loop-i-preserved c =
    let i = c.loop-i.i in
    let old : get_or c.loop-i.value-items i 0 ≡ get_or c.args.stored i 0 = c.loop-i.invariant.0.back i (omega arith) (omega arith) in (
      wrote _ _ _ _ _ _ c.loop-i.invariant.0 _ (omega arith) (c.restore.ensures.value ∙ ap (restored i) old),
      rw add-one (c.restore.ensures.noted ∙ ap (λ v. kept_log i v c.loop-i.log) old ∙ ap (kept_log i (get_or c.args.stored i 0)) c.loop-i.invariant.1),
    )

pub returns : goal.returns
returns c =
    let inv = c.loop-i.invariant in
    let end : c.loop-i.i ≡ 25 = omega arith in
    record {
      values = fill_by_all (λ i. restored i (get_or c.args.stored i 0)) c.loop-i.value-items 25 0 inv.0.size (λ k h. inv.0.front k (omega arith));
      noted = subst (λ (n : ℕ). c.loop-i.log ≡ restored_log n c.args.stored c.args.log.now) end inv.1;
    }
