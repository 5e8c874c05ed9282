-- An event that came n times, and once more.
use Rattle.std.proofs.Common.{◌≡◌, ℕ, suc, ◌-◌, ap, ◌∙◌, arith}
use Rattle.head.specs.declared.records.Records.{Records}
use Rattle.head.specs.State.{State}
use Rattle.interlock.specs.Events.{Event}
use Rattle.interlock.specs.Runs.{next, shown_of, records_after}
use Rattle.interlock.specs.declared.step.Shown.{Shown}
use Rattle.headrun.specs.Lines.{after_times, records_times, Brought}

pub once_more : (n : ℕ) (e : Event) (s t u : State) (r q q' : Records) (x : Shown)
    → (t ≡ after_times n e s) × (q ≡ records_times n e s r) → Brought 1 e t u q q' x → Brought (suc n) e s u r q' x
once_more n e s t u r q q' x k b =
    let same : n ≡ suc n - 1 = omega arith in
    record {
      ends = b.ends ∙ ap (λ (y : State). next y e) k.0;
      written = b.written ∙ ap (λ (y : State). records_after y e q) k.0 ∙ ap (records_after (after_times n e s) e) k.1;
      shows = b.shows ∙ ap (λ (y : State). shown_of y e) k.0 ∙ ap (λ (i : ℕ). shown_of (after_times i e s) e) same;
    }
