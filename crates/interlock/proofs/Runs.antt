-- A run by the rules, one event more.
use Rattle.std.proofs.Common.{◌≡◌, ℕ, zero, suc, ◌+◌, ◌<◌, ◌≤◌, Bool, true, false, eqb, ◌≢◌, List, ◌∷◌, length, set, sym, refl, ap, ◌∙◌, subst, add-one, arith, length-set, get_or-set_other, get_or-set_same, below_more, eqb-true}
use borrow.Author.Tests.{eqb-false}
use Rattle.head.specs.State.{State}
use Rattle.head.specs.declared.records.Records.{Records}
use Rattle.interlock.specs.Events.{Event, event_of}
use Rattle.interlock.specs.Runs.{next, shown_of, log_after, rates_after, records_after, absent, step_at, event_at, state_after, records_after_all, Ran}
use Rattle.interlock.specs.History.{brought, Did, Past}
use Rattle.interlock.specs.Promises.{came_of, Follows, gone, continued, Stands, RatesHeld}
use Rattle.interlock.specs.Logged.{LogHeld}
use Rattle.interlock.proofs.Whole.{every, clock, stands, rates_step, last_raw}
use Rattle.interlock.proofs.Logs.{log_step}
use Rattle.interlock.specs.declared.step.Event.{Event as Lent}
use Rattle.interlock.specs.declared.step.Shown.{Shown}
use Rattle.interlock.specs.declared.step.Step.{Step}

pub ran_none : (steps : List Step) (s : State) (r : Records) → Ran 0 steps steps s s r r
ran_none steps s r = record { as_many = refl; events = λ i. refl; shows = λ i lt. absurd (omega arith); ends = refl; written = refl }

abbrev step : Lent → Shown → Step
step e x = record { event = e; shown = x }

module _ (i : ℕ) (bs ss : List Step) (x : Shown) (lt : i < length ss) where
  abbrev ws : List Step
  ws = set ss i (step (step_at ss i).event x)

  event_kept : (j : ℕ) → (step_at ws j).event ≡ (step_at ss j).event
  event_kept j = go (eqb j i) refl
    where
      go : (b : Bool) → eqb j i ≡ b → (step_at ws j).event ≡ (step_at ss j).event
      go true e =
          let same : j ≡ i = eqb-true _ _ e in
          ap (λ (k : ℕ). (step_at ws k).event) same ∙ ap (λ (y : Step). y.event) (get_or-set_same ss i (step (step_at ss i).event x) absent lt) ∙ ap (λ (k : ℕ). (step_at ss k).event) (sym same)
      go false e = ap (λ (y : Step). y.event) (get_or-set_other ss i j (step (step_at ss i).event x) absent (eqb-false _ _ e))

  pub ran_more : (s t t' : State) (r q q' : Records) (e : Event) → e ≡ event_of (step_at ss i).event → x ≡ shown_of t e → t' ≡ next t e → q' ≡ records_after t e q
      → Ran i bs ss s t r q → Ran (i + 1) bs ws s t' r q'
  ran_more s t t' r q q' e is shown went wrote k =
      let u = state_after s i bs in
      let bring : e ≡ event_at bs i = is ∙ ap event_of (k.events i) in
      let more = add-one i in
      record {
        as_many = length-set ss i (step (step_at ss i).event x) ∙ k.as_many;
        events = λ j. event_kept j ∙ k.events j;
        shows = below_more (λ j. (step_at ws j).shown ≡ shown_of (state_after s j bs) (event_at bs j)) i
            (λ j lj. let ne : j ≢ i = omega arith in ap (λ (y : Step). y.shown) (get_or-set_other ss i j (step (step_at ss i).event x) absent ne) ∙ k.shows j lj)
            (ap (λ (y : Step). y.shown) (get_or-set_same ss i (step (step_at ss i).event x) absent lt) ∙ shown ∙ ap (λ (y : State). shown_of y e) k.ends ∙ ap (shown_of u) bring);
        ends = went ∙ ap (λ (y : State). next y e) k.ends ∙ ap (next u) bring ∙ ap (λ (n : ℕ). state_after s n bs) (sym more);
        written = wrote ∙ ap (λ (y : State). records_after y e q) k.ends ∙ ap (records_after u e) k.written ∙ ap (λ (y : Event). records_after u y (records_after_all s i bs r)) bring ∙ ap (λ (n : ℕ). records_after_all s n bs r) (sym more);
      }

-- ---- a run by the rules is a history that goes on

abbrev done : Event → Shown → Did
done e x = record { came = brought e; shown = x }

module _ (n : ℕ) (before after : List Step) (s t : State) (r q : Records) (ran : Ran n before after s t r q) (h : Past) (led : Follows h s) where
  -- step i, as the rules bring it, is step i as it shows
  same_did : (i : ℕ) → i < n → came_of (state_after s i before) (event_at before i) ≡ done (event_at after i) (step_at after i).shown
  same_did i lt =
      let u = state_after s i before in
      ap (λ (y : Event). done y (shown_of u (event_at before i))) (ap event_of (sym (ran.events i))) ∙ ap (done (event_at after i)) (sym (ran.shows i lt))

  goes_on : (i : ℕ) → i ≤ n → Follows (continued h i after) (state_after s i before)
  goes_on zero le = led
  goes_on (suc i) le =
      subst (λ (d : Did). Follows (d ∷ continued h i after) (next (state_after s i before) (event_at before i))) (same_did i (omega arith)) (gone (event_at before i) (goes_on i (omega arith)))

  -- what each event keeps, the run keeps
  kept_on : {K : Type 0} (Held : Past → K → Type 0) (step : State → Event → K → K) → ((e : Event) (h : Past) (s : State) (k : K) → Follows h s → Held h k → Held (came_of s e ∷ h) (step s e k))
      → (kept : ℕ → K) → ((i : ℕ) → step (state_after s i before) (event_at before i) (kept i) ≡ kept (suc i)) → (i : ℕ) → i ≤ n → Held h (kept 0) → Held (continued h i after) (kept i)
  kept_on Held step more kept goes zero le held = held
  kept_on Held step more kept goes (suc i) le held =
      let u = state_after s i before in
      subst (Held (continued h (suc i) after)) (goes i)
      (subst (λ (d : Did). Held (d ∷ continued h i after) (step u (event_at before i) (kept i))) (same_did i (omega arith))
      (more (event_at before i) (continued h i after) u (kept i) (goes_on i (omega arith)) (kept_on Held step more kept goes i (omega arith) held)))

  rates_on : (i : ℕ) → i ≤ n → RatesHeld h r.rates → RatesHeld (continued h i after) (records_after_all s i before r).rates
  rates_on = kept_on RatesHeld rates_after (λ e h s l f held. (rates_step e h s l (every f) (last_raw f) held).rates_more) (λ i. (records_after_all s i before r).rates) (λ i. refl)

  pub run_rates : n ≡ length after → RatesHeld h r.rates → RatesHeld (continued h (length after) after) q.rates
  run_rates e k =
      subst (λ (m : ℕ). RatesHeld (continued h m after) q.rates) e (subst (λ (w : Records). RatesHeld (continued h n after) w.rates) (sym ran.written) (rates_on n (omega arith) k))

  pub run_log : n ≡ length after → LogHeld h r.log → LogHeld (continued h (length after) after) q.log
  run_log e k =
      subst (λ (j : ℕ). LogHeld (continued h j after) q.log) e (subst (λ (w : Records). LogHeld (continued h n after) w.log) (sym ran.written)
      (kept_on LogHeld log_after (λ e h s l f held. log_step e h s l (every f) (clock f) held) (λ i. (records_after_all s i before r).log) (λ i. refl) n (omega arith) k))

  pub run_stands : n ≡ length after → Stands (continued h (length after) after) t
  run_stands e =
      subst (λ (k : ℕ). Stands (continued h k after) t) e
      (stands (subst (Follows (continued h n after)) (sym ran.ends) (goes_on n (omega arith))))

-- a run from where another begins
pub ran_from : (n : ℕ) (before after : List Step) (s s' t : State) (r r' q : Records) → s ≡ s' → r ≡ r' → Ran n before after s t r q → Ran n before after s' t r' q
ran_from n before after s s' t r r' q es er k =
    subst (λ (x : State). Ran n before after x t r' q) es (subst (λ (x : Records). Ran n before after s t x q) er k)
