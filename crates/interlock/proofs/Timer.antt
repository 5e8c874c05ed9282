-- The safety timer, as the trips and the second marks of a history make it.
use Rattle.std.proofs.Common.{ℕ, zero, suc, ◌-◌, ◌<◌, ◌∷◌, length, drop, inl, inr, ⊎_elim, arith}
use Rattle.interlock.specs.History.{Did, Past, marking, ParameterIs, Trips, NeverSet, SetBack, TimerIs}
use Rattle.interlock.proofs.Agos.{ago_now, ago_later}

module _ (d : Did) (h : Past) where
  never_more : (n : ℕ) → (Trips (d ∷ h) → ⊥) → NeverSet n h → NeverSet (n - marking d.came d.shown.fault) (d ∷ h)
  never_more n none k = (go, omega (arith, k.1))
    where
      go : (i : ℕ) → i < length (d ∷ h) → Trips (drop i (d ∷ h)) → ⊥
      go zero lt = none
      go (suc i) lt = k.0 i (omega arith)

  set_more : (n : ℕ) → (Trips (d ∷ h) → ⊥) → SetBack n h → SetBack (n - marking d.came d.shown.fault) (d ∷ h)
  set_more n none k = record {
    trip = ago_later d h none k.trip;
    seconds = k.seconds;
    in_force = k.in_force;
    left = omega (arith, k.left);
  }

  -- an event at which nothing trips lessens the timer by an accepted second mark
  pub timer_kept : (n : ℕ) → (Trips (d ∷ h) → ⊥) → TimerIs n h → TimerIs (n - marking d.came d.shown.fault) (d ∷ h)
  timer_kept n none = ⊎_elim (λ k. inl (never_more n none k)) (λ k. inr (set_more n none k))

  -- a trip sets it to parameter 22
  pub timer_set : (v : ℕ) → Trips (d ∷ h) → ParameterIs 22 v h → TimerIs v (d ∷ h)
  timer_set v is force = inr (record { trip = ago_now d h is; seconds = v; in_force = force; left = omega arith })
