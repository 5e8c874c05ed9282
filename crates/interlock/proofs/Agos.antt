-- `Ago` and `Always` at one event more.
use Rattle.std.proofs.Common.{◌≡◌, ℕ, zero, suc, ◌+◌, ◌<◌, Bool, true, false, ltb, ◌⊎◌, [], ◌∷◌, length, take, drop, refl, inl, inr, arith, ltb-false, ltb-true}
use Rattle.interlock.specs.History.{Did, Past, Ago, Always, weight, ticks}

-- where the newest event is not the one
pub record Later (P : ℕ → Past → Type 0) (Q : Past → Type 0) (d : Did) (h : Past) (back : ℕ) : Type 0 where
  pub goes : Q (d ∷ h)
  pub was : Ago (λ t. P (weight d.came + t)) Q h
  pub one_more : back ≡ suc was.back

pub since_later : (Q : Past → Type 0) (d : Did) (h : Past) (b : ℕ) → Q (d ∷ h) → ((i : ℕ) → i < b → Q (drop i h)) → (i : ℕ) → i < suc b → Q (drop i (d ∷ h))
since_later Q d h b q a zero lt = q
since_later Q d h b q a (suc i) lt = a i (omega arith)

module _ {P : ℕ → Past → Type 0} {Q : Past → Type 0} where
  pub ago_none : Ago P Q [] → ⊥
  ago_none a = omega (arith, a.within)

  -- these two carry a position, so they compute
  abbrev pub ago_now : (d : Did) (h : Past) → P 0 (d ∷ h) → Ago P Q (d ∷ h)
  ago_now d h p = record { back = 0; within = omega arith; held = p; since = λ i lt. absurd (omega arith) }

  abbrev pub ago_later : (d : Did) (h : Past) → Q (d ∷ h) → Ago (λ t. P (weight d.came + t)) Q h → Ago P Q (d ∷ h)
  ago_later d h q a = record { back = suc a.back; within = omega (arith, a.within); held = a.held; since = since_later Q d h a.back q a.since }

  pub ago_cases : (d : Did) (h : Past) (a : Ago P Q (d ∷ h)) → (P 0 (d ∷ h) × (a.back ≡ 0)) ⊎ Later P Q d h a.back
  ago_cases d h a = go a.back a.within a.held a.since
    where
      go : (b : ℕ) → b < length (d ∷ h) → P (ticks (take b (d ∷ h))) (drop b (d ∷ h)) → ((i : ℕ) → i < b → Q (drop i (d ∷ h))) → (P 0 (d ∷ h) × (b ≡ 0)) ⊎ Later P Q d h b
      go zero w p q = inl (p, refl)
      go (suc b) w p q = inr (record {
        goes = q 0 (omega arith);
        was = record { back = b; within = omega arith; held = p; since = λ i lt. q (suc i) (omega arith) };
        one_more = refl;
      })

abbrev pub ago_map : {P P' : ℕ → Past → Type 0} {Q Q' : Past → Type 0} {h : Past} → ((t : ℕ) (p : Past) → P t p → P' t p) → ((p : Past) → Q p → Q' p) → Ago P Q h → Ago P' Q' h
ago_map f g a = record { back = a.back; within = a.within; held = f _ _ a.held; since = λ i lt. g _ (a.since i lt) }

-- two positions of one kind, with nothing of that kind since either, are one
pub same_back : {P P' : ℕ → Past → Type 0} {Q Q' F : Past → Type 0} (h : Past) → ((t : ℕ) (p : Past) → P t p → F p) → ((t : ℕ) (p : Past) → P' t p → F p) → ((p : Past) → Q p → F p → ⊥) → ((p : Past) → Q' p → F p → ⊥) → (a : Ago P Q h) (b : Ago P' Q' h) → a.back ≡ b.back
same_back h of of' none none' a b = go (ltb a.back b.back) refl (ltb b.back a.back) refl
  where
    go : (x : Bool) → ltb a.back b.back ≡ x → (y : Bool) → ltb b.back a.back ≡ y → a.back ≡ b.back
    go true e y f = absurd (none' _ (b.since a.back (ltb-true _ _ e)) (of _ _ a.held))
    go false e true f = absurd (none _ (a.since b.back (ltb-true _ _ f)) (of' _ _ b.held))
    go false e false f = omega (arith, ltb-false a.back b.back e, ltb-false b.back a.back f)

pub always_none : (P : Past → Type 0) → Always P []
always_none P i lt = absurd (omega arith)

pub always_more : (P : Past → Type 0) (d : Did) (h : Past) → P (d ∷ h) → Always P h → Always P (d ∷ h)
always_more P d h p a zero lt = p
always_more P d h p a (suc i) lt = a i (omega arith)
