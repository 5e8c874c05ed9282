-- "The latest n samples were all out", and a count that says so.
use Rattle.std.proofs.Common.{◌≡◌, ℕ, zero, suc, ◌+◌, ◌<◌, ◌≤◌, min, ◌↔◌, [], ◌∷◌, length, take, drop, sym, refl, arith}
use Rattle.interlock.specs.History.{Did, Past, sampling, samples, IsSample, Row}

-- c counts them, up to 255
abbrev pub CountIs : (Past → Type 0) → ℕ → Past → Type 0
CountIs Out c h = (c ≤ 255) × ((n : ℕ) → n ≤ 255 → (n ≤ c) ↔ Row Out n h)

row_none : (Out : Past → Type 0) (h : Past) → Row Out 0 h
row_none Out h = record { back = 0; within = omega arith; many = refl; all_out = λ i lt. absurd (omega arith) }

module _ (Out : Past → Type 0) (d : Did) (h : Past) where
  -- one event further back
  row_more : (n : ℕ) → (IsSample (d ∷ h) → Out (d ∷ h)) → Row Out n h → Row Out (sampling d.came + n) (d ∷ h)
  row_more n is r = record { back = suc r.back; within = omega (arith, r.within); many = λ i. sampling d.came + r.many i; all_out = go }
    where
      go : (i : ℕ) → i < suc r.back → IsSample (drop i (d ∷ h)) → Out (drop i (d ∷ h))
      go zero lt s = is s
      go (suc i) lt s = r.all_out i (omega arith) s

  row_less : (n : ℕ) → 0 < n → Row Out n (d ∷ h) → (m : ℕ) × (n ≡ sampling d.came + m) × Row Out m h × (IsSample (d ∷ h) → Out (d ∷ h))
  row_less n pos r = go r.back r.within r.many r.all_out
    where
      go : (b : ℕ) → b ≤ length (d ∷ h) → samples (take b (d ∷ h)) ≡ n → ((i : ℕ) → i < b → IsSample (drop i (d ∷ h)) → Out (drop i (d ∷ h))) → (m : ℕ) × (n ≡ sampling d.came + m) × Row Out m h × (IsSample (d ∷ h) → Out (d ∷ h))
      go zero w m o = absurd (omega arith)
      go (suc b) w m o = (samples (take b h), sym m, record { back = b; within = omega arith; many = refl; all_out = λ i lt s. o (suc i) (omega arith) s }, λ s. o 0 (omega arith) s)

  pub count_kept : (c : ℕ) → sampling d.came ≡ 0 → CountIs Out c h → CountIs Out c (d ∷ h)
  count_kept c none k = (k.0, λ n le. (to n le, from n le))
    where
      to : (n : ℕ) → n ≤ 255 → n ≤ c → Row Out n (d ∷ h)
      to n le lt =
          let same : sampling d.came + n ≡ n = omega arith in
          rw same at (row_more n (λ s. absurd (omega arith)) ((k.1 n le).0 lt))

      from : (n : ℕ) → n ≤ 255 → Row Out n (d ∷ h) → n ≤ c
      from zero le r = omega arith
      from (suc n) le r =
          let l = row_less (suc n) (omega arith) r in
          omega (arith, (k.1 l.0 (omega (arith, l.1))).1 l.2, l.1)

  pub count_out : (c : ℕ) → sampling d.came ≡ 1 → Out (d ∷ h) → CountIs Out c h → CountIs Out (min 255 (c + 1)) (d ∷ h)
  count_out c one is k = (omega arith, λ n le. (to n le, from n le))
    where
      to : (n : ℕ) → n ≤ 255 → n ≤ min 255 (c + 1) → Row Out n (d ∷ h)
      to zero le lt = row_none Out (d ∷ h)
      to (suc n) le lt =
          let same : sampling d.came + n ≡ suc n = omega arith in
          rw same at (row_more n (λ s. is) ((k.1 n (omega arith)).0 (omega arith)))

      from : (n : ℕ) → n ≤ 255 → Row Out n (d ∷ h) → n ≤ min 255 (c + 1)
      from zero le r = omega arith
      from (suc n) le r =
          let l = row_less (suc n) (omega arith) r in
          omega (arith, (k.1 l.0 (omega (arith, l.1))).1 l.2, l.1)

  pub count_in : sampling d.came ≡ 1 → (Out (d ∷ h) → ⊥) → CountIs Out 0 (d ∷ h)
  count_in one inside = (omega arith, λ n le. (to n, from n))
    where
      to : (n : ℕ) → n ≤ 0 → Row Out n (d ∷ h)
      to zero lt = row_none Out (d ∷ h)
      to (suc n) lt = absurd (omega arith)

      from : (n : ℕ) → Row Out n (d ∷ h) → n ≤ 0
      from zero r = omega arith
      from (suc n) r = absurd (inside ((row_less (suc n) (omega arith) r).3 one))

pub count_none : (Out : Past → Type 0) → CountIs Out 0 []
count_none Out = (omega arith, λ n le. (λ z. to n z, λ r. omega (arith, r.many, r.within, none r.back)))
  where
    none : (b : ℕ) → samples (take b []) ≡ 0
    none zero = refl
    none (suc b) = refl

    to : (n : ℕ) → n ≤ 0 → Row Out n []
    to zero z = row_none Out []
    to (suc n) z = absurd (omega arith)
