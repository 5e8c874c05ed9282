-- A loop that looks for a number at which a test passes. Of these only `some_at` is cited: the check finds the other alone.
use Rattle.std.proofs.Common.{◌≡◌, ℕ, ◌+◌, ◌<◌, Bool, true, false, refl, add-one}
use Rattle.std.proofs.lemmas.Bool.{or_from}
use Rattle.std.proofs.lemmas.Bool.Decides.{Decides-below_or}
use Rattle.head.specs.Checks.{some_below}

module _ (f : ℕ → Bool) where
  pub some_at : (n i : ℕ) → i < n → f i ≡ true → some_below f n ≡ true
  some_at n i h e = (Decides-below_or f (λ k. f k ≡ true) (some_below f) (λ k. ((λ p. p), (λ p. p))) refl (λ _. refl) n).1 (i, h, e)

  pub none_more : (i : ℕ) → some_below f i ≡ false → f i ≡ false → some_below f (i + 1) ≡ false
  none_more i below here = rw add-one (or_from (f i) (some_below f i) here below)
