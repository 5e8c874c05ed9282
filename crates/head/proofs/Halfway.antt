-- A loop that passes over a list place by place: below i the new values stand, from i on the old ones.
use Rattle.std.proofs.Common.{◌≡◌, ℕ, ◌+◌, ◌<◌, ◌≤◌, ◌≢◌, List, length, get_or, set, ◌∙◌, arith, length-set, get_or-set_other, get_or-set_same, below_more}

module _ {X : Type 0} where
  pub record Halfway (d : X) (new old : ℕ → X) (n : ℕ) (xs : List X) (i : ℕ) : Type 0 where
    pub size : length xs ≡ n
    pub front : (k : ℕ) → k < i → get_or xs k d ≡ new k
    pub back : (k : ℕ) → i ≤ k → k < n → get_or xs k d ≡ old k

  module _ (d : X) (new old : ℕ → X) (n : ℕ) (xs : List X) (i : ℕ) (h : Halfway d new old n xs i) where
    -- the turn wrote the new value
    pub wrote : (x : X) → i < n → x ≡ new i → Halfway d new old n (set xs i x) (i + 1)
    wrote x lt e = let inside : i < length xs = omega (arith, h.size) in record {
      size = rw length-set h.size;
      front = below_more _ _ (λ k b. let ne : k ≢ i = omega arith in rw get_or-set_other (h.front k b)) (rw get_or-set_same e);
      back = λ k b below. let ne : k ≢ i = omega arith in rw get_or-set_other (h.back k (omega arith) below);
    }

    -- the turn left the place as it was
    pub left : i < n → old i ≡ new i → Halfway d new old n xs (i + 1)
    left lt e = record {
      size = h.size;
      front = below_more _ _ h.front (h.back i (omega arith) lt ∙ e);
      back = λ k b below. h.back k (omega arith) below;
    }
