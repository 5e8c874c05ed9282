-- A buffer after its part from some octet on was written. No proof of this repository cites these: the check finds them
-- alone.
use Rattle.std.proofs.Common.{◌≡◌, ℕ, ◌+◌, ◌-◌, List, [], ◌++◌, length, take, drop, sym, ap, ◌∙◌, append_assoc, arith}
use borrow.Rule.Slice.PartMut.{put_mid}
use Rattle.std.proofs.lemmas.List.{length-drop, drop_all, append-nil, drop-drop, take_rest, take_at, drop_at}

-- the whole after a write to its part from `a` on
pub put_rest : {X : Type 0} (a : ℕ) (xs ys : List X) → put_mid a (length xs - a) xs ys ≡ take a xs ++ ys
put_rest {X = X} a xs ys =
    let e : drop (length xs - a) (drop a xs) ≡ [] = drop_all (length xs - a) (drop a xs) (simp length-drop (omega arith)) in
    ap (λ (z : List X). take a xs ++ (ys ++ z)) e ∙ ap (λ (z : List X). take a xs ++ z) (append-nil ys)

-- where the part begins with f and goes on as it was
pub put_front : {X : Type 0} (a n : ℕ) (xs ys f : List X) → ys ≡ f ++ drop n (take (length xs - a) (drop a xs)) → put_mid a (length xs - a) xs ys ≡ take a xs ++ f ++ drop (a + n) xs
put_front {X = X} a n xs ys f e =
    put_rest a xs ys
    ∙ (ap (λ (z : List X). take a xs ++ z) (e ∙ ap (λ (z : List X). f ++ z) (ap (drop n) (take_rest xs a) ∙ drop-drop n a xs))
    ∙ sym (append_assoc (take a xs) f (drop (a + n) xs)))

-- a write h of the first k, and then one that begins with o from there on
pub put_two : {X : Type 0} (k n : ℕ) (xs h h' o ys : List X) → h' ≡ h → length h ≡ k
    → ys ≡ o ++ drop n (take (length (h' ++ drop k xs) - k) (drop k (h' ++ drop k xs)))
    → put_mid k (length (h' ++ drop k xs) - k) (h' ++ drop k xs) ys ≡ h ++ o ++ drop (k + n) xs
put_two {X = X} k n xs h h' o ys e l f =
    let x = h' ++ drop k xs in
    let l' : length h' ≡ k = ap length e ∙ l in
    let t : take k x ≡ h = take_at h' (drop k xs) k l' ∙ e in
    let d : drop (k + n) x ≡ drop (k + n) xs = sym (drop-drop n k x) ∙ (ap (drop n) (drop_at h' (drop k xs) k l') ∙ drop-drop n k xs) in
    put_front k n x ys o f ∙ (ap (λ (z : List X). z ++ o ++ drop (k + n) x) t ∙ ap (λ (z : List X). h ++ o ++ z) d)
