-- The slots of a ring as a list, newest first: what one record more does to it.
use Rattle.std.proofs.Common.{◌≡◌, ℕ, suc, ◌+◌, ◌<◌, ◌≤◌, ◌⊎◌, List, [], ◌∷◌, ◌++◌, reverse, length, get_or, take, drop, set, sym, ap, ◌∙◌, inl, inr, append_assoc, add-one, arith}
use Rattle.std.proofs.lemmas.List.{length-append, length-reverse, length-take-le, take-append-drop, reverse-append, drop_more, take_more_set, drop-set-lt, set_split, drop_all, take-append-le, take_all, take-take, append-nil}
use Rattle.ring.specs.Rolls.{back_from}

pub back_length : {T : Type 0} (s : List T) (n : ℕ) → length (back_from s n) ≡ length s
back_length s n =
    let e : length (take n s ++ drop n s) ≡ length s = ap length (take-append-drop n s) in
    length-append (reverse (take n s)) (reverse (drop n s)) ∙ (rw (length-reverse (take n s), length-reverse (drop n s)) (sym (length-append (take n s) (drop n s)) ∙ e))

-- the records but the oldest slot's, newest first
abbrev pub mid : {T : Type 0} → List T → ℕ → List T
mid s n = reverse (take n s) ++ reverse (drop (n + 1) s)

reverse_cons : {T : Type 0} (y : T) (ys : List T) → reverse (y ∷ ys) ≡ reverse ys ++ y ∷ []
reverse_cons y ys = reverse-append (y ∷ []) ys

reverse_push : {T : Type 0} (ys : List T) (y : T) → reverse (ys ++ y ∷ []) ≡ y ∷ reverse ys
reverse_push ys y = reverse-append ys (y ∷ [])

back_old : {T : Type 0} (s : List T) (n : ℕ) (d : T) → n < length s → back_from s n ≡ mid s n ++ get_or s n d ∷ []
back_old {T = T} s n d h =
    ap (λ (z : List T). reverse (take n s) ++ reverse z) (drop_more s n d h)
    ∙ (ap (λ (z : List T). reverse (take n s) ++ z) (reverse_cons (get_or s n d) (drop (n + 1) s))
    ∙ sym (append_assoc (reverse (take n s)) (reverse (drop (n + 1) s)) (get_or s n d ∷ [])))

back_next : {T : Type 0} (s : List T) (n : ℕ) (x : T) → n < length s → back_from (set s n x) (n + 1) ≡ x ∷ mid s n
back_next {T = T} s n x h =
    let l : n < n + 1 = omega arith in
    ap (λ (z : List T). reverse z ++ reverse (drop (n + 1) (set s n x))) (take_more_set s n x h)
    ∙ (ap (λ (z : List T). reverse (take n s ++ x ∷ []) ++ reverse z) (drop-set-lt (n + 1) s n x l)
    ∙ ap (λ (z : List T). z ++ reverse (drop (n + 1) s)) (reverse_push (take n s) x))

back_wrap : {T : Type 0} (s : List T) (n : ℕ) (x : T) → n < length s → length s ≤ n + 1 → back_from (set s n x) 0 ≡ x ∷ mid s n
back_wrap {T = T} s n x h k =
    let e : drop (n + 1) s ≡ [] = drop_all (n + 1) s k in
    ap (λ (z : List T). reverse z) (set_split s n x h)
    ∙ (rw (← add-one n, e) (reverse_push (take n s) x ∙ ap (λ (z : List T). x ∷ z) (sym (append-nil (reverse (take n s))))))

-- one record more, where the oldest, y, may have to go
keep : {T : Type 0} (m : List T) (x y : T) (c : ℕ) → c < suc (length m) → take (c + 1) (x ∷ m) ≡ take (suc (length m)) (x ∷ take c (m ++ y ∷ []))
keep m x y c h =
    let l : c ≤ length m = omega arith in
    let e : take c (m ++ y ∷ []) ≡ take c m = take-append-le c m (y ∷ []) l in
    let k : length (take c m) ≤ length m = rw (length-take-le c m l) l in
    rw (add-one c, e, take_all (length m) (take c m) k)

full : {T : Type 0} (m : List T) (x y : T) → take (suc (length m)) (x ∷ m) ≡ take (suc (length m)) (x ∷ take (suc (length m)) (m ++ y ∷ []))
full {T = T} m x y =
    let l : length m ≤ length m = omega arith in
    let l' : length m ≤ suc (length m) = omega arith in
    ap (λ (z : List T). x ∷ z) (sym (take-append-le (length m) m (y ∷ []) l) ∙ sym (take-take (length m) (suc (length m)) (m ++ y ∷ []) l'))

-- the new count: one more, up to the length
abbrev pub Up : ℕ → ℕ → ℕ → Type 0
Up len c c' = ((c < len) × (c' ≡ c + 1)) ⊎ ((len ≤ c) × (c' ≡ len))

-- the next place: one further, or the start again
abbrev pub On : ℕ → ℕ → ℕ → Type 0
On len n n' = ((n + 1 < len) × (n' ≡ n + 1)) ⊎ ((len ≤ n + 1) × (n' ≡ 0))

back_on : {T : Type 0} (s : List T) (n n' : ℕ) (x : T) → n < length s → On (length s) n n' → back_from (set s n x) n' ≡ x ∷ mid s n
back_on s n n' x h (inl (k, e)) = rw e (back_next s n x h)
back_on s n n' x h (inr (k, e)) = rw e (back_wrap s n x h k)

mid_length : {T : Type 0} (s : List T) (n : ℕ) (d : T) → n < length s → length s ≡ suc (length (mid s n))
mid_length s n d h =
    let e = ap length (back_old s n d h) in
    let l = back_length s n in
    let p = length-append (mid s n) (get_or s n d ∷ []) in
    omega arith

take_up : {T : Type 0} (m : List T) (x y : T) (c c' : ℕ) → c ≤ suc (length m) → Up (suc (length m)) c c' → take c' (x ∷ m) ≡ take (suc (length m)) (x ∷ take c (m ++ y ∷ []))
take_up m x y c c' h (inl (k, e)) = rw e (keep m x y c k)
take_up m x y c c' h (inr (k, e)) =
    let z : c ≡ suc (length m) = omega arith in
    rw (e, z) (full m x y)

pub pushed : {T : Type 0} (s : List T) (n n' c c' : ℕ) (x : T) → n < length s → c ≤ length s → On (length s) n n' → Up (length s) c c'
    → take c' (back_from (set s n x) n') ≡ take (length s) (x ∷ take c (back_from s n))
pushed s n n' c c' x h k on up =
    let l = mid_length s n x h in
    rw (back_on s n n' x h on, back_old s n x h, l) (take_up (mid s n) x (get_or s n x) c c' (rw l at k) (rw l at up))
