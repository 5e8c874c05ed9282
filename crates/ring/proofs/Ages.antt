-- How many records a ring holds, and in which slot the record of an age stands. No proof of this repository cites these:
-- the check finds them alone.
use Rattle.std.proofs.Common.{◌≡◌, ℕ, ◌+◌, ◌-◌, ◌<◌, ◌≤◌, List, reverse, length, get_or, take, drop, Some, ap, ◌∙◌, arith}
use Rattle.std.specs.List.{slice_get}
use Rattle.std.proofs.lemmas.List.{length-reverse, length-take-le, length-drop, get_or-take, get_or-drop, get_or-reverse, get_or_append_left, get_or-append_right}
use Rattle.std.proofs.lemmas.Option.{slice_get-get_or}
use Rattle.ring.specs.Rolls.{back_from}
use Rattle.ring.proofs.Laws.{back_length}

pub held_length : {T : Type 0} (s : List T) (n c : ℕ) → c ≤ length s → length (take c (back_from s n)) ≡ c
held_length s n c h = length-take-le c (back_from s n) (rw (back_length s n) h)

-- which slot has the record of an age
pub at_age : {T : Type 0} (s : List T) (n c a : ℕ) (d : T) → c ≤ length s → a < c → slice_get (take c (back_from s n)) a ≡ Some (get_or (back_from s n) a d)
at_age {T = T} s n c a d h k =
    let e = held_length s n c h in
    slice_get-get_or (take c (back_from s n)) a d (omega arith) ∙ ap (λ (z : T). Some z) (get_or-take c (back_from s n) a d k)

pub place_new : {T : Type 0} (s : List T) (n c a : ℕ) (d : T) → c ≤ length s → a < c → a < n → n < length s → slice_get (take c (back_from s n)) a ≡ Some (get_or s (n - 1 - a) d)
place_new {T = T} s n c a d h k l m =
    let t : length (take n s) ≡ n = length-take-le n s (omega arith) in
    let r = length-reverse (take n s) in
    let q : n - 1 - a < n = omega arith in
    at_age s n c a d h k
    ∙ ap (λ (z : T). Some z)
    (get_or_append_left (reverse (take n s)) (reverse (drop n s)) d a (omega arith)
    ∙ (get_or-reverse (take n s) a d (omega arith) ∙ rw t (get_or-take n s (n - 1 - a) d q)))

pub place_old : {T : Type 0} (s : List T) (n c a : ℕ) (d : T) → c ≤ length s → a < c → n ≤ a → n < length s → slice_get (take c (back_from s n)) a ≡ Some (get_or s (length s - 1 - (a - n)) d)
place_old {T = T} s n c a d h k l m =
    let t : length (take n s) ≡ n = length-take-le n s (omega arith) in
    let r : length (reverse (take n s)) ≡ n = length-reverse (take n s) ∙ t in
    let u = length-drop n s in
    let q : n + (length s - n - 1 - (a - n)) ≡ length s - 1 - (a - n) = omega arith in
    at_age s n c a d h k
    ∙ ap (λ (z : T). Some z)
    (get_or-append_right (reverse (take n s)) (reverse (drop n s)) n a d r l
    ∙ (get_or-reverse (drop n s) (a - n) d (omega arith) ∙ rw (u, get_or-drop, q)))
