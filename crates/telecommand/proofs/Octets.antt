-- The octets of words: how many, those of a list after another, one word more at a time. Of these only `octets_length` is
-- cited: the check finds the others alone.
use Rattle.std.proofs.Common.{◌≡◌, ℕ, ◌+◌, ◌*◌, ◌/◌, ◌%◌, ◌<◌, ◌≤◌, List, [], ◌∷◌, ◌++◌, length, get_or, take, drop, set, sym, refl, ap, ◌∙◌, append_assoc, arith}
use Rattle.std.proofs.lemmas.List.{length-append, length-take-le, take_more, drop_more, set_at}
use Rattle.telecommand.specs.Frames.{octets}

pub octets_length : (ws : List ℕ) → length (octets ws) ≡ 2 * length ws
octets_length [] = refl
octets_length (w ∷ ws) = let e = octets_length ws in omega arith

pub octets-++ : (us ws : List ℕ) → octets (us ++ ws) ≡ octets us ++ octets ws
octets-++ [] ws = refl
octets-++ (u ∷ us) ws = ap (λ (z : List ℕ). u / 256 ∷ u % 256 ∷ z) (octets-++ us ws)

two_set : (q : List ℕ) (x y : ℕ) (r : List ℕ) (n a b : ℕ) → length q ≡ n → set (set (q ++ x ∷ y ∷ r) n a) (n + 1) b ≡ q ++ a ∷ b ∷ r
two_set q x y r n a b e =
    let l : length (q ++ a ∷ []) ≡ n + 1 = length-append q (a ∷ []) ∙ ap (λ (z : ℕ). z + 1) e in
    ap (λ (z : List ℕ). set z (n + 1) b) (set_at q x (y ∷ r) a n e ∙ sym (append_assoc q (a ∷ []) (y ∷ r)))
    ∙ (set_at (q ++ a ∷ []) y r b (n + 1) l ∙ append_assoc q (a ∷ []) (b ∷ r))

two_off : (p : List ℕ) (n : ℕ) → n + 2 ≤ length p → drop n p ≡ get_or p n 0 ∷ get_or p (n + 1) 0 ∷ drop (n + 2) p
two_off p n h =
    let l : n < length p = omega arith in
    let k : n + 1 < length p = omega arith in
    let e : n + 1 + 1 ≡ n + 2 = omega arith in
    drop_more p n 0 l ∙ ap (λ (z : List ℕ). get_or p n 0 ∷ z) (drop_more p (n + 1) 0 k ∙ ap (λ (m : ℕ). get_or p (n + 1) 0 ∷ drop m p) e)

pub word_more : (p ws : List ℕ) (i : ℕ) → i < length ws → 2 * length ws ≤ length p
    → set (set (octets (take i ws) ++ drop (2 * i) p) (2 * i) (get_or ws i 0 / 256)) (2 * i + 1) (get_or ws i 0 % 256) ≡ octets (take (i + 1) ws) ++ drop (2 * (i + 1)) p
word_more p ws i h k =
    let w = get_or ws i 0 in
    let q = octets (take i ws) in
    let t : length (take i ws) ≡ i = length-take-le i ws (omega arith) in
    let o = octets_length (take i ws) in
    let l : length q ≡ 2 * i = omega arith in
    let m : 2 * i + 2 ≤ length p = omega arith in
    let n : 2 * i + 2 ≡ 2 * (i + 1) = omega arith in
    ap (λ (z : List ℕ). set (set (q ++ z) (2 * i) (w / 256)) (2 * i + 1) (w % 256)) (two_off p (2 * i) m)
    ∙ (two_set q (get_or p (2 * i) 0) (get_or p (2 * i + 1) 0) (drop (2 * i + 2) p) (2 * i) (w / 256) (w % 256) l
    ∙ (sym (append_assoc q (w / 256 ∷ w % 256 ∷ []) (drop (2 * i + 2) p))
    ∙ (ap (λ (z : List ℕ). z ++ drop (2 * i + 2) p) (sym (octets-++ (take i ws) (w ∷ [])) ∙ ap octets (sym (take_more ws i 0 h)))
    ∙ ap (λ (z : ℕ). octets (take (i + 1) ws) ++ drop z p) n)))
