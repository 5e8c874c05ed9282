-- More laws of bits and words, which no proof of this repository cites: one bit set or cleared in a word of any width,
-- a word that is shifted in bit by bit from its highest on, and outputs that are equal part by part.
use Rattle.std.specs.Prelude.{◌≡◌, ℕ, ◌+◌, ◌-◌, ◌*◌, ◌/◌, ◌%◌, ◌^◌, ◌<◌, ◌≤◌, max, Bool, List, [], ◌∷◌, bit_and, bit_or}
use Rattle.std.proofs.Common.{sym, ap, ◌∙◌, subst, add_comm, mod-lt, zero-mul, arith, pow_pos, shr-shr, shl_exact}
use Rattle.std.proofs.Math.Nat.{zero-mod}
use Rattle.std.proofs.Math.Pow.{split, mod-mod-pow}
use Rattle.std.proofs.lemmas.Nat.{or_block, mod-pow-add}
use Rattle.std.specs.Int.Bits.{or_zero_r, or_step}
use Rattle.board.specs.Bits.{put}
use Rattle.board.specs.Meaning.{Outputs}
use Rattle.board.specs.Put.{put_word}
use Rattle.board.specs.declared.line_state.LineState.{LineState}

-- `w | (1 << k)` and `w & !(1 << k)`

or_one : (n : ℕ) → bit_or n 1 ≡ n / 2 * 2 + 1
or_one n =
    let s : bit_or n 1 ≡ bit_or (n / 2) 0 * 2 + max (n % 2) 1 = or_step n 1 in
    omega (arith, or_zero_r (n / 2))

pub set_code : (z w k : ℕ) → k < z → bit_or w ((1 * 2 ^ k) % 2 ^ z) ≡ put w 1 k 1
unfolding put
set_code z w k h =
    let h1 : 1 + k ≤ z = omega arith in
    let whole : (1 * 2 ^ k) % 2 ^ z ≡ 1 * 2 ^ k + 0 = shl_exact {a = 1} 1 k z (omega arith) h1 ∙ omega arith in
    let q = w / 2 ^ k in
    let up : q / 2 ≡ w / 2 ^ (1 + k) = shr-shr w k 1 ∙ ap (λ e. w / 2 ^ e) (add_comm k 1) in
    ap (bit_or w) whole
    ∙ ap (λ x. bit_or x (1 * 2 ^ k + 0)) (sym (split w k))
    ∙ or_block k q 1 (w % 2 ^ k) 0 (mod-lt w (pow_pos k)) (pow_pos k)
    ∙ ap (λ x. bit_or q 1 * 2 ^ k + x) (or_zero_r (w % 2 ^ k))
    ∙ ap (λ x. x * 2 ^ k + w % 2 ^ k) (or_one q ∙ ap (λ x. x * 2 + 1) up)

pub clear_code : (z w k : ℕ) → k < z → w < 2 ^ z → bit_and w (2 ^ z - 1 - (1 * 2 ^ k) % 2 ^ z) ≡ put w 1 k 0
clear_code z w k h hw =
    let m = bit_and w (2 ^ z - 1 - (1 * 2 ^ k) % 2 ^ z) in
    let zero-part : (0 * 2 ^ k) % 2 ^ z ≡ 0 = ap (λ x. x % 2 ^ z) (zero-mul (2 ^ k)) ∙ zero-mod (2 ^ z) in
    sym (or_zero_r m) ∙ ap (bit_or m) (sym zero-part) ∙ put_word z w 1 k 0 (omega arith) hw (omega arith)

-- after one clock more, the low cells hold one bit more of the word
pub shift_more : (x w i b : ℕ) → i < 32 → b ≡ w / 2 ^ (31 - i) % 2 → x % 2 ^ i ≡ w / 2 ^ (32 - i) → ((x * 2) % 2 ^ 32 + b) % 2 ^ (i + 1) ≡ w / 2 ^ (32 - (i + 1))
shift_more x w i b h e inv =
    let q = w / 2 ^ (31 - i) in
    let n = (x * 2) % 2 ^ 32 + b in
    let half : w / 2 ^ (32 - i) ≡ q / 2 = ap (λ k. w / 2 ^ k) (omega arith) ∙ sym (shr-shr w (31 - i) 1) in
    let last : w / 2 ^ (32 - (i + 1)) ≡ q = ap (λ k. w / 2 ^ k) (omega arith) in
    let up : n / 2 ≡ x % 2 ^ 31 = omega arith in
    let low : n % 2 ≡ b = omega arith in
    let whole : ◌≡◌ {A = ℕ} 31 ((31 - i) + i) = omega arith in
    let cut : x % 2 ^ 31 % 2 ^ i ≡ x % 2 ^ i = ap (λ k. x % 2 ^ k % 2 ^ i) whole ∙ mod-mod-pow x (31 - i) i in
    let high : n / 2 % 2 ^ i ≡ q / 2 = ap (λ y. y % 2 ^ i) up ∙ cut ∙ inv ∙ half in
    let step : n % 2 ^ (i + 1) ≡ (n / 2 % 2 ^ i) * 2 + n % 2 = mod-pow-add n i 1 in
    omega arith

-- after 32 clocks the cells hold the word
pub sent : (x w i : ℕ) → i ≡ 32 → x < 2 ^ 32 → x % 2 ^ i ≡ w / 2 ^ (32 - i) → x ≡ w
sent x w i e h inv =
    let f : x % 2 ^ 32 ≡ w / 2 ^ 0 = subst (λ (k : ℕ). x % 2 ^ k ≡ w / 2 ^ (32 - k)) e inv in
    omega arith

-- outputs, part by part
abbrev made : List ℕ → List Bool → List LineState → Outputs
made s h l = record { supplies = s; heaters = h; lines = l }

pub same : {s t : List ℕ} {h g : List Bool} {l m : List LineState} → s ≡ t → h ≡ g → l ≡ m → made s h l ≡ made t g m
same {s} {t} {h} {g} {l} {m} p q r = ap (λ x. made x h l) p ∙ ap (λ x. made t x l) q ∙ ap (made t g) r

pub pair : {p q r s : ℕ} → p ≡ r → q ≡ s → p ∷ q ∷ [] ≡ r ∷ s ∷ []
pair {p} {q} {r} {s} e f = ap (λ x. x ∷ q ∷ []) e ∙ ap (λ x. r ∷ x ∷ []) f
