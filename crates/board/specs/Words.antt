-- The word of a chain: how it is shifted in, and what a field put into it means.
use Rattle.std.specs.Prelude.{◌≡◌, ℕ, zero, suc, ◌+◌, ◌-◌, ◌*◌, ◌/◌, ◌%◌, ◌^◌, ◌<◌, ◌≤◌, Bool, false, ◌==◌, bit_and, bit_or, nat_eq, slice_index_or, refl}
use Rattle.std.proofs.Common.{sym, ap, ◌∙◌, add_comm, arith, shr-shr}
use Rattle.std.proofs.Math.Pow.{mod-mod-pow}
use mir.Val.{bool_byte}
use Rattle.std.proofs.lemmas.Nat.{one_shl, or_shifted, and_mask, mod-pow-add}
use Rattle.board.specs.Meaning.{Whole, with_supply, with_heater, with_line}
use Rattle.board.specs.Bits.{bits, put}
use Rattle.board.specs.Chain.{word_outputs}
use Rattle.board.specs.Lines.{is_on}
use Rattle.board.specs.declared.line_state.LineState.{LineState}
use Rattle.board.specs.LinesLemmas.{lines_length, lines_put}
use Rattle.board.specs.Put.{length_bits, bits_mod, bits_put, get_or_bits, put_get, put_below, put_above, put_shr, put_word, byte_small}

pub word_whole : (w : ℕ) → Whole (word_outputs w)
word_whole w = record { supplies = refl; heaters = length_bits 2 (w / 2 ^ 6); lines = lines_length 6 w }

-- shifting

pub shift_in : (x : ℕ) (b : Bool) → bit_or ((x * 2) % 2 ^ 32) (bool_byte b) ≡ (x * 2) % 2 ^ 32 + bool_byte b
shift_in x b =
    let e : (x * 2) % 2 ^ 32 ≡ (x % 2 ^ 31) * 2 ^ 1 = omega arith in
    rw e (or_shifted (x % 2 ^ 31) 1 (bool_byte b) (byte_small b))

digit_byte : (d : ℕ) → d < 2 → bool_byte (d == 1) ≡ d
digit_byte zero h = refl
digit_byte (suc zero) h = refl
digit_byte (suc (suc d)) h = absurd (omega arith)

pub test_byte : (n : ℕ) → bool_byte (bit_and n 1 == 1) ≡ n % 2
test_byte n = rw (and_mask n 1) (digit_byte (n % 2) (omega arith))

-- after one clock more, the low cells hold one bit more of the word
pub shift_down : (x w k b : ℕ) → 0 < k → k ≤ 32 → b ≡ w / 2 ^ (k - 1) % 2 → x % 2 ^ (32 - k) ≡ w / 2 ^ k → ((x * 2) % 2 ^ 32 + b) % 2 ^ (32 - (k - 1)) ≡ w / 2 ^ (k - 1)
shift_down x w k b h l e inv =
    let i = 32 - k in
    let q = w / 2 ^ (k - 1) in
    let n = (x * 2) % 2 ^ 32 + b in
    let half : w / 2 ^ k ≡ q / 2 = ap (λ j. w / 2 ^ j) (omega arith) ∙ sym (shr-shr w (k - 1) 1) in
    let up : n / 2 ≡ x % 2 ^ 31 = omega arith in
    let low : n % 2 ≡ b = omega arith in
    let whole : ◌≡◌ {A = ℕ} 31 ((k - 1) + i) = omega arith in
    let cut : x % 2 ^ 31 % 2 ^ i ≡ x % 2 ^ i = ap (λ j. x % 2 ^ j % 2 ^ i) whole ∙ mod-mod-pow x (k - 1) i in
    let high : n / 2 % 2 ^ i ≡ q / 2 = ap (λ y. y % 2 ^ i) up ∙ cut ∙ inv ∙ half in
    let step : n % 2 ^ (i + 1) ≡ (n / 2 % 2 ^ i) * 2 + n % 2 = mod-pow-add n i 1 in
    let more : n % 2 ^ (32 - (k - 1)) ≡ n % 2 ^ (i + 1) = ap (λ j. n % 2 ^ j) (omega arith) in
    omega arith

pub shift_below : (x : ℕ) (b : Bool) → (x * 2) % 2 ^ 32 + bool_byte b < 2 ^ 32
shift_below x b = omega (arith, byte_small b)

-- fields

pub put_rest : (w j k v : ℕ) → w < 2 ^ 24 → j + k ≤ 24 → v < 2 ^ j → put w j k v < 2 ^ 24
put_rest w j k v hw hp hv = omega (arith, put_above w j k v 24 hv (omega arith))

pub line_word : (w i : ℕ) (s : LineState) → i < 6 → word_outputs (put w 1 i (bool_byte (is_on s))) ≡ with_line (word_outputs w) i s
line_word w i s h =
    let b = bool_byte (is_on s) in
    let up : (m : ℕ) → 6 ≤ m → put w 1 i b / 2 ^ m ≡ w / 2 ^ m = λ m l. put_above w 1 i b m (byte_small (is_on s)) (omega arith) in
    cc (up 6 (omega arith), up 8 (omega arith), up 16 (omega arith), lines_put 6 w i s)

pub heater_word : (w i : ℕ) (b : Bool) → i < 2 → word_outputs (put w 1 (6 + i) (bool_byte b)) ≡ with_heater (word_outputs w) i b
heater_word w i b h =
    let v = bool_byte b in
    let up : (m : ℕ) → 8 ≤ m → put w 1 (6 + i) v / 2 ^ m ≡ w / 2 ^ m = λ m l. put_above w 1 (6 + i) v m (byte_small b) (omega arith) in
    let low = bits_mod 6 (put w 1 (6 + i) v) w (put_below w 1 (6 + i) v 6 (omega arith)) in
    cc (up 8 (omega arith), up 16 (omega arith), add_comm 6 i, put_shr w 1 i 6 v, bits_put 2 (w / 2 ^ 6) i b, low)

-- a supply lies above the heaters and the lines
low_part : (w k v : ℕ) → (put w 8 (k + 8) v / 2 ^ 6 % 2 ^ 2 ≡ w / 2 ^ 6 % 2 ^ 2) × (put w 8 (k + 8) v % 2 ^ 6 ≡ w % 2 ^ 6)
low_part w k v = (
  ap (λ q. put w 8 q v / 2 ^ 6 % 2 ^ 2) (omega arith) ∙ ap (λ x. x % 2 ^ 2) (put_shr w 8 (k + 2) 6 v) ∙ put_below (w / 2 ^ 6) 8 (k + 2) v 2 (omega arith),
  put_below w 8 (k + 8) v 6 (omega arith),
)

pub supply_word : (w i v : ℕ) → i < 2 → v < 2 ^ 8 → word_outputs (put w 8 (8 + 8 * i) v) ≡ with_supply (word_outputs w) i v
supply_word w zero v h l =
    let p = low_part w 0 v in
    cc (put_get w 8 8 v l, put_above w 8 8 v 16 l (omega arith), bits_mod 2 _ _ p.0, bits_mod 6 _ _ p.1)
supply_word w (suc zero) v h l =
    let p = low_part w 8 v in
    cc (put_shr w 8 8 8 v, put_below (w / 2 ^ 8) 8 8 v 8 (omega arith), put_get w 8 16 v l, bits_mod 2 _ _ p.0, bits_mod 6 _ _ p.1)
supply_word w (suc (suc i)) v h l = absurd (omega arith)

-- the code of `put_field`
pub put_code32 : (w j k v : ℕ) → w < 2 ^ 24 → j + k ≤ 24 → v < 2 ^ j → bit_or (bit_and w (2 ^ 32 - 1 - (((1 * 2 ^ j) % 2 ^ 32 - 1) * 2 ^ k) % 2 ^ 32)) ((v * 2 ^ k) % 2 ^ 32) ≡ put w j k v
put_code32 w j k v hw hp hv = rw (one_shl j 32 (omega arith)) (put_word 32 w j k v (omega arith) (omega arith) hv)

-- reading

pub field_code : (x j : ℕ) → j ≤ 8 → bit_and x ((1 * 2 ^ j) % 2 ^ 32 - 1) ≡ x % 2 ^ j
field_code x j h = rw (one_shl j 32 (omega arith)) (and_mask x j)

pub heater_bit : (w i : ℕ) → i < 2 → (w / 2 ^ (6 + i) % 2 == 1) ≡ slice_index_or (bits 2 (w / 2 ^ 6)) i false
heater_bit w i h = sym (get_or_bits 2 (w / 2 ^ 6) i h ∙ ap (λ x. nat_eq (x % 2) 1) (shr-shr w 6 i))
