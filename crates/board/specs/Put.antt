-- The laws of `put` and `bits`.
use Rattle.std.specs.Prelude.{◌≡◌, ℕ, zero, suc, ◌+◌, ◌-◌, ◌*◌, ◌/◌, ◌%◌, ◌^◌, ◌<◌, ◌≤◌, Bool, true, false, ◌∷◌, length, ◌==◌, bit_and, bit_or, nat_eq, slice_index_or, slice_set, refl}
use Rattle.std.proofs.Common.{sym, ap, ◌∙◌, subst, mul_assoc, add-mul, add_comm, mod-lt, add-one, arith, pow-add, pow_pos, pow_mono, shr-shr, shl_exact}
use Rattle.std.proofs.lemmas.Nat.{and_block, or_block, or_shifted, and_mask, mod-pow-add}
use Rattle.std.specs.Int.Bits.{or_zero_r}
use Rattle.std.proofs.Math.Pow.{split, high, low, mod-mod-pow, shr_mod, ones_split, ones_lt}
use mir.Val.{bool_byte}
use Rattle.board.specs.Bits.{bits, put}

pub length_bits : (n w : ℕ) → length (bits n w) ≡ n
unfolding bits
length_bits zero w = refl
length_bits (suc n) w = ap suc (length_bits n (w / 2))

-- only the low bits count
pub bits_mod : (n w v : ℕ) → w % 2 ^ n ≡ v % 2 ^ n → bits n w ≡ bits n v
unfolding bits
bits_mod zero w v e = refl
bits_mod (suc n) w v e =
    let f : (x : ℕ) → x % 2 ^ suc n ≡ (x / 2 % 2 ^ n) * 2 + x % 2 = λ x. ap (λ q. x % 2 ^ q) (sym (add-one n)) ∙ mod-pow-add x n 1 in
    let g : (w / 2 % 2 ^ n) * 2 + w % 2 ≡ (v / 2 % 2 ^ n) * 2 + v % 2 = sym (f w) ∙ e ∙ f v in
    let a : w / 2 % 2 ^ n ≡ v / 2 % 2 ^ n = omega arith in
    let b : w % 2 ≡ v % 2 = omega arith in
    ap (λ x. (x == 1) ∷ bits n (w / 2)) b ∙ ap (λ l. (v % 2 == 1) ∷ l) (bits_mod n (w / 2) (v / 2) a)

pub get_or_bits : (n w i : ℕ) → i < n → slice_index_or (bits n w) i false ≡ (w / 2 ^ i % 2 == 1)
unfolding bits
get_or_bits zero w i h = absurd (omega arith)
get_or_bits (suc n) w zero h = ap (λ x. nat_eq (x % 2) 1) (omega arith)
get_or_bits (suc n) w (suc i) h = get_or_bits n (w / 2) i (omega arith) ∙ ap (λ x. nat_eq (x % 2) 1) (shr-shr w 1 i ∙ ap (λ k. w / 2 ^ k) (omega arith))

module _ (w j k v : ℕ) where
  pub put_low : put w j k v % 2 ^ k ≡ w % 2 ^ k
  unfolding put
  put_low = low (w / 2 ^ (j + k) * 2 ^ j + v) k (mod-lt w (pow_pos k))

  pub put_high : put w j k v / 2 ^ k ≡ w / 2 ^ (j + k) * 2 ^ j + v
  unfolding put
  put_high = high (w / 2 ^ (j + k) * 2 ^ j + v) k (mod-lt w (pow_pos k))

  pub put_get : v < 2 ^ j → put w j k v / 2 ^ k % 2 ^ j ≡ v
  put_get h = ap (λ x. x % 2 ^ j) put_high ∙ low (w / 2 ^ (j + k)) j h

  -- below the field
  pub put_below : (m : ℕ) → m ≤ k → put w j k v % 2 ^ m ≡ w % 2 ^ m
  put_below m h =
      let e : (k - m) + m ≡ k = omega arith in
      let f : (x : ℕ) → x % 2 ^ k % 2 ^ m ≡ x % 2 ^ m = λ x. ap (λ q. x % 2 ^ q % 2 ^ m) (sym e) ∙ mod-mod-pow x (k - m) m in
      sym (f (put w j k v)) ∙ ap (λ x. x % 2 ^ m) put_low ∙ f w

  put_top : v < 2 ^ j → put w j k v / 2 ^ (k + j) ≡ w / 2 ^ (k + j)
  put_top h =
      sym (shr-shr (put w j k v) k j) ∙ ap (λ x. x / 2 ^ j) put_high ∙ high (w / 2 ^ (j + k)) j h ∙ ap (λ q. w / 2 ^ q) (add_comm j k)

  -- above the field
  pub put_above : (m : ℕ) → v < 2 ^ j → k + j ≤ m → put w j k v / 2 ^ m ≡ w / 2 ^ m
  put_above m h l =
      let e : (k + j) + (m - (k + j)) ≡ m = omega arith in
      let f : (x : ℕ) → x / 2 ^ (k + j) / 2 ^ (m - (k + j)) ≡ x / 2 ^ m = λ x. shr-shr x (k + j) (m - (k + j)) ∙ ap (λ q. x / 2 ^ q) e in
      sym (f (put w j k v)) ∙ ap (λ x. x / 2 ^ (m - (k + j))) (put_top h) ∙ f w

-- a field seen from bit m on
pub put_shr : (w j i m v : ℕ) → put w j (i + m) v / 2 ^ m ≡ put (w / 2 ^ m) j i v
unfolding put
put_shr w j i m v =
    let x = w / 2 ^ (j + (i + m)) * 2 ^ j + v in
    let e : w / 2 ^ (j + (i + m)) ≡ w / 2 ^ m / 2 ^ (j + i) = ap (λ q. w / 2 ^ q) (omega arith) ∙ sym (shr-shr w m (j + i)) in
    let s : x * 2 ^ (i + m) ≡ (x * 2 ^ i) * 2 ^ m = ap (λ q. x * q) (pow-add 2 i m) ∙ sym (mul_assoc x (2 ^ i) (2 ^ m)) in
    let d : (x * 2 ^ i + w / 2 ^ m % 2 ^ i) * 2 ^ m ≡ (x * 2 ^ i) * 2 ^ m + (w / 2 ^ m % 2 ^ i) * 2 ^ m = add-mul (x * 2 ^ i) (w / 2 ^ m % 2 ^ i) (2 ^ m) in
    let t : x * 2 ^ (i + m) + w % 2 ^ (i + m) ≡ (x * 2 ^ i + w / 2 ^ m % 2 ^ i) * 2 ^ m + w % 2 ^ m = omega (arith, mod-pow-add w i m) in
    ap (λ q. q / 2 ^ m) t ∙ high (x * 2 ^ i + w / 2 ^ m % 2 ^ i) m (mod-lt w (pow_pos m)) ∙ ap (λ q. (q * 2 ^ j + v) * 2 ^ i + w / 2 ^ m % 2 ^ i) e

pub byte_small : (b : Bool) → bool_byte b < 2
byte_small true = omega arith
byte_small false = omega arith

byte_test : (b : Bool) → (bool_byte b == 1) ≡ b
byte_test true = refl
byte_test false = refl

pub bits_put : (n w i : ℕ) (b : Bool) → bits n (put w 1 i (bool_byte b)) ≡ slice_set (bits n w) i b
unfolding bits put
bits_put zero w i b = refl
bits_put (suc n) w zero b =
    let small : bool_byte b < 2 = byte_small b in
    let a : put w 1 0 (bool_byte b) % 2 ≡ bool_byte b = omega arith in
    let d : put w 1 0 (bool_byte b) / 2 ≡ w / 2 = omega arith in
    ap (λ x. (x == 1) ∷ bits n (put w 1 0 (bool_byte b) / 2)) a ∙ ap (λ x. (bool_byte b == 1) ∷ bits n x) d ∙ ap (λ x. x ∷ bits n (w / 2)) (byte_test b)
bits_put (suc n) w (suc i) b =
    let e : put w 1 (suc i) (bool_byte b) / 2 ≡ put (w / 2) 1 i (bool_byte b) = ap (λ q. put w 1 q (bool_byte b) / 2) (sym (add-one i)) ∙ put_shr w 1 i 1 (bool_byte b) in
    let f : put w 1 (suc i) (bool_byte b) % 2 ≡ w % 2 = put_below w 1 (suc i) (bool_byte b) 1 (omega arith) in
    ap (λ x. (x == 1) ∷ bits n (put w 1 (suc i) (bool_byte b) / 2)) f ∙ ap (λ x. (w % 2 == 1) ∷ bits n x) e ∙ ap (λ l. (w % 2 == 1) ∷ l) (bits_put n (w / 2) i b)

-- the code
pub put_code : (n w j k v : ℕ) → w < 2 ^ (n + (j + k)) → v < 2 ^ j → bit_or (bit_and w (2 ^ (n + (j + k)) - 1 - (2 ^ j - 1) * 2 ^ k)) (v * 2 ^ k) ≡ put w j k v
unfolding put
put_code n w j k v hw hv =
    let K = j + k in
    let mask : 2 ^ (n + K) - 1 - (2 ^ j - 1) * 2 ^ k ≡ (2 ^ n - 1) * 2 ^ K + (2 ^ k - 1) = omega (arith, ones_split n K, ones_split j k) in
    let lt : 2 ^ k - 1 < 2 ^ K = omega (arith, pow_mono {i = k} {j = K} (omega arith), pow_pos k) in
    let cut : bit_and w ((2 ^ n - 1) * 2 ^ K + (2 ^ k - 1)) ≡ bit_and (w / 2 ^ K) (2 ^ n - 1) * 2 ^ K + bit_and (w % 2 ^ K) (2 ^ k - 1) =
    ap (λ q. bit_and q ((2 ^ n - 1) * 2 ^ K + (2 ^ k - 1))) (sym (split w K)) ∙ and_block K (w / 2 ^ K) (2 ^ n - 1) (w % 2 ^ K) (2 ^ k - 1) (mod-lt w (pow_pos K)) lt in
    let hi : bit_and (w / 2 ^ K) (2 ^ n - 1) ≡ w / 2 ^ K = and_mask (w / 2 ^ K) n ∙ shr_mod n K hw in
    let lo : bit_and (w % 2 ^ K) (2 ^ k - 1) ≡ w % 2 ^ k = and_mask (w % 2 ^ K) k ∙ mod-mod-pow w j k in
    let h = w / 2 ^ K in
    let left : h * 2 ^ K ≡ (h * 2 ^ j) * 2 ^ k = ap (λ q. h * q) (pow-add 2 j k) ∙ sym (mul_assoc h (2 ^ j) (2 ^ k)) in
    let kept : bit_and w (2 ^ (n + K) - 1 - (2 ^ j - 1) * 2 ^ k) ≡ (h * 2 ^ j) * 2 ^ k + w % 2 ^ k =
    ap (bit_and w) mask ∙ cut ∙ ap (λ q. q * 2 ^ K + bit_and (w % 2 ^ K) (2 ^ k - 1)) hi ∙ ap (λ q. h * 2 ^ K + q) lo ∙ ap (λ q. q + w % 2 ^ k) left in
    let joined : bit_or ((h * 2 ^ j) * 2 ^ k + w % 2 ^ k) (v * 2 ^ k + 0) ≡ bit_or (h * 2 ^ j) v * 2 ^ k + bit_or (w % 2 ^ k) 0 =
    or_block k (h * 2 ^ j) v (w % 2 ^ k) 0 (mod-lt w (pow_pos k)) (pow_pos k) in
    let z : v * 2 ^ k ≡ v * 2 ^ k + 0 = omega arith in
    ap (λ q. bit_or q (v * 2 ^ k)) kept ∙ ap (bit_or ((h * 2 ^ j) * 2 ^ k + w % 2 ^ k)) z ∙ joined ∙ ap (λ q. q * 2 ^ k + bit_or (w % 2 ^ k) 0) (or_shifted h j v hv) ∙ ap (λ q. (h * 2 ^ j + v) * 2 ^ k + q) (or_zero_r (w % 2 ^ k))

-- `(w & !(mask << k)) | (v << k)` at a type of z bits, where the mask is j ones
pub put_word : (z w j k v : ℕ) → j + k ≤ z → w < 2 ^ z → v < 2 ^ j → bit_or (bit_and w (2 ^ z - 1 - ((2 ^ j - 1) * 2 ^ k) % 2 ^ z)) ((v * 2 ^ k) % 2 ^ z) ≡ put w j k v
put_word z w j k v hz hw hv =
    let e : (z - (j + k)) + (j + k) ≡ z = omega arith in
    let lt : w < 2 ^ ((z - (j + k)) + (j + k)) = subst (λ (q : ℕ). w < 2 ^ q) (sym e) hw in
    rw (shl_exact j k z (ones_lt j) hz, shl_exact j k z hv hz) (subst (λ (q : ℕ). bit_or (bit_and w (2 ^ q - 1 - (2 ^ j - 1) * 2 ^ k)) (v * 2 ^ k) ≡ put w j k v) e (put_code (z - (j + k)) w j k v lt hv))

-- the code of `with_bit`
pub put_code8 : (w k v : ℕ) → w < 2 ^ 8 → k < 8 → v < 2 → bit_or (bit_and w (2 ^ 8 - 1 - (1 * 2 ^ k) % 2 ^ 8)) ((v * 2 ^ k) % 2 ^ 8) ≡ put w 1 k v
put_code8 w k v hw hk hv = put_word 8 w 1 k v (omega arith) hw hv
