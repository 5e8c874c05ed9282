-- A plain text that `parse` reads is the decimal of what it reads, and the other way round. Assumes nothing.
use Rattle.std.proofs.Common.{◌≡◌, ℕ, zero, suc, ◌^◌, ◌<◌, ◌≤◌, Bool, true, false, not, ◌&&◌, ◌||◌, eqb, leb, List, length, get_or, Ok, Err, Some, None, decimal, Result, sym, refl, ap, ◌∙◌, arith}
use Rattle.std.specs.Str.Parse.{AllDigits, digits_value, ParsesUnsigned}
use Rattle.std.proofs.lemmas.Bool.Decides.{nat_tests}
use Rattle.std.proofs.lemmas.Str.Parse.{IsNumeralModel, numerals_by_value, tells_digits, parse_plain}
use Rattle.std.specs.Bool.{then_some}
use Rattle.std.specs.Result.{result_ok}
use Rattle.std.proofs.lemmas.Result.{OkIff-at_ok}
use Rattle.std.proofs.lemmas.Fmt.{decimal_digit, decimal_nonempty, first_decimal, decimal_injective, decimal-digits_value, parse-decimal}
use Rattle.script.specs.Numbers.{plain}
use Rattle.script.specs.Reading.{Reads}

-- a call's result, by what `ok` makes of it

pub ok_of : {T E : Type 0} (r : Result T E) (x : T) → result_ok r ≡ Some x → r ≡ Ok x
ok_of {T} {E} (Ok y) x e = cc
ok_of {T} {E} (Err d) x e = cc

pub err_of : {T E : Type 0} (r : Result T E) → result_ok r ≡ None → (d : E) × (r ≡ Err d)
err_of (Ok y) e = let z : ⊥ = cc in absurd z
err_of (Err d) e = (d, refl)

pub own : IsNumeralModel (AllDigits 10) (digits_value 10)
own = numerals_by_value (AllDigits 10) tells_digits

shape : ℕ → ℕ → Bool
shape l f = (not (eqb l 0) && not (eqb f 43)) && (not (eqb f 48) || eqb l 1)

some : (l f : ℕ) → shape l f ≡ true → 0 < l
unfolding shape
some l f p = grind (arith, nat_tests)

signless : (l f : ℕ) → shape l f ≡ true → f ≡ 43 → ⊥
unfolding shape
signless l f p e = grind (arith, nat_tests)

lead : (l f : ℕ) → shape l f ≡ true → f ≡ 48 → l ≡ 1
unfolding shape
lead l f p e = grind (arith, nat_tests)

shaped : (l f : ℕ) → 0 < l → 48 < f → shape l f ≡ true
unfolding shape
shaped l f h g = grind (arith, nat_tests)

pub decimal_plain : (n : ℕ) → n < 2 ^ 64 → plain (decimal n) ≡ true
unfolding shape
decimal_plain zero h = rw (decimal_digit 0 (omega arith)) refl
decimal_plain (suc n) h = shaped (length (decimal (suc n))) (get_or (decimal (suc n)) 0 0) (decimal_nonempty (suc n) h) (first_decimal (suc n) (omega arith) h)

module _ {E : Type 0} (bs : List ℕ) (r : Result ℕ E) (h : ParsesUnsigned 32 10 bs r) where
  pub read_below : plain bs ≡ true → (n : ℕ) → result_ok r ≡ Some n → (n < 2 ^ 32) × (decimal n ≡ bs)
  unfolding shape
  read_below p n e =
      let got = OkIff-at_ok r _ _ n (parse_plain own 32 bs r h (signless (length bs) (get_or bs 0 0) p)) (ok_of r n e) in
      (omega (arith, got.0.2, got.1), ap decimal got.1 ∙ decimal-digits_value own bs got.0.0 got.0.1 (lead (length bs) (get_or bs 0 0) p) (omega (arith, got.0.2)))

  -- a decimal is read back
  pub reads_some : (n : ℕ) → n < 2 ^ 32 → decimal n ≡ bs → result_ok r ≡ Some n
  reads_some n small e = ap result_ok (parse-decimal 32 n bs r small (omega arith) (sym e) h)

-- a number that a text writes, where it is not above a limit
pub read_up_to : (bs : List ℕ) (n most : ℕ) (b : Bool) → decimal n ≡ bs → n < 2 ^ 32 → most < 2 ^ 32 → b ≡ leb n most → Reads (λ m. m ≤ most) decimal bs (then_some b n)
read_up_to bs n most true e f g h = (grind (arith, nat_tests), e)
read_up_to bs n most false e f g h = λ m small d.
    let same = decimal_injective m n (omega arith) (omega arith) (d ∙ sym e) in
    grind (arith, nat_tests)
