-- What the rules do to the lines, supplies and heaters.
use Rattle.std.proofs.Common.{◌≡◌, ℕ, zero, suc, ◌-◌, ◌<◌, Bool, true, false, cond, eqb, ltb, List, length, get_or, set, Some, None, Option, sym, refl, ap, ◌∙◌, arith, length-set, get_or-set_other, get_or-set_same, lt-ltb, eqb-true}
use borrow.Author.Tests.{eqb-false}
use Rattle.board.specs.Lines.{is_on}
use Rattle.board.specs.Meaning.{Outputs, Whole, with_supply, with_heater, with_line}
use Rattle.board.specs.declared.line_state.LineState.{LineState}
use Rattle.board.specs.declared.line_state.LineState.TheVariants.{Off, On}
use Rattle.head.specs.Events.{less_out}
use Rattle.head.specs.declared.Mode.{Mode}
use Rattle.head.specs.declared.Mode.TheVariants.{Safe, Checkout}
use Rattle.head.specs.Countdown.{Drive, lessened}
use Rattle.interlock.proofs.Parts.{less_by}

pub at_set : {A : Type 0} (ls : List A) (l : ℕ) (b : A) (k : ℕ) (x : A) → k < length ls → get_or (set ls l b) k x ≡ cond (eqb k l) b (get_or ls k x)
at_set ls l b k x lt = go (eqb k l) refl
  where
    go : (t : Bool) → eqb k l ≡ t → get_or (set ls l b) k x ≡ cond t b (get_or ls k x)
    go true e = let same : k ≡ l = eqb-true _ _ e in ap (λ i. get_or (set ls i b) k x) (sym same) ∙ get_or-set_same ls k b x lt
    go false e = get_or-set_other ls l k b x (eqb-false _ _ e)

-- which line a drive has on
abbrev pub lit : Option Drive → ℕ → Bool
lit None k = false
lit (Some d) k = eqb k d.what

abbrev pub line_on_lem : Outputs → ℕ → Bool
line_on_lem o k = is_on (get_or o.lines k Off)

abbrev pub LinesAre : Option Drive → Outputs → Type 0
LinesAre dr o = (k : ℕ) → k < 6 → line_on_lem o k ≡ lit dr k

abbrev pub OnlyClosing : Option Drive → Type 0
OnlyClosing None = Unit {0}
OnlyClosing (Some d) = d.what ≡ 5

abbrev pub Unlit : Outputs → Type 0
Unlit o = (i : ℕ) → i < 2 → (get_or o.supplies i 0 ≡ 0) × (get_or o.heaters i false ≡ false)

abbrev pub SafeIs : Mode → Outputs → Option Drive → Type 0
SafeIs Safe o d = Unlit o × OnlyClosing d
SafeIs Checkout o d = Unit {0}

set_on : (b : Bool) (s : LineState) → is_on s ≡ false → is_on (cond b On s) ≡ b
set_on true s e = refl
set_on false s e = e

set_off : (b : Bool) (s : LineState) → is_on s ≡ b → is_on (cond b Off s) ≡ false
set_off true s e = refl
set_off false s e = e

pub lines_on : (o : Outputs) (l n : ℕ) → Whole o → LinesAre None o → LinesAre (Some (record { what = l; left = n })) (with_line o l On)
lines_on o l n w e k lt = ap is_on (at_set o.lines l On k Off (omega (arith, w.lines))) ∙ set_on (eqb k l) (get_or o.lines k Off) (e k lt)

pub lines_off : (o : Outputs) (d : Drive) → Whole o → LinesAre (Some d) o → LinesAre None (with_line o d.what Off)
lines_off o d w e k lt = ap is_on (at_set o.lines d.what Off k Off (omega (arith, w.lines))) ∙ set_off (eqb k d.what) (get_or o.lines k Off) (e k lt)

pub whole_line : (o : Outputs) (l : ℕ) (b : LineState) → Whole o → Whole (with_line o l b)
whole_line o l b w = record { supplies = w.supplies; heaters = w.heaters; lines = length-set o.lines l b ∙ w.lines }

pub whole_supply : (o : Outputs) (i v : ℕ) → Whole o → Whole (with_supply o i v)
whole_supply o i v w = record { supplies = length-set o.supplies i v ∙ w.supplies; heaters = w.heaters; lines = w.lines }

pub whole_heater : (o : Outputs) (i : ℕ) (b : Bool) → Whole o → Whole (with_heater o i b)
whole_heater o i b w = record { supplies = w.supplies; heaters = length-set o.heaters i b ∙ w.heaters; lines = w.lines }

-- both set off
pub both_off : {A : Type 0} (ls : List A) (x : A) (i : ℕ) → length ls ≡ 2 → i < 2 → get_or (set (set ls 0 x) 1 x) i x ≡ x
both_off ls x zero w lt = at_set (set ls 0 x) 1 x 0 x (omega (arith, length-set ls 0 x)) ∙ at_set ls 0 x 0 x (omega arith)
both_off ls x (suc zero) w lt = at_set (set ls 0 x) 1 x 1 x (omega (arith, length-set ls 0 x))
both_off ls x (suc (suc i)) w lt = absurd (omega arith)

-- ---- ticks

abbrev pub Long : Option Drive → Type 0
Long None = Unit {0}
Long (Some d) = 0 < d.left

pub less_none : (dr : Option Drive) → Long dr → dr ≡ less_by 0 dr
less_none None k = refl
less_none (Some d) k =
    let m : d.left ≡ d.left - 0 = omega arith in
    ap (λ x. Some (record { what = d.what; left = x })) m ∙ ap (λ t. cond t (Some (record { what = d.what; left = d.left - 0 })) None) (sym (lt-ltb 0 d.left k))

pub tick_whole : (dr : Option Drive) (o : Outputs) → Whole o → Whole (less_out dr o)
tick_whole None o w = w
tick_whole (Some d) o w = go (ltb 1 d.left)
  where
    go : (t : Bool) → Whole (cond t o (with_line o d.what Off))
    go true = w
    go false = whole_line o d.what Off w

pub tick_lines : (dr : Option Drive) (o : Outputs) → Whole o → LinesAre dr o → LinesAre (lessened dr) (less_out dr o)
tick_lines None o w e = e
tick_lines (Some d) o w e = go (ltb 1 d.left)
  where
    go : (t : Bool) → LinesAre (cond t (Some (record { what = d.what; left = d.left - 1 })) None) (cond t o (with_line o d.what Off))
    go true = e
    go false = lines_off o d w e

pub tick_supplies : (dr : Option Drive) (o : Outputs) → ((less_out dr o).supplies ≡ o.supplies) × ((less_out dr o).heaters ≡ o.heaters)
tick_supplies None o = (refl, refl)
tick_supplies (Some d) o = go (ltb 1 d.left)
  where
    go : (t : Bool) → ((cond t o (with_line o d.what Off)).supplies ≡ o.supplies) × ((cond t o (with_line o d.what Off)).heaters ≡ o.heaters)
    go true = (refl, refl)
    go false = (refl, refl)
