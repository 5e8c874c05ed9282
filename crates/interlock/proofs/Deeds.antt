-- What an event comes to, in eight kinds, and that each keeps the invariant.
use Rattle.std.proofs.Common.{◌≡◌, ℕ, ◌-◌, ◌*◌, ◌<◌, ◌≤◌, Bool, true, false, cond, eqb, ltb, ◌⊎◌, List, [], ◌∷◌, length, get_or, set, Some, None, Option, sym, refl, ap, ◌∙◌, subst, inl, inr, ⊎_elim, arith, length-set, lt-ltb, eq-eqb, ne_eqb, eqb-true}
use borrow.Author.Tests.{eqb-false, both_ways}
use Rattle.board.specs.Meaning.{Outputs, Whole, with_supply, with_heater, with_line}
use Rattle.board.specs.declared.line_state.LineState.TheVariants.{Off, On}
use Rattle.head.specs.Parameters.{range_at}
use Rattle.head.specs.State.{State, st, mode_is, waiting_is}
use Rattle.head.specs.Effects.{starts, door_ticks, shut_from, secured, acts}
use Rattle.head.specs.Events.{taken, ticked, less_out}
use Rattle.head.specs.declared.Mode.{Mode}
use Rattle.head.specs.declared.Mode.TheVariants.{Safe, Checkout}
use Rattle.head.specs.declared.Order.{Order}
use Rattle.head.specs.declared.Order.TheVariants.{SetParameter, OpenDoor, SetSupply, FireRelease}
use Rattle.head.specs.Countdown.{Waiting, Drive, lessened}
use Rattle.head.specs.declared.Timed.{Timed}
use Rattle.head.specs.declared.Meters.{Meters}
use Rattle.interlock.specs.Events.{supplies_read, heaters_read, lines_read}
use Rattle.interlock.specs.History.{powered, Did, Past, weight, sampling, Accepted, IsFrame, Confirmed, Sets, Leaves, EntersSafe, DoorTime, Starts, fires, opens, closes, shuts, Runs, last_shown, line_reads}
use Rattle.interlock.specs.declared.step.Shown.{Shown}
use Rattle.interlock.proofs.Agos.{ago_now}
use Rattle.interlock.proofs.Orders.{Taken, ConfirmedOrder, not_critical, one_command}
use Rattle.interlock.proofs.Parts.{ModeIs, WaitIs, SupplyIs, HeaterIs, ParamIs, Driven, DriveIs, less_by, mode_kept, mode_safe, supply_kept, supply_cleared, supply_set, heater_kept, heater_cleared, heater_set, param_kept, param_set, drive_less, drive_starts, drive_ends, drive_closing, wait_less, none_waits, none_after, given_one}
use Rattle.interlock.proofs.Boards.{at_set, line_on_lem, LinesAre, OnlyClosing, Unlit, SafeIs, lines_on, lines_off, whole_line, both_off, Long, less_none, tick_lines, tick_supplies}

-- how head and board read in a state
pub record ReadIs (x : Shown) (s : State) : Type 0 where
  pub mode_read : x.mode ≡ s.core.mode
  pub parameters_read : x.parameters ≡ s.core.parameters
  pub supplies_read_lem : x.supplies ≡ supplies_read s.out
  pub heaters_read_lem : x.heaters ≡ heaters_read s.out
  pub lines_read_lem : x.lines ≡ lines_read s.out

-- the state that a history leaves
pub record Now (h : Past) (s : State) : Type 0 where
  pub mode_is : ModeIs s.core.mode h
  pub wait_is : WaitIs s.core.waiting h
  pub supplies_are : (i : ℕ) → i < 2 → SupplyIs i (get_or s.out.supplies i 0) h
  pub heaters_are : (i : ℕ) → i < 2 → HeaterIs i (get_or s.out.heaters i false) h
  pub params_are : (i : ℕ) → i < 25 → ParamIs i (get_or s.core.parameters i 0) h
  pub full : length s.core.parameters ≡ 25
  pub ranged : (i : ℕ) → i < 25 → ((range_at i).lowest ≤ get_or s.core.parameters i 0) × (get_or s.core.parameters i 0 ≤ 255)
  pub drive_is : DriveIs s.core.drive h
  pub lines_are : LinesAre s.core.drive s.out
  pub safe_is : SafeIs s.core.mode s.out s.core.drive
  pub reads : ReadIs (last_shown h) s

pub data Deed : Type 0 where
  rests : Option Waiting → Deed
  heats : ℕ → ℕ → Deed
  offs : Deed
  checks : Deed
  passes : Deed
  acting : Order → Deed
  closing : Deed
  enters : Deed

-- from 5 on a drive may start
abbrev pub kind : Deed → ℕ
kind (rests w) = 0
kind (heats i v) = 1
kind offs = 2
kind checks = 3
kind passes = 4
kind (acting o) = 5
kind closing = 6
kind enters = 7

abbrev pub lasts : Deed → ℕ
lasts (rests w) = 0
lasts (heats i v) = 0
lasts offs = 0
lasts checks = 0
lasts passes = 1
lasts (acting o) = 0
lasts closing = 0
lasts enters = 0

abbrev pub apply : Deed → State → State
apply (rests w) s = waiting_is w s
apply (heats i v) s = st s.core.mode None s.core.drive s.core.parameters s.core.meters (with_heater s.out i (eqb v 1))
apply offs s = st s.core.mode None s.core.drive s.core.parameters s.core.meters (with_supply (with_supply s.out 0 0) 1 0)
apply checks s = st Checkout None s.core.drive s.core.parameters s.core.meters s.out
apply passes s = ticked s
apply (acting o) s = acts o (taken s)
apply closing s = starts 5 (door_ticks s) (taken s)
apply enters s = secured (mode_is Safe s)

-- what the history says of it
abbrev pub Is : Deed → Past → Type 0
Is (rests w) h = WaitIs w h
Is (heats i v) h = Accepted 0x6611 (i ∷ v ∷ []) h
Is offs h = Accepted 0x660e [] h
Is checks h = Accepted 0x6603 [] h
Is passes h = IsFrame h → ⊥
Is (acting o) h = ConfirmedOrder o h
Is closing h = Accepted 0x660d [] h
Is enters h = EntersSafe h

-- what the checks passed say of the state
abbrev pub May : Order → State → Type 0
May (SetParameter i v) s = (i < 25) × ((range_at i).lowest ≤ v) × (v ≤ 255)
May OpenDoor s = (s.core.mode ≡ Checkout) × (s.core.drive ≡ None)
May (SetSupply i v) s = (s.core.mode ≡ Checkout) × (i < 2)
May (FireRelease l n) s = (s.core.mode ≡ Checkout) × (s.core.drive ≡ None) × (0 < n)

abbrev pub Fits : Deed → State → Type 0
Fits (rests w) s = Unit {0}
Fits (heats i v) s = s.core.mode ≡ Checkout
Fits offs s = Unit {0}
Fits checks s = Unit {0}
Fits passes s = Unit {0}
Fits (acting o) s = May o s
Fits closing s = s.core.drive ≡ None
Fits enters s = Unit {0}

-- the newest event is that deed, and no other
pub record Told (x : Deed) (d : Did) (h : Past) : Type 0 where
  pub is : Is x (d ∷ h)
  pub confirmed : (op : ℕ) (ws : List ℕ) → Confirmed op ws (d ∷ h) → kind x ≡ 5
  pub heated : (i v : ℕ) → Accepted 0x6611 (i ∷ v ∷ []) (d ∷ h) → kind x ≡ 1
  pub cleared : Accepted 0x660e [] (d ∷ h) → kind x ≡ 2
  pub checked : Accepted 0x6603 [] (d ∷ h) → kind x ≡ 3
  pub closed : Accepted 0x660d [] (d ∷ h) → kind x ≡ 6
  pub entry : EntersSafe (d ∷ h) → kind x ≡ 7
  pub unpowered : (ps : List ℕ) → d.came ≡ powered ps → ⊥
  pub weighs : weight d.came ≡ lasts x

module _ (d : Did) (h : Past) where
  no_starts : (x : Deed) → Told x d h → kind x < 5 → (l n : ℕ) → Starts l n (d ∷ h) → ⊥
  no_starts x t lt l n (fires c) = omega (arith, t.confirmed _ _ c)
  no_starts x t lt l n (opens e c y) = omega (arith, t.confirmed _ _ c)
  no_starts x t lt l n (closes e c y) = omega (arith, t.closed c)
  no_starts x t lt l n (shuts e c p r y) = omega (arith, t.entry c)

  no_sets : (x : Deed) → Told x d h → (kind x ≡ 5 → ⊥) → (i w : ℕ) → Sets i w (d ∷ h) → ⊥
  no_sets x t ne i w = ⊎_elim (λ c. ne (t.confirmed _ _ c)) (λ p. t.unpowered p.0 p.1)

  -- no order but the one confirmed
  one_order : (o p : Order) → ConfirmedOrder o (d ∷ h) → ConfirmedOrder p (d ∷ h) → o ≡ p
  one_order o p a b = given_one o p h a.1 b.1

  long_of : (dr : Option Drive) → DriveIs dr h → Long dr
  long_of None k = tt
  long_of (Some r) k = k.more

  drive_kept : (x : Deed) (dr : Option Drive) → Told x d h → kind x < 5 → lasts x ≡ 0 → DriveIs dr h → DriveIs dr (d ∷ h)
  drive_kept x dr t lt z k = subst (λ y. DriveIs y (d ∷ h)) (sym (less_none dr (long_of dr k))) (drive_less d h 0 dr (no_starts x t lt) (λ e. omega (arith, t.entry e)) (t.weighs ∙ z) k)

  -- the parameters stand
  module _ (x : Deed) (s : State) (t : Told x d h) (k : Now h s) where
    params_stand : (kind x ≡ 5 → ⊥) → (i : ℕ) → i < 25 → ParamIs i (get_or s.core.parameters i 0) (d ∷ h)
    params_stand ne i lt = param_kept d h i (get_or s.core.parameters i 0) (no_sets x t ne i) (k.params_are i lt)

    supplies_stand : (kind x ≡ 2 → ⊥) → (kind x ≡ 5 → ⊥) → (kind x ≡ 7 → ⊥) → (i : ℕ) → i < 2 → SupplyIs i (get_or s.out.supplies i 0) (d ∷ h)
    supplies_stand n2 n5 n7 i lt = supply_kept d h i (get_or s.out.supplies i 0) (λ w c. n5 (t.confirmed _ _ c)) (λ a. n2 (t.cleared a)) (λ e. n7 (t.entry e)) (k.supplies_are i lt)

    heaters_stand : (kind x ≡ 1 → ⊥) → (kind x ≡ 7 → ⊥) → (i : ℕ) → i < 2 → HeaterIs i (get_or s.out.heaters i false) (d ∷ h)
    heaters_stand n1 n7 i lt = heater_kept d h i (get_or s.out.heaters i false) (λ v a. n1 (t.heated i v a)) (λ e. n7 (t.entry e)) (k.heaters_are i lt)

    mode_stands : (kind x ≡ 3 → ⊥) → (kind x ≡ 7 → ⊥) → ModeIs s.core.mode (d ∷ h)
    mode_stands n3 n7 = mode_kept d h s.core.mode (λ a. n3 (t.checked a)) (λ e. n7 (t.entry e)) k.mode_is

  supplies_off : (x : Deed) (o : Outputs) → Told x d h → (kind x ≡ 5 → ⊥) → Whole o → Accepted 0x660e [] (d ∷ h) ⊎ EntersSafe (d ∷ h) → (i : ℕ) → i < 2 → SupplyIs i (get_or (set (set o.supplies 0 0) 1 0) i 0) (d ∷ h)
  supplies_off x o t n5 w is i lt = subst (λ y. SupplyIs i y (d ∷ h)) (sym (both_off o.supplies 0 i w.supplies lt)) (supply_cleared d h i (λ v c. n5 (t.confirmed _ _ c)) is)

  Next : Deed → State → Type 0
  Next x s = Told x d h → Fits x s → Whole s.out → ReadIs d.shown (apply x s) → Now h s → Now (d ∷ h) (apply x s)

  now_rests : (w : Option Waiting) (s : State) → Next (rests w) s
  unfolding Next
  now_rests w s t fit whole read k = record {
    mode_is = mode_stands (rests w) s t k (λ e. omega arith) (λ e. omega arith);
    wait_is = t.is;
    supplies_are = supplies_stand (rests w) s t k (λ e. omega arith) (λ e. omega arith) (λ e. omega arith);
    heaters_are = heaters_stand (rests w) s t k (λ e. omega arith) (λ e. omega arith);
    params_are = params_stand (rests w) s t k (λ e. omega arith);
    full = k.full;
    ranged = k.ranged;
    drive_is = drive_kept (rests w) s.core.drive t (omega arith) refl k.drive_is;
    lines_are = k.lines_are;
    safe_is = k.safe_is;
    reads = read;
  }

  lit_mode : (m : Mode) (o : Outputs) (dr : Option Drive) → m ≡ Checkout → SafeIs m o dr
  lit_mode Safe o dr e = let z : ◌≡◌ {A = ℕ} 0 1 = cc in absurd (omega arith)
  lit_mode Checkout o dr e = tt

  now_heats : (i v : ℕ) (s : State) → Next (heats i v) s
  unfolding Next
  now_heats i v s t fit whole read k = record {
    mode_is = mode_stands (heats i v) s t k (λ e. omega arith) (λ e. omega arith);
    wait_is = none_after d h 0x6611 _ refl t.is;
    supplies_are = supplies_stand (heats i v) s t k (λ e. omega arith) (λ e. omega arith) (λ e. omega arith);
    heaters_are = λ j lt. subst (λ y. HeaterIs j y (d ∷ h)) (sym (at_set s.out.heaters i (eqb v 1) j false (omega (arith, whole.heaters)))) (heater j lt (eqb j i) refl);
    params_are = params_stand (heats i v) s t k (λ e. omega arith);
    full = k.full;
    ranged = k.ranged;
    drive_is = drive_kept (heats i v) s.core.drive t (omega arith) refl k.drive_is;
    lines_are = k.lines_are;
    safe_is = lit_mode s.core.mode (with_heater s.out i (eqb v 1)) s.core.drive fit;
    reads = read;
  }
    where
      heater : (j : ℕ) → j < 2 → (b : Bool) → eqb j i ≡ b → HeaterIs j (cond b (eqb v 1) (get_or s.out.heaters j false)) (d ∷ h)
      heater j lt true e = subst (λ x. HeaterIs x (eqb v 1) (d ∷ h)) (sym (eqb-true _ _ e)) (heater_set d h i v t.is)
      heater j lt false e = heater_kept d h j (get_or s.out.heaters j false) (λ w a. let f = (one_command d _ _ _ _ a.0 t.is.0).1 in eqb-false _ _ e (ap (λ (l : List ℕ). get_or l 0 0) f)) (λ y. omega (arith, t.entry y)) (k.heaters_are j lt)

  off_safe : (m : Mode) (o : Outputs) (dr : Option Drive) → Whole o → SafeIs m o dr → SafeIs m (with_supply (with_supply o 0 0) 1 0) dr
  off_safe Safe o dr w k = (λ i lt. (both_off o.supplies 0 i w.supplies lt, (k.0 i lt).1), k.1)
  off_safe Checkout o dr w k = tt

  now_offs : (s : State) → Next offs s
  unfolding Next
  now_offs s t fit whole read k = record {
    mode_is = mode_stands offs s t k (λ e. omega arith) (λ e. omega arith);
    wait_is = none_after d h 0x660e _ refl t.is;
    supplies_are = supplies_off offs s.out t (λ e. omega arith) whole (inl t.is);
    heaters_are = heaters_stand offs s t k (λ e. omega arith) (λ e. omega arith);
    params_are = params_stand offs s t k (λ e. omega arith);
    full = k.full;
    ranged = k.ranged;
    drive_is = drive_kept offs s.core.drive t (omega arith) refl k.drive_is;
    lines_are = k.lines_are;
    safe_is = off_safe s.core.mode s.out s.core.drive whole k.safe_is;
    reads = read;
  }

  now_checks : (s : State) → Next checks s
  unfolding Next
  now_checks s t fit whole read k = record {
    mode_is = ago_now d h t.is;
    wait_is = none_after d h 0x6603 _ refl t.is;
    supplies_are = supplies_stand checks s t k (λ e. omega arith) (λ e. omega arith) (λ e. omega arith);
    heaters_are = heaters_stand checks s t k (λ e. omega arith) (λ e. omega arith);
    params_are = params_stand checks s t k (λ e. omega arith);
    full = k.full;
    ranged = k.ranged;
    drive_is = drive_kept checks s.core.drive t (omega arith) refl k.drive_is;
    lines_are = k.lines_are;
    safe_is = tt;
    reads = read;
  }

  less_safe : (m : Mode) (o p : Outputs) (dr : Option Drive) → p.supplies ≡ o.supplies → p.heaters ≡ o.heaters → SafeIs m o dr → SafeIs m p (less_by 1 dr)
  less_safe Safe o p None es eh k = (λ i lt. (ap (λ l. get_or l i 0) es ∙ (k.0 i lt).0, ap (λ l. get_or l i false) eh ∙ (k.0 i lt).1), tt)
  less_safe Safe o p (Some r) es eh k = (λ i lt. (ap (λ l. get_or l i 0) es ∙ (k.0 i lt).0, ap (λ l. get_or l i false) eh ∙ (k.0 i lt).1), go (ltb 1 r.left))
    where
      go : (b : Bool) → OnlyClosing (cond b (Some (record { what = r.what; left = r.left - 1 })) None)
      go true = k.1
      go false = tt
  less_safe Checkout o p dr es eh k = tt

  less_one : {T : Type 0} (x : Option (Timed T)) → lessened x ≡ less_by 1 x
  less_one None = refl
  less_one (Some r) = refl

  now_passes : (s : State) → Next passes s
  unfolding Next
  now_passes s t fit whole read k =
      let dr = s.core.drive in
      let same = tick_supplies dr s.out in
      let no-e : EntersSafe (d ∷ h) → ⊥ = λ e. omega (arith, t.entry e) in
      record {
        mode_is = mode_stands passes s t k (λ e. omega arith) (λ e. omega arith);
        wait_is = subst (λ w. WaitIs w (d ∷ h)) (sym (less_one s.core.waiting)) (wait_less d h 1 s.core.waiting t.is no-e t.weighs k.wait_is);
        supplies_are = subst (λ l. (i : ℕ) → i < 2 → SupplyIs i (get_or l i 0) (d ∷ h)) (sym same.0) (supplies_stand passes s t k (λ e. omega arith) (λ e. omega arith) (λ e. omega arith));
        heaters_are = subst (λ l. (i : ℕ) → i < 2 → HeaterIs i (get_or l i false) (d ∷ h)) (sym same.1) (heaters_stand passes s t k (λ e. omega arith) (λ e. omega arith));
        params_are = params_stand passes s t k (λ e. omega arith);
        full = k.full;
        ranged = k.ranged;
        drive_is = subst (λ r. DriveIs r (d ∷ h)) (sym (less_one dr)) (drive_less d h 1 dr (no_starts passes t (omega arith)) no-e t.weighs k.drive_is);
        lines_are = tick_lines dr s.out whole k.lines_are;
        safe_is = subst (λ r. SafeIs s.core.mode (less_out dr s.out) r) (sym (less_one dr)) (less_safe s.core.mode s.out (less_out dr s.out) dr same.0 same.1 k.safe_is);
        reads = read;
      }

  drive_same : (dr : Option Drive) → ((l n : ℕ) → Starts l n (d ∷ h) → ⊥) → (EntersSafe (d ∷ h) → ⊥) → weight d.came ≡ 0 → DriveIs dr h → DriveIs dr (d ∷ h)
  drive_same dr no-s no-e no-t k = subst (λ y. DriveIs y (d ∷ h)) (sym (less_none dr (long_of dr k))) (drive_less d h 0 dr no-s no-e no-t k)

  -- ---- an order that is confirmed

  module _ (o : Order) (t : Told (acting o) d h) where
    used_up : WaitIs None (d ∷ h)
    used_up = none_after d h 0x6604 _ refl t.is.0.1

    only_one : (p : Order) → ConfirmedOrder p (d ∷ h) → o ≡ p
    only_one p c = one_order o p t.is c

    acting_starts : ((l n : ℕ) → o ≡ FireRelease l n → ⊥) → (o ≡ OpenDoor → ⊥) → (l n : ℕ) → Starts l n (d ∷ h) → ⊥
    acting_starts nf nop l n (fires c) = nf l n (only_one (FireRelease l n) c)
    acting_starts nf nop l n (opens e c y) = nop (only_one OpenDoor c)
    acting_starts nf nop l n (closes e c y) = omega (arith, t.closed c)
    acting_starts nf nop l n (shuts e c p r y) = omega (arith, t.entry c)

    acting_supplies : (s : State) → Now h s → (i : ℕ) → ((v : ℕ) → o ≡ SetSupply i v → ⊥) → i < 2 → SupplyIs i (get_or s.out.supplies i 0) (d ∷ h)
    acting_supplies s k i ns lt = supply_kept d h i (get_or s.out.supplies i 0) (λ w c. ns w (only_one (SetSupply i w) c)) (λ a. omega (arith, t.cleared a)) (λ e. omega (arith, t.entry e)) (k.supplies_are i lt)

    acting_params : (s : State) → Now h s → (i : ℕ) → ((v : ℕ) → o ≡ SetParameter i v → ⊥) → i < 25 → ParamIs i (get_or s.core.parameters i 0) (d ∷ h)
    acting_params s k i ns lt = param_kept d h i (get_or s.core.parameters i 0) (λ w. ⊎_elim (λ c. ns w (only_one (SetParameter i w) c)) (λ p. t.unpowered p.0 p.1)) (k.params_are i lt)

  now_param : (i v : ℕ) (s : State) → Next (acting (SetParameter i v)) s
  unfolding Next
  now_param i v s t fit whole read k =
      let ps = s.core.parameters in
      let same : cond (ltb i 25) (set ps i v) ps ≡ set ps i v = ap (λ b. cond b (set ps i v) ps) (lt-ltb i 25 fit.0) in
      record {
        mode_is = mode_stands (acting (SetParameter i v)) s t k (λ e. omega arith) (λ e. omega arith);
        wait_is = used_up (SetParameter i v) t;
        supplies_are = λ j lt. acting_supplies (SetParameter i v) t s k j (λ w e. let z : ◌≡◌ {A = ℕ} 0 1 = cc in omega arith) lt;
        heaters_are = heaters_stand (acting (SetParameter i v)) s t k (λ e. omega arith) (λ e. omega arith);
        params_are = subst (λ l. (j : ℕ) → j < 25 → ParamIs j (get_or l j 0) (d ∷ h)) (sym same) (λ j lt. subst (λ y. ParamIs j y (d ∷ h)) (sym (at_set ps i v j 0 (omega (arith, k.full)))) (param j lt (eqb j i) refl));
        full = ap length same ∙ length-set ps i v ∙ k.full;
        ranged = subst (λ l. (j : ℕ) → j < 25 → ((range_at j).lowest ≤ get_or l j 0) × (get_or l j 0 ≤ 255)) (sym same) (λ j lt. subst (λ y. ((range_at j).lowest ≤ y) × (y ≤ 255)) (sym (at_set ps i v j 0 (omega (arith, k.full)))) (range j lt (eqb j i) refl));
        drive_is = drive_same s.core.drive (acting_starts (SetParameter i v) t (λ l n e. let z : ◌≡◌ {A = ℕ} 0 1 = cc in omega arith) (λ e. let z : ◌≡◌ {A = ℕ} 0 1 = cc in omega arith)) (λ e. omega (arith, t.entry e)) t.weighs k.drive_is;
        lines_are = k.lines_are;
        safe_is = k.safe_is;
        reads = read;
      }
    where
      param : (j : ℕ) → j < 25 → (b : Bool) → eqb j i ≡ b → ParamIs j (cond b v (get_or s.core.parameters j 0)) (d ∷ h)
      param j lt true e =
          let same : i ≡ j = sym (eqb-true _ _ e) in
          subst (λ x. ParamIs x v (d ∷ h)) same (param_set d h i v (inl t.is) (λ w. ⊎_elim (λ c. let q = only_one (SetParameter i v) t (SetParameter i w) c in cc) (λ p. absurd (t.unpowered p.0 p.1))))
      param j lt false e = acting_params (SetParameter i v) t s k j (λ w q. let same : j ≡ i = cc in eqb-false _ _ e same) lt

      range : (j : ℕ) → j < 25 → (b : Bool) → eqb j i ≡ b → ((range_at j).lowest ≤ cond b v (get_or s.core.parameters j 0)) × (cond b v (get_or s.core.parameters j 0) ≤ 255)
      range j lt true e = (subst (λ x. (range_at x).lowest ≤ v) (sym (eqb-true _ _ e)) fit.1, fit.2)
      range j lt false e = k.ranged j lt

  now_switch : (i v : ℕ) (s : State) → Next (acting (SetSupply i v)) s
  unfolding Next
  now_switch i v s t fit whole read k = record {
    mode_is = mode_stands (acting (SetSupply i v)) s t k (λ e. omega arith) (λ e. omega arith);
    wait_is = used_up (SetSupply i v) t;
    supplies_are = λ j lt. subst (λ y. SupplyIs j y (d ∷ h)) (sym (at_set s.out.supplies i v j 0 (omega (arith, whole.supplies)))) (supply j lt (eqb j i) refl);
    heaters_are = heaters_stand (acting (SetSupply i v)) s t k (λ e. omega arith) (λ e. omega arith);
    params_are = λ j lt. acting_params (SetSupply i v) t s k j (λ w e. let z : ◌≡◌ {A = ℕ} 0 1 = cc in omega arith) lt;
    full = k.full;
    ranged = k.ranged;
    drive_is = drive_same s.core.drive (acting_starts (SetSupply i v) t (λ l n e. let z : ◌≡◌ {A = ℕ} 0 1 = cc in omega arith) (λ e. let z : ◌≡◌ {A = ℕ} 0 1 = cc in omega arith)) (λ e. omega (arith, t.entry e)) t.weighs k.drive_is;
    lines_are = k.lines_are;
    safe_is = lit_mode s.core.mode (with_supply s.out i v) s.core.drive fit.0;
    reads = read;
  }
    where
      supply : (j : ℕ) → j < 2 → (b : Bool) → eqb j i ≡ b → SupplyIs j (cond b v (get_or s.out.supplies j 0)) (d ∷ h)
      supply j lt true e =
          let same : i ≡ j = sym (eqb-true _ _ e) in
          subst (λ x. SupplyIs x v (d ∷ h)) same (supply_set d h i v t.is (λ w c. let q = only_one (SetSupply i v) t (SetSupply i w) c in cc))
      supply j lt false e = acting_supplies (SetSupply i v) t s k j (λ w q. let same : j ≡ i = cc in eqb-false _ _ e same) lt

  -- ---- a drive starts

  -- whatever starts a drive, the rest stands
  now_starts : (x : Deed) (l n : ℕ) (m : Mode) (w : Option Waiting) (ps : List ℕ) (me : Meters) (o : Outputs) → Told x d h → (kind x ≡ 1 → ⊥) → (kind x ≡ 2 → ⊥) → (kind x ≡ 3 → ⊥) → (kind x ≡ 7 → ⊥) → ((i v : ℕ) → Sets i v (d ∷ h) → ⊥) → ((i v : ℕ) → ConfirmedOrder (SetSupply i v) (d ∷ h) → ⊥) → WaitIs None (d ∷ h) → Driven l n (d ∷ h) → SafeIs m o (Some (record { what = l; left = n })) → Whole o → ReadIs d.shown (st m None (Some (record { what = l; left = n })) ps me (with_line o l On)) → Now h (st m w None ps me o) → Now (d ∷ h) (st m None (Some (record { what = l; left = n })) ps me (with_line o l On))
  now_starts x l n m w ps me o t n1 n2 n3 n7 ns nw wait driven safe whole read k = record {
    mode_is = mode_kept d h m (λ a. n3 (t.checked a)) (λ e. n7 (t.entry e)) k.mode_is;
    wait_is = wait;
    supplies_are = λ i lt. supply_kept d h i (get_or o.supplies i 0) (nw i) (λ a. n2 (t.cleared a)) (λ e. n7 (t.entry e)) (k.supplies_are i lt);
    heaters_are = λ i lt. heater_kept d h i (get_or o.heaters i false) (λ v a. n1 (t.heated i v a)) (λ e. n7 (t.entry e)) (k.heaters_are i lt);
    params_are = λ i lt. param_kept d h i (get_or ps i 0) (ns i) (k.params_are i lt);
    full = k.full;
    ranged = k.ranged;
    drive_is = driven;
    lines_are = lines_on o l n whole k.lines_are;
    safe_is = safe_line m safe;
    reads = read;
  }
    where
      safe_line : (m : Mode) → SafeIs m o (Some (record { what = l; left = n })) → SafeIs m (with_line o l On) (Some (record { what = l; left = n }))
      safe_line Safe k = k
      safe_line Checkout k = tt

  door_long : (s : State) → Now h s → 0 < 4 * get_or s.core.parameters 23 0
  door_long s k = let r : 1 ≤ get_or s.core.parameters 23 0 = (k.ranged 23 (omega arith)).0 in omega arith

  -- the door's period is one number
  door_one : (s : State) (m : ℕ) → Now h s → DoorTime m (d ∷ h) → m ≡ 4 * get_or s.core.parameters 23 0
  door_one s m k y = let same : get_or s.core.parameters 23 0 ≡ y.0 = (k.params_are 23 (omega arith) y.0).1 y.1 in omega (arith, same, y.2)

  door_time : (s : State) → Now h s → DoorTime (4 * get_or s.core.parameters 23 0) (d ∷ h)
  door_time s k = (get_or s.core.parameters 23 0, (k.params_are 23 (omega arith) _).0 refl, refl)

  now_fire : (l n : ℕ) (m : Mode) (w : Option Waiting) (dr : Option Drive) (ps : List ℕ) (me : Meters) (o : Outputs) → Next (acting (FireRelease l n)) (st m w dr ps me o)
  unfolding Next
  now_fire l n m w (Some r) ps me o t fit whole read k = let e = fit.1 in let z : ◌≡◌ {A = ℕ} 0 1 = cc in absurd (omega arith)
  now_fire l n m w None ps me o t fit whole read k = now_starts (acting (FireRelease l n)) l n m w ps me o t (λ e. omega arith) (λ e. omega arith) (λ e. omega arith) (λ e. omega arith) (λ i v. ⊎_elim (λ c. let e = only_one (FireRelease l n) t (SetParameter i v) c in let z : ◌≡◌ {A = ℕ} 0 1 = cc in omega arith) (λ p. t.unpowered p.0 p.1)) (λ i v c. let e = only_one (FireRelease l n) t (SetSupply i v) c in let z : ◌≡◌ {A = ℕ} 0 1 = cc in omega arith)
      (used_up (FireRelease l n) t)
      (drive_starts d h l n fit.2 (λ i j r. absurd (k.drive_is i j r)) (fires t.is) one t.weighs)
      (lit_mode m o (Some (record { what = l; left = n })) fit.0) whole read k
    where
      one : (i j : ℕ) → Starts i j (d ∷ h) → (i ≡ l) × (j ≡ n)
      one i j (fires c) = let e = only_one (FireRelease l n) t (FireRelease i j) c in (cc, cc)
      one i j (opens e c y) = let f = only_one (FireRelease l n) t OpenDoor c in let z : ◌≡◌ {A = ℕ} 0 1 = cc in absurd (omega arith)
      one i j (closes e c y) = absurd (omega (arith, t.closed c))
      one i j (shuts e c p r y) = absurd (omega (arith, t.entry c))

  now_open : (m : Mode) (w : Option Waiting) (dr : Option Drive) (ps : List ℕ) (me : Meters) (o : Outputs) → Next (acting OpenDoor) (st m w dr ps me o)
  unfolding Next
  now_open m w (Some r) ps me o t fit whole read k = let e = fit.1 in let z : ◌≡◌ {A = ℕ} 0 1 = cc in absurd (omega arith)
  now_open m w None ps me o t fit whole read k = now_starts (acting OpenDoor) 4 (4 * get_or ps 23 0) m w ps me o t (λ e. omega arith) (λ e. omega arith) (λ e. omega arith) (λ e. omega arith) (λ i v. ⊎_elim (λ c. let e = only_one OpenDoor t (SetParameter i v) c in let z : ◌≡◌ {A = ℕ} 0 1 = cc in omega arith) (λ p. t.unpowered p.0 p.1)) (λ i v c. let e = only_one OpenDoor t (SetSupply i v) c in let z : ◌≡◌ {A = ℕ} 0 1 = cc in omega arith)
      (used_up OpenDoor t)
      (drive_starts d h 4 (4 * get_or ps 23 0) (door_long (st m w None ps me o) k) (λ i j r. absurd (k.drive_is i j r)) (opens refl t.is (door_time (st m w None ps me o) k)) one t.weighs)
      (lit_mode m o (Some (record { what = 4; left = 4 * get_or ps 23 0 })) fit.0) whole read k
    where
      one : (i j : ℕ) → Starts i j (d ∷ h) → (i ≡ 4) × (j ≡ 4 * get_or ps 23 0)
      one i j (fires c) = let e = only_one OpenDoor t (FireRelease i j) c in let z : ◌≡◌ {A = ℕ} 0 1 = cc in absurd (omega arith)
      one i j (opens e c y) = (e, door_one (st m w None ps me o) j k y)
      one i j (closes e c y) = absurd (omega (arith, t.closed c))
      one i j (shuts e c p r y) = absurd (omega (arith, t.entry c))

  closing_safe : (m : Mode) (o : Outputs) (n : ℕ) → SafeIs m o None → SafeIs m o (Some (record { what = 5; left = n }))
  closing_safe Safe o n k = (k.0, refl)
  closing_safe Checkout o n k = tt

  now_closing : (m : Mode) (w : Option Waiting) (dr : Option Drive) (ps : List ℕ) (me : Meters) (o : Outputs) → Next closing (st m w dr ps me o)
  unfolding Next
  now_closing m w (Some r) ps me o t fit whole read k = let e = fit in let z : ◌≡◌ {A = ℕ} 0 1 = cc in absurd (omega arith)
  now_closing m w None ps me o t fit whole read k = now_starts closing 5 (4 * get_or ps 23 0) m w ps me o t (λ e. omega arith) (λ e. omega arith) (λ e. omega arith) (λ e. omega arith) (no_sets closing t (λ e. omega arith)) (λ i v c. omega (arith, t.confirmed _ _ c))
      (none_after d h 0x660d _ refl t.is)
      (drive_starts d h 5 (4 * get_or ps 23 0) (door_long (st m w None ps me o) k) (λ i j r. absurd (k.drive_is i j r)) (closes refl t.is (door_time (st m w None ps me o) k)) one t.weighs)
      (closing_safe m o (4 * get_or ps 23 0) k.safe_is) whole read k
    where
      one : (i j : ℕ) → Starts i j (d ∷ h) → (i ≡ 5) × (j ≡ 4 * get_or ps 23 0)
      one i j (fires c) = absurd (omega (arith, t.confirmed _ _ c))
      one i j (opens e c y) = absurd (omega (arith, t.confirmed _ _ c))
      one i j (closes e c y) = (e, door_one (st m w None ps me o) j k y)
      one i j (shuts e c p r y) = absurd (omega (arith, t.entry c))

  -- ---- an entry into SAFE

  -- no order is given at one
  not_entered : (o : Order) → Taken o (d ∷ h) → Leaves (d ∷ h) → ⊥
  not_entered o a =
      ⊎_elim (λ s. not_critical 0x6602 refl o (one_command d _ _ _ _ a.0 s.0).0)
      (λ v. ⊎_elim (λ q. omega (arith, q.sampled, ap sampling a.0.came_in)) (λ q. let e = a.0.came_in in let f = q.came_in.0 in let z : ◌≡◌ {A = ℕ} 0 1 = cc in omega arith) v.0)

  abbrev black : Outputs → Outputs
  black o = with_heater (with_heater (with_supply (with_supply o 0 0) 1 0) 0 false) 1 false

  unlit_black : (o : Outputs) → Whole o → Unlit (black o)
  unlit_black o w i lt = (both_off o.supplies 0 i w.supplies lt, both_off o.heaters false i w.heaters lt)

  -- where no closing runs; p has the drive's line off
  module _ (m : Mode) (w : Option Waiting) (dr : Option Drive) (ps : List ℕ) (me : Meters) (o p : Outputs) (t : Told enters d h) (whole : Whole o) (whole' : Whole p) (k : Now h (st m w dr ps me o)) where
    abbrev S : State
    S = st m w dr ps me o

    now_safe : (r : Option Drive) (q : Outputs) → q.supplies ≡ (black o).supplies → q.heaters ≡ (black o).heaters → DriveIs r (d ∷ h) → LinesAre r q → OnlyClosing r → ReadIs d.shown (st Safe None r ps me q) → Now (d ∷ h) (st Safe None r ps me q)
    now_safe r q es eh drive lines only read = record {
      mode_is = mode_safe d h t.is.0 (λ a. omega (arith, t.checked a));
      wait_is = none_waits d h (inr t.is) (λ o a. not_entered o a t.is.0);
      supplies_are = subst (λ l. (i : ℕ) → i < 2 → SupplyIs i (get_or l i 0) (d ∷ h)) (sym es) (supplies_off enters o t (λ e. omega arith) whole (inr t.is));
      heaters_are = subst (λ l. (i : ℕ) → i < 2 → HeaterIs i (get_or l i false) (d ∷ h)) (sym eh) (λ i lt. subst (λ y. HeaterIs i y (d ∷ h)) (sym (both_off o.heaters false i whole.heaters lt)) (heater_cleared d h i (λ v a. omega (arith, t.heated i v a)) t.is));
      params_are = params_stand enters S t k (λ e. omega arith);
      full = k.full;
      ranged = k.ranged;
      drive_is = drive;
      lines_are = lines;
      safe_is = (λ i lt. (ap (λ l. get_or l i 0) es ∙ (unlit_black o whole i lt).0, ap (λ l. get_or l i false) eh ∙ (unlit_black o whole i lt).1), only);
      reads = read;
    }

    one_shut : (i j : ℕ) → Starts i j (d ∷ h) → (i ≡ 5) × (j ≡ 4 * get_or ps 23 0) × (get_or ps 24 0 ≡ 1) × (line_reads 5 h ≡ false)
    one_shut i j (fires c) = absurd (omega (arith, t.confirmed _ _ c))
    one_shut i j (opens e c y) = absurd (omega (arith, t.confirmed _ _ c))
    one_shut i j (closes e c y) = absurd (omega (arith, t.closed c))
    one_shut i j (shuts e c q r y) = (e, door_one S j k y, (k.params_are 24 (omega arith) 1).1 q, r)

    now_over : p.supplies ≡ (black o).supplies → p.heaters ≡ (black o).heaters → ((l n : ℕ) → Runs l n h → l ≡ 5 → ⊥) → line_reads 5 h ≡ false → LinesAre None p → (b : Bool) → eqb (get_or ps 24 0) 1 ≡ b → ReadIs d.shown (cond b (starts 5 (4 * get_or ps 23 0) (st Safe None None ps me p)) (st Safe None None ps me p)) → Now (d ∷ h) (cond b (starts 5 (4 * get_or ps 23 0) (st Safe None None ps me p)) (st Safe None None ps me p))
    now_over es eh none dark lines true e read = now_safe (Some (record { what = 5; left = 4 * get_or ps 23 0 })) (with_line p 5 On) es eh
        (drive_starts d h 5 (4 * get_or ps 23 0) (door_long S k) (λ i j r. (none i j r, t.is)) (shuts refl t.is ((k.params_are 24 (omega arith) 1).0 (eqb-true _ _ e)) dark (door_time S k)) (λ i j s. let q = one_shut i j s in (q.0, q.1)) t.weighs)
        (lines_on p 5 (4 * get_or ps 23 0) whole' lines) refl read
    now_over es eh none dark lines false e read = now_safe None p es eh (drive_ends d h (λ i j r. (none i j r, t.is)) (λ i j s. eqb-false _ _ e (one_shut i j s).2)) lines tt read

  read_five : (s : State) → ReadIs (last_shown h) s → line_reads 5 h ≡ line_on_lem s.out 5
  read_five s r = ap (λ (l : List Bool). get_or l 5 false) r.lines_read_lem

  whole_black : (o : Outputs) → Whole o → Whole (black o)
  whole_black o w = record { supplies = length-set (set o.supplies 0 0) 1 0 ∙ length-set o.supplies 0 0 ∙ w.supplies; heaters = length-set (set o.heaters 0 false) 1 false ∙ length-set o.heaters 0 false ∙ w.heaters; lines = w.lines }

  now_enters : (m : Mode) (w : Option Waiting) (dr : Option Drive) (ps : List ℕ) (me : Meters) (o : Outputs) → Next enters (st m w dr ps me o)
  unfolding Next
  now_enters m w None ps me o t fit whole read k = now_over m w None ps me o (black o) t whole (whole_black o whole) k refl refl (λ l n r e. k.drive_is l n r) (read_five _ k.reads ∙ k.lines_are 5 (omega arith)) k.lines_are (eqb (get_or ps 24 0) 1) refl read
  now_enters m w (Some r) ps me o t fit whole read k = go (eqb r.what 5) refl read
    where
      p : Outputs
      p = with_line (black o) r.what Off

      go : (b : Bool) → eqb r.what 5 ≡ b → ReadIs d.shown (shut_from (cond b (st Safe None (Some r) ps me (black o)) (st Safe None None ps me (with_line (black o) r.what Off))).core.drive (cond b (st Safe None (Some r) ps me (black o)) (st Safe None None ps me (with_line (black o) r.what Off)))) → Now (d ∷ h) (shut_from (cond b (st Safe None (Some r) ps me (black o)) (st Safe None None ps me (with_line (black o) r.what Off))).core.drive (cond b (st Safe None (Some r) ps me (black o)) (st Safe None None ps me (with_line (black o) r.what Off))))
      go true e read =
          let five : r.what ≡ 5 = eqb-true _ _ e in
          let lit5 : line_reads 5 h ≡ true = read_five _ k.reads ∙ k.lines_are 5 (omega arith) ∙ eq-eqb 5 r.what (sym five) in
          now_safe m w (Some r) ps me o (black o) t whole (whole_black o whole) k (Some r) (black o) refl refl
          (drive_closing d h r.what r.left five (λ i j s. both_ways (line_reads 5 h) (one_shut m w (Some r) ps me o (black o) t whole (whole_black o whole) k i j s).3 lit5) t.weighs k.drive_is)
          k.lines_are five read
      go false e read =
          let off5 : line_reads 5 h ≡ false = read_five _ k.reads ∙ k.lines_are 5 (omega arith) ∙ ne_eqb 5 r.what (λ q. eqb-false _ _ e (sym q)) in
          now_over m w (Some r) ps me o (with_line (black o) r.what Off) t whole (whole_line (black o) r.what Off (whole_black o whole)) k refl refl (λ l n s q. eqb-false _ _ e (sym (k.drive_is.only l n s).0 ∙ q)) off5 (lines_off (black o) r (whole_black o whole) k.lines_are) (eqb (get_or ps 24 0) 1) refl read

  pub now_deed : (x : Deed) (s : State) → Told x d h → Fits x s → Whole s.out → ReadIs d.shown (apply x s) → Now h s → Now (d ∷ h) (apply x s)
  unfolding Next
  now_deed (rests w) s = now_rests w s
  now_deed (heats i v) s = now_heats i v s
  now_deed offs s = now_offs s
  now_deed checks s = now_checks s
  now_deed passes s = now_passes s
  now_deed (acting (SetParameter i v)) s = now_param i v s
  now_deed (acting OpenDoor) s = now_open s.core.mode s.core.waiting s.core.drive s.core.parameters s.core.meters s.out
  now_deed (acting (SetSupply i v)) s = now_switch i v s
  now_deed (acting (FireRelease l n)) s = now_fire l n s.core.mode s.core.waiting s.core.drive s.core.parameters s.core.meters s.out
  now_deed closing s = now_closing s.core.mode s.core.waiting s.core.drive s.core.parameters s.core.meters s.out
  now_deed enters s = now_enters s.core.mode s.core.waiting s.core.drive s.core.parameters s.core.meters s.out
