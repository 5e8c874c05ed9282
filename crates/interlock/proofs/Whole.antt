-- The invariant of a run, and the interlocks that it gives.
use Rattle.std.proofs.Common.{◌≡◌, ℕ, zero, suc, ◌+◌, ◌-◌, ◌%◌, ◌^◌, ◌<◌, ◌≤◌, Bool, true, false, cond, ◌&&◌, eqb, leb, ◌⊎◌, ◌↔◌, List, [], ◌∷◌, length, get_or, take, drop, Some, None, Ok, Err, Option, sym, refl, ap, ◌∙◌, subst, inl, inr, ⊎_elim, arith, ltb-true, eq-eqb, ne_eqb, eqb-true, leb-true}
use borrow.Author.Tests.{both_ways}
use Rattle.std.proofs.lemmas.List.FromFn.{get_or-map-range_with_len, length-map-range_with_len}
use Rattle.std.proofs.lemmas.List.{take-take}
use Rattle.head.specs.Checks.{rate_at}
use Rattle.ring.specs.Rolls.{Roll, added}
use Rattle.board.specs.Meaning.{Outputs, Whole, with_line, dark}
use Rattle.board.specs.declared.line_state.LineState.TheVariants.{Off}
use Rattle.codes.specs.declared.Report.{Report}
use Rattle.head.specs.Parameters.{range_at, restored, restored_all}
use Rattle.head.specs.Requests.{order_op}
use Rattle.head.specs.Verdicts.{order_first}
use Rattle.head.specs.State.{State, mode_is, meters_are, driven}
use Rattle.head.specs.Effects.{darkened, ended, ended_from, shut_from}
use Rattle.head.specs.Events.{powered_on, too_large, second_answer, clocked, counts_after, counts_are, sample_trip, rate_then, mark_trip}
use Rattle.head.specs.declared.Mode.{Mode}
use Rattle.head.specs.declared.Mode.TheVariants.{Safe, Checkout}
use Rattle.head.specs.declared.Order.{Order}
use Rattle.head.specs.declared.Order.TheVariants.{SetParameter, OpenDoor, SetSupply, FireRelease}
use Rattle.head.specs.Countdown.{Drive}
use Rattle.head.specs.declared.Meters.{Meters}
use Rattle.head.specs.declared.checks.Check.{Check}
use Rattle.head.specs.declared.checks.Mark.{Mark}
use Rattle.head.specs.declared.fault.Fault.TheVariants.{RawCount}
use Rattle.interlock.specs.Events.{Event, tick, frame, sample, mark, lines_read, reading, not_due}
use Rattle.interlock.specs.Runs.{fault_of, next, answer_of, shown_of, rates_after}
use Rattle.interlock.specs.History.{brought, Did, Past, weight, sampling, marks, marking, restart, ticks_since_mark, raws, newest, rates_of, Ago, Always, Out, Accepted, Counts, Trips, TimerIs, InCheckout, Starts, fires, opens, closes, shuts, Runs, PowersOn, ParameterIs, SwitchedOn, supply_reads, heater_reads, line_reads, parameter_reads}
use Rattle.interlock.specs.Logged.{time_of}
use Rattle.interlock.specs.Promises.{Confirms, Kept, ClockCounts, RatesHeld, begins, came_of, Follows, begun, gone, Stands}
use Rattle.interlock.specs.declared.step.Shown.{Shown}
use Rattle.interlock.proofs.Agos.{ago_none, ago_cases, ago_map, always_none, always_more}
use Rattle.interlock.proofs.Orders.{order_words, ConfirmedOrder}
use Rattle.interlock.proofs.Parts.{ModeIs, DriveIs, ran_on, param_set, given_one}
use Rattle.interlock.proofs.Boards.{lit, line_on_lem, SafeIs, whole_line, whole_supply, whole_heater, tick_whole}
use Rattle.interlock.proofs.Deeds.{ReadIs, Now, Deed, rests, heats, offs, checks, passes, acting, closing, enters, kind, lasts, apply, now_deed}
use Rattle.interlock.proofs.Comes.{did, told, Comes, all_below_lem}
use Rattle.interlock.proofs.Frames.{Rightly, frame_comes, frame_right, frame_checkout}
use Rattle.interlock.proofs.Counts.{count_kept, count_none}
use Rattle.interlock.proofs.Samples.{CountsAre, sample_counts, sample_some, sample_none, sample_comes, trip_meters, meters_after}
use Rattle.interlock.proofs.Marks.{LastIs, last_kept, last_set, mark_some, mark_none, mark_comes}
use Rattle.interlock.proofs.Timer.{timer_kept, timer_set}

pub record Sound (h : Past) (s : State) : Type 0 where
  pub now : Now h s
  pub counts : CountsAre s.core.meters.counts h
  pub last : LastIs s.core.meters.last h
  pub timer : TimerIs s.core.meters.timer h
  pub whole : Whole s.out
  pub kept : Always Kept h

-- ---- what the state gives

line_on : (dr : Option Drive) (h : Past) (l : ℕ) (b : Bool) → b ≡ lit dr l → DriveIs dr h → (b ≡ true) ↔ ((n : ℕ) × Runs l n h)
line_on None h l b e k = (λ t. absurd (both_ways b e t), λ r. absurd (k l r.0 r.1))
line_on (Some d) h l b e k = (
  λ t.
      let same : l ≡ d.what = eqb-true _ _ (sym e ∙ t) in
      (k.period, subst (λ x. Runs x k.period h) (sym same) (ago_map (λ t p x. (x.0, omega (arith, x.1, k.more))) (λ p q. q) k.run)),
  λ r. e ∙ eq-eqb l d.what (k.only l r.0 r.1).0,
)

one_drive : (dr : Option Drive) (h : Past) → DriveIs dr h → (l m j k : ℕ) (r : Runs l m h) (q : Runs j k h) → (l ≡ j) × (m ≡ k) × (r.back ≡ q.back)
one_drive None h is l m j k r q = absurd (is l m r)
one_drive (Some d) h is l m j k r q =
    let x = is.only l m r in
    let y = is.only j k q in
    (x.0 ∙ sym y.0, x.1 ∙ sym y.1, x.2 ∙ sym y.2)

safe_unlit : (m : Mode) (h : Past) (o : Outputs) (dr : Option Drive) → ModeIs m h → SafeIs m o dr → (InCheckout h → ⊥) → (i : ℕ) → i < 2 → (get_or o.supplies i 0 ≡ 0) × (get_or o.heaters i false ≡ false)
safe_unlit Safe h o dr is s no-c = s.0
safe_unlit Checkout h o dr is s no-c = absurd (no-c is)

safe_lines : (m : Mode) (h : Past) (o : Outputs) (dr : Option Drive) (l : ℕ) → l < 5 → ModeIs m h → SafeIs m o dr → (InCheckout h → ⊥) → lit dr l ≡ false
safe_lines Safe h o None l lt is s no-c = refl
safe_lines Safe h o (Some d) l lt is s no-c = ne_eqb l d.what (λ e. omega (arith, e, s.1))
safe_lines Checkout h o dr l lt is s no-c = absurd (no-c is)

mode_of : (m : Mode) (h : Past) → ModeIs m h → (m ≡ Checkout) ↔ InCheckout h
mode_of Safe h k = (λ e. let z : ◌≡◌ {A = ℕ} 0 1 = cc in absurd (omega arith), λ a. absurd (k a))
mode_of Checkout h k = (λ e. k, λ a. refl)

-- a question reads what the board means
two_read : {A : Type 0} (ls : List A) (x : A) (i : ℕ) → i < 2 → get_or (get_or ls 0 x ∷ get_or ls 1 x ∷ []) i x ≡ get_or ls i x
two_read ls x zero lt = refl
two_read ls x (suc zero) lt = refl
two_read ls x (suc (suc i)) lt = absurd (omega arith)

six_read : (o : Outputs) (i : ℕ) → i < 6 → get_or (lines_read o) i false ≡ line_on_lem o i
six_read o zero lt = refl
six_read o (suc zero) lt = refl
six_read o (suc (suc zero)) lt = refl
six_read o (suc (suc (suc zero))) lt = refl
six_read o (suc (suc (suc (suc zero)))) lt = refl
six_read o (suc (suc (suc (suc (suc zero))))) lt = refl
six_read o (suc (suc (suc (suc (suc (suc i)))))) lt = absurd (omega arith)

module _ (h : Past) (s : State) (n : Now h s) where
  supply_read : (i : ℕ) → i < 2 → supply_reads i h ≡ get_or s.out.supplies i 0
  supply_read i lt = ap (λ (l : List ℕ). get_or l i 0) n.reads.supplies_read_lem ∙ two_read s.out.supplies 0 i lt

  heater_read : (i : ℕ) → i < 2 → heater_reads i h ≡ get_or s.out.heaters i false
  heater_read i lt = ap (λ (l : List Bool). get_or l i false) n.reads.heaters_read_lem ∙ two_read s.out.heaters false i lt

  line_read_lem : (i : ℕ) → i < 6 → line_reads i h ≡ line_on_lem s.out i
  line_read_lem i lt = ap (λ (l : List Bool). get_or l i false) n.reads.lines_read_lem ∙ six_read s.out i lt

  parameter_read : (i : ℕ) → parameter_reads i h ≡ get_or s.core.parameters i 0
  parameter_read i = ap (λ (l : List ℕ). get_or l i 0) n.reads.parameters_read

  line_runs : (l : ℕ) → l < 6 → (line_reads l h ≡ true) ↔ ((m : ℕ) × Runs l m h)
  line_runs l lt = line_on s.core.drive h l (line_reads l h) (line_read_lem l lt ∙ n.lines_are l lt) n.drive_is

-- a confirm that is accepted is of the one order that was given
rightful : (o : Order) (d : Did) (h : Past) → Rightly (d ∷ h) → ConfirmedOrder o (d ∷ h) → Confirms (order_op o) (order_words o) (d ∷ h)
rightful o d h right c =
    let x = right c.0.0 c.0.1 in
    let same : x.0 ≡ o = given_one x.0 o h (ago_map (λ t q y. y.0) (λ q y. y.0) x.1.in_time) c.1 in
    subst (λ (p : Order). Confirms (order_op p) (order_words p) (d ∷ h)) same x.1

-- what the past before an event knew of supplies, lines and parameters
pub record Known (h : Past) : Type 0 where
  pub supply_known : (s v : ℕ) → s < 2 → 0 < v → SwitchedOn s v h → supply_reads s h ≡ v
  pub line_known : (l n : ℕ) → l < 6 → Runs l n h → line_reads l h ≡ true
  pub parameter_known : (i v : ℕ) → i < 25 → ParameterIs i v h → parameter_reads i h ≡ v

known : (h : Past) (s : State) → Now h s → Known h
known h s n = record {
  supply_known = λ i v lt pos a. supply_read h s n i lt ∙ (n.supplies_are i lt v pos).1 a;
  line_known = λ l m lt r. (line_runs h s n l lt).1 (m, r);
  parameter_known = λ i v lt a. parameter_read h s n i ∙ (n.params_are i lt v).1 a;
}

known_none : Known []
known_none = record { supply_known = λ i v lt pos a. absurd (ago_none a); line_known = λ l m lt r. absurd (ago_none r); parameter_known = λ i v lt a. absurd (ago_none a) }

module _ (d : Did) (h : Past) (before : Known h) (right : Rightly (d ∷ h)) where
  -- a line that goes on starts its drive now
  starts_now : (l n : ℕ) → l < 6 → line_reads l h ≡ false → Runs l n (d ∷ h) → Starts l n (d ∷ h)
  starts_now l n lt off r = ⊎_elim (λ now. now.0.0) (λ la. absurd (both_ways _ off (before.line_known l n lt (ran_on d h l n la.was)))) (ago_cases d h r)

  fires_now : (l n : ℕ) → l < 4 → Starts l n (d ∷ h) → Confirms 0x6612 (l ∷ n ∷ []) (d ∷ h)
  fires_now l n lt (fires c) = rightful (FireRelease l n) d h right c
  fires_now l n lt (opens e c y) = absurd (omega arith)
  fires_now l n lt (closes e c y) = absurd (omega arith)
  fires_now l n lt (shuts e c p r y) = absurd (omega arith)

  -- no release has a line above 3
  few : (l n : ℕ) → ConfirmedOrder (FireRelease l n) (d ∷ h) → l < 4
  few l n c =
      let x = right c.0.0 c.0.1 in
      let same : x.0 ≡ FireRelease l n = given_one x.0 (FireRelease l n) h (ago_map (λ t q y. y.0) (λ q y. y.0) x.1.in_time) c.1 in
      ltb-true _ _ (subst (λ (p : Order). order_first p ≡ true) same x.2)

  -- line 4 goes on by an opening only
  opens_now : (n : ℕ) → Starts 4 n (d ∷ h) → Confirms 0x660f [] (d ∷ h)
  opens_now n (fires c) = absurd (omega (arith, few 4 n c))
  opens_now n (opens e c y) = rightful OpenDoor d h right c
  opens_now n (closes e c y) = absurd (omega arith)
  opens_now n (shuts e c p r y) = absurd (omega arith)

  sets_now : (i v : ℕ) → i < 25 → (parameter_reads i h ≡ v → ⊥) → ParameterIs i v (d ∷ h) → Confirms 0x6607 (i ∷ v ∷ []) (d ∷ h) ⊎ PowersOn i v (d ∷ h)
  sets_now i v lt other a =
      ⊎_elim (λ now. ⊎_elim (λ c. inl (rightful (SetParameter i v) d h right c)) (λ p. inr p) now.0) (λ la. absurd (other (before.parameter_known i v lt la.was))) (ago_cases d h a)

  raises_now : (i v : ℕ) → i < 2 → 0 < v → (supply_reads i h ≡ v → ⊥) → SwitchedOn i v (d ∷ h) → Confirms 0x6610 (i ∷ v ∷ []) (d ∷ h)
  raises_now i v lt pos other a = ⊎_elim (λ now. rightful (SetSupply i v) d h right now.0) (λ la. absurd (other (before.supply_known i v lt pos la.was))) (ago_cases d h a)

-- the interlocks after the newest event
kept_now : (d : Did) (h : Past) (s : State) → Known h → Now (d ∷ h) s → Rightly (d ∷ h) → (Accepted 0x6603 [] (d ∷ h) → TimerIs 0 h ⊎ (ParameterIs 21 0 h → ⊥)) → Kept (d ∷ h)
kept_now d hh s before n right waits =
    let h : Past = d ∷ hh in
    let su = supply_read h s n in
    let he = heater_read h s n in
    let li = line_read_lem h s n in
    let pa = parameter_read h s n in
    let runs = line_runs h s n in
    let m = s.core.mode in
    let dr = s.core.drive in
    let mode = mode_of m h n.mode_is in
    record {
      supply_stands_as_confirmed = λ i v lt pos. (λ e. (n.supplies_are i lt v pos).0 (sym (su i lt) ∙ e), λ a. su i lt ∙ (n.supplies_are i lt v pos).1 a);
      heater_on_as_commanded = λ i lt. (λ e. (n.heaters_are i lt).0 (sym (he i lt) ∙ e), λ a. he i lt ∙ (n.heaters_are i lt).1 a);
      safe_supplies_off = λ no-c i lt. su i lt ∙ (safe_unlit m h s.out dr n.mode_is n.safe_is no-c i lt).0;
      safe_heaters_off = λ no-c i lt. he i lt ∙ (safe_unlit m h s.out dr n.mode_is n.safe_is no-c i lt).1;
      safe_lines_off = λ no-c l lt. let lt6 : l < 6 = omega arith in li l lt6 ∙ n.lines_are l lt6 ∙ safe_lines m h s.out dr l lt n.mode_is n.safe_is no-c;
      line_on_while_driven = runs;
      one_drive_at_a_time = one_drive dr h n.drive_is;
      confirm_confirms = λ words a. let x = right words a in (order_op x.0, order_words x.0, x.1);
      raised_by_confirm = λ i v lt pos e other. raises_now d hh before right i v lt pos other ((n.supplies_are i lt v pos).0 (sym (su i lt) ∙ e));
      fired_by_confirm = λ l lt on off. let lt6 : l < 6 = omega arith in let r = (runs l lt6).0 on in (r.0, fires_now d hh before right l r.0 lt (starts_now d hh before right l r.0 lt6 off r.1));
      opened_by_confirm = λ on off. let lt6 : ◌<◌ 4 6 = omega arith in let r = (runs 4 lt6).0 on in opens_now d hh before right r.0 (starts_now d hh before right 4 r.0 lt6 off r.1);
      set_by_confirm = λ i v lt e other. sets_now d hh before right i v lt other ((n.params_are i lt v).0 (sym (pa i) ∙ e));
      checkout_waits_for_timer = waits;
      mode_follows = (λ e. mode.0 (sym n.reads.mode_read ∙ e), λ a. n.reads.mode_read ∙ mode.1 a);
      parameter_follows = λ i v lt. (λ e. (n.params_are i lt v).0 (sym (pa i) ∙ e), λ a. pa i ∙ (n.params_are i lt v).1 a);
    }

-- ---- power-on

-- a parameter that power-on leaves is in its range
restored_range : (i v : ℕ) → i < 25 → ((range_at i).lowest ≤ restored i v) × (restored i v ≤ 255)
restored_range i v lt = go (leb (range_at i).lowest v) (leb v (range_at i).highest) refl refl
  where
    high : (range_at i).highest ≤ 255
    high = leb-true _ 255 (all_below_lem 25 (λ i. leb (range_at i).highest 255) i refl lt)

    fair : ((range_at i).lowest ≤ (range_at i).default) × ((range_at i).default ≤ 255)
    fair = (leb-true _ _ (all_below_lem 25 (λ i. leb (range_at i).lowest (range_at i).default) i refl lt), leb-true _ 255 (all_below_lem 25 (λ i. leb (range_at i).default 255) i refl lt))

    go : (a b : Bool) → leb (range_at i).lowest v ≡ a → leb v (range_at i).highest ≡ b → ((range_at i).lowest ≤ cond (a && b) v (range_at i).default) × (cond (a && b) v (range_at i).default ≤ 255)
    go true true ea eb = let x : (range_at i).lowest ≤ v = leb-true _ _ ea in let y : v ≤ (range_at i).highest = leb-true _ _ eb in (x, omega (arith, high, y))
    go true false ea eb = fair
    go false b ea eb = fair

module _ (stored : List ℕ) where
  abbrev on : Did
  on = begins stored

  restored_at : (i : ℕ) → i < 25 → get_or (restored_all stored) i 0 ≡ restored i (get_or stored i 0)
  restored_at i lt = get_or-map-range_with_len (λ i. restored i (get_or stored i 0)) 0 25 i i 0 lt (omega arith)

  ranges : (i : ℕ) → i < 25 → ((range_at i).lowest ≤ get_or (restored_all stored) i 0) × (get_or (restored_all stored) i 0 ≤ 255)
  ranges i lt = subst (λ (y : ℕ). ((range_at i).lowest ≤ y) × (y ≤ 255)) (sym (restored_at i lt)) (restored_range i (get_or stored i 0) lt)

  on_none : {P : ℕ → Past → Type 0} {Q : Past → Type 0} → (P 0 (on ∷ []) → ⊥) → Ago P Q (on ∷ []) → ⊥
  on_none no-p a = ⊎_elim (λ now. no-p now.0) (λ l. ago_none l.was) (ago_cases on [] a)

  unmarked : (x : Mark) → on.came ≡ brought (mark x) → ⊥
  unmarked x e = let z : ◌≡◌ {A = ℕ} 0 1 = cc in omega arith

  unframed : (op : ℕ) (ws : List ℕ) → Accepted op ws (on ∷ []) → ⊥
  unframed op ws a = let e = a.0.came_in in let z : ◌≡◌ {A = ℕ} 0 1 = cc in omega arith

  no_starts : (l n : ℕ) → Starts l n (on ∷ []) → ⊥
  no_starts l n (fires c) = unframed _ _ c.0.1
  no_starts l n (opens e c y) = unframed _ _ c.0.1
  no_starts l n (closes e c y) = unframed _ _ c
  no_starts l n (shuts e c p r y) = ⊎_elim (unframed _ _) (λ v. ⊎_elim (λ q. omega (arith, q.sampled)) (λ q. unmarked _ q.came_in.0) v.0) c.0

  untripped : (i : ℕ) → i < length (on ∷ []) → Trips (drop i (on ∷ [])) → ⊥
  untripped zero lt = ⊎_elim (λ q. omega (arith, q.sampled)) (λ q. unmarked _ q.came_in.0)
  untripped (suc i) lt = absurd (omega arith)

  zeros : (i : ℕ) → i < 2 → (get_or dark.supplies i 0 ≡ 0) × (get_or dark.heaters i false ≡ false)
  zeros zero lt = (refl, refl)
  zeros (suc zero) lt = (refl, refl)
  zeros (suc (suc i)) lt = absurd (omega arith)

  six_off : (k : ℕ) → k < 6 → line_on_lem dark k ≡ false
  six_off zero lt = refl
  six_off (suc zero) lt = refl
  six_off (suc (suc zero)) lt = refl
  six_off (suc (suc (suc zero))) lt = refl
  six_off (suc (suc (suc (suc zero)))) lt = refl
  six_off (suc (suc (suc (suc (suc zero))))) lt = refl
  six_off (suc (suc (suc (suc (suc (suc k)))))) lt = absurd (omega arith)

  now_on : Now (on ∷ []) (powered_on stored)
  now_on = record {
    mode_is = on_none (unframed _ _);
    wait_is = λ o. on_none (λ a. unframed _ _ a.0);
    supplies_are = λ i lt v pos. (λ e. absurd (omega (arith, e, (zeros i lt).0)), λ a. absurd (on_none (λ c. unframed _ _ c.0.1) a));
    heaters_are = λ i lt. (λ e. absurd (both_ways _ (zeros i lt).1 e), λ a. absurd (on_none (unframed _ _) a));
    params_are = λ i lt. param_set on [] i (get_or (restored_all stored) i 0) (inr (stored, refl, sym (restored_at i lt))) (λ w. ⊎_elim (λ c. absurd (unframed _ _ c.0.1)) (λ p. let e = p.1 in let f = p.2 in let g = restored_at i lt in cc));
    full = length-map-range_with_len (λ i. restored i (get_or stored i 0)) 0 25;
    ranged = ranges;
    drive_is = λ l n. on_none (λ a. no_starts l n a.0);
    lines_are = six_off;
    safe_is = (zeros, tt);
    reads = record { mode_read = refl; parameters_read = refl; supplies_read_lem = refl; heaters_read_lem = refl; lines_read_lem = refl };
  }

  counts_on : CountsAre (0 ∷ 0 ∷ 0 ∷ []) (on ∷ [])
  counts_on zero lt = count_kept (Out 0) on [] 0 refl (count_none (Out 0))
  counts_on (suc zero) lt = count_kept (Out 1) on [] 0 refl (count_none (Out 1))
  counts_on (suc (suc zero)) lt = count_kept (Out 2) on [] 0 refl (count_none (Out 2))
  counts_on (suc (suc (suc c))) lt = absurd (omega arith)

  pub sound_on : Sound (on ∷ []) (powered_on stored)
  sound_on = record {
    now = now_on;
    counts = counts_on;
    last = λ v. on_none (λ c. unmarked _ c.1.0);
    timer = inl (untripped, refl);
    whole = record { supplies = refl; heaters = refl; lines = refl };
    kept = always_more Kept on [] (kept_now on [] (powered_on stored) known_none now_on (λ words a. absurd (unframed _ _ a)) (λ a. absurd (unframed _ _ a))) (always_none Kept);
  }

-- ---- one event more

now_metered : (h : Past) (s : State) (me : Meters) → Now h s → Now h (meters_are me s)
now_metered h s me k = record {
  mode_is = k.mode_is;
  wait_is = k.wait_is;
  supplies_are = k.supplies_are;
  heaters_are = k.heaters_are;
  params_are = k.params_are;
  full = k.full;
  ranged = k.ranged;
  drive_is = k.drive_is;
  lines_are = k.lines_are;
  safe_is = k.safe_is;
  reads = record { mode_read = k.reads.mode_read; parameters_read = k.reads.parameters_read; supplies_read_lem = k.reads.supplies_read_lem; heaters_read_lem = k.reads.heaters_read_lem; lines_read_lem = k.reads.lines_read_lem };
}

event_comes : (e : Event) (x : Shown) (s : State) (h : Past) → x.fault ≡ answer_of s e → Sound h s → Comes e x s (next s e) (meters_after e s) h
event_comes tick x s h f k =
    let d = did tick x in
    record { deed = passes; same = refl; told_so = told d h passes 6 refl (λ q. let e = q.2 in let z : ◌≡◌ {A = ℕ} 0 1 = cc in omega arith) (λ e. absurd (omega arith)) (λ e. absurd (omega arith)) (λ e. absurd (omega arith)) (λ e. absurd (omega arith)) (λ e. absurd (omega arith)) (λ e i. absurd (omega arith)) (omega arith) (omega arith) refl refl; fits = tt }
event_comes (frame p r) x s h f k = frame_comes p r x h s f k.now
event_comes (sample y) x s h f k = sample_comes y x s h k.counts k.now
event_comes (mark y) x s h f k = mark_comes y x s h f k.last k.now

no_confirm : (d : Did) (h : Past) → ((p r : List ℕ) → d.came ≡ brought (frame p r) → ⊥) → Rightly (d ∷ h)
no_confirm d h never words a = absurd (never a.0.primary a.0.redundant a.0.came_in)

event_right : (e : Event) (x : Shown) (s : State) (h : Past) → x.fault ≡ answer_of s e → Now h s → Rightly (did e x ∷ h)
event_right tick x s h f k = no_confirm (did tick x) h (λ p r e. let z : ◌≡◌ {A = ℕ} 0 1 = cc in omega arith)
event_right (frame p r) x s h f k = frame_right p r x s h f k
event_right (sample y) x s h f k = no_confirm (did (sample y) x) h (λ p r e. let z : ◌≡◌ {A = ℕ} 0 1 = cc in omega arith)
event_right (mark y) x s h f k = no_confirm (did (mark y) x) h (λ p r e. let z : ◌≡◌ {A = ℕ} 0 1 = cc in omega arith)

-- the counts and the latest raw count after an event

trip_counts : (t : Option Check) (z : State) → (trip_meters t z).counts ≡ z.core.meters.counts
trip_counts None z = refl
trip_counts (Some c) z = refl

trip_last : (t : Option Check) (z : State) → (trip_meters t z).last ≡ z.core.meters.last
trip_last None z = refl
trip_last (Some c) z = refl

event_counts : (e : Event) (x : Shown) (s : State) (h : Past) → Sound h s → CountsAre (meters_after e s).counts (did e x ∷ h)
event_counts tick x s h k = λ c lt. count_kept (Out c) (did tick x) h (get_or s.core.meters.counts c 0) refl (k.counts c lt)
event_counts (frame p r) x s h k = λ c lt. count_kept (Out c) (did (frame p r) x) h (get_or s.core.meters.counts c 0) refl (k.counts c lt)
event_counts (sample y) x s h k = subst (λ (l : List ℕ). CountsAre l (did (sample y) x ∷ h)) (sym (trip_counts (sample_trip y s) (counts_are (counts_after y s) s))) (sample_counts y x s h k.now k.counts)
event_counts (mark y) x s h k = subst (λ (l : List ℕ). CountsAre l (did (mark y) x ∷ h)) (sym (go (too_large y))) (λ c lt. count_kept (Out c) (did (mark y) x) h (get_or s.core.meters.counts c 0) refl (k.counts c lt))
  where
    go : (b : Bool) → (cond b s.core.meters (trip_meters (mark_trip y s.core) (clocked y s))).counts ≡ s.core.meters.counts
    go true = refl
    go false = trip_counts (mark_trip y s.core) (clocked y s)

no_count : (d : Did) (h : Past) → ((y : Mark) → d.came ≡ brought (mark y) → ⊥) → (v : ℕ) → Counts v (d ∷ h) → ⊥
no_count d h never v c = never c.0 c.1.0

event_last : (e : Event) (x : Shown) (s : State) (h : Past) → x.fault ≡ answer_of s e → Sound h s → LastIs (meters_after e s).last (did e x ∷ h)
event_last tick x s h f k = last_kept (did tick x) h s.core.meters.last (no_count (did tick x) h (λ y e. let z : ◌≡◌ {A = ℕ} 0 1 = cc in omega arith)) k.last
event_last (frame p r) x s h f k = last_kept (did (frame p r) x) h s.core.meters.last (no_count (did (frame p r) x) h (λ y e. let z : ◌≡◌ {A = ℕ} 0 1 = cc in omega arith)) k.last
event_last (sample y) x s h f k =
    subst (λ (o : Option ℕ). LastIs o (did (sample y) x ∷ h)) (sym (trip_last (sample_trip y s) (counts_are (counts_after y s) s)))
    (last_kept (did (sample y) x) h s.core.meters.last (no_count (did (sample y) x) h (λ y e. let z : ◌≡◌ {A = ℕ} 0 1 = cc in omega arith)) k.last)
event_last (mark y) x s h f k = go (too_large y) f
  where
    go : (b : Bool) → x.fault ≡ fault_of (cond b (Err RawCount) (Ok tt)) → LastIs (cond b s.core.meters (trip_meters (mark_trip y s.core) (clocked y s))).last (did (mark y) x ∷ h)
    go true f = last_kept (did (mark y) x) h s.core.meters.last (λ v c. let e = c.1.1 in let z : ◌≡◌ {A = ℕ} 0 1 = cc in omega arith) k.last
    go false f =
        subst (λ (o : Option ℕ). LastIs o (did (mark y) x ∷ h)) (sym (trip_last (mark_trip y s.core) (clocked y s)))
        (last_set (did (mark y) x) h y.raw (y, (refl, f), refl) (λ v c. let e = c.1.0 in let g = c.2 in cc))

-- no deed touches the counts and the latest raw count, and every deed leaves a whole board

pub record Aside (a : Meters) (t : State) : Type 0 where
  pub counts_same : t.core.meters.counts ≡ a.counts
  pub last_same : t.core.meters.last ≡ a.last
  pub time_same : t.core.meters.time ≡ a.time
  pub timer_same : t.core.meters.timer ≡ a.timer
  pub whole_still : Whole t.out

aside : (t : State) → Whole t.out → Aside t.core.meters t
aside t w = record { counts_same = refl; last_same = refl; time_same = refl; timer_same = refl; whole_still = w }

either_aside : (b : Bool) (a : Meters) (x y : State) → Aside a x → Aside a y → Aside a (cond b x y)
either_aside true a x y p q = p
either_aside false a x y p q = q

shut_aside : (a : Meters) (dr : Option Drive) (s : State) → Aside a s → Aside a (shut_from dr s)
shut_aside a None s k = either_aside (eqb (get_or s.core.parameters 24 0) 1) a _ s (record { counts_same = k.counts_same; last_same = k.last_same; time_same = k.time_same; timer_same = k.timer_same; whole_still = whole_line s.out 5 _ k.whole_still }) k
shut_aside a (Some d) s k = k

ended_aside : (a : Meters) (dr : Option Drive) (s : State) → Aside a s → Aside a (ended_from dr s)
ended_aside a None s k = k
ended_aside a (Some d) s k = either_aside (eqb d.what 5) a s _ k (record { counts_same = k.counts_same; last_same = k.last_same; time_same = k.time_same; timer_same = k.timer_same; whole_still = whole_line s.out d.what Off k.whole_still })

apply_aside : (x : Deed) (s : State) → Whole s.out → Aside s.core.meters (apply x s)
apply_aside (rests r) s w = aside _ w
apply_aside (heats i v) s w = aside _ (whole_heater s.out i (eqb v 1) w)
apply_aside offs s w = aside _ (whole_supply _ 1 0 (whole_supply s.out 0 0 w))
apply_aside checks s w = aside _ w
apply_aside passes s w = record { counts_same = refl; last_same = refl; time_same = refl; timer_same = refl; whole_still = tick_whole s.core.drive s.out w }
apply_aside (acting (SetParameter i v)) s w = aside _ w
apply_aside (acting OpenDoor) s w = aside _ (whole_line s.out 4 _ w)
apply_aside (acting (SetSupply i v)) s w = aside _ (whole_supply s.out i v w)
apply_aside (acting (FireRelease l n)) s w = aside _ (whole_line s.out l _ w)
apply_aside closing s w = aside _ (whole_line s.out 5 _ w)
apply_aside enters s w =
    let black : Aside s.core.meters (darkened (mode_is Safe s)) = aside _ (whole_heater _ 1 false (whole_heater _ 0 false (whole_supply _ 1 0 (whole_supply s.out 0 0 w)))) in
    shut_aside s.core.meters (ended (darkened (mode_is Safe s))).core.drive (ended (darkened (mode_is Safe s))) (ended_aside s.core.meters s.core.drive (darkened (mode_is Safe s)) black)

-- the timer after an event

pub quiet : (d : Did) (h : Past) → sampling d.came ≡ 0 → ((x : Mark) → d.came ≡ brought (mark x) → ⊥) → Trips (d ∷ h) → ⊥
quiet d h none never = ⊎_elim (λ q. omega (arith, q.sampled)) (λ q. never _ q.came_in.0)

same_timer : (d : Did) (h : Past) (n : ℕ) → marking d.came d.shown.fault ≡ 0 → (Trips (d ∷ h) → ⊥) → TimerIs n h → TimerIs n (d ∷ h)
same_timer d h n z none k = let e : n - marking d.came d.shown.fault ≡ n = omega arith in subst (λ (m : ℕ). TimerIs m (d ∷ h)) e (timer_kept d h n none k)

set_timer : (d : Did) (h : Past) (s : State) → Trips (d ∷ h) → Now h s → TimerIs (get_or s.core.parameters 22 0) (d ∷ h)
set_timer d h s is k = timer_set d h (get_or s.core.parameters 22 0) is ((k.params_are 22 (omega arith) _).0 refl)

event_timer : (e : Event) (x : Shown) (s : State) (h : Past) → x.fault ≡ answer_of s e → Sound h s → TimerIs (meters_after e s).timer (did e x ∷ h)
event_timer tick x s h f k = same_timer (did tick x) h _ refl (quiet (did tick x) h refl (λ y e. let z : ◌≡◌ {A = ℕ} 0 1 = cc in omega arith)) k.timer
event_timer (frame p r) x s h f k = same_timer (did (frame p r) x) h _ refl (quiet (did (frame p r) x) h refl (λ y e. let z : ◌≡◌ {A = ℕ} 0 1 = cc in omega arith)) k.timer
event_timer (sample y) x s h f k = go (sample_trip y s) refl
  where
    go : (t : Option Check) → sample_trip y s ≡ t → TimerIs (trip_meters t (counts_are (counts_after y s) s)).timer (did (sample y) x ∷ h)
    go None e = same_timer (did (sample y) x) h _ refl (sample_none y x s h e k.counts k.now) k.timer
    go (Some c) e = set_timer (did (sample y) x) h s (sample_some y x s h c e k.counts k.now) k.now
event_timer (mark y) x s h f k = large (too_large y) f
  where
    trips : (t : Option Check) → mark_trip y s.core ≡ t → x.fault ≡ None → TimerIs (trip_meters t (clocked y s)).timer (did (mark y) x ∷ h)
    trips None e ok =
        let one : marking (brought (mark y)) x.fault ≡ 1 = ap (marking (brought (mark y))) ok in
        let less : s.core.meters.timer - marking (brought (mark y)) x.fault ≡ s.core.meters.timer - 1 = omega arith in
        subst (λ (m : ℕ). TimerIs m (did (mark y) x ∷ h)) less (timer_kept (did (mark y) x) h s.core.meters.timer (mark_none y x s h e k.last ok k.now) k.timer)
    trips (Some c) e ok = set_timer (did (mark y) x) h s (mark_some y x s h c e k.last ok k.now) k.now

    large : (b : Bool) → x.fault ≡ fault_of (cond b (Err RawCount) (Ok tt)) → TimerIs (cond b s.core.meters (trip_meters (mark_trip y s.core) (clocked y s))).timer (did (mark y) x ∷ h)
    large false f = trips (mark_trip y s.core) refl f
    large true f =
        same_timer (did (mark y) x) h _ (ap (marking (brought (mark y))) f)
        (⊎_elim (λ q. omega (arith, q.sampled)) (λ q. let e = q.came_in.1 in let z : ◌≡◌ {A = ℕ} 0 1 = cc in omega arith)) k.timer

-- an accepted CHECKOUT found the timer at 0, or the override not at 0
event_checkout : (e : Event) (x : Shown) (s : State) (h : Past) → x.fault ≡ answer_of s e → Sound h s → Accepted 0x6603 [] (did e x ∷ h) → TimerIs 0 h ⊎ (ParameterIs 21 0 h → ⊥)
event_checkout tick x s h f k a = let e = a.0.came_in in let z : ◌≡◌ {A = ℕ} 0 1 = cc in absurd (omega arith)
event_checkout (frame p r) x s h f k a =
    ⊎_elim (λ z. inl (subst (λ (n : ℕ). TimerIs n h) z k.timer)) (λ n. inr (λ o. n ((k.now.params_are 21 (omega arith) 0).1 o))) (frame_checkout p r x s h f a)
event_checkout (sample y) x s h f k a = let e = a.0.came_in in let z : ◌≡◌ {A = ℕ} 0 1 = cc in absurd (omega arith)
event_checkout (mark y) x s h f k a = let e = a.0.came_in in let z : ◌≡◌ {A = ℕ} 0 1 = cc in absurd (omega arith)

sound_more : (e : Event) (h : Past) (s : State) → Sound h s → Sound (came_of s e ∷ h) (next s e)
sound_more e h s k =
    let x = shown_of s e in
    let me = meters_after e s in
    let c = event_comes e x s h refl k in
    let after = apply c.deed (meters_are me s) in
    let a = apply_aside c.deed (meters_are me s) k.whole in
    let same : next s e ≡ after = c.same in
    let read : ReadIs x (next s e) = record { mode_read = refl; parameters_read = refl; supplies_read_lem = refl; heaters_read_lem = refl; lines_read_lem = refl } in
    let z = now_deed (did e x) h c.deed (meters_are me s) c.told_so c.fits k.whole (subst (ReadIs x) same read) (now_metered h s me k.now) in
    let n : Now (did e x ∷ h) (next s e) = subst (Now (did e x ∷ h)) (sym same) z in
    record {
      now = n;
      counts = subst (λ (l : List ℕ). CountsAre l (did e x ∷ h)) (sym (ap (λ (t : State). t.core.meters.counts) same ∙ a.counts_same)) (event_counts e x s h k);
      last = subst (λ (o : Option ℕ). LastIs o (did e x ∷ h)) (sym (ap (λ (t : State). t.core.meters.last) same ∙ a.last_same)) (event_last e x s h refl k);
      timer = subst (λ (n : ℕ). TimerIs n (did e x ∷ h)) (sym (ap (λ (t : State). t.core.meters.timer) same ∙ a.timer_same)) (event_timer e x s h refl k);
      whole = subst (λ (t : State). Whole t.out) (sym same) a.whole_still;
      kept = always_more Kept (did e x) h (kept_now (did e x) h (next s e) (known h s k.now) n (event_right e x s h refl k.now) (event_checkout e x s h refl k)) k.kept;
    }

pub every : {h : Past} {s : State} → Follows h s → Sound h s
every (begun stored) = sound_on stored
every (gone {h} {s} e r) = sound_more e h s (every r)

-- ---- the clock

-- only the passing of a tick moves the tick number
same_tick : (x : Deed) (s : State) → (kind x ≡ 4 → ⊥) → (apply x s).core.meters.tick ≡ s.core.meters.tick
same_tick (rests r) s n = refl
same_tick (heats i v) s n = refl
same_tick offs s n = refl
same_tick checks s n = refl
same_tick passes s n = absurd (n refl)
same_tick (acting (SetParameter i v)) s n = refl
same_tick (acting OpenDoor) s n = refl
same_tick (acting (SetSupply i v)) s n = refl
same_tick (acting (FireRelease l m)) s n = refl
same_tick closing s n = refl
same_tick enters s n = shut_tick (ended (darkened (mode_is Safe s))).core.drive (ended (darkened (mode_is Safe s))) ∙ ended_tick s.core.drive (darkened (mode_is Safe s))
  where
    either_tick : (b : Bool) (x y : State) → x.core.meters.tick ≡ y.core.meters.tick → (cond b x y).core.meters.tick ≡ y.core.meters.tick
    either_tick true x y e = e
    either_tick false x y e = refl

    shut_tick : (dr : Option Drive) (z : State) → (shut_from dr z).core.meters.tick ≡ z.core.meters.tick
    shut_tick None z = either_tick (eqb (get_or z.core.parameters 24 0) 1) _ z refl
    shut_tick (Some d) z = refl

    ended_tick : (dr : Option Drive) (z : State) → (ended_from dr z).core.meters.tick ≡ z.core.meters.tick
    ended_tick None z = refl
    ended_tick (Some d) z = go (eqb d.what 5)
      where
        go : (b : Bool) → (cond b z (driven None (with_line z.out d.what Off) z)).core.meters.tick ≡ z.core.meters.tick
        go true = refl
        go false = refl

passing : (x : Deed) → kind x ≡ 4 → lasts x ≡ 1
passing (rests r) e = absurd (omega arith)
passing (heats i v) e = absurd (omega arith)
passing offs e = absurd (omega arith)
passing checks e = absurd (omega arith)
passing passes e = refl
passing (acting o) e = absurd (omega arith)
passing closing e = absurd (omega arith)
passing enters e = absurd (omega arith)

module _ (e : Event) (h : Past) (s : State) (k : Sound h s) where
  comes : Comes e (shown_of s e) s (next s e) (meters_after e s) h
  comes = event_comes e (shown_of s e) s h refl k

  time_after : (next s e).core.meters.time ≡ (meters_after e s).time
  time_after = ap (λ (t : State). t.core.meters.time) comes.same ∙ (apply_aside comes.deed (meters_are (meters_after e s) s) k.whole).time_same

  tick_after : weight (brought e) ≡ 0 → (next s e).core.meters.tick ≡ (meters_after e s).tick
  tick_after z = ap (λ (t : State). t.core.meters.tick) comes.same ∙ same_tick comes.deed (meters_are (meters_after e s) s) (λ f. omega (arith, passing comes.deed f, comes.told_so.weighs, z))

trip_time : (t : Option Check) (z : State) → (trip_meters t z).time ≡ z.core.meters.time
trip_time None z = refl
trip_time (Some c) z = refl

trip_tick : (t : Option Check) (z : State) → (trip_meters t z).tick ≡ z.core.meters.tick
trip_tick None z = refl
trip_tick (Some c) z = refl

mark_meters : (b : Bool) (x : Mark) (s : State) → ((cond b s.core.meters (trip_meters (mark_trip x s.core) (clocked x s))).time ≡ cond b s.core.meters.time ((s.core.meters.time + 1) % 2 ^ 32)) × ((cond b s.core.meters (trip_meters (mark_trip x s.core) (clocked x s))).tick ≡ cond b s.core.meters.tick 0)
mark_meters true x s = (refl, refl)
mark_meters false x s = (trip_time (mark_trip x s.core) (clocked x s), trip_tick (mark_trip x s.core) (clocked x s))

mark_counts : (b : Bool) (x : Mark) (f : Option Report) (n m : ℕ) → f ≡ fault_of (cond b (Err RawCount) (Ok tt)) → (marking (brought (mark x)) f + n ≡ cond b n (n + 1)) × (restart (marking (brought (mark x)) f) (0 + m) ≡ cond b m 0)
mark_counts true x f n m e = (ap (λ (g : Option Report). marking (brought (mark x)) g + n) e ∙ omega arith, ap (λ (g : Option Report). restart (marking (brought (mark x)) g) (0 + m)) e ∙ omega arith)
mark_counts false x f n m e = (ap (λ (g : Option Report). marking (brought (mark x)) g + n) e ∙ omega arith, ap (λ (g : Option Report). restart (marking (brought (mark x)) g) (0 + m)) e)

mark_clock : (b : Bool) (t t' u u' n n' m m' : ℕ) → t' ≡ cond b t ((t + 1) % 2 ^ 32) → u' ≡ cond b u 0 → n' ≡ cond b n (n + 1) → m' ≡ cond b m 0 → t ≡ (1000000 + n) % 2 ^ 32 → u ≡ m % 200 → (t' ≡ (1000000 + n') % 2 ^ 32) × (u' ≡ m' % 200)
mark_clock true t t' u u' n n' m m' et eu en em p q = (omega arith, omega arith)
mark_clock false t t' u u' n n' m m' et eu en em p q = (omega arith, omega arith)

clock_more : (e : Event) (h : Past) (s : State) → Sound h s → ClockCounts h s → ClockCounts (came_of s e ∷ h) (next s e)
clock_more tick h s k c = record { time_counts_marks = omega (arith, c.time_counts_marks); tick_number_counts_ticks = omega (arith, c.tick_number_counts_ticks); timer_counts_down = (sound_more tick h s k).timer }
clock_more (frame p r) h s k c = record {
  time_counts_marks = omega (arith, time_after (frame p r) h s k, c.time_counts_marks);
  tick_number_counts_ticks = omega (arith, tick_after (frame p r) h s k refl, c.tick_number_counts_ticks);
  timer_counts_down = (sound_more (frame p r) h s k).timer;
}
clock_more (sample x) h s k c = record {
  time_counts_marks = omega (arith, time_after (sample x) h s k, trip_time (sample_trip x s) (counts_are (counts_after x s) s), c.time_counts_marks);
  tick_number_counts_ticks = omega (arith, tick_after (sample x) h s k refl, trip_tick (sample_trip x s) (counts_are (counts_after x s) s), c.tick_number_counts_ticks);
  timer_counts_down = (sound_more (sample x) h s k).timer;
}
clock_more (mark x) h s k c =
    let b = too_large x in
    let me = mark_meters b x s in
    let co = mark_counts b x (fault_of (second_answer x)) (marks h) (ticks_since_mark h) refl in
    let z = mark_clock b s.core.meters.time (next s (mark x)).core.meters.time s.core.meters.tick (next s (mark x)).core.meters.tick (marks h) (marks (came_of s (mark x) ∷ h)) (ticks_since_mark h) (ticks_since_mark (came_of s (mark x) ∷ h))
    (time_after (mark x) h s k ∙ me.0) (tick_after (mark x) h s k refl ∙ me.1) co.0 co.1 c.time_counts_marks c.tick_number_counts_ticks in
    record { time_counts_marks = z.0; tick_number_counts_ticks = z.1; timer_counts_down = (sound_more (mark x) h s k).timer }

pub clock : {h : Past} {s : State} → Follows h s → ClockCounts h s
clock (begun stored) = record { time_counts_marks = refl; tick_number_counts_ticks = refl; timer_counts_down = (sound_on stored).timer }
clock (gone {h} {s} e f) = clock_more e h s (every f) (clock f)

pub stands : {h : Past} {s : State} → Follows h s → Stands h s
stands f = record { follows = f; interlocks = (every f).kept; clock = clock f }

-- the time that an event's entries in the log bear
abbrev pub stamp_of : Event → State → ℕ
stamp_of tick s = s.core.meters.time
stamp_of (frame p r) s = s.core.meters.time
stamp_of (sample x) s = s.core.meters.time
stamp_of (mark x) s = cond (too_large x) s.core.meters.time ((s.core.meters.time + 1) % 2 ^ 32)

pub stamp_is : (e : Event) (h : Past) (s : State) → Sound h s → ClockCounts h s → stamp_of e s ≡ time_of (came_of s e ∷ h)
stamp_is tick h s k c = (clock_more tick h s k c).time_counts_marks
stamp_is (frame p r) h s k c = sym (time_after (frame p r) h s k) ∙ (clock_more (frame p r) h s k c).time_counts_marks
stamp_is (sample x) h s k c = sym (time_after (sample x) h s k ∙ trip_time (sample_trip x s) (counts_are (counts_after x s) s)) ∙ (clock_more (sample x) h s k c).time_counts_marks
stamp_is (mark x) h s k c = sym (time_after (mark x) h s k ∙ (mark_meters (too_large x) x s).0) ∙ (clock_more (mark x) h s k c).time_counts_marks

-- ---- the rates

module _ (e : Event) (h : Past) (s : State) (k : Sound h s) where
  last_after : (next s e).core.meters.last ≡ (meters_after e s).last
  last_after = ap (λ (t : State). t.core.meters.last) (comes e h s k).same ∙ (apply_aside (comes e h s k).deed (meters_are (meters_after e s) s) k.whole).last_same

pub take_again : {X : Type 0} (n : ℕ) (x : X) (l : List X) → take n (x ∷ take n l) ≡ take n (x ∷ l)
take_again zero x l = refl
take_again (suc n) x l = ap (λ (z : List _). x ∷ z) (take-take n (suc n) l (omega arith))

-- one event more, for the previous raw count and for the rates
pub record RatesMore (e : Event) (h : Past) (s : State) (l : Roll ℕ) : Type 0 where
  pub last_more : (next s e).core.meters.last ≡ newest (raws (came_of s e ∷ h))
  pub rates_more : RatesHeld (came_of s e ∷ h) (rates_after s e l)

pub rates_step : (e : Event) (h : Past) (s : State) (l : Roll ℕ) → Sound h s → s.core.meters.last ≡ newest (raws h) → RatesHeld h l → RatesMore e h s l
rates_step tick h s l k e r = record { last_more = e; rates_more = r }
rates_step (frame p q) h s l k e r = record { last_more = last_after (frame p q) h s k ∙ e; rates_more = r }
rates_step (sample x) h s l k e r = record { last_more = last_after (sample x) h s k ∙ trip_last (sample_trip x s) (counts_are (counts_after x s) s) ∙ e; rates_more = r }
rates_step (mark x) h s l k e r = record { last_more = last_after (mark x) h s k ∙ go (too_large x); rates_more = held (too_large x) }
  where
    go : (b : Bool) → (cond b s.core.meters (trip_meters (mark_trip x s.core) (clocked x s))).last ≡ newest (raws (did (mark x) (reading (fault_of (cond b (Err RawCount) (Ok tt))) not_due s) ∷ h))
    go true = e
    go false = trip_last (mark_trip x s.core) (clocked x s)

    held : (b : Bool) → RatesHeld (did (mark x) (reading (fault_of (cond b (Err RawCount) (Ok tt))) not_due s) ∷ h) (cond b l (added (rate_then x s.core) l))
    held true = r
    held false =
        ap (λ (z : List ℕ). take l.room (rate_then x s.core ∷ z)) r
        ∙ take_again l.room (rate_then x s.core) (rates_of (raws h))
        ∙ ap (λ (o : Option ℕ). take l.room (rate_at o x.raw ∷ rates_of (raws h))) e

pub last_raw : {h : Past} {s : State} → Follows h s → s.core.meters.last ≡ newest (raws h)
last_raw (begun stored) = refl
last_raw (gone {h} {s} e f) = (rates_step e h s (record { room = 0; items = [] }) (every f) (last_raw f) refl).last_more
