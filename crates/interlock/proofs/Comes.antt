-- What an event comes to: the tests of an accepted order, and how an event tells which deed it is.
use Rattle.std.proofs.Common.{◌≡◌, ℕ, zero, suc, ◌-◌, ◌<◌, ◌≤◌, Bool, true, false, cond, not, ◌&&◌, eqb, ltb, leb, ◌⊎◌, List, ◌∷◌, Some, None, Ok, Err, Option, Result, sym, refl, ap, ◌∙◌, inl, inr, ⊎_elim, arith, ltb-true, eqb-true, leb-true}
use borrow.Author.Tests.{eqb-false, both_ways}
use Rattle.std.proofs.lemmas.Bool.{and_parts, not-false}
use Rattle.codes.specs.declared.Report.{Report}
use Rattle.codes.proofs.Refusals.{passed}
use Rattle.telecommand.specs.Commands.{Telecommand}
use Rattle.telecommand.specs.Links.{reads}
use Rattle.telecommand.specs.declared.fault.ReadFault.{ReadFault}
use Rattle.head.specs.Parameters.{range_at, within}
use Rattle.head.specs.Requests.{request_of, op_of, order_op, barred}
use Rattle.head.specs.Verdicts.{Answer, in_safe, busy, is_drive, first_fits, second_fits, timer_bars, is_checkout, allowed, again, names, confirmed}
use Rattle.head.specs.State.{State, meters_are}
use Rattle.head.specs.declared.Mode.{Mode}
use Rattle.head.specs.declared.Mode.TheVariants.{Safe, Checkout}
use Rattle.head.specs.declared.Order.{Order}
use Rattle.head.specs.declared.Order.TheVariants.{SetParameter, OpenDoor, SetSupply, FireRelease}
use Rattle.head.specs.Countdown.{Waiting, Drive}
use Rattle.head.specs.declared.Meters.{Meters}
use Rattle.head.specs.declared.Core.{Core}
use Rattle.head.specs.declared.fault.Fault.TheVariants.{NotInSafe, OutOfRange, TimerRuns, DriveRuns, WrongConfirm, ConfirmFailed}
use Rattle.head.specs.declared.request.Request.{Request}
use Rattle.head.specs.declared.request.Request.TheVariants.{Nothing, Safe as AskSafe, Checkout as AskCheckout, Confirm, CloseDoor, SuppliesOff, Heater, Critical}
use Rattle.interlock.specs.Events.{Event, tick, frame, sample, mark}
use Rattle.interlock.specs.Runs.{fault_of}
use Rattle.interlock.specs.History.{Came, powered, brought, Did, Past, weight, sampling, Brings, Accepted, IsFrame, InCheckout, EntersSafe}
use Rattle.interlock.specs.declared.step.Shown.{Shown}
use Rattle.interlock.proofs.Agos.{ago_later, ago_cases, ago_map}
use Rattle.interlock.proofs.Orders.{order_words, Taken, tele, taken_frame}
use Rattle.interlock.proofs.Parts.{WaitIs}
use Rattle.interlock.proofs.Deeds.{Deed, kind, lasts, apply, Is, May, Fits, Told}

-- ---- the tests that an accepted order passed

pub err_ok : {V F : Type 0} (f : F) (v : V) → ◌≡◌ {A = Result V F} (Err f) (Ok v) → ⊥
err_ok f v e = let z : ◌≡◌ {A = ℕ} 0 1 = cc in omega arith

again_ok : (a : Answer) → again a ≡ Ok tt → a ≡ Ok tt
again_ok (Ok u) e = e
again_ok (Err f) e = absurd (err_ok ConfirmFailed tt e)

out_of_safe : (m : Mode) → (in_safe m && true) ≡ false → m ≡ Checkout
out_of_safe Safe e = absurd (both_ways true e refl)
out_of_safe Checkout e = refl

undriven : (r : Option Drive) → (true && busy r) ≡ false → r ≡ None
undriven None e = refl
undriven (Some d) e = absurd (both_ways true e refl)

-- what each test says of a request that passed them all
pub record Passed (c : Core) (q : Request) : Type 0 where
  pub mode_fits : (in_safe c.mode && barred q) ≡ false
  pub first_fits_lem : first_fits q ≡ true
  pub second_fits_lem : second_fits c.parameters q ≡ true
  pub timer_fits : (is_checkout q && timer_bars c) ≡ false
  pub drive_fits : (is_drive q && busy c.drive) ≡ false

pub allowed_ok : (c : Core) (q : Request) → allowed c q ≡ Ok tt → Passed c q
allowed_ok c q e =
    let drive : Answer = cond (is_drive q && busy c.drive) (Err (DriveRuns (op_of q))) (Ok tt) in
    let timer : Answer = cond (is_checkout q && timer_bars c) (Err TimerRuns) drive in
    let second : Answer = cond (not (second_fits c.parameters q)) (Err (OutOfRange 9 (op_of q))) timer in
    let first : Answer = cond (not (first_fits q)) (Err (OutOfRange 8 (op_of q))) second in
    let a = passed (in_safe c.mode && barred q) (NotInSafe (op_of q)) first tt e in
    let b = passed (not (first_fits q)) (OutOfRange 8 (op_of q)) second tt a.1 in
    let d = passed (not (second_fits c.parameters q)) (OutOfRange 9 (op_of q)) timer tt b.1 in
    let f = passed (is_checkout q && timer_bars c) TimerRuns drive tt d.1 in
    let g = passed (is_drive q && busy c.drive) (DriveRuns (op_of q)) (Ok tt) tt f.1 in
    record { mode_fits = a.0; first_fits_lem = not-false _ b.0; second_fits_lem = not-false _ d.0; timer_fits = f.0; drive_fits = g.0 }

-- ---- the table of parameters, computed once

abbrev all_below : ℕ → (ℕ → Bool) → Bool
all_below zero f = true
all_below (suc n) f = f n && all_below n f

pub all_below_lem : (n : ℕ) (f : ℕ → Bool) (i : ℕ) → all_below n f ≡ true → i < n → f i ≡ true
all_below_lem zero f i e lt = absurd (omega arith)
all_below_lem (suc n) f i e lt =
    let a = and_parts (f n) (all_below n f) e in
    ⊎_elim (λ less. all_below_lem n f i a.1 less) (λ same. ap f same ∙ a.0) (below i n lt)
  where
    below : (i n : ℕ) → i < suc n → (i < n) ⊎ (i ≡ n)
    below i n lt = go (eqb i n) refl
      where
        go : (b : Bool) → eqb i n ≡ b → (i < n) ⊎ (i ≡ n)
        go true e = inr (eqb-true _ _ e)
        go false e = let ne = eqb-false i n e in inl (omega arith)

pub highest : (i : ℕ) → i < 25 → (range_at i).highest ≤ 255
highest i lt = leb-true _ 255 (all_below_lem 25 (λ i. leb (range_at i).highest 255) i refl lt)

-- what an order that passed its tests asks
pub may : (o : Order) (s : State) → allowed s.core (Critical o) ≡ Ok tt → May o s
may (SetParameter i v) s e =
    let a = allowed_ok s.core (Critical (SetParameter i v)) e in
    let lt : i < 25 = ltb-true _ _ a.first_fits_lem in
    let w = and_parts (ltb i 25) (within (range_at i) v) a.second_fits_lem in
    let r = and_parts (leb (range_at i).lowest v) (leb v (range_at i).highest) w.1 in
    let top : v ≤ (range_at i).highest = leb-true _ _ r.1 in
    (lt, leb-true _ _ r.0, omega (arith, highest i lt, top))
may OpenDoor s e =
    let a = allowed_ok s.core (Critical OpenDoor) e in
    (out_of_safe s.core.mode a.mode_fits, undriven s.core.drive a.drive_fits)
may (SetSupply i v) s e =
    let a = allowed_ok s.core (Critical (SetSupply i v)) e in
    (out_of_safe s.core.mode a.mode_fits, ltb-true _ _ a.first_fits_lem)
may (FireRelease l n) s e =
    let a = allowed_ok s.core (Critical (FireRelease l n)) e in
    (out_of_safe s.core.mode a.mode_fits, undriven s.core.drive a.drive_fits, leb-true _ _ a.second_fits_lem)

pub confirm_ok : (w : Waiting) (s : State) (a b : ℕ) → confirmed (Some w) s.core a b ≡ Ok tt → (a ≡ order_op w.what) × (b ≡ 0xFFFF - a) × May w.what s × (first_fits (Critical w.what) ≡ true)
confirm_ok w s a b e =
    let x = passed (not (names w.what a b)) WrongConfirm (again (allowed s.core (Critical w.what))) tt e in
    let y = and_parts (eqb a (order_op w.what)) (eqb b (0xFFFF - a)) (not-false _ x.0) in
    let good = again_ok _ x.1 in
    (eqb-true _ _ y.0, eqb-true _ _ y.1, may w.what s good, (allowed_ok s.core (Critical w.what) good).first_fits_lem)

-- ---- what came, by a number: what leaves no mark has one above 5

abbrev pub tag_ask : Request → ℕ
tag_ask Nothing = 8
tag_ask AskSafe = 1
tag_ask AskCheckout = 2
tag_ask (Confirm a b) = 3
tag_ask CloseDoor = 4
tag_ask SuppliesOff = 5
tag_ask (Heater i v) = 9
tag_ask (Critical o) = 10

abbrev pub tag_read : Result Telecommand ReadFault → ℕ
tag_read (Ok t) = tag_ask (request_of t)
tag_read (Err f) = 7

abbrev pub tag : Came → ℕ
tag (powered ps) = 0
tag (brought tick) = 6
tag (brought (frame p r)) = tag_read (reads p r)
tag (brought (sample x)) = 11
tag (brought (mark x)) = 12

pub tag_of : (d : Did) (op : ℕ) (ws : List ℕ) → Brings op ws d → tag d.came ≡ tag_ask (request_of (tele op ws))
tag_of d op ws b = ap tag b.came_in ∙ ap tag_read b.read_as

pub tag_order : (d : Did) (h : Past) (o : Order) → Taken o (d ∷ h) → tag d.came ≡ 10
tag_order d h o t = tag_of d (order_op o) (order_words o) t.0 ∙ ten o
  where
    ten : (o : Order) → tag_ask (request_of (tele (order_op o) (order_words o))) ≡ 10
    ten (SetParameter i v) = refl
    ten OpenDoor = refl
    ten (SetSupply s v) = refl
    ten (FireRelease l n) = refl

abbrev pub did : Event → Shown → Did
did e x = record { came = brought e; shown = x }

module _ (d : Did) (h : Past) where
  -- by the number of what came
  pub told : (x : Deed) (n : ℕ) → tag d.came ≡ n → Is x (d ∷ h) → (3 ≡ n → kind x ≡ 5) → (9 ≡ n → kind x ≡ 1) → (5 ≡ n → kind x ≡ 2) → (2 ≡ n → kind x ≡ 3) → (4 ≡ n → kind x ≡ 6) → (1 ≡ n → InCheckout h → kind x ≡ 7) → 0 < n → n < 12 → sampling d.came ≡ 0 → weight d.came ≡ lasts x → Told x d h
  told x n e is c b f k l s pos low us w = record {
    is = is;
    confirmed = λ op ws q. c (sym (tag_of d _ _ q.0.1.0) ∙ e);
    heated = λ i v a. b (sym (tag_of d _ _ a.0) ∙ e);
    cleared = λ a. f (sym (tag_of d _ _ a.0) ∙ e);
    checked = λ a. k (sym (tag_of d _ _ a.0) ∙ e);
    closed = λ a. l (sym (tag_of d _ _ a.0) ∙ e);
    entry = λ a. ⊎_elim (λ q. s (sym (tag_of d _ _ q.0) ∙ e) a.1) (λ w. ⊎_elim (λ q. absurd (omega (arith, q.sampled))) (λ q. absurd (omega (arith, ap tag q.came_in.0))) w.0) a.0;
    unpowered = λ ps p. omega (arith, ap tag p);
    weighs = w;
  }

  -- what is no frame is no command
  pub told_unframed : (x : Deed) → ((p r : List ℕ) → d.came ≡ brought (frame p r) → ⊥) → ((ps : List ℕ) → d.came ≡ powered ps → ⊥) → Is x (d ∷ h) → weight d.came ≡ lasts x → (EntersSafe (d ∷ h) → kind x ≡ 7) → Told x d h
  told_unframed x no_f up is w en =
      let unread : (op : ℕ) (ws : List ℕ) → Accepted op ws (d ∷ h) → ⊥ = λ op ws a. no_f _ _ a.0.came_in in
      record {
        is = is;
        confirmed = λ op ws q. absurd (unread _ _ q.0.1);
        heated = λ i v a. absurd (unread _ _ a);
        cleared = λ a. absurd (unread _ _ a);
        checked = λ a. absurd (unread _ _ a);
        closed = λ a. absurd (unread _ _ a);
        entry = en;
        unpowered = up;
        weighs = w;
      }

  -- a refused event is nothing that the history counts
  pub told_refused : (x : Deed) (f : Report) → d.shown.fault ≡ Some f → ((ps : List ℕ) → d.came ≡ powered ps → ⊥) → Is x (d ∷ h) → sampling d.came ≡ 0 → weight d.came ≡ lasts x → Told x d h
  told_refused x f e up is us w =
      let never : d.shown.fault ≡ None → ⊥ = λ q. let z : ◌≡◌ {A = ℕ} 0 1 = cc in omega arith in
      record {
        is = is;
        confirmed = λ op ws q. absurd (never q.0.1.1);
        heated = λ i v a. absurd (never a.1);
        cleared = λ a. absurd (never a.1);
        checked = λ a. absurd (never a.1);
        closed = λ a. absurd (never a.1);
        entry = λ a. absurd (⊎_elim (λ q. never q.1) (λ w. ⊎_elim (λ q. omega (arith, q.sampled)) (λ q. never q.came_in.1) w.0) a.0);
        unpowered = up;
        weighs = w;
      }

  -- nothing came of it: what waits waits on
  pub stays : (w : Option Waiting) → (IsFrame (d ∷ h) → ⊥) → (EntersSafe (d ∷ h) → ⊥) → weight d.came ≡ 0 → WaitIs w h → WaitIs w (d ∷ h)
  stays None nf ne z k = λ o a. ⊎_elim (λ now. nf (taken_frame d h _ _ now.0.0)) (λ l. k o (ago_map (λ t p x. (x.0, omega (arith, x.1))) (λ p q. q) l.was)) (ago_cases d h a)
  stays (Some w) nf ne z k = (k.0, ago_later d h (nf, ne) (ago_map (λ t p x. (x.0, omega (arith, x.1))) (λ p q. q) k.1))

-- an event of a state: some deed on the state with its meters set
pub record Comes (e : Event) (x : Shown) (s t : State) (me : Meters) (h : Past) : Type 0 where
  pub deed : Deed
  pub same : t ≡ apply deed (meters_are me s)
  pub told_so : Told deed (did e x) h
  pub fits : Fits deed (meters_are me s)

pub unpowered : (e : Event) (x : Shown) (ps : List ℕ) → (did e x).came ≡ powered ps → ⊥
unpowered e x ps q = let z : ◌≡◌ {A = ℕ} 0 1 = cc in omega arith

pub fault_none : (a : Answer) → fault_of a ≡ None → a ≡ Ok tt
fault_none (Ok u) e = refl
fault_none (Err f) e = let z : ◌≡◌ {A = ℕ} 0 1 = cc in absurd (omega arith)
