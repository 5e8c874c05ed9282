-- What an event adds to the log is what the history says was to be logged.
use Rattle.std.proofs.Common.{◌≡◌, ℕ, zero, suc, ◌+◌, ◌%◌, ◌^◌, ◌<◌, Bool, true, false, cond, ◌&&◌, eqb, ltb, ◌⊎◌, ◌↔◌, List, [], ◌∷◌, length, get_or, take, Some, None, Ok, Err, Option, Result, sym, refl, ap, ◌∙◌, subst, inl, inr, ⊎_elim, arith, ltb-false, ltb-true, eq-eqb, eqb-true}
use borrow.Author.Tests.{both_ways}
use Rattle.std.proofs.lemmas.Bool.{and_parts}
use Rattle.std.proofs.lemmas.List.{nil_from_length}
use Rattle.codes.specs.Reports.{report}
use Rattle.codes.specs.declared.Report.{Report}
use Rattle.codes.specs.declared.Entry.{Entry}
use Rattle.telecommand.specs.Commands.{Telecommand, Legal, WordsFit, kind_in, commands}
use Rattle.telecommand.specs.Links.{reads, set_aside, blank}
use Rattle.telecommand.specs.Faults.{read_report}
use Rattle.telecommand.specs.declared.kinds.Kind.{Kind}
use Rattle.telecommand.specs.declared.fault.ReadFault.{ReadFault}
use Rattle.telecommand.specs.declared.fault.ReadFault.TheVariants.{Length, Header, UnknownCommand, WordCount}
use Rattle.telecommand.proofs.Readings.{reads_legal}
use Rattle.head.specs.Checks.{number_of, lowest}
use Rattle.head.specs.Faults.{report_of, note_of}
use Rattle.head.specs.Requests.{request_of, order_op, marked}
use Rattle.head.specs.Parameters.{allowed}
use Rattle.ring.specs.Rolls.{added, emptied}
use Rattle.head.specs.Rolls.{Log, entry}
use Rattle.head.specs.Verdicts.{Answer, judged}
use Rattle.head.specs.State.{State}
use Rattle.head.specs.Effects.{is_entry}
use Rattle.head.specs.Events.{both_empty, heard_answer, sample_trip, not_overridden, too_large, clocked, mark_trip}
use Rattle.head.specs.Logs.{unsaid, aside_log, loss_log, own_log, heard_log, late_log, trip_log, restored_log}
use Rattle.head.specs.declared.Mode.{Mode}
use Rattle.head.specs.declared.Mode.TheVariants.{Safe, Checkout}
use Rattle.head.specs.declared.Order.{Order}
use Rattle.head.specs.Countdown.{Waiting}
use Rattle.head.specs.declared.Core.{Core}
use Rattle.head.specs.declared.checks.Check.{Check}
use Rattle.head.specs.declared.checks.Sample.{Sample}
use Rattle.head.specs.declared.checks.Mark.{Mark}
use Rattle.head.specs.declared.request.Request.{Request}
use Rattle.head.specs.declared.request.Request.TheVariants.{Nothing, Safe as AskSafe, Checkout as AskCheckout, Confirm, CloseDoor, SuppliesOff, Heater, Critical}
use Rattle.head.specs.declared.fault.Fault.{Fault}
use Rattle.head.specs.declared.fault.Fault.TheVariants.{BothEmpty, Unread, NotInSafe, CriticalWaits, WrongConfirm, NothingWaits, OutOfRange, TimerRuns, DriveRuns, ConfirmFailed, RawCount}
use Rattle.head.specs.declared.fault.Note.TheVariants.{Tripped}
use Rattle.head.specs.declared.safe.Turn.TheVariants.{Trip}
use Rattle.interlock.specs.Events.{Event, tick, frame, sample, mark}
use Rattle.interlock.specs.Runs.{fault_of, answer_of, shown_of, log_after}
use Rattle.interlock.specs.History.{brought, Did, Past, Ago, weight, ticks, Accepted, IsFrame, ParameterIs, Trips, TripsAt, InCheckout, EntersSafe, LeavesWaiting}
use Rattle.interlock.specs.Logged.{SetsAside, Tells, Loses, Refuses, Late, TripEnters, Only, Adds, time_of, stamped, newer, replaced, began, went_on, LogHeld}
use Rattle.interlock.specs.Promises.{ClockCounts, begins, came_of}
use Rattle.interlock.specs.declared.step.Shown.{Shown}
use Rattle.interlock.proofs.Agos.{ago_later, ago_cases, ago_map}
use Rattle.interlock.proofs.Orders.{order_words, Taken, tele, critical}
use Rattle.interlock.proofs.Parts.{ModeIs, WaitIs, one_wait, given_one, unwaited}
use Rattle.interlock.proofs.Deeds.{Now}
use Rattle.interlock.proofs.Asks.{Means, means}
use Rattle.interlock.proofs.Comes.{did, tag_ask}
use Rattle.interlock.proofs.Frames.{is_frame}
use Rattle.interlock.proofs.Samples.{TripsAs, Lowest, lowest_some, lowest_none, trips_at, overridden_not, override_of, sample_trips_as}
use Rattle.interlock.proofs.Marks.{mark_trips_as}
use Rattle.interlock.proofs.Whole.{Sound, quiet, take_again, stamp_of, stamp_is}

-- ---- a critical command that was accepted is an order

abbrev all_of : (ℕ → Bool) → List Kind → Bool
all_of f [] = true
all_of f (k ∷ rest) = f k.opcode && all_of f rest

-- what holds of every op-code in a table holds of one that is found there
in_table : (f : ℕ → Bool) (cs : List Kind) (op : ℕ) (ws : List ℕ) → all_of f cs ≡ true → WordsFit (kind_in cs op) ws → f op ≡ true
in_table f [] op ws all w = absurd w
in_table f (k ∷ rest) op ws all w = go (eqb k.opcode op) refl (λ v. in_table f rest op ws (and_parts (f k.opcode) (all_of f rest) all).1 v) w
  where
    go : (b : Bool) → eqb k.opcode op ≡ b → (WordsFit (kind_in rest op) ws → f op ≡ true) → WordsFit (cond b (Some k) (kind_in rest op)) ws → f op ≡ true
    go true e further w = ap f (sym (eqb-true _ _ e)) ∙ (and_parts (f k.opcode) (all_of f rest) all).0
    go false e further w = further w

critical_order : (op : ℕ) (ws : List ℕ) → (marked op).critical ≡ true → Legal op ws → (o : Order) × (tele op ws ≡ tele (order_op o) (order_words o))
critical_order op ws is legal = go (request_of (tele op ws)) (eqb-true _ _ ten) (means (tele op ws) legal)
  where
    ten : eqb (tag_ask (request_of (tele op ws))) 10 ≡ true
    ten =
        sym (ap (λ (b : Bool). cond b (eqb (tag_ask (request_of (tele op ws))) 10) true) is)
        ∙ in_table (λ n. cond (marked n).critical (eqb (tag_ask (request_of (tele n ws))) 10) true) commands op ws refl legal

    go : (q : Request) → tag_ask q ≡ 10 → Means q (tele op ws) → (o : Order) × (tele op ws ≡ tele (order_op o) (order_words o))
    go Nothing e m = absurd (omega arith)
    go AskSafe e m = absurd (omega arith)
    go AskCheckout e m = absurd (omega arith)
    go (Confirm a b) e m = absurd (omega arith)
    go CloseDoor e m = absurd (omega arith)
    go SuppliesOff e m = absurd (omega arith)
    go (Heater i v) e m = absurd (omega arith)
    go (Critical o) e m = (o, m)

-- a critical command accepted some events ago, as an order
ordered : {X : ℕ → Type 0} {Q : Past → Type 0} (op : ℕ) (ws : List ℕ) (h : Past) → (marked op).critical ≡ true → Ago (λ t p. Accepted op ws p × X t) Q h → (o : Order) × (op ≡ order_op o) × Ago (λ t p. Taken o p × X t) Q h
ordered {X} {Q} op ws h is a =
    let c = critical_order op ws is (legal _ a.held.0) in
    (c.0, ap (λ (t : Telecommand). t.opcode) c.1, subst (λ (t : Telecommand). Ago (λ n p. Accepted t.opcode t.words p × X n) Q h) c.1 a)
  where
    legal : (p : Past) → Accepted op ws p → Legal op ws
    legal [] x = absurd x
    legal (d ∷ h) x = reads_legal x.0.primary x.0.redundant (tele op ws) x.0.read_as

-- ---- the one report, or none

pub only_none : {Of : Report → Type 0} → ((r : Report) → Of r → ⊥) → Only Of None
only_none never r = (λ x. absurd (never r x), λ e. let z : ◌≡◌ {A = ℕ} 0 1 = cc in absurd (omega arith))

pub only_some : {Of : Report → Type 0} (x : Report) → Of x → ((r : Report) → Of r → x ≡ r) → Only Of (Some x)
only_some {Of} x is one r = (λ y. ap (λ (v : Report). Some v) (one r y), λ e. let same : x ≡ r = cc in subst Of same is)

-- ---- the reports, by the rules: what was set aside, a loss that may go unsaid, a command that is late, a trip

abbrev aside_report : Option ReadFault → Option Report
aside_report None = None
aside_report (Some f) = Some (read_report f)

abbrev loss_report : Option Waiting → Bool → Option Report
loss_report None quiet = None
loss_report (Some w) quiet = cond quiet None (Some (report 2 0x26 6 (order_op w.what)))

abbrev late_report : Option Waiting → Option Report
late_report None = None
late_report (Some w) = cond (ltb 1 w.left) None (Some (report 2 0x28 6 (order_op w.what)))

abbrev trip_report : Option Check → Bool → Option Report
trip_report None b = None
trip_report (Some c) b = cond b (Some (note_of (Tripped c))) None

-- ---- the parts that an event has nothing of

module _ (d : Did) (h : Past) where
  abbrev NoFrame : Type 0
  NoFrame = (p q : List ℕ) → d.came ≡ brought (frame p q) → ⊥

  aside_none : NoFrame → Only (SetsAside (d ∷ h)) None
  aside_none never = only_none (λ r x. never x.0 x.1 x.3)

  loss_none : NoFrame → Only (Loses (d ∷ h)) None
  loss_none never = only_none (λ r x. never x.4.0 x.4.1 x.4.2)

  late_none : (d.came ≡ brought tick → ⊥) → Only (Late (d ∷ h)) None
  late_none never = only_none (λ r x. never x.3)

  trip_none : (Trips (d ∷ h) → ⊥) → Only (TripEnters (d ∷ h)) None
  trip_none never = only_none (λ r x. never (trips_at x.0 d h x.2))

  -- the answer itself, where it is no matter of two empty links
  refusal_is : (f : Option Report) → d.shown.fault ≡ f → (d.came ≡ brought (frame [] []) → ⊥) → Only (Refuses (d ∷ h)) f
  refusal_is f e some r = (λ x. sym e ∙ x.0, λ y. (e ∙ y, some))

  -- ---- a tick

  -- the command that is late was accepted 1,999 ticks before this one
  lately : (r : Report) → d.came ≡ brought tick → Late (d ∷ h) r → (o : Order) × (r ≡ report 2 0x28 6 (order_op o)) × Ago (λ t p. Taken o p × (t ≡ 1999)) LeavesWaiting h
  lately r came x =
      ⊎_elim
      (λ now. let e = now.0.0.0.came_in in let z : ◌≡◌ {A = ℕ} 0 1 = cc in absurd (omega arith))
      (λ l.
      let one : weight d.came ≡ 1 = ap weight came in
      let a = ordered x.0 x.1 h x.2 (ago_map (λ t p y. (y.0, omega (arith, y.1, one))) (λ p y. y) l.was) in
      (a.0, x.5 ∙ ap (λ (n : ℕ). report 2 0x28 6 n) a.1, a.2))
      (ago_cases d h x.4)

  late_is : (w : Option Waiting) → d.came ≡ brought tick → (EntersSafe (d ∷ h) → ⊥) → WaitIs w h → Only (Late (d ∷ h)) (late_report w)
  late_is None came no-e k = only_none (λ r x. let a = lately r came x in k a.0 (ago_map (λ t p y. (y.0, omega (arith, y.1))) (λ p y. y) a.2))
  late_is (Some w) came no-e k = go (ltb 1 w.left) refl
    where
      no_f : IsFrame (d ∷ h) → ⊥
      no_f f = let e = f.2 in let z : ◌≡◌ {A = ℕ} 0 1 = cc in omega arith

      go : (b : Bool) → ltb 1 w.left ≡ b → Only (Late (d ∷ h)) (cond b None (Some (report 2 0x28 6 (order_op w.what))))
      go true e = only_none (λ r x.
          let a = lately r came x in
          omega (arith, ltb-true 1 w.left e, k.1.held.1, a.2.held.1, ap (λ b. ticks (take b h)) (one_wait h _ _ k.1 a.2)))
      go false e = only_some (report 2 0x28 6 (order_op w.what))
          (order_op w.what, order_words w.what, critical w.what, came, ago_later d h (no_f, no-e) (ago_map (λ t p y. (y.0, omega (arith, y.1, ltb-false 1 w.left e, k.0, ap weight came))) (λ p y. y) k.1), refl)
          (λ r x.
          let a = lately r came x in
          let same = given_one w.what a.0 h (unwaited w.what w.left h k.1) (ago_map (λ t p y. y.0) (λ p y. y.0) a.2) in
          ap (λ (o : Order). report 2 0x28 6 (order_op o)) same ∙ sym a.1)

  -- ---- a frame

  aside_is : (p q : List ℕ) → d.came ≡ brought (frame p q) → Only (SetsAside (d ∷ h)) (aside_report (set_aside p q))
  aside_is p q came = go (set_aside p q) refl
    where
      same : (r : Report) → SetsAside (d ∷ h) r → aside_report (set_aside p q) ≡ Some r
      same r x =
          let other = x.3 in
          let ep : p ≡ x.0 = cc in
          let eq : q ≡ x.1 = cc in
          ap aside_report (ap (λ (y : List ℕ). set_aside y q) ep ∙ ap (set_aside x.0) eq ∙ x.4) ∙ ap (λ (y : Report). Some y) (sym x.5)

      go : (f : Option ReadFault) → set_aside p q ≡ f → Only (SetsAside (d ∷ h)) (aside_report f)
      go None e = only_none (λ r x. let s = sym (ap aside_report e) ∙ same r x in let z : ◌≡◌ {A = ℕ} 0 1 = cc in omega arith)
      go (Some f) e = only_some (read_report f) (p, q, f, came, e, refl) (λ r x. let s : ◌≡◌ {A = Option Report} (Some (read_report f)) (Some r) = sym (ap aside_report e) ∙ same r x in cc)

  loss_is : (w : Option Waiting) (said : Bool) → IsFrame (d ∷ h) → ((said ≡ true) ↔ Tells (d ∷ h)) → WaitIs w h → Only (Loses (d ∷ h)) (loss_report w said)
  loss_is None said fr tells k = only_none (λ r x. let a = ordered x.0 x.1 h x.2 x.3 in k a.0 a.2)
  loss_is (Some w) true fr tells k = only_none (λ r x. x.5 (tells.0 refl))
  loss_is (Some w) false fr tells k = only_some (report 2 0x26 6 (order_op w.what))
      (order_op w.what, order_words w.what, critical w.what, ago_map (λ t p y. (y.0, omega (arith, y.1, k.0))) (λ p y. y) k.1, fr, λ t. both_ways false refl (tells.1 t), refl)
      (λ r x.
      let a = ordered x.0 x.1 h x.2 x.3 in
      let same = given_one w.what a.0 h (unwaited w.what w.left h k.1) (ago_map (λ t p y. y.0) (λ p y. y.0) a.2) in
      ap (λ (o : Order). report 2 0x26 6 (order_op o)) same ∙ ap (λ (n : ℕ). report 2 0x26 6 n) (sym a.1) ∙ sym x.6)

-- what a frame tells of itself

abbrev Telling : ℕ → Type 0
Telling n = (n ≡ 0x24) ⊎ ((n ≡ 0x25) ⊎ (n ≡ 0x45))

untelling : {G : Type 0} (n : ℕ) → (n ≡ 0x24 → ⊥) → (n ≡ 0x25 → ⊥) → (n ≡ 0x45 → ⊥) → Telling n → G
untelling n a b c = ⊎_elim (λ e. absurd (a e)) (⊎_elim (λ e. absurd (b e)) (λ e. absurd (c e)))

unread_tells : {G : Type 0} (f : ReadFault) → Telling (read_report f).code → G
unread_tells Length = untelling 0x20 (λ e. omega arith) (λ e. omega arith) (λ e. omega arith)
unread_tells (Header octet) = untelling 0x10 (λ e. omega arith) (λ e. omega arith) (λ e. omega arith)
unread_tells (UnknownCommand op) = untelling 0x21 (λ e. omega arith) (λ e. omega arith) (λ e. omega arith)
unread_tells (WordCount op) = untelling 0x22 (λ e. omega arith) (λ e. omega arith) (λ e. omega arith)

-- a fault tells by its code exactly where the rules leave the loss unsaid

said_by_lem : (f : Fault) (q : Request) → Telling (report_of f).code → unsaid (Err f) q ≡ true
said_by_lem BothEmpty q = untelling 0x11 (λ e. omega arith) (λ e. omega arith) (λ e. omega arith)
said_by_lem (Unread f) q = unread_tells f
said_by_lem (NotInSafe op) q = untelling 0x23 (λ e. omega arith) (λ e. omega arith) (λ e. omega arith)
said_by_lem (CriticalWaits op) q = λ t. refl
said_by_lem WrongConfirm q = λ t. refl
said_by_lem NothingWaits q = untelling 0x27 (λ e. omega arith) (λ e. omega arith) (λ e. omega arith)
said_by_lem (OutOfRange place op) q = untelling 0x40 (λ e. omega arith) (λ e. omega arith) (λ e. omega arith)
said_by_lem TimerRuns q = untelling 0x30 (λ e. omega arith) (λ e. omega arith) (λ e. omega arith)
said_by_lem (DriveRuns op) q = untelling 0x41 (λ e. omega arith) (λ e. omega arith) (λ e. omega arith)
said_by_lem ConfirmFailed q = λ t. refl
said_by_lem RawCount q = untelling 0x50 (λ e. omega arith) (λ e. omega arith) (λ e. omega arith)

telling_of : (f : Fault) (q : Request) → unsaid (Err f) q ≡ true → Telling (report_of f).code
telling_of BothEmpty q e = absurd (both_ways false refl e)
telling_of (Unread f) q e = absurd (both_ways false refl e)
telling_of (NotInSafe op) q e = absurd (both_ways false refl e)
telling_of (CriticalWaits op) q e = inl refl
telling_of WrongConfirm q e = inr (inl refl)
telling_of NothingWaits q e = absurd (both_ways false refl e)
telling_of (OutOfRange place op) q e = absurd (both_ways false refl e)
telling_of TimerRuns q e = absurd (both_ways false refl e)
telling_of (DriveRuns op) q e = absurd (both_ways false refl e)
telling_of ConfirmFailed q e = inr (inr refl)
telling_of RawCount q e = absurd (both_ways false refl e)

module _ (p r : List ℕ) (x : Shown) (h : Past) where
  abbrev D : Did
  D = did (frame p r) x

  -- a refused frame
  refused_tells : (f : Fault) (q : Request) → x.fault ≡ fault_of (Err f) → (unsaid (Err f) q ≡ true) ↔ Tells (D ∷ h)
  refused_tells f q e = (
    λ t. inr (report_of f, e, telling_of f q t),
    ⊎_elim
        (λ a. let ok = a.1.1 in let z : ◌≡◌ {A = ℕ} 0 1 = cc in absurd (omega arith))
        (λ a. let other = a.1 in let same : a.0 ≡ report_of f = cc in said_by_lem f q (subst (λ (y : Report). Telling y.code) same a.2)),
  )

  confirmed_by : (q : Request) (t : Telecommand) → reads p r ≡ Ok t → Means q t → x.fault ≡ None → unsaid (Ok tt) q ≡ true → Tells (D ∷ h)
  confirmed_by Nothing t read m ok e = absurd (both_ways false refl e)
  confirmed_by AskSafe t read m ok e = absurd (both_ways false refl e)
  confirmed_by AskCheckout t read m ok e = absurd (both_ways false refl e)
  confirmed_by (Confirm a b) t read m ok e = inl (t.words, (record { primary = p; redundant = r; came_in = refl; read_as = read ∙ ap (λ (u : Telecommand). Ok u) m.0 }, ok))
  confirmed_by CloseDoor t read m ok e = absurd (both_ways false refl e)
  confirmed_by SuppliesOff t read m ok e = absurd (both_ways false refl e)
  confirmed_by (Heater i v) t read m ok e = absurd (both_ways false refl e)
  confirmed_by (Critical o) t read m ok e = absurd (both_ways false refl e)

  -- an accepted one
  accepted_tells : (t : Telecommand) → reads p r ≡ Ok t → x.fault ≡ None → (unsaid (Ok tt) (request_of t) ≡ true) ↔ Tells (D ∷ h)
  accepted_tells t read ok = (
    confirmed_by (request_of t) t read (means t (reads_legal p r t read)) ok,
    ⊎_elim
        (λ a.
        let b = a.1.0 in
        let came = b.came_in in
        let sp : p ≡ b.primary = cc in
        let sr : r ≡ b.redundant = cc in
        let both : ◌≡◌ {A = Result Telecommand ReadFault} (Ok t) (Ok (tele 0x6604 a.0)) = sym read ∙ ap (λ (y : List ℕ). reads y r) sp ∙ ap (reads b.primary) sr ∙ b.read_as in
        let same : t ≡ tele 0x6604 a.0 = cc in
        ap (λ (u : Telecommand). unsaid (Ok tt) (request_of u)) same)
        (λ a. let e = a.1 in let z : ◌≡◌ {A = ℕ} 0 1 = cc in absurd (omega arith)),
  )

-- ---- a trip

module _ (d : Did) (h : Past) (never : NoFrame d h) where
  entered : EntersSafe (d ∷ h) → ParameterIs 21 0 h × InCheckout h
  entered e = ⊎_elim (λ a. absurd (never _ _ a.0.came_in)) (λ t. (t.1, e.1)) e.0

  -- the lowest is one number
  lowest_one : (ts : List Bool) (m n : ℕ) → TripsAs ts (d ∷ h) → Lowest ts m → TripsAt n (d ∷ h) → ((b : ℕ) → b < n → TripsAt b (d ∷ h) → ⊥) → m ≡ n
  lowest_one ts m n lists low at none = go (ltb m n) refl (ltb n m) refl
    where
      go : (a : Bool) → ltb m n ≡ a → (b : Bool) → ltb n m ≡ b → m ≡ n
      go true e b f = absurd (none m (ltb-true _ _ e) ((lists m).1 low.0))
      go false e true f = absurd (both_ways _ (low.1 n (ltb-true _ _ f)) ((lists n).0 at))
      go false e false f = omega (arith, ltb-false m n e, ltb-false n m f)

  trip_is : (a b c e f : Bool) (t : Option Check) (now : Bool) → lowest (a ∷ b ∷ c ∷ e ∷ f ∷ []) ≡ t → TripsAs (a ∷ b ∷ c ∷ e ∷ f ∷ []) (d ∷ h) → ((now ≡ true) ↔ (ParameterIs 21 0 h × InCheckout h)) → Only (TripEnters (d ∷ h)) (trip_report t now)
  trip_is a b c e f None now is lists en = only_none (λ r x. both_ways _ (lowest_none a b c e f is x.0) ((lists x.0).0 x.2))
  trip_is a b c e f (Some k) false is lists en = only_none (λ r x. both_ways false refl (en.1 (entered x.1)))
  trip_is a b c e f (Some k) true is lists en =
      let low = lowest_some a b c e f k is in
      let at = (lists (number_of k)).1 low.0 in
      let on = en.0 refl in
      only_some (note_of (Tripped k))
      (number_of k, (inr (trips_at (number_of k) d h at, on.0), on.1), at, λ i lt t. both_ways _ (low.1 i lt) ((lists i).0 t), refl)
      (λ r x. ap (λ (n : ℕ). report 4 (0x60 + n) n 0) (lowest_one (a ∷ b ∷ c ∷ e ∷ f ∷ []) (number_of k) x.0 lists low x.2 x.3) ∙ sym x.4)

-- override 0 and CHECKOUT, by the head and by the history
enters_now : (m : Mode) (s : State) (h : Past) → ModeIs m h → Now h s → (not_overridden s.core.parameters && is_entry m Trip) ≡ true ↔ (ParameterIs 21 0 h × InCheckout h)
enters_now Safe s h is k = (λ e. absurd (both_ways false refl (and_parts (not_overridden s.core.parameters) false e).1), λ x. absurd (is x.1))
enters_now Checkout s h is k = (
  λ e. (overridden_not s h k (eqb-true _ _ (and_parts (not_overridden s.core.parameters) true e).0), is),
  λ x. ap (λ (b : Bool). b && true) (eq-eqb (get_or s.core.parameters 21 0) 0 (override_of s h k x.0)),
)

-- ---- the log

abbrev noting : ℕ → Option Report → Log → Log
noting time None l = l
noting time (Some r) l = added (entry time r) l

abbrev noting_all : {p : Past} → Adds p → ℕ → Log → Log
noting_all a t l = noting t a.trip (noting t a.late (noting t a.refusal (noting t a.loss (noting t a.aside l))))

abbrev Holds : List Entry → Log → Type 0
Holds all l = l.items ≡ take l.room all

held_noting : (t : ℕ) (o : Option Report) (all : List Entry) (l : Log) → Holds all l → Holds (stamped t o all) (noting t o l)
held_noting t None all l e = e
held_noting t (Some r) all l e = ap (λ (z : List Entry). take l.room (entry t r ∷ z)) e ∙ take_again l.room (entry t r) all

goes_on : (d : Did) (h : Past) (a : Adds (d ∷ h)) (t : ℕ) (l l' : Log) → t ≡ time_of (d ∷ h) → l' ≡ noting_all a t l → LogHeld h l → LogHeld (d ∷ h) l'
goes_on d h a t l l' time same k = (
  newer a (time_of (d ∷ h)) k.0,
  went_on d h k.0 a k.1,
  subst (Holds (newer a (time_of (d ∷ h)) k.0)) (sym same) (subst (λ (n : ℕ). Holds (newer a n k.0) (noting_all a t l)) time
      (held_noting t a.trip _ _ (held_noting t a.late _ _ (held_noting t a.refusal _ _ (held_noting t a.loss _ _ (held_noting t a.aside k.0 l k.2)))))),
)

-- ---- each event adds what the history says

module _ (h : Past) (s : State) (k : Sound h s) where
  abbrev now : ℕ
  now = s.core.meters.time

  module _ (x : Shown) (f : x.fault ≡ None) where
    tick_adds : Adds (did tick x ∷ h)
    tick_adds =
        let d = did tick x in
        let no-trip : Trips (d ∷ h) → ⊥ = quiet d h refl (λ y e. let z : ◌≡◌ {A = ℕ} 0 1 = cc in omega arith) in
        let no_frame : NoFrame d h = λ p q e. let z : ◌≡◌ {A = ℕ} 0 1 = cc in omega arith in
        record {
          aside = None;
          loss = None;
          refusal = None;
          late = late_report s.core.waiting;
          trip = None;
          aside_only = aside_none d h no_frame;
          loss_only = loss_none d h no_frame;
          refusal_only = refusal_is d h None f (λ e. no_frame [] [] e);
          late_only = late_is d h s.core.waiting refl (λ e. no-trip (⊎_elim (λ a. absurd (no_frame _ _ a.0.came_in)) (λ t. t.0) e.0)) k.now.wait_is;
          trip_only = trip_none d h no-trip;
        }

    -- a sample, or an accepted second mark, with the checks that it trips
    checked_adds : (e : Event) (a b c m t : Bool) → NoFrame (did e x) h → ((did e x).came ≡ brought tick → ⊥) → TripsAs (a ∷ b ∷ c ∷ m ∷ t ∷ []) (did e x ∷ h) → Adds (did e x ∷ h)
    checked_adds e a b c m t no_frame no-tick lists =
        let d = did e x in
        let low = lowest (a ∷ b ∷ c ∷ m ∷ t ∷ []) in
        record {
          aside = None;
          loss = None;
          refusal = None;
          late = None;
          trip = trip_report low (not_overridden s.core.parameters && is_entry s.core.mode Trip);
          aside_only = aside_none d h no_frame;
          loss_only = loss_none d h no_frame;
          refusal_only = refusal_is d h None f (λ y. no_frame [] [] y);
          late_only = late_none d h no-tick;
          trip_only = trip_is d h no_frame a b c m t low _ refl lists (enters_now s.core.mode s h k.now.mode_is k.now);
        }

    sample_adds : (y : Sample) → Adds (did (sample y) x ∷ h)
    sample_adds y = checked_adds (sample y) _ _ _ _ _ (λ p q e. let z : ◌≡◌ {A = ℕ} 0 1 = cc in omega arith) (λ e. let z : ◌≡◌ {A = ℕ} 0 1 = cc in omega arith) (sample_trips_as y x s h k.counts k.now)

    mark_adds : (y : Mark) → Adds (did (mark y) x ∷ h)
    mark_adds y = checked_adds (mark y) _ _ _ _ _ (λ p q e. let z : ◌≡◌ {A = ℕ} 0 1 = cc in omega arith) (λ e. let z : ◌≡◌ {A = ℕ} 0 1 = cc in omega arith) (mark_trips_as y x s h k.last f k.now)

  -- a second mark that is refused
  refused_mark_adds : (x : Shown) (y : Mark) → x.fault ≡ Some (report_of RawCount) → Adds (did (mark y) x ∷ h)
  refused_mark_adds x y f =
      let d = did (mark y) x in
      let no_frame : NoFrame d h = λ p q e. let z : ◌≡◌ {A = ℕ} 0 1 = cc in omega arith in
      record {
        aside = None;
        loss = None;
        refusal = Some (report_of RawCount);
        late = None;
        trip = None;
        aside_only = aside_none d h no_frame;
        loss_only = loss_none d h no_frame;
        refusal_only = refusal_is d h (Some (report_of RawCount)) f (λ e. no_frame [] [] e);
        late_only = late_none d h (λ e. let z : ◌≡◌ {A = ℕ} 0 1 = cc in omega arith);
        trip_only = trip_none d h (⊎_elim (λ q. omega (arith, q.sampled)) (λ q. let e = q.came_in.1 in let z : ◌≡◌ {A = ℕ} 0 1 = cc in omega arith));
      }

  module _ (p r : List ℕ) (x : Shown) where
    abbrev F : Did
    F = did (frame p r) x

    untripped : Trips (F ∷ h) → ⊥
    untripped = quiet F h refl (λ y e. let z : ◌≡◌ {A = ℕ} 0 1 = cc in omega arith)

    unticked : F.came ≡ brought tick → ⊥
    unticked e = let z : ◌≡◌ {A = ℕ} 0 1 = cc in omega arith

    -- a frame with an octet on some link
    frame_adds : (said : Bool) (f : Option Report) → both_empty p r ≡ false → x.fault ≡ f → ((said ≡ true) ↔ Tells (F ∷ h)) → Adds (F ∷ h)
    frame_adds said f some e tells = record {
      aside = aside_report (set_aside p r);
      loss = loss_report s.core.waiting said;
      refusal = f;
      late = None;
      trip = None;
      aside_only = aside_is F h p r refl;
      loss_only = loss_is F h s.core.waiting said (is_frame p r x h some) tells k.now.wait_is;
      refusal_only = refusal_is F h f e (λ c. let ep : p ≡ [] = cc in let er : r ≡ [] = cc in both_ways (both_empty p r) some (ap (λ (y : List ℕ). both_empty y r) ep ∙ ap (both_empty []) er));
      late_only = late_none F h unticked;
      trip_only = trip_none F h untripped;
    }

    -- both links empty
    blank_adds : both_empty p r ≡ true → Adds (F ∷ h)
    blank_adds none =
        let a = and_parts (blank p) (blank r) none in
        let ep : p ≡ [] = nil_from_length p (eqb-true _ _ a.0) in
        let er : r ≡ [] = nil_from_length r (eqb-true _ _ a.1) in
        let came : F.came ≡ brought (frame [] []) = cc in
        record {
          aside = None;
          loss = None;
          refusal = None;
          late = None;
          trip = None;
          aside_only = subst (Only (SetsAside (F ∷ h))) (ap (λ (y : List ℕ). aside_report (set_aside y r)) ep ∙ ap (λ (y : List ℕ). aside_report (set_aside [] y)) er) (aside_is F h p r refl);
          loss_only = only_none (λ y z. let c = z.4.2 in let fp : z.4.0 ≡ [] = cc in let fr : z.4.1 ≡ [] = cc in omega (arith, z.4.3, ap length fp, ap length fr));
          refusal_only = only_none (λ y z. z.1 came);
          late_only = late_none F h unticked;
          trip_only = trip_none F h untripped;
        }

-- ---- the log after each event

aside_noted : (t : ℕ) (o : Option ReadFault) (l : Log) → aside_log t o l ≡ noting t (aside_report o) l
aside_noted t None l = refl
aside_noted t (Some f) l = refl

loss_noted : (t : ℕ) (w : Option Waiting) (said : Bool) (l : Log) → loss_log t w said l ≡ noting t (loss_report w said) l
loss_noted t None said l = refl
loss_noted t (Some w) true l = refl
loss_noted t (Some w) false l = refl

late_noted : (t : ℕ) (w : Option Waiting) (l : Log) → late_log t w l ≡ noting t (late_report w) l
late_noted t None l = refl
late_noted t (Some w) l = go (ltb 1 w.left)
  where
    go : (b : Bool) → cond b l (added (entry t (report 2 0x28 6 (order_op w.what))) l) ≡ noting t (cond b None (Some (report 2 0x28 6 (order_op w.what)))) l
    go true = refl
    go false = refl

trip_noted : (t : Option Check) (c : Core) (l : Log) → trip_log t c l ≡ noting c.meters.time (trip_report t (not_overridden c.parameters && is_entry c.mode Trip)) l
trip_noted None c l = refl
trip_noted (Some k) c l = go (not_overridden c.parameters && is_entry c.mode Trip)
  where
    go : (b : Bool) → cond b (added (entry c.meters.time (note_of (Tripped k))) l) l ≡ noting c.meters.time (cond b (Some (note_of (Tripped k))) None) l
    go true = refl
    go false = refl

module _ (h : Past) (s : State) (k : Sound h s) (l : Log) (held : LogHeld h l) where
  abbrev stamp : ℕ
  stamp = s.core.meters.time

  module _ (p r : List ℕ) (x : Shown) (time : stamp ≡ time_of (did (frame p r) x ∷ h)) (some : both_empty p r ≡ false) where
    abbrev E : Did
    E = did (frame p r) x

    -- what was set aside, and the loss
    abbrev before : Bool → Log
    before said = noting stamp (loss_report s.core.waiting said) (noting stamp (aside_report (set_aside p r)) l)

    before_noted : (said : Bool) → loss_log stamp s.core.waiting said (aside_log stamp (set_aside p r) l) ≡ before said
    before_noted said = loss_noted stamp s.core.waiting said _ ∙ ap (noting stamp (loss_report s.core.waiting said)) (aside_noted stamp (set_aside p r) l)

    answered_log : (t : Telecommand) (a : Answer) → reads p r ≡ Ok t → x.fault ≡ fault_of a → LogHeld (E ∷ h) (own_log stamp a (loss_log stamp s.core.waiting (unsaid a (request_of t)) (aside_log stamp (set_aside p r) l)))
    unfolding frame_adds
    answered_log t (Ok u) read f =
        let said = unsaid (Ok tt) (request_of t) in
        goes_on E h (frame_adds h s k p r x said None some f (accepted_tells p r x h t read f)) stamp l _ time (before_noted said) held
    answered_log t (Err g) read f =
        let said = unsaid (Err g) (request_of t) in
        goes_on E h (frame_adds h s k p r x said (Some (report_of g)) some f (refused_tells p r x h g (request_of t) f)) stamp l _ time (ap (added (entry stamp (report_of g))) (before_noted said)) held

    heard_log_lem : (c : Result Telecommand ReadFault) → reads p r ≡ c → x.fault ≡ fault_of (heard_answer c s.core) → LogHeld (E ∷ h) (heard_log c s.core (aside_log stamp (set_aside p r) l))
    unfolding frame_adds
    heard_log_lem (Ok t) read f = answered_log t (judged s.core (request_of t)) read f
    heard_log_lem (Err g) read f =
        goes_on E h (frame_adds h s k p r x false (Some (read_report g)) some f (refused_tells p r x h (Unread g) Nothing f)) stamp l _ time (ap (added (entry stamp (read_report g))) (before_noted false)) held

  frame_log_lem : (p r : List ℕ) (x : Shown) → stamp ≡ time_of (did (frame p r) x ∷ h) → x.fault ≡ answer_of s (frame p r) → LogHeld (did (frame p r) x ∷ h) (log_after s (frame p r) l)
  unfolding blank_adds
  frame_log_lem p r x time f = go (both_empty p r) refl f
    where
      go : (b : Bool) → both_empty p r ≡ b → x.fault ≡ fault_of (cond b (Err BothEmpty) (heard_answer (reads p r) s.core)) → LogHeld (did (frame p r) x ∷ h) (cond b l (heard_log (reads p r) s.core (aside_log stamp (set_aside p r) l)))
      go true e f = goes_on (did (frame p r) x) h (blank_adds h s k p r x e) stamp l l time refl held
      go false e f = heard_log_lem p r x time e (reads p r) refl f

  mark_log : (y : Mark) (x : Shown) → stamp_of (mark y) s ≡ time_of (did (mark y) x ∷ h) → x.fault ≡ answer_of s (mark y) → LogHeld (did (mark y) x ∷ h) (log_after s (mark y) l)
  unfolding checked_adds mark_adds refused_mark_adds
  mark_log y x time f = go (too_large y) time f
    where
      go : (b : Bool) → cond b stamp ((stamp + 1) % 2 ^ 32) ≡ time_of (did (mark y) x ∷ h) → x.fault ≡ fault_of (cond b (Err RawCount) (Ok tt)) → LogHeld (did (mark y) x ∷ h) (cond b (added (entry stamp (report_of RawCount)) l) (trip_log (mark_trip y s.core) (clocked y s).core l))
      go true time f = goes_on (did (mark y) x) h (refused_mark_adds h s k x y f) stamp l _ time refl held
      go false time f = goes_on (did (mark y) x) h (mark_adds h s k x f y) ((stamp + 1) % 2 ^ 32) l _ time (trip_noted (mark_trip y s.core) (clocked y s).core l) held

-- one event more
pub log_step : (e : Event) (h : Past) (s : State) (l : Log) → Sound h s → ClockCounts h s → LogHeld h l → LogHeld (came_of s e ∷ h) (log_after s e l)
unfolding tick_adds checked_adds sample_adds
log_step tick h s l k c held = goes_on (came_of s tick) h (tick_adds h s k (shown_of s tick) refl) (stamp_of tick s) l _ (stamp_is tick h s k c) (late_noted _ s.core.waiting l) held
log_step (frame p r) h s l k c held = frame_log_lem h s k l held p r (shown_of s (frame p r)) (stamp_is (frame p r) h s k c) refl
log_step (sample y) h s l k c held = goes_on (came_of s (sample y)) h (sample_adds h s k (shown_of s (sample y)) refl y) (stamp_of (sample y) s) l _ (stamp_is (sample y) h s k c) (trip_noted (sample_trip y s) s.core l) held
log_step (mark y) h s l k c held = mark_log h s k l held y (shown_of s (mark y)) (stamp_is (mark y) h s k c) refl

-- ---- power-on

none_held : (n : ℕ) → ◌≡◌ {A = List Entry} [] (take n [])
none_held zero = refl
none_held (suc n) = refl

restored_held : (n : ℕ) (stored : List ℕ) (l : Log) → Holds (replaced n stored) (restored_log n stored (emptied l))
unfolding restored_log
restored_held zero stored l = none_held l.room
restored_held (suc n) stored l = go (allowed n (get_or stored n 0)) (restored_held n stored l)
  where
    go : (b : Bool) → Holds (replaced n stored) (restored_log n stored (emptied l)) → Holds (cond b (replaced n stored) (entry 1000000 (report 5 0x52 n 0) ∷ replaced n stored)) (cond b (restored_log n stored (emptied l)) (added (entry 1000000 (report 5 0x52 n 0)) (restored_log n stored (emptied l))))
    go true e = e
    go false e = held_noting 1000000 (Some (report 5 0x52 n 0)) (replaced n stored) (restored_log n stored (emptied l)) e

pub log_begins : (stored : List ℕ) (l : Log) → LogHeld (begins stored ∷ []) (restored_log 25 stored (emptied l))
log_begins stored l = (replaced 25 stored, began (begins stored) stored refl, restored_held 25 stored l)
