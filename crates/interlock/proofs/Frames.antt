-- A frame is one of the deeds, and an accepted confirm rests on what waited.
use Rattle.std.proofs.Common.{◌≡◌, ℕ, zero, suc, ◌+◌, ◌-◌, ◌<◌, Bool, true, false, cond, ◌&&◌, eqb, ltb, ◌⊎◌, List, [], ◌∷◌, length, get_or, Some, None, Ok, Err, Option, Result, sym, refl, ap, ◌∙◌, subst, inl, inr, ⊎_elim, arith, lt-ltb, eqb-true}
use borrow.Author.Tests.{eqb-false, both_ways}
use Rattle.std.proofs.lemmas.Bool.{and_parts}
use Rattle.board.specs.Meaning.{Outputs}
use Rattle.codes.proofs.Refusals.{passed}
use Rattle.telecommand.specs.Packet.{word}
use Rattle.telecommand.specs.Commands.{Telecommand}
use Rattle.telecommand.specs.Links.{reads, blank}
use Rattle.telecommand.specs.declared.fault.ReadFault.{ReadFault}
use Rattle.telecommand.proofs.Readings.{reads_legal}
use Rattle.head.specs.Faults.{report_of}
use Rattle.head.specs.Requests.{request_of, order_op}
use Rattle.head.specs.Verdicts.{Answer, in_safe, busy, order_first, allowed, confirmed, judged}
use Rattle.head.specs.State.{State, st}
use Rattle.head.specs.Effects.{done}
use Rattle.head.specs.Events.{taken, both_empty, heard_answer, frame_answer, answered, heard, framed}
use Rattle.head.specs.declared.Mode.{Mode}
use Rattle.head.specs.declared.Mode.TheVariants.{Safe, Checkout}
use Rattle.head.specs.declared.Order.{Order}
use Rattle.head.specs.Countdown.{Waiting, Drive}
use Rattle.head.specs.declared.Meters.{Meters}
use Rattle.head.specs.declared.fault.Fault.{Fault}
use Rattle.head.specs.declared.fault.Fault.TheVariants.{BothEmpty, Unread, NothingWaits}
use Rattle.head.specs.declared.request.Request.{Request}
use Rattle.head.specs.declared.request.Request.TheVariants.{Nothing, Safe as AskSafe, Checkout as AskCheckout, Confirm, CloseDoor, SuppliesOff, Heater, Critical}
use Rattle.interlock.specs.Events.{frame}
use Rattle.interlock.specs.Runs.{fault_of}
use Rattle.interlock.specs.History.{Did, Past, Accepted, IsFrame}
use Rattle.interlock.specs.Promises.{Confirms}
use Rattle.interlock.specs.declared.step.Shown.{Shown}
use Rattle.interlock.proofs.Agos.{ago_now, ago_map}
use Rattle.interlock.proofs.Orders.{order_words, tele, critical}
use Rattle.interlock.proofs.Parts.{ModeIs, WaitIs, none_waits, unwaited}
use Rattle.interlock.proofs.Deeds.{Now, rests, heats, offs, checks, acting, closing, enters}
use Rattle.interlock.proofs.Asks.{Means, means}
use Rattle.interlock.proofs.Comes.{err_ok, allowed_ok, confirm_ok, tag_ask, tag_read, tag, tag_order, did, told, told_refused, stays, Comes, unpowered, fault_none}

module _ (p r : List ℕ) (x : Shown) (h : Past) where
  abbrev D : Did
  D = did (frame p r) x

  -- ---- an accepted frame

  module _ (t : Telecommand) (read : reads p r ≡ Ok t) (ok : x.fault ≡ None) (fr : IsFrame (D ∷ h)) where
    brings : (op : ℕ) (ws : List ℕ) → t ≡ tele op ws → Accepted op ws (D ∷ h)
    brings op ws e = (record { primary = p; redundant = r; came_in = refl; read_as = read ∙ ap (λ (u : Telecommand). Ok u) e }, ok)

    tagged : (q : Request) → request_of t ≡ q → tag D.came ≡ tag_ask q
    tagged q e = ap tag_read read ∙ ap tag_ask e

    safe_comes : (m : Mode) (w : Option Waiting) (dr : Option Drive) (ps : List ℕ) (me : Meters) (o : Outputs) → request_of t ≡ AskSafe → t ≡ tele 0x6602 [] → ModeIs m h
        → Comes (frame p r) x (st m w dr ps me o) (done w AskSafe (taken (st m w dr ps me o))) me h
    safe_comes Safe w dr ps me o q e k = record { deed = rests None; same = refl; told_so = told D h (rests None) 1 (tagged _ q) (none_waits D h (inl fr) (λ o a. omega (arith, tag_order D h o a, tagged _ q))) (λ e. absurd (omega arith)) (λ e. absurd (omega arith)) (λ e. absurd (omega arith)) (λ e. absurd (omega arith)) (λ e. absurd (omega arith)) (λ e i. absurd (k i)) (omega arith) (omega arith) refl refl; fits = tt }
    safe_comes Checkout w dr ps me o q e k = record { deed = enters; same = refl; told_so = told D h enters 1 (tagged _ q) (inl (brings 0x6602 [] e), k) (λ e. absurd (omega arith)) (λ e. absurd (omega arith)) (λ e. absurd (omega arith)) (λ e. absurd (omega arith)) (λ e. absurd (omega arith)) (λ e i. refl) (omega arith) (omega arith) refl refl; fits = tt }

    checkout_comes : (m : Mode) (w : Option Waiting) (dr : Option Drive) (ps : List ℕ) (me : Meters) (o : Outputs) → request_of t ≡ AskCheckout → t ≡ tele 0x6603 []
        → Comes (frame p r) x (st m w dr ps me o) (done w AskCheckout (taken (st m w dr ps me o))) me h
    checkout_comes Safe w dr ps me o q e = record { deed = checks; same = refl; told_so = told D h checks 2 (tagged _ q) (brings 0x6603 [] e) (λ e. absurd (omega arith)) (λ e. absurd (omega arith)) (λ e. absurd (omega arith)) (λ e. refl) (λ e. absurd (omega arith)) (λ e i. absurd (omega arith)) (omega arith) (omega arith) refl refl; fits = tt }
    checkout_comes Checkout w dr ps me o q e = record { deed = checks; same = refl; told_so = told D h checks 2 (tagged _ q) (brings 0x6603 [] e) (λ e. absurd (omega arith)) (λ e. absurd (omega arith)) (λ e. absurd (omega arith)) (λ e. refl) (λ e. absurd (omega arith)) (λ e i. absurd (omega arith)) (omega arith) (omega arith) refl refl; fits = tt }

    confirm_comes : (a b : ℕ) (m : Mode) (w : Option Waiting) (dr : Option Drive) (ps : List ℕ) (me : Meters) (o : Outputs) → request_of t ≡ Confirm a b → t ≡ tele 0x6604 t.words → confirmed w (st m w dr ps me o).core a b ≡ Ok tt → WaitIs w h
        → Comes (frame p r) x (st m w dr ps me o) (done w (Confirm a b) (taken (st m w dr ps me o))) me h
    confirm_comes a b m None dr ps me o q e good k = absurd (err_ok NothingWaits tt good)
    confirm_comes a b m (Some w) dr ps me o q e good k =
        let s = confirm_ok w (st m (Some w) dr ps me o) a b good in
        record { deed = acting w.what; same = refl; told_so = told D h (acting w.what) 3 (tagged _ q) ((t.words, brings 0x6604 t.words e), unwaited w.what w.left h k.1) (λ e. refl) (λ e. absurd (omega arith)) (λ e. absurd (omega arith)) (λ e. absurd (omega arith)) (λ e. absurd (omega arith)) (λ e i. absurd (omega arith)) (omega arith) (omega arith) refl refl; fits = s.2 }

    undriven : (dr : Option Drive) → busy dr ≡ false → dr ≡ None
    undriven None e = refl
    undriven (Some d) e = absurd (both_ways true e refl)

    out_of_safe : (m : Mode) → (in_safe m && true) ≡ false → m ≡ Checkout
    out_of_safe Safe e = absurd (both_ways true e refl)
    out_of_safe Checkout e = refl

    frame_done : (q : Request) (s : State) → request_of t ≡ q → Means q t → judged s.core q ≡ Ok tt → Now h s → Comes (frame p r) x s (done s.core.waiting q (taken s)) s.core.meters h
    frame_done Nothing s q e good k = record { deed = rests None; same = refl; told_so = told D h (rests None) 8 (tagged _ q) (none_waits D h (inl fr) (λ o a. omega (arith, tag_order D h o a, tagged _ q))) (λ e. absurd (omega arith)) (λ e. absurd (omega arith)) (λ e. absurd (omega arith)) (λ e. absurd (omega arith)) (λ e. absurd (omega arith)) (λ e i. absurd (omega arith)) (omega arith) (omega arith) refl refl; fits = tt }
    frame_done AskSafe s q e good k = safe_comes s.core.mode s.core.waiting s.core.drive s.core.parameters s.core.meters s.out q e k.mode_is
    frame_done AskCheckout s q e good k = checkout_comes s.core.mode s.core.waiting s.core.drive s.core.parameters s.core.meters s.out q e
    frame_done (Confirm a b) s q e good k = confirm_comes a b s.core.mode s.core.waiting s.core.drive s.core.parameters s.core.meters s.out q e.0 good k.wait_is
    frame_done CloseDoor s q e good k = record { deed = closing; same = refl; told_so = told D h closing 4 (tagged _ q) (brings 0x660d [] e) (λ e. absurd (omega arith)) (λ e. absurd (omega arith)) (λ e. absurd (omega arith)) (λ e. absurd (omega arith)) (λ e. refl) (λ e i. absurd (omega arith)) (omega arith) (omega arith) refl refl; fits = undriven s.core.drive (allowed_ok s.core CloseDoor good).drive_fits }
    frame_done SuppliesOff s q e good k = record { deed = offs; same = refl; told_so = told D h offs 5 (tagged _ q) (brings 0x660e [] e) (λ e. absurd (omega arith)) (λ e. absurd (omega arith)) (λ e. refl) (λ e. absurd (omega arith)) (λ e. absurd (omega arith)) (λ e i. absurd (omega arith)) (omega arith) (omega arith) refl refl; fits = tt }
    frame_done (Heater i v) s q e good k = record { deed = heats i v; same = refl; told_so = told D h (heats i v) 9 (tagged _ q) (brings 0x6611 (i ∷ v ∷ []) e) (λ e. absurd (omega arith)) (λ e. refl) (λ e. absurd (omega arith)) (λ e. absurd (omega arith)) (λ e. absurd (omega arith)) (λ e i. absurd (omega arith)) (omega arith) (omega arith) refl refl; fits = out_of_safe s.core.mode (allowed_ok s.core (Heater i v) good).mode_fits }
    frame_done (Critical o) s q e good k =
        let w : Option Waiting = Some (record { what = o; left = 2000 }) in
        record { deed = rests w; same = refl; told_so = told D h (rests w) 10 (tagged _ q) (omega arith, ago_now D h (brings (order_op o) (order_words o) e, refl)) (λ e. absurd (omega arith)) (λ e. absurd (omega arith)) (λ e. absurd (omega arith)) (λ e. absurd (omega arith)) (λ e. absurd (omega arith)) (λ e i. absurd (omega arith)) (omega arith) (omega arith) refl refl; fits = tt }

  -- ---- any frame

  refused : (f : Fault) → IsFrame (D ∷ h) → x.fault ≡ fault_of (Err f) → WaitIs None (D ∷ h)
  refused f fr e = none_waits D h (inl fr) (λ o a. let ok = a.1 in let z : ◌≡◌ {A = ℕ} 0 1 = cc in omega arith)

  asked_comes : (a : Answer) (q : Request) (t : Telecommand) (s : State) → IsFrame (D ∷ h) → reads p r ≡ Ok t → request_of t ≡ q → Means q t → judged s.core q ≡ a → x.fault ≡ fault_of a → Now h s → Comes (frame p r) x s (answered a q s) s.core.meters h
  asked_comes (Ok u) q t s fr read e m good f k = frame_done t read f fr q s e m good k
  asked_comes (Err fault) q t s fr read e m good f k = record { deed = rests None; same = refl; told_so = told_refused D h (rests None) (report_of fault) f (unpowered (frame p r) x) (refused fault fr f) refl refl; fits = tt }

  heard_comes : (c : Result Telecommand ReadFault) (s : State) → IsFrame (D ∷ h) → reads p r ≡ c → x.fault ≡ fault_of (heard_answer c s.core) → Now h s → Comes (frame p r) x s (heard c s) s.core.meters h
  heard_comes (Ok t) s fr read f k = asked_comes (judged s.core (request_of t)) (request_of t) t s fr read refl (means t (reads_legal p r t read)) refl f k
  heard_comes (Err fault) s fr read f k = record { deed = rests None; same = refl; told_so = told_refused D h (rests None) (report_of (Unread fault)) f (unpowered (frame p r) x) (refused (Unread fault) fr f) refl refl; fits = tt }

  -- both links empty are no frame
  no_frame : both_empty p r ≡ true → IsFrame (D ∷ h) → ⊥
  no_frame e f =
      let a = and_parts (blank p) (blank r) e in
      let lp : length p ≡ 0 = eqb-true _ _ a.0 in
      let lr : length r ≡ 0 = eqb-true _ _ a.1 in
      let same = f.2 in
      let sp : p ≡ f.0 = cc in
      let sr : r ≡ f.1 = cc in
      omega (arith, f.3, ap length sp, ap length sr)

  -- and others are one
  pub is_frame : both_empty p r ≡ false → IsFrame (D ∷ h)
  is_frame e = (p, r, refl, go p r e)
    where
      go : (p r : List ℕ) → both_empty p r ≡ false → 0 < length p + length r
      go [] [] e = absurd (both_ways true e refl)
      go [] (y ∷ r) e = omega arith
      go (y ∷ p) r e = omega arith

  pub frame_comes : (s : State) → x.fault ≡ fault_of (frame_answer p r s.core) → Now h s → Comes (frame p r) x s (framed p r s) s.core.meters h
  frame_comes s f k = go (both_empty p r) refl f
    where
      go : (b : Bool) → both_empty p r ≡ b → x.fault ≡ fault_of (cond b (Err BothEmpty) (heard_answer (reads p r) s.core)) → Comes (frame p r) x s (cond b s (heard (reads p r) s)) s.core.meters h
      go false e f = heard_comes (reads p r) s (is_frame e) refl f k
      go true e f =
          let w = s.core.waiting in
          record { deed = rests w; same = refl; told_so = told_refused D h (rests w) (report_of BothEmpty) f (unpowered (frame p r) x) (stays D h w (no_frame e) (λ y. never (⊎_elim (λ q. q.1) (λ v. ⊎_elim (λ q. absurd (omega (arith, q.sampled))) (λ q. q.came_in.1) v.0) y.0)) refl k.wait_is) refl refl; fits = tt }
        where
          never : x.fault ≡ None → ⊥
          never q = let z : ◌≡◌ {A = ℕ} 0 1 = cc in omega arith

-- ---- what an accepted confirm rests on

-- an accepted confirm confirms an order that waited, with its first octet in range
abbrev pub Rightly : Past → Type 0
Rightly p = (words : List ℕ) → Accepted 0x6604 words p → (o : Order) × Confirms (order_op o) (order_words o) p × (order_first o ≡ true)

right_done : (words : List ℕ) (d : Did) (h : Past) (m : Mode) (w : Option Waiting) (dr : Option Drive) (ps : List ℕ) (me : Meters) (o : Outputs) → Accepted 0x6604 words (d ∷ h)
    → confirmed w (st m w dr ps me o).core (word words 0) (word words 2) ≡ Ok tt → WaitIs w h → (o : Order) × Confirms (order_op o) (order_words o) (d ∷ h) × (order_first o ≡ true)
right_done words d h m None dr ps me o acc good k = absurd (err_ok NothingWaits tt good)
right_done words d h m (Some w) dr ps me o acc good k =
    let s = confirm_ok w (st m (Some w) dr ps me o) (word words 0) (word words 2) good in (
      w.what,
      record {
        words = words;
        accepted = acc;
        critical = critical w.what;
        names = s.0;
        complements = s.1 ∙ ap (λ (n : ℕ). 0xFFFF - n) s.0;
        in_time = ago_map (λ t p v. (v.0, omega (arith, v.1, k.0))) (λ p v. v) k.1;
      },
      s.3,
    )

pub frame_right : (p r : List ℕ) (x : Shown) (s : State) (h : Past) → x.fault ≡ fault_of (frame_answer p r s.core) → Now h s → Rightly (did (frame p r) x ∷ h)
frame_right p r x s h f k words acc =
    let b = acc.0 in
    let same = b.came_in in
    let sp : p ≡ b.primary = cc in
    let sr : r ≡ b.redundant = cc in
    let read : reads p r ≡ Ok (tele 0x6604 words) = ap (λ (y : List ℕ). reads y r) sp ∙ ap (reads b.primary) sr ∙ b.read_as in
    let good = fault_none (frame_answer p r s.core) (sym f ∙ acc.1) in
    let rest = (passed (both_empty p r) BothEmpty (heard_answer (reads p r) s.core) tt good).1 in
    let said : confirmed s.core.waiting s.core (word words 0) (word words 2) ≡ Ok tt = sym (ap (λ (c : Result Telecommand ReadFault). heard_answer c s.core) read) ∙ rest in
    right_done words (did (frame p r) x) h s.core.mode s.core.waiting s.core.drive s.core.parameters s.core.meters s.out acc said k.wait_is

-- ---- what an accepted CHECKOUT rests on

free_timer : (t o : ℕ) → (ltb 0 t && eqb o 0) ≡ false → (t ≡ 0) ⊎ (o ≡ 0 → ⊥)
free_timer zero o e = inl refl
free_timer (suc t) o e = inr (eqb-false o 0 (subst (λ (b : Bool). (b && eqb o 0) ≡ false) (lt-ltb 0 (suc t) (omega arith)) e))

pub frame_checkout : (p r : List ℕ) (x : Shown) (s : State) (h : Past) → x.fault ≡ fault_of (frame_answer p r s.core) → Accepted 0x6603 [] (did (frame p r) x ∷ h) → (s.core.meters.timer ≡ 0) ⊎ (get_or s.core.parameters 21 0 ≡ 0 → ⊥)
frame_checkout p r x s h f acc =
    let b = acc.0 in
    let same = b.came_in in
    let sp : p ≡ b.primary = cc in
    let sr : r ≡ b.redundant = cc in
    let read : reads p r ≡ Ok (tele 0x6603 []) = ap (λ (y : List ℕ). reads y r) sp ∙ ap (reads b.primary) sr ∙ b.read_as in
    let good = fault_none (frame_answer p r s.core) (sym f ∙ acc.1) in
    let rest = (passed (both_empty p r) BothEmpty (heard_answer (reads p r) s.core) tt good).1 in
    let said : allowed s.core AskCheckout ≡ Ok tt = sym (ap (λ (c : Result Telecommand ReadFault). heard_answer c s.core) read) ∙ rest in
    free_timer s.core.meters.timer (get_or s.core.parameters 21 0) (allowed_ok s.core AskCheckout said).timer_fits
