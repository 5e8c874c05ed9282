-- A second mark is a deed: the latest raw count, the rate, the temperatures.
use Rattle.std.proofs.Common.{◌≡◌, ℕ, zero, suc, ◌*◌, ◌<◌, Bool, true, false, cond, not, ◌&&◌, ltb, ◌⊎◌, ◌↔◌, List, ◌∷◌, get_or, Some, None, Ok, Err, Option, sym, refl, ap, ◌∙◌, subst, inl, inr, ⊎_elim, arith, ltb-true, lt-ltb, eqb-true}
use borrow.Author.Tests.{eqb-false, not-true, both_ways}
use Rattle.std.proofs.lemmas.Bool.{and_parts}
use Rattle.board.specs.Meaning.{Outputs}
use Rattle.head.specs.Checks.{number_of, masked, rate, rate_at, warm}
use Rattle.head.specs.Faults.{report_of}
use Rattle.head.specs.State.{State, st, meters_are}
use Rattle.head.specs.Effects.{turned}
use Rattle.head.specs.Events.{tripped, not_overridden, too_large, second_answer, clocked, rate_then, mark_trips, mark_trip, marked, seconded}
use Rattle.head.specs.declared.Mode.{Mode}
use Rattle.head.specs.declared.Mode.TheVariants.{Safe, Checkout}
use Rattle.head.specs.Countdown.{Waiting, Drive}
use Rattle.head.specs.declared.Meters.{Meters}
use Rattle.head.specs.declared.checks.Check.{Check}
use Rattle.head.specs.declared.checks.Mark.{Mark}
use Rattle.head.specs.declared.fault.Fault.TheVariants.{RawCount}
use Rattle.head.specs.declared.safe.Turn.TheVariants.{Trip}
use Rattle.interlock.specs.Events.{mark}
use Rattle.interlock.specs.Runs.{fault_of}
use Rattle.interlock.specs.History.{Did, Past, Accepted, IsFrame, EntersSafe, SampleTrips, Counts, RawIs, RateIs, MarkTrips, Trips, check_above, TripsAt}
use Rattle.interlock.specs.declared.step.Shown.{Shown}
use Rattle.interlock.proofs.Agos.{ago_now, ago_later, ago_cases}
use Rattle.interlock.proofs.Deeds.{Now, Deed, rests, enters, kind, lasts, Is, Told}
use Rattle.interlock.proofs.Comes.{did, told_unframed, told_refused, stays, Comes, unpowered}
use Rattle.interlock.proofs.Samples.{TripsAs, lowest_some, lowest_none, trips_at, at_trips, params_same, params_in_force, overridden_not, override_of, trip_meters, meters_after}

-- ---- the latest raw count is the head's

abbrev pub LastIs : Option ℕ → Past → Type 0
LastIs None h = (v : ℕ) → RawIs v h → ⊥
LastIs (Some x) h = (v : ℕ) → (x ≡ v) ↔ RawIs v h

pub last_kept : (d : Did) (h : Past) (o : Option ℕ) → ((v : ℕ) → Counts v (d ∷ h) → ⊥) → LastIs o h → LastIs o (d ∷ h)
last_kept d h None no-m k = λ v a. ⊎_elim (λ now. no-m v now.0) (λ l. k v l.was) (ago_cases d h a)
last_kept d h (Some x) no-m k = λ v. (λ e. ago_later d h no-m ((k v).0 e), λ a. ⊎_elim (λ now. absurd (no-m v now.0)) (λ l. (k v).1 l.was) (ago_cases d h a))

pub last_set : (d : Did) (h : Past) (x : ℕ) → Counts x (d ∷ h) → ((v : ℕ) → Counts v (d ∷ h) → x ≡ v) → LastIs (Some x) (d ∷ h)
last_set d h x is one v = (
  λ e. ago_now d h (subst (λ w. Counts w (d ∷ h)) e is),
  λ a. ⊎_elim (λ now. one v now.0) (λ l. absurd (l.goes x is)) (ago_cases d h a),
)

rate_read : (o : Option ℕ) (n : ℕ) (h : Past) → LastIs o h → RateIs (rate_at o n) n h
rate_read None n h k = inr (k, refl)
rate_read (Some b) n h k = inl (b, (k b).0 refl, refl)

rate_one : (o : Option ℕ) (n r : ℕ) (h : Past) → LastIs o h → RateIs r n h → r ≡ rate_at o n
rate_one None n r h k = ⊎_elim (λ a. absurd (k a.0 a.1)) (λ a. a.1)
rate_one (Some b) n r h k = ⊎_elim (λ a. a.2 ∙ ap (λ y. rate y n) (sym ((k a.0).1 a.1))) (λ a. absurd (a.0 b ((k b).0 refl)))

-- ---- an accepted second mark

module _ (x : Mark) (y : Shown) (s : State) (h : Past) (k : Now h s) (ls : LastIs s.core.meters.last h) (ok : y.fault ≡ None) where
  abbrev M : Did
  M = did (mark x) y

  abbrev ps : List ℕ
  ps = s.core.parameters

  abbrev now_rate : ℕ
  now_rate = rate_then x s.core

  abbrev trips : List Bool
  trips = mark_trips x s.core

  trip_by : ((masked ps 3 ≡ false) × (256 * get_or ps 10 0 < now_rate)) ⊎ ((masked ps 4 ≡ false) × (warm ps x.temperatures ≡ true)) → MarkTrips M h
  trip_by above = record {
    marked = x;
    params = ps;
    rate_then = now_rate;
    came_in = (refl, ok);
    in_force = params_in_force s h k;
    rate_is = rate_read s.core.meters.last x.raw h ls;
    above = above;
  }

  -- a trip by the rules is one by the history
  pub trip_from : (c : ℕ) → get_or trips c false ≡ true → TripsAt c (M ∷ h)
  unfolding trip_by
  trip_from zero e = absurd (both_ways false refl e)
  trip_from (suc zero) e = absurd (both_ways false refl e)
  trip_from (suc (suc zero)) e = absurd (both_ways false refl e)
  trip_from (suc (suc (suc zero))) e = let a = and_parts (not (masked ps 3)) _ e in inr (trip_by (inl (not-true _ a.0, ltb-true _ _ a.1)), refl)
  trip_from (suc (suc (suc (suc zero)))) e = let a = and_parts (not (masked ps 4)) _ e in inr (trip_by (inr (not-true _ a.0, a.1)), refl)
  trip_from (suc (suc (suc (suc (suc c))))) e = absurd (both_ways false refl e)

  -- and the other way round
  trip_to : (q : MarkTrips M h) → get_or trips (check_above q.above) false ≡ true
  trip_to q =
      let force = params_same q.params s h k q.in_force in
      let came = q.came_in.0 in
      let same : q.marked ≡ x = cc in
      let rt : q.rate_then ≡ now_rate = rate_one s.core.meters.last q.marked.raw q.rate_then h ls q.rate_is ∙ ap (λ (z : Mark). rate_at s.core.meters.last z.raw) same in
      elim q.above as (λ v. get_or trips (check_above v) false ≡ true) [
        | inl a ↦
            let m3 : masked ps 3 ≡ false = subst (λ (l : List ℕ). masked l 3 ≡ false) force a.0 in
            let over : 256 * get_or ps 10 0 < now_rate = subst (λ (l : List ℕ). 256 * get_or l 10 0 < now_rate) force (subst (λ (z : ℕ). 256 * get_or q.params 10 0 < z) rt a.1) in
            ap (λ (b : Bool). not b && ltb (256 * get_or ps 10 0) now_rate) m3 ∙ lt-ltb _ _ over
        | inr a ↦
            let m4 : masked ps 4 ≡ false = subst (λ (l : List ℕ). masked l 4 ≡ false) force a.0 in
            let hot : warm ps x.temperatures ≡ true = ap (λ (z : Mark). warm ps z.temperatures) (sym same) ∙ subst (λ (l : List ℕ). warm l q.marked.temperatures ≡ true) force a.1 in
            ap (λ (b : Bool). not b && warm ps x.temperatures) m4 ∙ hot
      ]

  unread : (op : ℕ) (ws : List ℕ) → Accepted op ws (M ∷ h) → ⊥
  unread op ws a = let e = a.0.came_in in let z : ◌≡◌ {A = ℕ} 0 1 = cc in omega arith

  no_frame : IsFrame (M ∷ h) → ⊥
  no_frame f = let e = f.2 in let z : ◌≡◌ {A = ℕ} 0 1 = cc in omega arith

  told_mark : (z : Deed) → Is z (M ∷ h) → 0 ≡ lasts z → (EntersSafe (M ∷ h) → kind z ≡ 7) → Told z M h
  told_mark z is w en = told_unframed M h z (λ p r e. let z : ◌≡◌ {A = ℕ} 0 1 = cc in omega arith) (unpowered (mark x) y) is w en

  no_sample : SampleTrips M h → ⊥
  no_sample q = omega (arith, q.sampled)

  mark_stays : (me : Meters) → (EntersSafe (M ∷ h) → ⊥) → Comes (mark x) y s (meters_are me s) me h
  mark_stays me no-e =
      let w = s.core.waiting in
      record { deed = rests w; same = refl; told_so = told_mark (rests w) (stays M h w no_frame no-e refl k.wait_is) refl (λ z. absurd (no-e z)); fits = tt }

-- an accepted second mark trips by the rules exactly when it does by the history, check by check
pub mark_trips_as : (x : Mark) (y : Shown) (s : State) (h : Past) → LastIs s.core.meters.last h → y.fault ≡ None → Now h s → TripsAs (mark_trips x s.core) (did (mark x) y ∷ h)
mark_trips_as x y s h ls ok k c = (
  ⊎_elim (λ t. absurd (no_sample x y s h k ls ok t.0)) (λ t. ap (λ (n : ℕ). get_or (mark_trips x s.core) n false) (sym t.1) ∙ trip_to x y s h k ls ok t.0),
  trip_from x y s h k ls ok c,
)

pub mark_some : (x : Mark) (y : Shown) (s : State) (h : Past) (c : Check) → mark_trip x s.core ≡ Some c → LastIs s.core.meters.last h → y.fault ≡ None → Now h s → Trips (did (mark x) y ∷ h)
mark_some x y s h c e ls ok k = trips_at (number_of c) _ h ((mark_trips_as x y s h ls ok k (number_of c)).1 (lowest_some _ _ _ _ _ c e).0)

pub mark_none : (x : Mark) (y : Shown) (s : State) (h : Past) → mark_trip x s.core ≡ None → LastIs s.core.meters.last h → y.fault ≡ None → Now h s → Trips (did (mark x) y ∷ h) → ⊥
mark_none x y s h e ls ok k t =
    let a = at_trips (did (mark x) y) h t in
    both_ways _ (lowest_none _ _ _ _ _ e a.0) ((mark_trips_as x y s h ls ok k a.0).0 a.1)

mark_trips_lem : (x : Mark) (y : Shown) (c : Check) (m : Mode) (w : Option Waiting) (dr : Option Drive) (ps : List ℕ) (me new : Meters) (o : Outputs) (h : Past)
    → mark_trip x (st m w dr ps me o).core ≡ Some c → LastIs me.last h → y.fault ≡ None → Now h (st m w dr ps me o)
    → Comes (mark x) y (st m w dr ps me o) (cond (not_overridden ps) (turned Trip (st m w dr ps new o)) (st m w dr ps new o)) new h
mark_trips_lem x y c Safe w dr ps me new o h e ls ok k = go (not_overridden ps)
  where
    go : (b : Bool) → Comes (mark x) y (st Safe w dr ps me o) (cond b (turned Trip (st Safe w dr ps new o)) (st Safe w dr ps new o)) new h
    go true = mark_stays x y (st Safe w dr ps me o) h k ls ok new (λ z. k.mode_is z.1)
    go false = mark_stays x y (st Safe w dr ps me o) h k ls ok new (λ z. k.mode_is z.1)
mark_trips_lem x y c Checkout w dr ps me new o h e ls ok k = go (not_overridden ps) refl
  where
    go : (b : Bool) → not_overridden ps ≡ b → Comes (mark x) y (st Checkout w dr ps me o) (cond b (turned Trip (st Checkout w dr ps new o)) (st Checkout w dr ps new o)) new h
    go true ov =
        let s = st Checkout w dr ps me o in
        record { deed = enters; same = refl; told_so = told_mark x y s h k ls ok enters (inr (mark_some x y s h c e ls ok k, overridden_not s h k (eqb-true _ _ ov)), k.mode_is) refl (λ z. refl); fits = tt }
    go false ov =
        let s = st Checkout w dr ps me o in
        mark_stays x y s h k ls ok new (λ z. ⊎_elim (unread x y s h k ls ok _ _) (λ v. eqb-false _ _ ov (override_of s h k v.1)) z.0)

mark_by : (x : Mark) (y : Shown) (s : State) (h : Past) (t : Option Check) → mark_trip x s.core ≡ t → LastIs s.core.meters.last h → y.fault ≡ None → Now h s
    → Comes (mark x) y s (tripped t (clocked x s)) (trip_meters t (clocked x s)) h
mark_by x y s h (Some c) e ls ok k = mark_trips_lem x y c s.core.mode s.core.waiting s.core.drive s.core.parameters s.core.meters (trip_meters (Some c) (clocked x s)) s.out h e ls ok k
mark_by x y s h None e ls ok k = mark_stays x y s h k ls ok (clocked x s).core.meters (λ z. ⊎_elim (unread x y s h k ls ok _ _) (λ v. mark_none x y s h e ls ok k v.0) z.0)

-- ---- any second mark

pub mark_comes : (x : Mark) (y : Shown) (s : State) (h : Past) → y.fault ≡ fault_of (second_answer x) → LastIs s.core.meters.last h → Now h s → Comes (mark x) y s (seconded x s) (meters_after (mark x) s) h
mark_comes x y s h f ls k = go (too_large x) f
  where
    go : (b : Bool) → y.fault ≡ fault_of (cond b (Err RawCount) (Ok tt)) → Comes (mark x) y s (cond b s (marked x s)) (cond b s.core.meters (trip_meters (mark_trip x s.core) (clocked x s))) h
    go false f = mark_by x y s h (mark_trip x s.core) refl ls f k
    go true f =
        let w = s.core.waiting in
        let d = did (mark x) y in
        let never : y.fault ≡ None → ⊥ = λ q. let z : ◌≡◌ {A = ℕ} 0 1 = cc in omega arith in
        record { deed = rests w; same = refl; told_so = told_refused d h (rests w) (report_of RawCount) f (unpowered (mark x) y) (stays d h w (λ q. let e = q.2 in let z : ◌≡◌ {A = ℕ} 0 1 = cc in omega arith) (λ z. never (⊎_elim (λ q. q.1) (λ v. ⊎_elim (λ q. absurd (omega (arith, q.sampled))) (λ q. q.came_in.1) v.0) z.0)) refl k.wait_is) refl refl; fits = tt }
