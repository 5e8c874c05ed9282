-- A sample and a second mark are deeds: counts, trips, rates.
use Rattle.std.proofs.Common.{◌≡◌, ℕ, zero, suc, ◌+◌, ◌<◌, max, Bool, true, false, cond, not, ◌&&◌, ◌||◌, leb, ◌↔◌, List, [], ◌∷◌, ◌++◌, get_or, replicate, Some, None, Option, sym, refl, ap, ◌∙◌, subst, inl, inr, ⊎_elim, arith, eqb-true, le-leb, leb-true}
use borrow.Author.Tests.{eqb-false, not-true, both_ways}
use Rattle.std.proofs.lemmas.List.{ext_get_or}
use Rattle.std.proofs.lemmas.Bool.{and_parts}
use Rattle.board.specs.Meaning.{Outputs}
use Rattle.head.specs.Checks.{out, masked, number_of, counted, reached, lowest}
use Rattle.head.specs.State.{State, st, meters_are}
use Rattle.head.specs.Effects.{turned}
use Rattle.head.specs.Events.{set_point, count_after, counts_after, count_trips, counts_are, tripped, not_overridden, sample_trip, sampled, too_large, clocked, mark_trip}
use Rattle.head.specs.declared.Mode.{Mode}
use Rattle.head.specs.declared.Mode.TheVariants.{Safe, Checkout}
use Rattle.head.specs.Countdown.{Waiting, Drive}
use Rattle.head.specs.declared.Meters.{Meters}
use Rattle.head.specs.declared.checks.Check.{Check}
use Rattle.head.specs.declared.checks.Check.TheVariants.{Plate, Strip, Anode, Rate, Temperature}
use Rattle.head.specs.declared.checks.Sample.{Sample}
use Rattle.head.specs.declared.safe.Turn.TheVariants.{Trip}
use Rattle.interlock.specs.Events.{Event, tick, frame, sample, mark}
use Rattle.interlock.specs.History.{Did, Past, supply_reads, Accepted, IsFrame, EntersSafe, ParameterIs, ParametersAre, Out, Row, SampleTrips, MarkTrips, Trips, check_above, TripsAt}
use Rattle.interlock.specs.declared.step.Shown.{Shown}
use Rattle.interlock.proofs.Counts.{CountIs, count_out, count_in}
use Rattle.interlock.proofs.Deeds.{Now, Deed, rests, enters, kind, lasts, Is, Told}
use Rattle.interlock.proofs.Comes.{did, told_unframed, stays, Comes, unpowered}

-- ---- which checks trip, by the rules' list of five and by the history

abbrev pub TripsAs : List Bool → Past → Type 0
TripsAs ts p = (c : ℕ) → TripsAt c p ↔ (get_or ts c false ≡ true)

-- check n is the lowest of the list
abbrev pub Lowest : List Bool → ℕ → Type 0
Lowest ts n = (get_or ts n false ≡ true) × ((i : ℕ) → i < n → get_or ts i false ≡ false)

falses : (n : ℕ) (ts : List Bool) (i : ℕ) → i < n → get_or (replicate n false ++ ts) i false ≡ false
falses zero ts i lt = absurd (omega arith)
falses (suc n) ts zero lt = refl
falses (suc n) ts (suc i) lt = falses n ts i (omega arith)

pub lowest_some : (a b c d e : Bool) (k : Check) → lowest (a ∷ b ∷ c ∷ d ∷ e ∷ []) ≡ Some k → Lowest (a ∷ b ∷ c ∷ d ∷ e ∷ []) (number_of k)
lowest_some true b c d e k q = let z : Plate ≡ k = cc in subst (λ (y : Check). Lowest (true ∷ b ∷ c ∷ d ∷ e ∷ []) (number_of y)) z (refl, λ i lt. absurd (omega arith))
lowest_some false true c d e k q = let z : Strip ≡ k = cc in subst (λ (y : Check). Lowest (false ∷ true ∷ c ∷ d ∷ e ∷ []) (number_of y)) z (refl, falses 1 (true ∷ c ∷ d ∷ e ∷ []))
lowest_some false false true d e k q = let z : Anode ≡ k = cc in subst (λ (y : Check). Lowest (false ∷ false ∷ true ∷ d ∷ e ∷ []) (number_of y)) z (refl, falses 2 (true ∷ d ∷ e ∷ []))
lowest_some false false false true e k q = let z : Rate ≡ k = cc in subst (λ (y : Check). Lowest (false ∷ false ∷ false ∷ true ∷ e ∷ []) (number_of y)) z (refl, falses 3 (true ∷ e ∷ []))
lowest_some false false false false true k q = let z : Temperature ≡ k = cc in subst (λ (y : Check). Lowest (false ∷ false ∷ false ∷ false ∷ true ∷ []) (number_of y)) z (refl, falses 4 (true ∷ []))
lowest_some false false false false false k q = let z : ◌≡◌ {A = ℕ} 0 1 = cc in absurd (omega arith)

pub lowest_none : (a b c d e : Bool) → lowest (a ∷ b ∷ c ∷ d ∷ e ∷ []) ≡ None → (i : ℕ) → get_or (a ∷ b ∷ c ∷ d ∷ e ∷ []) i false ≡ false
lowest_none true b c d e q i = let z : ◌≡◌ {A = ℕ} 0 1 = cc in absurd (omega arith)
lowest_none false true c d e q i = let z : ◌≡◌ {A = ℕ} 0 1 = cc in absurd (omega arith)
lowest_none false false true d e q i = let z : ◌≡◌ {A = ℕ} 0 1 = cc in absurd (omega arith)
lowest_none false false false true e q i = let z : ◌≡◌ {A = ℕ} 0 1 = cc in absurd (omega arith)
lowest_none false false false false true q i = let z : ◌≡◌ {A = ℕ} 0 1 = cc in absurd (omega arith)
lowest_none false false false false false q i = go i
  where
    go : (i : ℕ) → get_or (false ∷ false ∷ false ∷ false ∷ false ∷ []) i false ≡ false
    go zero = refl
    go (suc zero) = refl
    go (suc (suc zero)) = refl
    go (suc (suc (suc zero))) = refl
    go (suc (suc (suc (suc zero)))) = refl
    go (suc (suc (suc (suc (suc i))))) = refl

-- the same of the three checks of a sample alone, and of the two of a second mark

first_of : (a b c : Bool) (k : Check) → lowest (a ∷ b ∷ c ∷ false ∷ false ∷ []) ≡ Some k → (n : ℕ) × (n < 3) × (get_or (a ∷ b ∷ c ∷ []) n false ≡ true)
first_of true b c k e = (0, omega arith, refl)
first_of false true c k e = (1, omega arith, refl)
first_of false false true k e = (2, omega arith, refl)
first_of false false false k e = let z : ◌≡◌ {A = ℕ} 0 1 = cc in absurd (omega arith)

none_of : (a b c : Bool) (n : ℕ) → n < 3 → lowest (a ∷ b ∷ c ∷ false ∷ false ∷ []) ≡ None → get_or (a ∷ b ∷ c ∷ []) n false ≡ false
none_of true b c n lt e = let z : ◌≡◌ {A = ℕ} 0 1 = cc in absurd (omega arith)
none_of false true c n lt e = let z : ◌≡◌ {A = ℕ} 0 1 = cc in absurd (omega arith)
none_of false false true n lt e = let z : ◌≡◌ {A = ℕ} 0 1 = cc in absurd (omega arith)
none_of false false false zero lt e = refl
none_of false false false (suc zero) lt e = refl
none_of false false false (suc (suc zero)) lt e = refl
none_of false false false (suc (suc (suc n))) lt e = absurd (omega arith)

pub first_mark : (a b : Bool) (k : Check) → lowest (false ∷ false ∷ false ∷ a ∷ b ∷ []) ≡ Some k → (a || b) ≡ true
first_mark true b k e = refl
first_mark false true k e = refl
first_mark false false k e = let z : ◌≡◌ {A = ℕ} 0 1 = cc in absurd (omega arith)

pub none_mark : (a b : Bool) → lowest (false ∷ false ∷ false ∷ a ∷ b ∷ []) ≡ None → (a || b) ≡ false
none_mark true b e = let z : ◌≡◌ {A = ℕ} 0 1 = cc in absurd (omega arith)
none_mark false true e = let z : ◌≡◌ {A = ℕ} 0 1 = cc in absurd (omega arith)
none_mark false false e = refl

-- a check that trips is a trip
pub trips_at : (c : ℕ) (d : Did) (h : Past) → TripsAt c (d ∷ h) → Trips (d ∷ h)
trips_at c d h = ⊎_elim (λ t. inl t.0) (λ t. inr t.0)

pub at_trips : (d : Did) (h : Past) → Trips (d ∷ h) → (c : ℕ) × TripsAt c (d ∷ h)
at_trips d h = ⊎_elim (λ t. (t.check, inl (t, refl))) (λ t. (check_above t.above, inr (t, refl)))

-- ---- meters after an event

abbrev with_timer : ℕ → Meters → Meters
with_timer t me = record { time = me.time; tick = me.tick; timer = t; counts = me.counts; last = me.last }

-- the meters of a state, and the timer set where a check trips
abbrev pub trip_meters : Option Check → State → Meters
trip_meters None z = z.core.meters
trip_meters (Some c) z = with_timer (get_or z.core.parameters 22 0) z.core.meters

abbrev pub meters_after : Event → State → Meters
meters_after tick s = s.core.meters
meters_after (frame p r) s = s.core.meters
meters_after (sample x) s = trip_meters (sample_trip x s) (counts_are (counts_after x s) s)
meters_after (mark x) s = cond (too_large x) s.core.meters (trip_meters (mark_trip x s.core) (clocked x s))

-- ---- a sample

abbrev pub CountsAre : List ℕ → Past → Type 0
CountsAre cs h = (c : ℕ) → c < 3 → CountIs (Out c) (get_or cs c 0) h

-- the parameters in force are the head's
pub params_same : (ps : List ℕ) (s : State) (h : Past) → Now h s → ParametersAre ps h → ps ≡ s.core.parameters
params_same ps s h k p = ext_get_or 0 ps s.core.parameters (p.0 ∙ sym k.full) (λ i lt. let lt' : i < 25 = omega (arith, p.0) in sym ((k.params_are i lt' (get_or ps i 0)).1 (p.1 i lt')))

pub params_in_force : (s : State) (h : Past) → Now h s → ParametersAre s.core.parameters h
params_in_force s h k = (k.full, λ i lt. (k.params_are i lt (get_or s.core.parameters i 0)).0 refl)

point_read : (s : State) (h : Past) → Now h s → max (supply_reads 0 h) (supply_reads 1 h) ≡ set_point s.out
point_read s h k = ap (λ (l : List ℕ). max (get_or l 0 0) (get_or l 1 0)) k.reads.supplies_read_lem

nth : (x : Sample) (s : State) (c : ℕ) → c < 3 → get_or (counts_after x s) c 0 ≡ count_after x s c
nth x s zero lt = refl
nth x s (suc zero) lt = refl
nth x s (suc (suc zero)) lt = refl
nth x s (suc (suc (suc c))) lt = absurd (omega arith)

module _ (x : Sample) (y : Shown) (s : State) (h : Past) (k : Now h s) where
  abbrev D : Did
  D = did (sample x) y

  abbrev ps : List ℕ
  ps = s.core.parameters

  abbrev point : ℕ
  point = set_point s.out

  count_one : (c : ℕ) → CountIs (Out c) (get_or s.core.meters.counts c 0) h → (b : Bool) → out ps point x c ≡ b → CountIs (Out c) (counted b (get_or s.core.meters.counts c 0)) (D ∷ h)
  count_one c cs true e = count_out (Out c) D h (get_or s.core.meters.counts c 0) refl (x, ps, refl, params_in_force s h k, ap (λ (v : ℕ). out ps v x c) (point_read s h k) ∙ e) cs
  count_one c cs false e = count_in (Out c) D h refl (λ o.
      let came = o.2 in
      let same : o.0 ≡ x = cc in
      let force = params_same o.1 s h k o.3 in
      both_ways (out ps point x c) e
      (sym (ap (λ (v : ℕ). out ps v x c) (point_read s h k))
      ∙ sym (ap (λ (z : Sample). out ps (max (supply_reads 0 h) (supply_reads 1 h)) z c) same)
      ∙ sym (ap (λ (q : List ℕ). out q (max (supply_reads 0 h) (supply_reads 1 h)) o.0 c) force) ∙ o.4))

  pub sample_counts : CountsAre s.core.meters.counts h → CountsAre (counts_after x s) (D ∷ h)
  sample_counts cs c lt = subst (λ (n : ℕ). CountIs (Out c) n (D ∷ h)) (sym (nth x s c lt)) (count_one c (cs c lt) (out ps point x c) refl)

  -- a trip by the rules is one by the history
  trip_from : (c : ℕ) → c < 3 → CountsAre s.core.meters.counts h → reached ps c (get_or (counts_after x s) c 0) ≡ true → SampleTrips D h
  trip_from c lt cs t =
      let a = and_parts (not (masked ps c)) (leb (get_or ps (7 + c) 0) (get_or (counts_after x s) c 0)) t in
      let lt25 : 7 + c < 25 = omega arith in
      record {
        check = c;
        params = ps;
        one_of = lt;
        sampled = refl;
        in_force = params_in_force s h k;
        unmasked = not-true _ a.0;
        row = ((sample_counts cs c lt).1 (get_or ps (7 + c) 0) (k.ranged (7 + c) lt25).1).0 (leb-true _ _ a.1);
      }

  -- and the other way round
  trip_to : CountsAre s.core.meters.counts h → (t : SampleTrips D h) → reached ps t.check (get_or (counts_after x s) t.check 0) ≡ true
  trip_to cs t =
      let force = params_same t.params s h k t.in_force in
      let c = t.check in
      let lt25 : 7 + c < 25 = omega (arith, t.one_of) in
      let row : Row (Out c) (get_or ps (7 + c) 0) (D ∷ h) = subst (λ (l : List ℕ). Row (Out c) (get_or l (7 + c) 0) (D ∷ h)) force t.row in
      let there = ((sample_counts cs c t.one_of).1 (get_or ps (7 + c) 0) (k.ranged (7 + c) lt25).1).1 row in
      let m : masked ps c ≡ false = subst (λ (l : List ℕ). masked l c ≡ false) force t.unmasked in
      ap (λ (b : Bool). not b && leb (get_or ps (7 + c) 0) (get_or (counts_after x s) c 0)) m ∙ le-leb _ _ there

  no_frame : IsFrame (D ∷ h) → ⊥
  no_frame f = let e = f.2 in let z : ◌≡◌ {A = ℕ} 0 1 = cc in omega arith

  unread : (op : ℕ) (ws : List ℕ) → Accepted op ws (D ∷ h) → ⊥
  unread op ws a = let e = a.0.came_in in let z : ◌≡◌ {A = ℕ} 0 1 = cc in omega arith

  told_sample : (z : Deed) → Is z (D ∷ h) → 0 ≡ lasts z → (EntersSafe (D ∷ h) → kind z ≡ 7) → Told z D h
  told_sample z is w en = told_unframed D h z (λ p r e. let z : ◌≡◌ {A = ℕ} 0 1 = cc in omega arith) (unpowered (sample x) y) is w en

  no_mark : MarkTrips D h → ⊥
  no_mark q = let e = q.came_in.0 in let z : ◌≡◌ {A = ℕ} 0 1 = cc in omega arith

  -- a sample at which no entry into SAFE is made
  sample_stays : (me : Meters) → (EntersSafe (D ∷ h) → ⊥) → Comes (sample x) y s (meters_are me s) me h
  sample_stays me no-e =
      let w = s.core.waiting in
      record { deed = rests w; same = refl; told_so = told_sample (rests w) (stays D h w no_frame no-e refl k.wait_is) refl (λ z. absurd (no-e z)); fits = tt }

-- what a sample's counts say of a check
at_three : (ps cs : List ℕ) (n : ℕ) → n < 3 → get_or (count_trips ps cs) n false ≡ reached ps n (get_or cs n 0)
at_three ps cs zero lt = refl
at_three ps cs (suc zero) lt = refl
at_three ps cs (suc (suc zero)) lt = refl
at_three ps cs (suc (suc (suc n))) lt = absurd (omega arith)

only_three : (ps cs : List ℕ) (n : ℕ) → get_or (count_trips ps cs) n false ≡ true → n < 3
only_three ps cs zero e = omega arith
only_three ps cs (suc zero) e = omega arith
only_three ps cs (suc (suc zero)) e = omega arith
only_three ps cs (suc (suc (suc zero))) e = absurd (both_ways false refl e)
only_three ps cs (suc (suc (suc (suc zero)))) e = absurd (both_ways false refl e)
only_three ps cs (suc (suc (suc (suc (suc n))))) e = absurd (both_ways false refl e)

-- the override of the history is the head's
pub overridden_not : (s : State) (h : Past) → Now h s → get_or s.core.parameters 21 0 ≡ 0 → ParameterIs 21 0 h
overridden_not s h k e = (k.params_are 21 (omega arith) 0).0 e

pub override_of : (s : State) (h : Past) → Now h s → ParameterIs 21 0 h → get_or s.core.parameters 21 0 ≡ 0
override_of s h k a = (k.params_are 21 (omega arith) 0).1 a

-- a sample trips by the rules exactly when it does by the history, check by check
pub sample_trips_as : (x : Sample) (y : Shown) (s : State) (h : Past) → CountsAre s.core.meters.counts h → Now h s → TripsAs (count_trips s.core.parameters (counts_after x s)) (did (sample x) y ∷ h)
unfolding trip_from
sample_trips_as x y s h cs k c =
    let ps = s.core.parameters in
    let ns = counts_after x s in (
      ⊎_elim
          (λ t. ap (λ (n : ℕ). get_or (count_trips ps ns) n false) (sym t.1) ∙ at_three ps ns t.0.check t.0.one_of ∙ trip_to x y s h k cs t.0)
          (λ t. absurd (no_mark x y s h k t.0)),
      λ e. let lt = only_three ps ns c e in inl (trip_from x y s h k c lt cs (sym (at_three ps ns c lt) ∙ e), refl),
    )

pub sample_some : (x : Sample) (y : Shown) (s : State) (h : Past) (c : Check) → sample_trip x s ≡ Some c → CountsAre s.core.meters.counts h → Now h s → Trips (did (sample x) y ∷ h)
sample_some x y s h c e cs k = trips_at (number_of c) _ h ((sample_trips_as x y s h cs k (number_of c)).1 (lowest_some _ _ _ _ _ c e).0)

pub sample_none : (x : Sample) (y : Shown) (s : State) (h : Past) → sample_trip x s ≡ None → CountsAre s.core.meters.counts h → Now h s → Trips (did (sample x) y ∷ h) → ⊥
sample_none x y s h e cs k t =
    let a = at_trips (did (sample x) y) h t in
    both_ways _ (lowest_none _ _ _ _ _ e a.0) ((sample_trips_as x y s h cs k a.0).0 a.1)

-- where a check trips
sample_trips : (x : Sample) (y : Shown) (c : Check) (m : Mode) (w : Option Waiting) (dr : Option Drive) (ps : List ℕ) (me new : Meters) (o : Outputs) (h : Past)
    → sample_trip x (st m w dr ps me o) ≡ Some c → CountsAre me.counts h → Now h (st m w dr ps me o)
    → Comes (sample x) y (st m w dr ps me o) (cond (not_overridden ps) (turned Trip (st m w dr ps new o)) (st m w dr ps new o)) new h
sample_trips x y c Safe w dr ps me new o h e cs k = go (not_overridden ps)
  where
    go : (b : Bool) → Comes (sample x) y (st Safe w dr ps me o) (cond b (turned Trip (st Safe w dr ps new o)) (st Safe w dr ps new o)) new h
    go true = sample_stays x y (st Safe w dr ps me o) h k new (λ z. k.mode_is z.1)
    go false = sample_stays x y (st Safe w dr ps me o) h k new (λ z. k.mode_is z.1)
sample_trips x y c Checkout w dr ps me new o h e cs k = go (not_overridden ps) refl
  where
    go : (b : Bool) → not_overridden ps ≡ b → Comes (sample x) y (st Checkout w dr ps me o) (cond b (turned Trip (st Checkout w dr ps new o)) (st Checkout w dr ps new o)) new h
    go true ov =
        let s = st Checkout w dr ps me o in
        let t = sample_some x y s h c e cs k in
        record { deed = enters; same = refl; told_so = told_sample x y s h k enters (inr (t, overridden_not s h k (eqb-true _ _ ov)), k.mode_is) refl (λ z. refl); fits = tt }
    go false ov =
        let s = st Checkout w dr ps me o in
        sample_stays x y s h k new (λ z. ⊎_elim (unread x y s h k _ _) (λ v. eqb-false _ _ ov (override_of s h k v.1)) z.0)

sample_by : (x : Sample) (y : Shown) (s : State) (h : Past) (t : Option Check) → sample_trip x s ≡ t → CountsAre s.core.meters.counts h → Now h s
    → Comes (sample x) y s (tripped t (counts_are (counts_after x s) s)) (trip_meters t (counts_are (counts_after x s) s)) h
sample_by x y s h (Some c) e cs k = sample_trips x y c s.core.mode s.core.waiting s.core.drive s.core.parameters s.core.meters (trip_meters (Some c) (counts_are (counts_after x s) s)) s.out h e cs k
sample_by x y s h None e cs k =
    sample_stays x y s h k (counts_are (counts_after x s) s).core.meters
    (λ z. ⊎_elim (unread x y s h k _ _) (λ v. sample_none x y s h e cs k v.0) z.0)

pub sample_comes : (x : Sample) (y : Shown) (s : State) (h : Past) → CountsAre s.core.meters.counts h → Now h s → Comes (sample x) y s (sampled x s) (meters_after (sample x) s) h
sample_comes x y s h cs k = sample_by x y s h (sample_trip x s) refl cs k
