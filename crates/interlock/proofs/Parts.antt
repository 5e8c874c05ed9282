-- The parts of the invariant, and how one event more keeps, sets or clears each.
use Rattle.std.proofs.Common.{◌≡◌, ℕ, suc, ◌+◌, ◌-◌, ◌<◌, Bool, true, false, cond, eqb, ltb, ◌⊎◌, ◌↔◌, List, [], ◌∷◌, get_or, take, Some, None, Option, refl, ap, ◌∙◌, subst, inl, ⊎_elim, arith, ltb-false, ltb-true, eq-eqb, eqb-true}
use borrow.Author.Tests.{both_ways}
use Rattle.head.specs.declared.Mode.{Mode}
use Rattle.head.specs.declared.Mode.TheVariants.{Safe, Checkout}
use Rattle.head.specs.declared.Order.{Order}
use Rattle.head.specs.declared.Order.TheVariants.{SetSupply}
use Rattle.head.specs.Countdown.{Waiting, Drive}
use Rattle.head.specs.declared.Timed.{Timed}
use Rattle.head.specs.Requests.{order_op, marked}
use Rattle.interlock.specs.History.{Did, Past, Ago, weight, ticks, Accepted, IsFrame, Sets, ParameterIs, Leaves, InCheckout, EntersSafe, LeavesWaiting, SwitchedOn, HeatedOn, Starts, Runs}
use Rattle.interlock.specs.Promises.{Waits as InTime}
use Rattle.interlock.proofs.Agos.{ago_none, ago_now, ago_later, ago_cases, ago_map, same_back}
use Rattle.interlock.proofs.Orders.{order_words, Taken, GivenOrder, ConfirmedOrder, not_critical, one_command, one_taken, taken_frame}

-- ---- the parts

abbrev pub ModeIs : Mode → Past → Type 0
ModeIs Safe h = InCheckout h → ⊥
ModeIs Checkout h = InCheckout h

abbrev pub Waits : Order → ℕ → Past → Type 0
Waits o left h = Ago (λ t q. Taken o q × (left + t ≡ 2000)) LeavesWaiting h

abbrev pub WaitIs : Option Waiting → Past → Type 0
WaitIs None h = (o : Order) → InTime (order_op o) (order_words o) h → ⊥
WaitIs (Some w) h = (0 < w.left) × Waits w.what w.left h

abbrev pub SupplyIs : ℕ → ℕ → Past → Type 0
SupplyIs s x h = (v : ℕ) → 0 < v → (x ≡ v) ↔ SwitchedOn s v h

abbrev pub HeaterIs : ℕ → Bool → Past → Type 0
HeaterIs i b h = (b ≡ true) ↔ HeatedOn i h

abbrev pub ParamIs : ℕ → ℕ → Past → Type 0
ParamIs i x h = (v : ℕ) → (x ≡ v) ↔ ParameterIs i v h

abbrev pub GoesOn : ℕ → Past → Type 0
GoesOn l p = (l ≡ 5 → ⊥) → EntersSafe p → ⊥

pub record Driven (line left : ℕ) (h : Past) : Type 0 where
  pub period : ℕ
  pub more : 0 < left
  pub run : Ago (λ t p. Starts line period p × (left + t ≡ period)) (GoesOn line) h
  pub only : (l n : ℕ) (r : Runs l n h) → (l ≡ line) × (n ≡ period) × (r.back ≡ run.back)

abbrev pub DriveIs : Option Drive → Past → Type 0
DriveIs None h = (l n : ℕ) → Runs l n h → ⊥
DriveIs (Some d) h = Driven d.what d.left h

-- what has ticks left, after n ticks
abbrev pub less_by : {T : Type 0} → ℕ → Option (Timed T) → Option (Timed T)
less_by n None = None
less_by n (Some x) = cond (ltb n x.left) (Some (record { what = x.what; left = x.left - n })) None

-- what waits was accepted at one position
pub one_wait : (h : Past) (o p : Order) {X Y : ℕ → Type 0} (a : Ago (λ t q. Taken o q × X t) LeavesWaiting h) (b : Ago (λ t q. Taken p q × Y t) LeavesWaiting h) → a.back ≡ b.back
one_wait h o p a b = same_back {F = IsFrame} h (λ t q x. taken q o x.0) (λ t q x. taken q p x.0) (λ q x. x.0) (λ q x. x.0) a b
  where
    taken : (q : Past) (o : Order) → Taken o q → IsFrame q
    taken [] o t = t
    taken (d ∷ h) o t = taken_frame d h _ _ t

module _ (d : Did) (h : Past) where
  -- ---- the mode

  pub mode_kept : (m : Mode) → (Accepted 0x6603 [] (d ∷ h) → ⊥) → (EntersSafe (d ∷ h) → ⊥) → ModeIs m h → ModeIs m (d ∷ h)
  mode_kept Safe no-c no-s k = λ a. ⊎_elim (λ now. no-c now.0) (λ l. k l.was) (ago_cases d h a)
  mode_kept Checkout no-c no-s k = ago_later d h (λ l. no-s (l, k)) k

  pub mode_safe : Leaves (d ∷ h) → (Accepted 0x6603 [] (d ∷ h) → ⊥) → ModeIs Safe (d ∷ h)
  mode_safe is no-c a = ⊎_elim (λ now. no-c now.0) (λ l. l.goes is) (ago_cases d h a)

  -- ---- a supply

  pub supply_kept : (s x : ℕ) → ((w : ℕ) → ConfirmedOrder (SetSupply s w) (d ∷ h) → ⊥) → (Accepted 0x660e [] (d ∷ h) → ⊥) → (EntersSafe (d ∷ h) → ⊥) → SupplyIs s x h → SupplyIs s x (d ∷ h)
  supply_kept s x no-c no-o no-e k v pos = (
    λ e. ago_later d h (no-c, no-o, no-e) ((k v pos).0 e),
    λ a. ⊎_elim (λ now. absurd (no-c v now.0)) (λ l. (k v pos).1 l.was) (ago_cases d h a),
  )

  pub supply_cleared : (s : ℕ) → ((w : ℕ) → ConfirmedOrder (SetSupply s w) (d ∷ h) → ⊥) → Accepted 0x660e [] (d ∷ h) ⊎ EntersSafe (d ∷ h) → SupplyIs s 0 (d ∷ h)
  supply_cleared s no-c is v pos = (
    λ e. absurd (omega arith),
    λ a. ⊎_elim (λ now. absurd (no-c v now.0)) (λ l. absurd (⊎_elim (λ o. l.goes.1 o) (λ s. l.goes.2 s) is)) (ago_cases d h a),
  )

  pub supply_set : (s x : ℕ) → ConfirmedOrder (SetSupply s x) (d ∷ h) → ((w : ℕ) → ConfirmedOrder (SetSupply s w) (d ∷ h) → x ≡ w) → SupplyIs s x (d ∷ h)
  supply_set s x is one v pos = (
    λ e. ago_now d h (subst (λ w. ConfirmedOrder (SetSupply s w) (d ∷ h)) e is),
    λ a. ⊎_elim (λ now. one v now.0) (λ l. absurd (l.goes.0 x is)) (ago_cases d h a),
  )

  -- ---- a heater

  pub heater_kept : (i : ℕ) (b : Bool) → ((v : ℕ) → Accepted 0x6611 (i ∷ v ∷ []) (d ∷ h) → ⊥) → (EntersSafe (d ∷ h) → ⊥) → HeaterIs i b h → HeaterIs i b (d ∷ h)
  heater_kept i b no-c no-e k = (
    λ e. ago_later d h (no-c, no-e) (k.0 e),
    λ a. ⊎_elim (λ now. absurd (no-c 1 now.0)) (λ l. k.1 l.was) (ago_cases d h a),
  )

  pub heater_cleared : (i : ℕ) → ((v : ℕ) → Accepted 0x6611 (i ∷ v ∷ []) (d ∷ h) → ⊥) → EntersSafe (d ∷ h) → HeaterIs i false (d ∷ h)
  heater_cleared i no-c is = (
    λ e. absurd (both_ways false refl e),
    λ a. ⊎_elim (λ now. absurd (no-c 1 now.0)) (λ l. absurd (l.goes.1 is)) (ago_cases d h a),
  )

  pub heater_set : (i v : ℕ) → Accepted 0x6611 (i ∷ v ∷ []) (d ∷ h) → HeaterIs i (eqb v 1) (d ∷ h)
  heater_set i v is = (
    λ e. ago_now d h (subst (λ (w : ℕ). Accepted 0x6611 (i ∷ w ∷ []) (d ∷ h)) (eqb-true v 1 e) is),
    λ a. ⊎_elim
        (λ now. let f = (one_command d _ _ _ _ is.0 now.0.0).1 in eq-eqb v 1 (ap (λ (l : List ℕ). get_or l 1 0) f))
        (λ l. absurd (l.goes.0 v is)) (ago_cases d h a),
  )

  -- ---- a parameter

  pub param_kept : (i x : ℕ) → ((w : ℕ) → Sets i w (d ∷ h) → ⊥) → ParamIs i x h → ParamIs i x (d ∷ h)
  param_kept i x no-s k v = (
    λ e. ago_later d h no-s ((k v).0 e),
    λ a. ⊎_elim (λ now. absurd (no-s v now.0)) (λ l. (k v).1 l.was) (ago_cases d h a),
  )

  pub param_set : (i x : ℕ) → Sets i x (d ∷ h) → ((w : ℕ) → Sets i w (d ∷ h) → x ≡ w) → ParamIs i x (d ∷ h)
  param_set i x is one v = (
    λ e. ago_now d h (subst (λ w. Sets i w (d ∷ h)) e is),
    λ a. ⊎_elim (λ now. one v now.0) (λ l. absurd (l.goes x is)) (ago_cases d h a),
  )

  -- ---- the drive

  -- a drive that ran on before this event, of no ticks
  abbrev pub ran_on : (l n : ℕ) → Ago (λ t p. Starts l n p × (weight d.came + t < n)) (GoesOn l) h → Runs l n h
  ran_on l n a = ago_map (λ t p x. (x.0, omega (arith, x.1))) (λ p q. q) a

  -- at an event that starts and ends none, n ticks on
  pub drive_less : (n : ℕ) (dr : Option Drive) → ((l m : ℕ) → Starts l m (d ∷ h) → ⊥) → (EntersSafe (d ∷ h) → ⊥) → weight d.came ≡ n → DriveIs dr h → DriveIs (less_by n dr) (d ∷ h)
  drive_less n None no-s no-e is k = λ l m r. ⊎_elim (λ now. no-s l m now.0.0) (λ la. k l m (ran_on l m la.was)) (ago_cases d h r)
  drive_less n (Some dr) no-s no-e is k = go (ltb n dr.left) refl
    where
      go : (b : Bool) → ltb n dr.left ≡ b → DriveIs (cond b (Some (record { what = dr.what; left = dr.left - n })) None) (d ∷ h)
      go true e =
          let more : n < dr.left = ltb-true _ _ e in
          record {
            period = k.period;
            more = omega arith;
            run = ago_later d h (λ ne en. no-e en) (ago_map (λ t p x. (x.0, omega (arith, x.1))) (λ p q. q) k.run);
            only = λ l m r. ⊎_elim (λ now. absurd (no-s l m now.0.0)) (λ la. let o = k.only l m (ran_on l m la.was) in (o.0, o.1, la.one_more ∙ ap suc o.2)) (ago_cases d h r);
          }
      go false e = λ l m r.
          ⊎_elim
          (λ now. no-s l m now.0.0)
          (λ la.
          let o = k.only l m (ran_on l m la.was) in
          omega (arith, ltb-false n dr.left e, k.run.held.1, la.was.held.1, o.1, ap (λ b. ticks (take b h)) o.2))
          (ago_cases d h r)

  -- a drive starts where none runs on
  pub drive_starts : (line n : ℕ) → 0 < n → ((l m : ℕ) → Runs l m h → (l ≡ 5 → ⊥) × EntersSafe (d ∷ h)) → Starts line n (d ∷ h) → ((l m : ℕ) → Starts l m (d ∷ h) → (l ≡ line) × (m ≡ n)) → weight d.came ≡ 0 → Driven line n (d ∷ h)
  drive_starts line n pos none is one no-t = record {
    period = n;
    more = pos;
    run = ago_now d h (is, omega arith);
    only = λ l m r. ⊎_elim (λ now. let o = one l m now.0.0 in (o.0, o.1, now.1)) (λ la. let o = none l m (ran_on l m la.was) in absurd (la.goes o.0 o.1)) (ago_cases d h r);
  }

  -- every drive ends, and none starts
  pub drive_ends : ((l m : ℕ) → Runs l m h → (l ≡ 5 → ⊥) × EntersSafe (d ∷ h)) → ((l m : ℕ) → Starts l m (d ∷ h) → ⊥) → DriveIs None (d ∷ h)
  drive_ends none no-s l m r = ⊎_elim (λ now. no-s l m now.0.0) (λ la. let o = none l m (ran_on l m la.was) in la.goes o.0 o.1) (ago_cases d h r)

  -- a closing outlasts an entry into SAFE
  pub drive_closing : (line left : ℕ) → line ≡ 5 → ((l n : ℕ) → Starts l n (d ∷ h) → ⊥) → weight d.came ≡ 0 → Driven line left h → Driven line left (d ∷ h)
  drive_closing line left is no-s no-t k = record {
    period = k.period;
    more = k.more;
    run = ago_later d h (λ ne e. ne is) (ago_map (λ t p x. (x.0, omega (arith, x.1))) (λ p q. q) k.run);
    only = λ l n r. ⊎_elim (λ now. absurd (no-s l n now.0.0)) (λ la. let o = k.only l n (ran_on l n la.was) in (o.0, o.1, la.one_more ∙ ap suc o.2)) (ago_cases d h r);
  }

  -- ---- the order that waits

  -- n ticks on
  pub wait_less : (n : ℕ) (w : Option Waiting) → (IsFrame (d ∷ h) → ⊥) → (EntersSafe (d ∷ h) → ⊥) → weight d.came ≡ n → WaitIs w h → WaitIs (less_by n w) (d ∷ h)
  wait_less n None no_f no-e is k = λ o a.
      ⊎_elim
      (λ now. no_f (taken_frame d h _ _ now.0.0))
      (λ l. k o (ago_map (λ t p x. (x.0, omega (arith, x.1))) (λ p q. q) l.was))
      (ago_cases d h a)
  wait_less n (Some w) no_f no-e is k = go (ltb n w.left) refl
    where
      go : (b : Bool) → ltb n w.left ≡ b → WaitIs (cond b (Some (record { what = w.what; left = w.left - n })) None) (d ∷ h)
      go true e =
          let more : n < w.left = ltb-true _ _ e in
          (omega arith, ago_later d h (no_f, no-e) (ago_map (λ t p x. (x.0, omega (arith, x.1))) (λ p q. q) k.1))
      go false e = λ o a.
          ⊎_elim
          (λ now. no_f (taken_frame d h _ _ now.0.0))
          (λ l. omega (arith, ltb-false n w.left e, k.1.held.1, l.was.held.1, ap (λ b. ticks (take b h)) (one_wait h _ _ k.1 l.was)))
          (ago_cases d h a)

  -- nothing waits after a frame, or an entry into SAFE, that gives no order
  pub none_waits : IsFrame (d ∷ h) ⊎ EntersSafe (d ∷ h) → ((o : Order) → Taken o (d ∷ h) → ⊥) → WaitIs None (d ∷ h)
  none_waits is no-t o a = ⊎_elim (λ now. no-t o now.0.0) (λ l. ⊎_elim l.goes.0 l.goes.1 is) (ago_cases d h a)

  pub none_after : (op : ℕ) (ws : List ℕ) → (marked op).critical ≡ false → Accepted op ws (d ∷ h) → WaitIs None (d ∷ h)
  none_after op ws e a = none_waits (inl (taken_frame d h op ws a)) (λ o t. not_critical op e o (one_command d _ _ _ _ t.0 a.0).0)

-- the latest frame is one frame
pub given_one : (o p : Order) (h : Past) → GivenOrder o h → GivenOrder p h → o ≡ p
given_one o p [] a b = absurd (ago_none a)
given_one o p (d ∷ h) a b =
    ⊎_elim
    (λ x. ⊎_elim (λ y. one_taken d h o p x.0 y.0) (λ y. absurd (y.goes (taken_frame d h _ _ x.0))) (ago_cases d h b))
    (λ x. ⊎_elim (λ y. absurd (x.goes (taken_frame d h _ _ y.0))) (λ y. given_one o p h x.was y.was) (ago_cases d h b))
    (ago_cases d h a)

pub unwaited : (o : Order) (left : ℕ) (h : Past) → Waits o left h → GivenOrder o h
unwaited o left h w = ago_map (λ t p x. x.0) (λ p q. q.0) w
