-- The history of a head, newest event first and power-on last, and what its events say. No rule of the head is cited here.
--   past        what was brought, answered and read so far
--   ago         some events ago, with something holding after each event since
--   accepted    answered without a fault
--   confirmed   the next frame after an accepted command, both links empty aside, is an accepted confirm
use Rattle.std.specs.Prelude.{◌≡◌, ℕ, zero, suc, ◌+◌, ◌-◌, ◌*◌, ◌<◌, ◌≤◌, max, Bool, true, false, ◌⊎◌, List, [], ◌∷◌, length, take, drop, Some, None, Ok, Option, ◌≢◌, slice_index, slice_index_or}
use Rattle.std.proofs.Common.{inl, inr}
use Rattle.codes.specs.declared.Report.{Report}
use Rattle.telecommand.specs.Links.{reads}
use Rattle.head.specs.Parameters.{restored}
use Rattle.head.specs.Checks.{out, masked, rate, rate_at, warm}
use Rattle.head.specs.declared.checks.Sample.{Sample}
use Rattle.head.specs.declared.checks.Mark.{Mark}
use Rattle.interlock.specs.Events.{Event, tick, frame, sample, mark, unseen}
use Rattle.interlock.specs.declared.step.Shown.{Shown}

-- power-on with 25 stored bytes, or an event
pub data Came : Type 0 where
  powered : List ℕ → Came
  brought : Event → Came

-- what came, what it was answered, and how head and board then read
pub record Did : Type 0 where
  pub came : Came
  pub shown : Shown

abbrev pub Past : Type 0
Past = List Did

-- ---- counting back

abbrev pub weight : Came → ℕ
weight (powered stored) = 0
weight (brought tick) = 1
weight (brought (frame p r)) = 0
weight (brought (sample x)) = 0
weight (brought (mark x)) = 0

-- how many ticks came
abbrev pub ticks : Past → ℕ
ticks [] = 0
ticks (d ∷ h) = weight d.came + ticks h

abbrev accepted : Option Report → ℕ → ℕ
accepted None n = n
accepted (Some fault) n = 0

abbrev pub marking : Came → Option Report → ℕ
marking (powered stored) fault = 0
marking (brought tick) fault = 0
marking (brought (frame p r)) fault = 0
marking (brought (sample x)) fault = 0
marking (brought (mark x)) fault = accepted fault 1

-- how many second marks were accepted
abbrev pub marks : Past → ℕ
marks [] = 0
marks (d ∷ h) = marking d.came d.shown.fault + marks h

abbrev pub restart : ℕ → ℕ → ℕ
restart zero n = n
restart (suc m) n = 0

-- how many ticks came since the latest accepted second mark, or since power-on
abbrev pub ticks_since_mark : Past → ℕ
ticks_since_mark [] = 0
ticks_since_mark (d ∷ h) = restart (marking d.came d.shown.fault) (weight d.came + ticks_since_mark h)

abbrev raw_of : Came → Option Report → List ℕ → List ℕ
raw_of (powered stored) fault rest = rest
raw_of (brought tick) fault rest = rest
raw_of (brought (frame p r)) fault rest = rest
raw_of (brought (sample x)) fault rest = rest
raw_of (brought (mark x)) None rest = x.raw ∷ rest
raw_of (brought (mark x)) (Some fault) rest = rest

-- the raw counts of the accepted second marks, newest first
abbrev pub raws : Past → List ℕ
raws [] = []
raws (d ∷ h) = raw_of d.came d.shown.fault (raws h)

-- the newest of some counts, or none
abbrev pub newest : List ℕ → Option ℕ
newest [] = None
newest (n ∷ rest) = Some n

-- the rate of each raw count after the one before it, newest first; 0 for the first of all
abbrev pub rates_of : List ℕ → List ℕ
rates_of [] = []
rates_of (n ∷ rest) = rate_at (newest rest) n ∷ rates_of rest

-- some events ago P held, of the ticks since and of the past up to then, and Q held after each event since
pub record Ago (P : ℕ → Past → Type 0) (Q : Past → Type 0) (h : Past) : Type 0 where
  pub back : ℕ
  pub within : back < length h
  pub held : P (ticks (take back h)) (drop back h)
  pub since : (i : ℕ) → i < back → Q (drop i h)

-- P holds after each event
abbrev pub Always : (Past → Type 0) → Past → Type 0
Always P h = (i : ℕ) → i < length h → P (drop i h)

-- P holds of the past before the newest event
abbrev pub Before : (Past → Type 0) → Past → Type 0
Before P [] = ⊥
Before P (d ∷ h) = P h

-- ---- how head and board last read

abbrev pub last_shown : Past → Shown
last_shown [] = unseen
last_shown (d ∷ h) = d.shown

abbrev pub supply_reads : ℕ → Past → ℕ
supply_reads s h = slice_index (last_shown h).supplies s

abbrev pub heater_reads : ℕ → Past → Bool
heater_reads s h = slice_index_or (last_shown h).heaters s false

abbrev pub line_reads : ℕ → Past → Bool
line_reads l h = slice_index_or (last_shown h).lines l false

abbrev pub parameter_reads : ℕ → Past → ℕ
parameter_reads i h = slice_index (last_shown h).parameters i

-- ---- the newest event

-- a frame whose links read as this op-code with these octets of words
pub record Brings (op : ℕ) (ws : List ℕ) (d : Did) : Type 0 where
  pub primary : List ℕ
  pub redundant : List ℕ
  pub came_in : d.came ≡ brought (frame primary redundant)
  pub read_as : reads primary redundant ≡ Ok (record { opcode = op; words = ws })

-- the newest event brings this command and is answered without a fault
abbrev pub Accepted : ℕ → List ℕ → Past → Type 0
Accepted op ws [] = ⊥
Accepted op ws (d ∷ h) = Brings op ws d × (d.shown.fault ≡ None)

-- the newest event is a frame, with an octet on some link
abbrev pub IsFrame : Past → Type 0
IsFrame [] = ⊥
IsFrame (d ∷ h) = (p : List ℕ) × (r : List ℕ) × (d.came ≡ brought (frame p r)) × (0 < length p + length r)

-- the command was accepted, and no frame came since
abbrev pub Given : ℕ → List ℕ → Past → Type 0
Given op ws h = Ago (λ t p. Accepted op ws p) (λ p. IsFrame p → ⊥) h

-- the newest event is the accepted confirm of this command
abbrev pub Confirmed : ℕ → List ℕ → Past → Type 0
Confirmed op ws p = ((words : List ℕ) × Accepted 0x6604 words p) × Before (Given op ws) p

-- ---- parameters

-- the newest event is power-on, and leaves parameter i at v: the stored byte, or the default where that is outside its range
abbrev pub PowersOn : ℕ → ℕ → Past → Type 0
PowersOn i v [] = ⊥
PowersOn i v (d ∷ h) = (stored : List ℕ) × (d.came ≡ powered stored) × (restored i (slice_index stored i) ≡ v)

-- the newest event gives parameter i the value v
abbrev pub Sets : ℕ → ℕ → Past → Type 0
Sets i v p = Confirmed 0x6607 (i ∷ v ∷ []) p ⊎ PowersOn i v p

-- the latest event that gave parameter i a value gave it v
abbrev pub ParameterIs : ℕ → ℕ → Past → Type 0
ParameterIs i v h = Ago (λ t p. Sets i v p) (λ p. (w : ℕ) → Sets i w p → ⊥) h

-- these 25 are in force
abbrev pub ParametersAre : List ℕ → Past → Type 0
ParametersAre ps h = (length ps ≡ 25) × ((i : ℕ) → i < 25 → ParameterIs i (slice_index ps i) h)

-- ---- trips

abbrev pub sampling : Came → ℕ
sampling (powered stored) = 0
sampling (brought tick) = 0
sampling (brought (frame p r)) = 0
sampling (brought (sample x)) = 1
sampling (brought (mark x)) = 0

-- how many samples came
abbrev pub samples : Past → ℕ
samples [] = 0
samples (d ∷ h) = sampling d.came + samples h

abbrev pub IsSample : Past → Type 0
IsSample [] = ⊥
IsSample (d ∷ h) = sampling d.came ≡ 1

-- the newest event is a sample that check c finds out, by the set points read and the parameters in force before it
abbrev pub Out : ℕ → Past → Type 0
Out c [] = ⊥
Out c (d ∷ h) = (x : Sample) × (ps : List ℕ) × (d.came ≡ brought (sample x)) × ParametersAre ps h × (out ps (max (supply_reads 0 h) (supply_reads 1 h)) x c ≡ true)

-- the latest n samples were all out
pub record Row (O : Past → Type 0) (n : ℕ) (h : Past) : Type 0 where
  pub back : ℕ
  pub within : back ≤ length h
  pub many : samples (take back h) ≡ n
  pub all_out : (i : ℕ) → i < back → IsSample (drop i h) → O (drop i h)

-- a sample at which a check that is not masked has failed as often in a row as its limit says
pub record SampleTrips (d : Did) (h : Past) : Type 0 where
  pub check : ℕ
  pub params : List ℕ
  pub one_of : check < 3
  pub sampled : sampling d.came ≡ 1
  pub in_force : ParametersAre params h
  pub unmasked : masked params check ≡ false
  pub row : Row (Out check) (slice_index params (7 + check)) (d ∷ h)

-- the newest event is the accepted second mark x
abbrev pub Marks : Mark → Past → Type 0
Marks x [] = ⊥
Marks x (d ∷ h) = (d.came ≡ brought (mark x)) × (d.shown.fault ≡ None)

abbrev pub Counts : ℕ → Past → Type 0
Counts n p = (x : Mark) × Marks x p × (x.raw ≡ n)

-- n is the latest raw count
abbrev pub RawIs : ℕ → Past → Type 0
RawIs n h = Ago (λ t p. Counts n p) (λ p. (m : ℕ) → Counts m p → ⊥) h

-- r is the rate at raw count n after h
abbrev pub RateIs : ℕ → ℕ → Past → Type 0
RateIs r n h = ((b : ℕ) × RawIs b h × (r ≡ rate b n)) ⊎ (((b : ℕ) → RawIs b h → ⊥) × (r ≡ 0))

-- an accepted second mark at which the rate or a temperature is above its limit, not masked
pub record MarkTrips (d : Did) (h : Past) : Type 0 where
  pub marked : Mark
  pub params : List ℕ
  pub rate_then : ℕ
  pub came_in : Marks marked (d ∷ h)
  pub in_force : ParametersAre params h
  pub rate_is : RateIs rate_then marked.raw h
  pub above : ((masked params 3 ≡ false) × (256 * slice_index params 10 < rate_then)) ⊎ ((masked params 4 ≡ false) × (warm params marked.temperatures ≡ true))

-- ---- modes

-- at the newest event a check trips
abbrev pub Trips : Past → Type 0
Trips [] = ⊥
Trips (d ∷ h) = SampleTrips d h ⊎ MarkTrips d h

-- what is above its limit: the rate, which is check 3, or a temperature, which is check 4
abbrev pub check_above : {A B : Type 0} → A ⊎ B → ℕ
check_above (inl r) = 3
check_above (inr t) = 4

-- check c is one that trips
abbrev pub TripsAt : ℕ → Past → Type 0
TripsAt c [] = ⊥
TripsAt c (d ∷ h) = ((t : SampleTrips d h) × (t.check ≡ c)) ⊎ ((t : MarkTrips d h) × (check_above t.above ≡ c))

-- the newest event is an accepted SAFE command, or a check trips at it with override 0
abbrev pub Leaves : Past → Type 0
Leaves p = Accepted 0x6602 [] p ⊎ (Trips p × Before (ParameterIs 21 0) p)

-- CHECKOUT was accepted, and neither SAFE nor a trip with override 0 came since
abbrev pub InCheckout : Past → Type 0
InCheckout h = Ago (λ t p. Accepted 0x6603 [] p) (λ p. Leaves p → ⊥) h

-- the newest event is an entry into SAFE: a change from CHECKOUT
abbrev pub EntersSafe : Past → Type 0
EntersSafe p = Leaves p × Before InCheckout p

-- ---- what waits

-- neither a frame nor an entry into SAFE
abbrev pub LeavesWaiting : Past → Type 0
LeavesWaiting p = (IsFrame p → ⊥) × (EntersSafe p → ⊥)

-- ---- the safety timer

-- no check ever tripped, and the timer is at 0
abbrev pub NeverSet : ℕ → Past → Type 0
NeverSet n h = ((i : ℕ) → i < length h → Trips (drop i h) → ⊥) × (n ≡ 0)

-- the latest trip set the timer to parameter 22 as it then was, and the accepted second marks since lessened it
pub record SetBack (n : ℕ) (h : Past) : Type 0 where
  pub trip : Ago (λ t p. Trips p) (λ p. Trips p → ⊥) h
  pub seconds : ℕ
  pub in_force : Before (ParameterIs 22 seconds) (drop trip.back h)
  pub left : n ≡ seconds - marks (take trip.back h)

-- the safety timer stands at n
abbrev pub TimerIs : ℕ → Past → Type 0
TimerIs n h = NeverSet n h ⊎ SetBack n h

-- ---- supplies, heaters and drives

-- the latest confirmed switch-on of supply s set v, with no accepted high-voltage-off and no entry into SAFE since
abbrev pub SwitchedOn : ℕ → ℕ → Past → Type 0
SwitchedOn s v h =
    Ago (λ t p. Confirmed 0x6610 (s ∷ v ∷ []) p)
    (λ p. ((w : ℕ) → Confirmed 0x6610 (s ∷ w ∷ []) p → ⊥) × (Accepted 0x660e [] p → ⊥) × (EntersSafe p → ⊥)) h

-- the latest accepted heater command on heater i said on, with no entry into SAFE since
abbrev pub HeatedOn : ℕ → Past → Type 0
HeatedOn i h =
    Ago (λ t p. Accepted 0x6611 (i ∷ 1 ∷ []) p)
    (λ p. ((v : ℕ) → Accepted 0x6611 (i ∷ v ∷ []) p → ⊥) × (EntersSafe p → ⊥)) h

-- n is the door's period by the parameters before the newest event
abbrev pub DoorTime : ℕ → Past → Type 0
DoorTime n p = (v : ℕ) × Before (ParameterIs 23 v) p × (n ≡ 4 * v)

-- a drive of n ticks on line l starts at the newest event
pub data Starts (l n : ℕ) (p : Past) : Type 0 where
  fires : Confirmed 0x6612 (l ∷ n ∷ []) p → Starts l n p
  opens : l ≡ 4 → Confirmed 0x660f [] p → DoorTime n p → Starts l n p
  closes : l ≡ 5 → Accepted 0x660d [] p → DoorTime n p → Starts l n p
  shuts : l ≡ 5 → EntersSafe p → Before (ParameterIs 24 1) p → Before (λ h. line_reads 5 h ≡ false) p → DoorTime n p → Starts l n p

-- a drive of n ticks on line l started fewer than n ticks ago, and no entry into SAFE ended it; none ends a closing
abbrev pub Runs : ℕ → ℕ → Past → Type 0
Runs l n h = Ago (λ t p. Starts l n p × (t < n)) (λ p. (l ≢ 5) → EntersSafe p → ⊥) h
