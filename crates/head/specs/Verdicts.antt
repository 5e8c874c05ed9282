-- What a request is answered: the fault of the first test that holds, or none.
use Rattle.std.specs.Prelude.{ℕ, ◌-◌, Bool, true, false, not, ◌&&◌, List, Some, None, Ok, Err, Option, Result, ◌==◌, nat_le, nat_lt, slice_index}
use Rattle.codes.specs.Reports.{refuse}
use Rattle.head.specs.Parameters.{allowed as in_range}
use Rattle.head.specs.Requests.{op_of, order_op, barred}
use Rattle.head.specs.declared.Mode.{Mode}
use Rattle.head.specs.declared.Mode.TheVariants.{Safe, Checkout}
use Rattle.head.specs.declared.Order.{Order}
use Rattle.head.specs.declared.Order.TheVariants.{SetParameter, OpenDoor, SetSupply, FireRelease}
use Rattle.head.specs.Countdown.{Waiting, Drive}
use Rattle.head.specs.declared.Core.{Core}
use Rattle.head.specs.declared.request.Request.{Request}
use Rattle.head.specs.declared.request.Request.TheVariants.{Nothing, Safe as GoSafe, Checkout as GoCheckout, Confirm, CloseDoor, SuppliesOff, Heater, Critical}
use Rattle.head.specs.declared.fault.Fault.{Fault}
use Rattle.head.specs.declared.fault.Fault.TheVariants.{NotInSafe, CriticalWaits, WrongConfirm, NothingWaits, OutOfRange, TimerRuns, DriveRuns, ConfirmFailed}

-- accepted, or the fault
abbrev pub Answer : Type 0
Answer = Result (Unit {0}) Fault

abbrev pub in_safe : Mode → Bool
in_safe Safe = true
in_safe Checkout = false

-- a drive runs
abbrev pub busy : Option Drive → Bool
busy None = false
busy (Some d) = true

-- a critical command waits
abbrev pub waits : Option Waiting → Bool
waits None = false
waits (Some w) = true

abbrev pub is_checkout : Request → Bool
is_checkout Nothing = false
is_checkout GoSafe = false
is_checkout GoCheckout = true
is_checkout (Confirm a b) = false
is_checkout CloseDoor = false
is_checkout SuppliesOff = false
is_checkout (Heater i v) = false
is_checkout (Critical o) = false

abbrev pub order_drives : Order → Bool
order_drives (SetParameter i v) = false
order_drives OpenDoor = true
order_drives (SetSupply s v) = false
order_drives (FireRelease l n) = true

-- it asks for a drive: a door or a release
abbrev pub is_drive : Request → Bool
is_drive Nothing = false
is_drive GoSafe = false
is_drive GoCheckout = false
is_drive (Confirm a b) = false
is_drive CloseDoor = true
is_drive SuppliesOff = false
is_drive (Heater i v) = false
is_drive (Critical o) = order_drives o

abbrev pub order_first : Order → Bool
order_first (SetParameter i v) = nat_lt i 25
order_first OpenDoor = true
order_first (SetSupply s v) = nat_lt s 2
order_first (FireRelease l n) = nat_lt l 4

-- octet 8 is in its range: an index below 25, supply or heater 0 or 1, line 0 to 3
abbrev pub first_fits : Request → Bool
first_fits Nothing = true
first_fits GoSafe = true
first_fits GoCheckout = true
first_fits (Confirm a b) = true
first_fits CloseDoor = true
first_fits SuppliesOff = true
first_fits (Heater i v) = nat_lt i 2
first_fits (Critical o) = order_first o

-- a value that may stand at an index below 25
abbrev pub allowed_at : ℕ → ℕ → Bool
allowed_at i v = nat_lt i 25 && in_range i v

abbrev pub order_second : List ℕ → Order → Bool
order_second ps (SetParameter i v) = allowed_at i v
order_second ps OpenDoor = true
order_second ps (SetSupply s v) = nat_le 1 v && nat_le v (slice_index ps 1)
order_second ps (FireRelease l n) = nat_le 1 n

-- octet 9 is in its range: a value of its parameter, a set point from 1 to parameter 1, a heater 0 or 1, a period from 1
abbrev pub second_fits : List ℕ → Request → Bool
second_fits ps Nothing = true
second_fits ps GoSafe = true
second_fits ps GoCheckout = true
second_fits ps (Confirm a b) = true
second_fits ps CloseDoor = true
second_fits ps SuppliesOff = true
second_fits ps (Heater i v) = nat_le v 1
second_fits ps (Critical o) = order_second ps o

-- the safety timer is above zero and the override is 0
abbrev pub timer_bars : Core → Bool
timer_bars c = nat_lt 0 c.meters.timer && slice_index c.parameters 21 == 0

-- the tests from the mode on, in their order
abbrev pub allowed : Core → Request → Answer
allowed c q =
    refuse (in_safe c.mode && barred q) (NotInSafe (op_of q))
    (refuse (not (first_fits q)) (OutOfRange 8 (op_of q))
    (refuse (not (second_fits c.parameters q)) (OutOfRange 9 (op_of q))
    (refuse (is_checkout q && timer_bars c) TimerRuns
    (refuse (is_drive q && busy c.drive) (DriveRuns (op_of q))
    (Ok tt)))))

-- a second check that fails is answered as such
abbrev pub again : Answer → Answer
again (Ok done) = Ok done
again (Err fault) = Err ConfirmFailed

-- the words are the op-code of the order and its bitwise complement
abbrev pub names : Order → ℕ → ℕ → Bool
names o a b = a == order_op o && b == 0xFFFF - a

-- a confirm, where this waits
abbrev pub confirmed : Option Waiting → Core → ℕ → ℕ → Answer
confirmed None c a b = Err NothingWaits
confirmed (Some w) c a b = refuse (not (names w.what a b)) WrongConfirm (again (allowed c (Critical w.what)))

-- what a request is answered
abbrev pub judged : Core → Request → Answer
judged c Nothing = allowed c Nothing
judged c GoSafe = allowed c GoSafe
judged c GoCheckout = allowed c GoCheckout
judged c (Confirm a b) = confirmed c.waiting c a b
judged c CloseDoor = allowed c CloseDoor
judged c SuppliesOff = allowed c SuppliesOff
judged c (Heater i v) = allowed c (Heater i v)
judged c (Critical o) = refuse (waits c.waiting) (CriticalWaits (order_op o)) (allowed c (Critical o))
