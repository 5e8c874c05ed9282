-- What the head does: drives, the safe state, and what an accepted command carries out.
use Rattle.std.specs.Prelude.{ℕ, ◌*◌, Bool, true, false, cond, Some, None, Option, ◌==◌, nat_lt, slice_index, slice_set}
use Rattle.board.specs.Meaning.{Outputs, with_supply, with_heater, with_line}
use Rattle.board.specs.declared.line_state.LineState.TheVariants.{Off, On}
use Rattle.head.specs.State.{State, mode_is, waiting_is, driven, parameters_are, outputs_are}
use Rattle.head.specs.declared.Mode.{Mode}
use Rattle.head.specs.declared.Mode.TheVariants.{Safe, Checkout}
use Rattle.head.specs.declared.Order.{Order}
use Rattle.head.specs.declared.Order.TheVariants.{SetParameter, OpenDoor, SetSupply, FireRelease}
use Rattle.head.specs.Countdown.{Waiting, Drive}
use Rattle.head.specs.declared.request.Request.{Request}
use Rattle.head.specs.declared.request.Request.TheVariants.{Nothing, Safe as AskSafe, Checkout as AskCheckout, Confirm, CloseDoor, SuppliesOff, Heater, Critical}
use Rattle.head.specs.declared.safe.Turn.{Turn}
use Rattle.head.specs.declared.safe.Turn.TheVariants.{GoSafe, GoCheckout, Trip}

-- a drive on a line: the line goes on, its ticks are latched
abbrev pub starts : ℕ → ℕ → State → State
starts line ticks s = driven (Some (record { what = line; left = ticks })) (with_line s.out line On) s

-- the door's ticks: 4 times parameter 23 as it stands
abbrev pub door_ticks : State → ℕ
door_ticks s = 4 * slice_index s.core.parameters 23

-- both supplies to zero
abbrev pub without_supplies : Outputs → Outputs
without_supplies o = with_supply (with_supply o 0 0) 1 0

-- both heaters off
abbrev pub without_heaters : Outputs → Outputs
without_heaters o = with_heater (with_heater o 0 false) 1 false

-- supplies and heaters off, the waiting command dropped
abbrev pub darkened : State → State
darkened s = waiting_is None (outputs_are (without_heaters (without_supplies s.out)) s)

abbrev pub ended_from : Option Drive → State → State
ended_from None s = s
ended_from (Some d) s = cond (d.what == 5) s (driven None (with_line s.out d.what Off) s)

-- a drive on lines 0 to 4 ends
abbrev pub ended : State → State
ended s = ended_from s.core.drive s

abbrev pub shut_from : Option Drive → State → State
shut_from None s = cond (slice_index s.core.parameters 24 == 1) (starts 5 (door_ticks s) s) s
shut_from (Some d) s = s

-- a closing starts if parameter 24 is 1 and none runs
abbrev pub shut : State → State
shut s = shut_from s.core.drive s

-- the effects of an entry into SAFE
abbrev pub secured : State → State
secured s = shut (ended (darkened s))

-- the mode that follows a mode, by what the event comes to
abbrev pub mode_after : Mode → Turn → Mode
mode_after m GoSafe = Safe
mode_after m GoCheckout = Checkout
mode_after m Trip = Safe

-- a change into SAFE from another mode
abbrev pub is_entry : Mode → Turn → Bool
is_entry Safe t = false
is_entry Checkout GoSafe = true
is_entry Checkout GoCheckout = false
is_entry Checkout Trip = true

-- the mode steps, and an entry into SAFE has its effects
abbrev pub turned : Turn → State → State
turned t s = cond (is_entry s.core.mode t) (secured (mode_is (mode_after s.core.mode t) s)) (mode_is (mode_after s.core.mode t) s)

-- what a confirmed order does
abbrev pub acts : Order → State → State
acts (SetParameter i v) s = parameters_are (cond (nat_lt i 25) (slice_set s.core.parameters i v) s.core.parameters) s
acts OpenDoor s = starts 4 (door_ticks s) s
acts (SetSupply i v) s = outputs_are (with_supply s.out i v) s
acts (FireRelease l n) s = starts l n s

abbrev pub acts_on : Option Waiting → State → State
acts_on None s = s
acts_on (Some w) s = acts w.what s

-- what an accepted request does, where this waited and was taken out
abbrev pub done : Option Waiting → Request → State → State
done w Nothing s = s
done w AskSafe s = turned GoSafe s
done w AskCheckout s = turned GoCheckout s
done w (Confirm a b) s = acts_on w s
done w CloseDoor s = starts 5 (door_ticks s) s
done w SuppliesOff s = outputs_are (without_supplies s.out) s
done w (Heater i v) s = outputs_are (with_heater s.out i (v == 1)) s
done w (Critical o) s = waiting_is (Some (record { what = o; left = 2000 })) s
