-- What each event adds to the log, oldest first. An entry bears the head's time at logging.
use Rattle.std.specs.Prelude.{ℕ, zero, suc, Bool, true, false, cond, ◌&&◌, List, Some, None, Ok, Err, Option, Result, nat_lt, slice_index}
use Rattle.telecommand.specs.Commands.{Telecommand}
use Rattle.telecommand.specs.Links.{reads, set_aside}
use Rattle.telecommand.specs.Faults.{read_report}
use Rattle.telecommand.specs.declared.fault.ReadFault.{ReadFault}
use Rattle.ring.specs.Rolls.{Roll, added}
use Rattle.head.specs.Rolls.{Log, entry}
use Rattle.head.specs.Parameters.{allowed}
use Rattle.head.specs.Faults.{report_of, note_of}
use Rattle.head.specs.Requests.{request_of, order_op}
use Rattle.head.specs.Verdicts.{Answer, judged}
use Rattle.head.specs.State.{State}
use Rattle.head.specs.Effects.{is_entry}
use Rattle.head.specs.Events.{both_empty, sample_trip, not_overridden, too_large, clocked, rate_then, mark_trip}
use Rattle.head.specs.Countdown.{Waiting}
use Rattle.head.specs.declared.Core.{Core}
use Rattle.head.specs.declared.checks.Check.{Check}
use Rattle.head.specs.declared.checks.Sample.{Sample}
use Rattle.head.specs.declared.checks.Mark.{Mark}
use Rattle.head.specs.declared.request.Request.{Request}
use Rattle.head.specs.declared.request.Request.TheVariants.{Nothing, Safe, Checkout, Confirm, CloseDoor, SuppliesOff, Heater, Critical}
use Rattle.head.specs.declared.fault.Fault.{Fault}
use Rattle.head.specs.declared.fault.Fault.TheVariants.{BothEmpty, Unread, NotInSafe, CriticalWaits, WrongConfirm, NothingWaits, OutOfRange, TimerRuns, DriveRuns, ConfirmFailed, RawCount}
use Rattle.head.specs.declared.fault.Note.{Note}
use Rattle.head.specs.declared.fault.Note.TheVariants.{Lost, Late, Tripped, Replaced}
use Rattle.head.specs.declared.safe.Turn.TheVariants.{Trip}

-- a note, a refusal
abbrev pub noted : ℕ → Note → Log → Log
noted time n l = added (entry time (note_of n)) l

abbrev pub refused : ℕ → Fault → Log → Log
refused time f l = added (entry time (report_of f)) l

-- ---- power-on: a note for each stored parameter outside its range, in order of index

abbrev pub kept_log : ℕ → ℕ → Log → Log
kept_log i v l = cond (allowed i v) l (noted 1000000 (Replaced i) l)

unfoldable pub restored_log : ℕ → List ℕ → Log → Log
restored_log zero stored l = l
restored_log (suc n) stored l = kept_log n (slice_index stored n) (restored_log n stored l)

-- ---- frames: the fault set aside, the loss of what waited, the frame's own fault

abbrev pub aside_log : ℕ → Option ReadFault → Log → Log
aside_log time None l = l
aside_log time (Some fault) l = added (entry time (read_report fault)) l

abbrev is_confirm : Request → Bool
is_confirm Nothing = false
is_confirm Safe = false
is_confirm Checkout = false
is_confirm (Confirm a b) = true
is_confirm CloseDoor = false
is_confirm SuppliesOff = false
is_confirm (Heater i v) = false
is_confirm (Critical o) = false

-- the loss of what waited goes unsaid: a right confirm takes it (and may be answered 0x45), and 0x24 and 0x25 tell of it themselves
abbrev pub unsaid : Answer → Request → Bool
unsaid (Ok unit) q = is_confirm q
unsaid (Err BothEmpty) q = false
unsaid (Err (Unread fault)) q = false
unsaid (Err (NotInSafe opcode)) q = false
unsaid (Err (CriticalWaits opcode)) q = true
unsaid (Err WrongConfirm) q = true
unsaid (Err NothingWaits) q = false
unsaid (Err (OutOfRange place opcode)) q = false
unsaid (Err TimerRuns) q = false
unsaid (Err (DriveRuns opcode)) q = false
unsaid (Err ConfirmFailed) q = true
unsaid (Err RawCount) q = false

abbrev pub loss_log : ℕ → Option Waiting → Bool → Log → Log
loss_log time None quiet l = l
loss_log time (Some w) quiet l = cond quiet l (noted time (Lost (order_op w.what)) l)

abbrev pub own_log : ℕ → Answer → Log → Log
own_log time (Ok unit) l = l
own_log time (Err fault) l = refused time fault l

abbrev pub heard_log : Result Telecommand ReadFault → Core → Log → Log
heard_log (Ok t) c l =
    let a = judged c (request_of t) in
    own_log c.meters.time a (loss_log c.meters.time c.waiting (unsaid a (request_of t)) l)
heard_log (Err fault) c l = refused c.meters.time (Unread fault) (loss_log c.meters.time c.waiting false l)

-- the log after a frame
abbrev pub frame_log : List ℕ → List ℕ → Core → Log → Log
frame_log p r c l = cond (both_empty p r) l (heard_log (reads p r) c (aside_log c.meters.time (set_aside p r) l))

-- ---- ticks: a waiting command that is lost with its last tick

abbrev pub late_log : ℕ → Option Waiting → Log → Log
late_log time None l = l
late_log time (Some w) l = cond (nat_lt 1 w.left) l (noted time (Late (order_op w.what)) l)

abbrev pub tick_log : Core → Log → Log
tick_log c l = late_log c.meters.time c.waiting l

-- ---- trips: an entry into SAFE is noted with the lowest check

abbrev pub trip_log : Option Check → Core → Log → Log
trip_log None c l = l
trip_log (Some check) c l = cond (not_overridden c.parameters && is_entry c.mode Trip) (noted c.meters.time (Tripped check) l) l

abbrev pub sample_log : Sample → State → Log → Log
sample_log x s l = trip_log (sample_trip x s) s.core l

-- ---- second marks: a raw count that is too large is logged; a trip's note bears the new time

abbrev pub second_log : Mark → State → Log → Log
second_log x s l = cond (too_large x) (refused s.core.meters.time RawCount l) (trip_log (mark_trip x s.core) (clocked x s).core l)

-- the rate joins the rates
abbrev pub second_rates : Mark → Core → Roll ℕ → Roll ℕ
second_rates x c l = cond (too_large x) l (added (rate_then x c) l)
