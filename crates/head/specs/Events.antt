-- The rules of the events: what state each leaves, and what it is answered.
use Rattle.std.specs.Prelude.{ℕ, ◌+◌, ◌-◌, ◌%◌, ◌^◌, max, Bool, false, cond, ◌&&◌, List, [], ◌∷◌, Some, None, Ok, Err, Option, Result, ◌==◌, nat_lt, slice_index}
use Rattle.board.specs.Meaning.{Outputs, with_line, dark}
use Rattle.board.specs.declared.line_state.LineState.TheVariants.{Off}
use Rattle.codes.specs.Reports.{refuse}
use Rattle.telecommand.specs.Commands.{Telecommand}
use Rattle.telecommand.specs.Links.{blank, reads}
use Rattle.telecommand.specs.declared.fault.ReadFault.{ReadFault}
use Rattle.head.specs.Parameters.{restored_all}
use Rattle.head.specs.Checks.{out, counted, reached, rate_at, rate_trips, sensors_trip, lowest}
use Rattle.head.specs.Requests.{request_of}
use Rattle.head.specs.Verdicts.{Answer, judged}
use Rattle.head.specs.State.{State, st, waiting_is, meters_are}
use Rattle.head.specs.Effects.{turned, done}
use Rattle.head.specs.declared.Mode.TheVariants.{Safe}
use Rattle.head.specs.Countdown.{Drive, lessened}
use Rattle.head.specs.declared.Meters.{Meters}
use Rattle.head.specs.declared.Core.{Core}
use Rattle.head.specs.declared.checks.Check.{Check}
use Rattle.head.specs.declared.checks.Sample.{Sample}
use Rattle.head.specs.declared.checks.Mark.{Mark}
use Rattle.head.specs.declared.request.Request.{Request}
use Rattle.head.specs.declared.fault.Fault.TheVariants.{BothEmpty, Unread, RawCount}
use Rattle.head.specs.declared.safe.Turn.TheVariants.{Trip}
use Rattle.head.specs.declared.tick.Due.{Due}

-- ---- power-on

-- everything off, SAFE, time 1,000,000, every count zero, nothing waits or runs
abbrev pub powered_on : List ℕ → State
powered_on stored =
    st Safe None None (restored_all stored) (record { time = 1000000; tick = 0; timer = 0; counts = 0 ∷ 0 ∷ 0 ∷ []; last = None }) dark

-- ---- frames

-- the waiting command is taken out
abbrev pub taken : State → State
taken s = waiting_is None s

-- both links hold nothing
abbrev pub both_empty : List ℕ → List ℕ → Bool
both_empty p r = blank p && blank r

abbrev pub heard_answer : Result Telecommand ReadFault → Core → Answer
heard_answer (Ok t) c = judged c (request_of t)
heard_answer (Err fault) c = Err (Unread fault)

-- what a frame on two links is answered
abbrev pub frame_answer : List ℕ → List ℕ → Core → Answer
frame_answer p r c = refuse (both_empty p r) BothEmpty (heard_answer (reads p r) c)

-- a refused request changes only the waiting command
abbrev pub answered : Answer → Request → State → State
answered (Ok unit) q s = done s.core.waiting q (taken s)
answered (Err fault) q s = taken s

abbrev pub heard : Result Telecommand ReadFault → State → State
heard (Ok t) s = answered (judged s.core (request_of t)) (request_of t) s
heard (Err fault) s = taken s

-- the state after a frame
abbrev pub framed : List ℕ → List ℕ → State → State
framed p r s = cond (both_empty p r) s (heard (reads p r) s)

-- ---- ticks

abbrev pub next_tick : Meters → Meters
next_tick me = record { time = me.time; tick = (me.tick + 1) % 200; timer = me.timer; counts = me.counts; last = me.last }

-- the line of a drive that ends goes off
abbrev pub less_out : Option Drive → Outputs → Outputs
less_out None o = o
less_out (Some d) o = cond (nat_lt 1 d.left) o (with_line o d.what Off)

-- the state after a tick: what waits and what is driven have one tick less
abbrev pub ticked : State → State
ticked s = st s.core.mode (lessened s.core.waiting) (lessened s.core.drive) s.core.parameters (next_tick s.core.meters) (less_out s.core.drive s.out)

-- a sample is due at the multiples of 20
unfoldable pub sample_due : ℕ → Bool
sample_due tick = tick % 20 == 0

-- what a tick is answered, by the tick number that it comes to
abbrev pub due_at : ℕ → Due
due_at tick = record { sample = sample_due tick; «second» = (tick == 0) }

-- ---- samples

-- the larger set point
abbrev pub set_point : Outputs → ℕ
set_point o = max (slice_index o.supplies 0) (slice_index o.supplies 1)

-- the count of check c after a sample
abbrev pub count_after : Sample → State → ℕ → ℕ
count_after x s c = counted (out s.core.parameters (set_point s.out) x c) (slice_index s.core.meters.counts c)

abbrev pub counts_after : Sample → State → List ℕ
counts_after x s = count_after x s 0 ∷ count_after x s 1 ∷ count_after x s 2 ∷ []

-- which of the five checks trip at these counts
abbrev pub count_trips : List ℕ → List ℕ → List Bool
count_trips ps cs = reached ps 0 (slice_index cs 0) ∷ reached ps 1 (slice_index cs 1) ∷ reached ps 2 (slice_index cs 2) ∷ false ∷ false ∷ []

abbrev pub counts_are : List ℕ → State → State
counts_are cs s = meters_are (record { time = s.core.meters.time; tick = s.core.meters.tick; timer = s.core.meters.timer; counts = cs; last = s.core.meters.last }) s

abbrev pub timer_is : ℕ → State → State
timer_is t s = meters_are (record { time = s.core.meters.time; tick = s.core.meters.tick; timer = t; counts = s.core.meters.counts; last = s.core.meters.last }) s

-- the override is 0
abbrev pub not_overridden : List ℕ → Bool
not_overridden ps = slice_index ps 21 == 0

-- a trip sets the safety timer to parameter 22, and with override 0 turns the mode
abbrev pub tripped : Option Check → State → State
tripped None s = s
tripped (Some check) s = cond (not_overridden s.core.parameters) (turned Trip (timer_is (slice_index s.core.parameters 22) s)) (timer_is (slice_index s.core.parameters 22) s)

-- the lowest check that a sample trips
abbrev pub sample_trip : Sample → State → Option Check
sample_trip x s = lowest (count_trips s.core.parameters (counts_after x s))

-- the state after a sample
abbrev pub sampled : Sample → State → State
sampled x s = tripped (sample_trip x s) (counts_are (counts_after x s) s)

-- ---- second marks

-- a raw count of more than 24 bits
abbrev pub too_large : Mark → Bool
too_large x = nat_lt 16777215 x.raw

abbrev pub second_answer : Mark → Answer
second_answer x = refuse (too_large x) RawCount (Ok tt)

-- time goes up by one and wraps, the tick number is 0, the safety timer lessens, the raw count is the latest
abbrev pub clocked : Mark → State → State
clocked x s = meters_are (record { time = (s.core.meters.time + 1) % 2 ^ 32; tick = 0; timer = s.core.meters.timer - 1; counts = s.core.meters.counts; last = Some x.raw }) s

-- the rate at a second mark
abbrev pub rate_then : Mark → Core → ℕ
rate_then x c = rate_at c.meters.last x.raw

-- which of the five checks a second mark trips
abbrev pub mark_trips : Mark → Core → List Bool
mark_trips x c = false ∷ false ∷ false ∷ rate_trips c.parameters (rate_then x c) ∷ sensors_trip c.parameters x.temperatures ∷ []

abbrev pub mark_trip : Mark → Core → Option Check
mark_trip x c = lowest (mark_trips x c)

-- the state after an accepted second mark
abbrev pub marked : Mark → State → State
marked x s = tripped (mark_trip x s.core) (clocked x s)

-- the state after a second mark
abbrev pub seconded : Mark → State → State
seconded x s = cond (too_large x) s (marked x s)
