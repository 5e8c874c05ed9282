-- What a line brings to a head, how often, and what is printed of it.
use Rattle.std.specs.Prelude.{◌≡◌, ℕ, zero, suc, ◌-◌, [], None}
use Rattle.head.specs.declared.records.Records.{Records}
use Rattle.head.specs.State.{State}
use Rattle.interlock.specs.Events.{Event, tick, frame, sample, mark, not_due, reading}
use Rattle.interlock.specs.Runs.{next, shown_of, records_after}
use Rattle.interlock.specs.declared.step.Shown.{Shown}
use Rattle.script.specs.Hex.{octets_in}
use Rattle.script.specs.declared.event.EventLine.{EventLine}
use Rattle.script.specs.declared.event.EventLine.TheVariants.{Frame, Ticks, Sample, Second}
use Rattle.script.specs.declared.outcome.Kind.{Kind}
use Rattle.script.specs.declared.outcome.Kind.TheVariants.{PowerOn}
use Rattle.script.specs.declared.outcome.Outcome.{Outcome}

-- the event of a line; a frame is on the primary link, and the redundant is empty
abbrev pub event_in : EventLine → Event
event_in (Frame o) = frame (octets_in o) []
event_in (Ticks n) = tick
event_in (Sample x) = sample x
event_in (Second x) = mark x

-- how often it comes
abbrev pub times_in : EventLine → ℕ
times_in (Frame o) = 1
times_in (Ticks n) = n
times_in (Sample x) = 1
times_in (Second x) = 1

-- the state and the records after an event came n times

abbrev pub after_times : ℕ → Event → State → State
after_times zero e s = s
after_times (suc n) e s = next (after_times n e s) e

abbrev pub records_times : ℕ → Event → State → Records → Records
records_times zero e s r = r
records_times (suc n) e s r = records_after (after_times n e s) e (records_times n e s r)

-- an event was brought n times by the rules, and this is shown of the last
pub record Brought (n : ℕ) (e : Event) (s t : State) (r r' : Records) (x : Shown) : Type 0 where
  pub ends : t ≡ after_times n e s
  pub written : r' ≡ records_times n e s r
  pub shows : x ≡ shown_of (after_times (n - 1) e s) e

-- what is printed of an event of a kind
abbrev pub printed : Kind → Shown → Outcome
printed k x = record { kind = k; fault = x.fault; mode = x.mode; supplies = x.supplies; heaters = x.heaters; lines = x.lines }

-- what is printed of power-on
abbrev pub printed_first : State → Outcome
printed_first s = printed PowerOn (reading None not_due s)
