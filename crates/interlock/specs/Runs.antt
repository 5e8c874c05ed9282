-- A run by the rules: what each event is answered, and where it leaves head, board, log and rates.
use Rattle.std.specs.Prelude.{◌≡◌, ℕ, zero, suc, ◌+◌, ◌%◌, ◌<◌, List, [], length, Some, None, Ok, Err, Option, slice_index_or}
use Rattle.codes.specs.declared.Report.{Report}
use Rattle.head.specs.Faults.{report_of}
use Rattle.head.specs.Verdicts.{Answer}
use Rattle.head.specs.State.{State}
use Rattle.ring.specs.Rolls.{Roll, emptied}
use Rattle.head.specs.Rolls.{Log}
use Rattle.head.specs.Events.{frame_answer, framed, ticked, due_at, sampled, second_answer, seconded}
use Rattle.head.specs.Logs.{restored_log, frame_log, tick_log, sample_log, second_log, second_rates}
use Rattle.head.specs.declared.records.Records.{Records}
use Rattle.head.specs.declared.tick.Due.{Due}
use Rattle.head.specs.declared.Mode.TheVariants.{Safe}
use Rattle.interlock.specs.Events.{Event, tick, frame, sample, mark, event_of, not_due, reading}
use Rattle.interlock.specs.declared.step.Event.TheVariants.{Tick}
use Rattle.interlock.specs.declared.step.Shown.{Shown}
use Rattle.interlock.specs.declared.step.Step.{Step}

-- none where it was accepted, else the report of the fault
abbrev pub fault_of : Answer → Option Report
fault_of (Ok unit) = None
fault_of (Err fault) = Some (report_of fault)

-- the state after an event
abbrev pub next : State → Event → State
next s tick = ticked s
next s (frame p r) = framed p r s
next s (sample x) = sampled x s
next s (mark x) = seconded x s

-- what an event is answered
abbrev pub answer_of : State → Event → Option Report
answer_of s tick = None
answer_of s (frame p r) = fault_of (frame_answer p r s.core)
answer_of s (sample x) = None
answer_of s (mark x) = fault_of (second_answer x)

-- what a tick says is due
abbrev pub due_of : State → Event → Due
due_of s tick = due_at ((s.core.meters.tick + 1) % 200)
due_of s (frame p r) = not_due
due_of s (sample x) = not_due
due_of s (mark x) = not_due

-- the answer, and how head and board then read
abbrev pub shown_of : State → Event → Shown
shown_of s e = reading (answer_of s e) (due_of s e) (next s e)

-- the log after an event
abbrev pub log_after : State → Event → Log → Log
log_after s tick l = tick_log s.core l
log_after s (frame p r) l = frame_log p r s.core l
log_after s (sample x) l = sample_log x s l
log_after s (mark x) l = second_log x s l

-- the rates after an event
abbrev pub rates_after : State → Event → Roll ℕ → Roll ℕ
rates_after s tick l = l
rates_after s (frame p r) l = l
rates_after s (sample x) l = l
rates_after s (mark x) l = second_rates x s.core l

-- log and rates after an event
abbrev pub records_after : State → Event → Records → Records
records_after s e r = record { log = log_after s e r.log; rates = rates_after s e r.rates }

-- log and rates after power-on
abbrev pub records_on : List ℕ → Records → Records
records_on stored r = record { log = restored_log 25 stored (emptied r.log); rates = emptied r.rates }

-- what stands past the end of a list
abbrev pub absent : Step
absent = record { event = Tick; shown = record { fault = None; due = not_due; mode = Safe; parameters = []; supplies = []; heaters = []; lines = [] } }

-- step i of a list
abbrev pub step_at : List Step → ℕ → Step
step_at steps i = slice_index_or steps i absent

abbrev pub event_at : List Step → ℕ → Event
event_at steps i = event_of (step_at steps i).event

-- the state and the records after the first n events

abbrev pub state_after : State → ℕ → List Step → State
state_after s zero steps = s
state_after s (suc n) steps = next (state_after s n steps) (event_at steps n)

abbrev pub records_after_all : State → ℕ → List Step → Records → Records
records_after_all s zero steps r = r
records_after_all s (suc n) steps r = records_after (state_after s n steps) (event_at steps n) (records_after_all s n steps r)

-- n steps were brought by the rules: each shows what the rules answer, and keeps its event; head, board and records end as the rules say
pub record Ran (n : ℕ) (before after : List Step) (s t : State) (r r' : Records) : Type 0 where
  pub as_many : length after ≡ length before
  pub events : (i : ℕ) → (step_at after i).event ≡ (step_at before i).event
  pub shows : (i : ℕ) → i < n → (step_at after i).shown ≡ shown_of (state_after s i before) (event_at before i)
  pub ends : t ≡ state_after s n before
  pub written : r' ≡ records_after_all s n before r
