-- The events of a run, free of references, and how head and board read.
use Rattle.std.specs.Prelude.{ℕ, Bool, false, List, [], ◌∷◌, replicate, None, Option, slice_index, slice_index_or}
use Rattle.board.specs.Lines.{is_on}
use Rattle.board.specs.Meaning.{Outputs}
use Rattle.board.specs.declared.line_state.LineState.TheVariants.{Off}
use Rattle.codes.specs.declared.Report.{Report}
use Rattle.head.specs.State.{State}
use Rattle.head.specs.declared.Mode.TheVariants.{Safe}
use Rattle.head.specs.declared.checks.Sample.{Sample}
use Rattle.head.specs.declared.checks.Mark.{Mark}
use Rattle.head.specs.declared.tick.Due.{Due}
use Rattle.interlock.specs.declared.step.Event.{Event as Lent}
use Rattle.interlock.specs.declared.step.Event.TheVariants.{Tick, Frame, Sample as Sampled, Second}
use Rattle.interlock.specs.declared.step.Shown.{Shown}

-- what reaches a head; a frame by the octets on the primary and on the redundant link
pub data Event : Type 0 where
  tick : Event
  frame : List ℕ → List ℕ → Event
  sample : Sample → Event
  mark : Mark → Event

-- an event with what its links hold
abbrev pub event_of : Lent → Event
event_of Tick = tick
event_of (Frame p r) = frame p.now r.now
event_of (Sampled x) = sample x
event_of (Second x) = mark x

abbrev pub not_due : Due
not_due = record { sample = false; «second» = false }

-- before an event was brought
abbrev pub unseen : Shown
unseen = record {
  fault = None;
  due = not_due;
  mode = Safe;
  parameters = replicate 25 0;
  supplies = 0 ∷ 0 ∷ [];
  heaters = false ∷ false ∷ [];
  lines = false ∷ false ∷ false ∷ false ∷ false ∷ false ∷ [];
}

-- the answers of the board's questions

abbrev pub supplies_read : Outputs → List ℕ
supplies_read o = slice_index o.supplies 0 ∷ slice_index o.supplies 1 ∷ []

abbrev pub heaters_read : Outputs → List Bool
heaters_read o = slice_index_or o.heaters 0 false ∷ slice_index_or o.heaters 1 false ∷ []

abbrev line_read : Outputs → ℕ → Bool
line_read o l = is_on (slice_index_or o.lines l Off)

abbrev pub lines_read : Outputs → List Bool
lines_read o = line_read o 0 ∷ line_read o 1 ∷ line_read o 2 ∷ line_read o 3 ∷ line_read o 4 ∷ line_read o 5 ∷ []

-- an answer, and how head and board read in a state
abbrev pub reading : Option Report → Due → State → Shown
reading fault due s = record {
  fault = fault;
  due = due;
  mode = s.core.mode;
  parameters = s.core.parameters;
  supplies = supplies_read s.out;
  heaters = heaters_read s.out;
  lines = lines_read s.out;
}
