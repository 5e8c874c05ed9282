-- The state of a head: what it keeps, and what its board means. A rule makes a new state of one by changing a part of it.
use Rattle.std.specs.Prelude.{ℕ, List, Option}
use Rattle.board.specs.Meaning.{Outputs}
use Rattle.head.specs.declared.Mode.{Mode}
use Rattle.head.specs.Countdown.{Waiting, Drive}
use Rattle.head.specs.declared.Meters.{Meters}
use Rattle.head.specs.declared.Core.{Core}
use Rattle.head.specs.declared.Head.{Head}

pub record State : Type 0 where
  pub core : Core
  pub out : Outputs

-- the state of a head on a board of any make
abbrev pub state_of : {B : Type 0} → (B → Outputs) → Head B → State
state_of means h = record { core = h.core; out = means h.board }

-- mode, waiting command, drive, parameters, meters, outputs
abbrev pub st : Mode → Option Waiting → Option Drive → List ℕ → Meters → Outputs → State
st m w d ps me o = record { core = record { mode = m; waiting = w; drive = d; parameters = ps; meters = me }; out = o }

-- a state with one part replaced

abbrev pub mode_is : Mode → State → State
mode_is m s = st m s.core.waiting s.core.drive s.core.parameters s.core.meters s.out

abbrev pub waiting_is : Option Waiting → State → State
waiting_is w s = st s.core.mode w s.core.drive s.core.parameters s.core.meters s.out

abbrev pub driven : Option Drive → Outputs → State → State
driven d o s = st s.core.mode s.core.waiting d s.core.parameters s.core.meters o

abbrev pub parameters_are : List ℕ → State → State
parameters_are ps s = st s.core.mode s.core.waiting s.core.drive ps s.core.meters s.out

abbrev pub meters_are : Meters → State → State
meters_are me s = st s.core.mode s.core.waiting s.core.drive s.core.parameters me s.out

abbrev pub outputs_are : Outputs → State → State
outputs_are o s = record { core = s.core; out = o }
