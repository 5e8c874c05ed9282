-- What two links bring together.
use Rattle.std.specs.Prelude.{ℕ, Bool, true, false, cond, List, length, Some, None, Ok, Err, Option, Result, ◌==◌}
use Rattle.telecommand.specs.Packet.{field_of}
use Rattle.telecommand.specs.Commands.{Telecommand, command_of}
use Rattle.telecommand.specs.declared.fault.ReadFault.{ReadFault}

-- the data field of a well formed link, or its fault
abbrev pub link_field : List ℕ → Result (List ℕ) ReadFault
link_field b = field_of 0x11 0x01 b

-- a link that holds nothing
abbrev pub blank : List ℕ → Bool
blank b = length b == 0

-- the primary's field if there is one, else the redundant's; else the primary's fault, or the redundant's where the primary is blank
abbrev pub prefer : Bool → Result (List ℕ) ReadFault → Result (List ℕ) ReadFault → Result (List ℕ) ReadFault
prefer none (Ok field) redundant = Ok field
prefer none (Err fault) (Ok field) = Ok field
prefer none (Err fault) (Err other) = Err (cond none other fault)

-- the data field that the links hand on, primary first
abbrev pub chosen : List ℕ → List ℕ → Result (List ℕ) ReadFault
chosen p r = prefer (blank p) (link_field p) (link_field r)

abbrev aside_for : Bool → Result (List ℕ) ReadFault → Result (List ℕ) ReadFault → Option ReadFault
aside_for false (Err fault) (Ok field) = Some fault
aside_for false (Err fault) (Err other) = None
aside_for false (Ok field) redundant = None
aside_for true primary redundant = None

-- the fault of a primary that is not blank and was set aside for the redundant
abbrev pub set_aside : List ℕ → List ℕ → Option ReadFault
set_aside p r = aside_for (blank p) (link_field p) (link_field r)

abbrev pub command_in : Result (List ℕ) ReadFault → Result Telecommand ReadFault
command_in (Ok field) = command_of field
command_in (Err fault) = Err fault

-- the command that the links bring, or the first fault
abbrev pub reads : List ℕ → List ℕ → Result Telecommand ReadFault
reads p r = command_in (chosen p r)
