-- What a borrowed answer shows: the octets that it points to, and the command by its op-code and words.
use Rattle.std.specs.Prelude.{ℕ, List, [], Ok, Err, Result}
use Rattle.std.specs.Borrow.{Bor}
use Rattle.telecommand.specs.Commands.{Telecommand}
use Rattle.telecommand.specs.declared.command.Command.{Command}
use Rattle.telecommand.specs.declared.command.Command.TheVariants.{NoOperation, Safe, Checkout, Confirm, SetParameter, CloseDoor, SuppliesOff, OpenDoor, SetSupply, SetHeater, FireRelease}

-- an answer with the octets that it lends
abbrev pub shown : {F : Type 0} → Result (Bor (List ℕ)) F → Result (List ℕ) F
shown (Ok field) = Ok field.now
shown (Err fault) = Err fault

abbrev telecommand : ℕ → List ℕ → Telecommand
telecommand op ws = record { opcode = op; words = ws }

-- a command by its op-code and the octets of its words
abbrev pub said : Command → Telecommand
said NoOperation = telecommand 0x6601 []
said Safe = telecommand 0x6602 []
said Checkout = telecommand 0x6603 []
said (Confirm w) = telecommand 0x6604 w.now
said (SetParameter w) = telecommand 0x6607 w.now
said CloseDoor = telecommand 0x660d []
said SuppliesOff = telecommand 0x660e []
said OpenDoor = telecommand 0x660f []
said (SetSupply w) = telecommand 0x6610 w.now
said (SetHeater w) = telecommand 0x6611 w.now
said (FireRelease w) = telecommand 0x6612 w.now

-- an answer with the command that it shows
abbrev pub said_by : {F : Type 0} → Result Command F → Result Telecommand F
said_by (Ok command) = Ok (said command)
said_by (Err fault) = Err fault
