-- The eleven commands, and which of them a data field brings.
use Rattle.std.specs.Prelude.{◌≡◌, ℕ, ◌*◌, Bool, true, false, cond, not, List, [], ◌∷◌, length, drop, Some, None, Ok, Err, Option, Result, ◌==◌}
use Rattle.codes.specs.Reports.{refuse}
use Rattle.telecommand.specs.Packet.{word}
use Rattle.telecommand.specs.declared.kinds.Kind.{Kind}
use Rattle.telecommand.specs.declared.fault.ReadFault.{ReadFault}
use Rattle.telecommand.specs.declared.fault.ReadFault.TheVariants.{UnknownCommand, WordCount}

-- a command by its op-code and the octets of its words
pub record Telecommand : Type 0 where
  pub opcode : ℕ
  pub words : List ℕ

-- op-code, number of words, critical, refused in SAFE
abbrev pub kind : ℕ → ℕ → Bool → Bool → Kind
kind o w c n = record { opcode = o; words = w; critical = c; not_in_safe = n }

abbrev pub commands : List Kind
commands =
    kind 0x6601 0 false false
    ∷ kind 0x6602 0 false false
    ∷ kind 0x6603 0 false false
    ∷ kind 0x6604 2 false false
    ∷ kind 0x6607 1 true false
    ∷ kind 0x660d 0 false false
    ∷ kind 0x660e 0 false false
    ∷ kind 0x660f 0 true true
    ∷ kind 0x6610 1 true true
    ∷ kind 0x6611 1 false true
    ∷ kind 0x6612 1 true true
    ∷ []

-- the first kind of a table that has the op-code
abbrev pub kind_in : List Kind → ℕ → Option Kind
kind_in [] op = None
kind_in (k ∷ rest) op = cond (k.opcode == op) (Some k) (kind_in rest op)

-- the words have the length of the kind's
abbrev pub WordsFit : Option Kind → List ℕ → Type 0
WordsFit None ws = ⊥
WordsFit (Some k) ws = length ws ≡ 2 * k.words

-- the op-code is one of the eleven, and as many words follow as its command has
abbrev pub Legal : ℕ → List ℕ → Type 0
Legal op ws = WordsFit (kind_in commands op) ws

-- the command of an op-code and the octets after it, where this is the op-code's kind
abbrev pub of_kind : Option Kind → ℕ → List ℕ → Result Telecommand ReadFault
of_kind None op ws = Err (UnknownCommand op)
of_kind (Some k) op ws = refuse (not (length ws == 2 * k.words)) (WordCount op) (Ok (record { opcode = op; words = ws }))

-- the command that a data field brings: an op-code and the octets after it, or the first fault
abbrev pub command_of : List ℕ → Result Telecommand ReadFault
command_of d = of_kind (kind_in commands (word d 0)) (word d 0) (drop 2 d)
