-- The frame of a command, and what the writer makes of a buffer.
use Rattle.std.specs.Prelude.{◌≡◌, ℕ, ◌+◌, ◌*◌, ◌/◌, ◌%◌, ◌||◌, List, [], ◌∷◌, ◌++◌, length, take, drop, Ok, Err, Result, nat_lt}
use Rattle.codes.specs.Reports.{refuse}
use Rattle.telecommand.specs.Packet.{header}
use Rattle.telecommand.specs.Commands.{Legal}
use Rattle.telecommand.specs.Links.{reads}
use Rattle.telecommand.specs.declared.fault.WriteFault.{WriteFault}
use Rattle.telecommand.specs.declared.fault.WriteFault.TheVariants.{PastEnd, NoFrame}

-- the octets of words, each high first
abbrev pub octets : List ℕ → List ℕ
octets [] = []
octets (w ∷ ws) = w / 256 ∷ w % 256 ∷ octets ws

-- a telecommand's header, then the op-code and the words
abbrev pub frame_of : ℕ → List ℕ → ℕ → List ℕ
frame_of op ws count = header 0x11 0x01 count (1 + 2 * length ws) ++ octets (op ∷ ws)

-- the length of the frame, or the first fault, for a buffer of this size
abbrev pub writes : ℕ → ℕ → List ℕ → ℕ → Result ℕ WriteFault
writes size from ws count =
    refuse (nat_lt 2 (length ws) || nat_lt 16383 count) NoFrame
    (refuse (nat_lt size (from + (8 + 2 * length ws))) PastEnd
    (Ok (8 + 2 * length ws)))

-- the buffer after an answer: the frame stands from the stated octet on, all outside it is as it was; a refusal changes nothing
abbrev pub after : List ℕ → ℕ → List ℕ → Result ℕ WriteFault → List ℕ
after b from frame (Ok n) = take from b ++ frame ++ drop (from + n) b
after b from frame (Err fault) = b

-- what was written, as it lies in the buffer, is read as the command with these words, whatever stands on the other link
abbrev pub ReadsBack : List ℕ → ℕ → ℕ → List ℕ → Result ℕ WriteFault → Type 0
ReadsBack b from op ws (Ok n) = Legal op (octets ws) → (other : List ℕ) → reads (take n (drop from b)) other ≡ Ok (record { opcode = op; words = octets ws })
ReadsBack b from op ws (Err fault) = Unit {0}
