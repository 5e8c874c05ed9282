-- The cells of a shift register and the word latched of them.
use Rattle.std.specs.Prelude.{ℕ, ◌+◌, ◌*◌, ◌%◌, ◌^◌, Bool}
use mir.Val.{bool_byte}
use Rattle.board.specs.declared.shift_register.ShiftRegister.{ShiftRegister}

-- every cell takes its lower neighbour's bit, and cell 0 the data line's; the highest bit is lost
abbrev pub clocked : ShiftRegister → Bool → ShiftRegister
clocked s b = record { cells = (s.cells * 2) % 2 ^ 32 + bool_byte b; latched = s.latched; latches = s.latches }

-- what the cells hold becomes the latched word, and the latch is counted
abbrev pub latch : ShiftRegister → ShiftRegister
latch s = record { cells = s.cells; latched = s.cells; latches = (s.latches + 1) % 2 ^ 32 }

-- a word is brought across by one latch
abbrev pub sent : ShiftRegister → ℕ → ShiftRegister
sent s word = record { cells = word; latched = word; latches = (s.latches + 1) % 2 ^ 32 }
