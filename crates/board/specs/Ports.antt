-- What the four bytes of a port board mean, and what each setting makes of them.
use Rattle.std.specs.Prelude.{ℕ, Bool, cond, List, [], ◌∷◌, ◌++◌, map, nat_lt, slice_index, slice_set}
use mir.Val.{bool_byte}
use Rattle.board.specs.Meaning.{Outputs}
use Rattle.board.specs.Lines.{is_on, line_of}
use Rattle.board.specs.Bits.{bits, put}
use Rattle.board.specs.declared.line_state.LineState.{LineState}
use Rattle.board.specs.declared.port.PortBoard.{PortBoard}

-- the board whose ports hold the bytes
abbrev pub ports_of : List ℕ → PortBoard
ports_of b = record { supplies = slice_index b 0 ∷ slice_index b 1 ∷ []; heaters = slice_index b 2; lines = slice_index b 3 }

-- the bytes of the two supplies
abbrev pub both : PortBoard → List ℕ
both p = slice_index p.supplies 0 ∷ slice_index p.supplies 1 ∷ []

-- the bytes that the ports hold
abbrev pub bytes_of : PortBoard → List ℕ
bytes_of p = both p ++ p.heaters ∷ p.lines ∷ []

-- the meaning of the ports
abbrev pub outputs : PortBoard → Outputs
outputs p = record { supplies = both p; heaters = bits 2 p.heaters; lines = map line_of (bits 6 p.lines) }

-- the ports after each setting: one bit or byte of one port, all else as it was

abbrev pub supply_port : PortBoard → ℕ → ℕ → PortBoard
supply_port p i v = record { supplies = slice_set p.supplies i v; heaters = p.heaters; lines = p.lines }

abbrev pub heater_port : PortBoard → ℕ → Bool → PortBoard
heater_port p i b = record { supplies = p.supplies; heaters = cond (nat_lt i 2) (put p.heaters 1 i (bool_byte b)) p.heaters; lines = p.lines }

abbrev pub line_port : PortBoard → ℕ → LineState → PortBoard
line_port p i s = record { supplies = p.supplies; heaters = p.heaters; lines = cond (nat_lt i 6) (put p.lines 1 i (bool_byte (is_on s))) p.lines }
