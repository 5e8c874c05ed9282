-- What a line's state says: whether it is on.
use Rattle.std.specs.Prelude.{Bool, true, false}
use Rattle.board.specs.declared.line_state.LineState.{LineState}
use Rattle.board.specs.declared.line_state.LineState.TheVariants.{Off, On}

-- whether a line feeds what hangs on it
abbrev pub is_on : LineState → Bool
is_on Off = false
is_on On = true

-- the state of a line that is on, or is not
abbrev pub line_of : Bool → LineState
line_of false = Off
line_of true = On
