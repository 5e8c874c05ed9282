-- The ports mean a whole board.
use Rattle.std.specs.Prelude.{refl}
use Rattle.board.specs.declared.port.PortBoard.{PortBoard}
use Rattle.board.specs.Meaning.{Whole}
use Rattle.board.specs.Ports.{outputs}
use Rattle.board.specs.Put.{length_bits}
use Rattle.board.specs.LinesLemmas.{lines_length}

pub port_whole : (b : PortBoard) → Whole (outputs b)
port_whole b = record { supplies = refl; heaters = length_bits 2 b.heaters; lines = lines_length 6 b.lines }
