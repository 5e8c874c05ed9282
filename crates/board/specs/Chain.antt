-- What the latched word of a chain board means.
use Rattle.std.specs.Prelude.{ℕ, ◌/◌, ◌^◌, [], ◌∷◌, map}
use Rattle.board.specs.Meaning.{Outputs}
use Rattle.board.specs.Lines.{line_of}
use Rattle.board.specs.Bits.{bits, field_at}

abbrev pub word_outputs : ℕ → Outputs
word_outputs w = record { supplies = field_at w 8 8 ∷ field_at w 8 16 ∷ []; heaters = bits 2 (w / 2 ^ 6); lines = map line_of (bits 6 w) }
