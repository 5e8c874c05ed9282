-- Outputs that are kept as bits: how many there are, one set, one read, and a number past the end.
use Rattle.std.proofs.lemmas.List.{set_past}
use Rattle.board.specs.Put.{length_bits, bits_put, get_or_bits}
use Rattle.board.specs.LinesLemmas.{lines_length, lines_put, lines_get}
use Rattle.board.specs.Words.{heater_bit, supply_word, heater_word, line_word}

pub ruleset kept_as_bits = (set_past, length_bits, bits_put, get_or_bits, lines_length, lines_put, lines_get)

-- the same in one word
pub ruleset kept_in_a_word = (set_past, length_bits, lines_length, lines_get, heater_bit, supply_word, heater_word, line_word)
