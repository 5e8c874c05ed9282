-- Lines kept as bits: a line set or read is its bit set or read.
use Rattle.std.specs.Prelude.{◌≡◌, ℕ, ◌<◌, false, map, length, set, slice_index_or, slice_set, refl}
use Rattle.std.proofs.Common.{sym, ap, ◌∙◌, arith}
use mir.Val.{bool_byte}
use Rattle.std.proofs.lemmas.List.{map-set, get_or-map, length-map}
use Rattle.board.specs.Lines.{is_on, line_of}
use Rattle.board.specs.Bits.{bits, bit, put}
use Rattle.board.specs.declared.line_state.LineState.{LineState}
use Rattle.board.specs.declared.line_state.LineState.TheVariants.{Off, On}
use Rattle.board.specs.Put.{length_bits, bits_put, get_or_bits}

line_back : (s : LineState) → line_of (is_on s) ≡ s
line_back Off = refl
line_back On = refl

pub lines_length : (n w : ℕ) → length (map line_of (bits n w)) ≡ n
lines_length n w = length-map (bits n w) line_of ∙ length_bits n w

pub lines_put : (n w i : ℕ) (s : LineState) → map line_of (bits n (put w 1 i (bool_byte (is_on s)))) ≡ slice_set (map line_of (bits n w)) i s
lines_put n w i s =
    ap (map line_of) (bits_put n w i (is_on s)) ∙ map-set line_of (bits n w) i (is_on s) ∙ ap (set (map line_of (bits n w)) i) (line_back s)

pub lines_get : (n w i : ℕ) → i < n → line_of (bit w i) ≡ slice_index_or (map line_of (bits n w)) i Off
lines_get n w i h =
    let l = length_bits n w in
    sym (get_or-map line_of (bits n w) i false Off (omega arith) ∙ ap line_of (get_or_bits n w i h))
