-- What the crossing adapter exchanges.
use Rattle.std.specs.Prelude.{ℕ, zero, suc, false, [], ◌∷◌, slice_index, slice_index_or}
use Rattle.board.specs.Meaning.{Outputs}
use Rattle.board.specs.declared.line_state.LineState.TheVariants.{Off}

-- 0 and 1 for each other
abbrev pub other : ℕ → ℕ
other zero = 1
other (suc zero) = 0
other (suc (suc n)) = suc (suc n)

-- 0 and 1, and 2 and 3, for each other
abbrev pub other_line : ℕ → ℕ
other_line zero = 1
other_line (suc zero) = 0
other_line (suc (suc zero)) = 3
other_line (suc (suc (suc zero))) = 2
other_line (suc (suc (suc (suc n)))) = suc (suc (suc (suc n)))

-- the outputs of the board under the adapter, as they look from above it
abbrev pub crossed : Outputs → Outputs
crossed o = record {
  supplies = slice_index o.supplies 1 ∷ slice_index o.supplies 0 ∷ [];
  heaters = slice_index_or o.heaters 1 false ∷ slice_index_or o.heaters 0 false ∷ [];
  lines = slice_index_or o.lines 1 Off ∷ slice_index_or o.lines 0 Off ∷ slice_index_or o.lines 3 Off ∷ slice_index_or o.lines 2 Off ∷ slice_index_or o.lines 4 Off ∷ slice_index_or o.lines 5 Off ∷ [];
}
