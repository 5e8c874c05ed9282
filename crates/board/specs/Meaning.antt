-- What a board means: ten outputs. Supplies are set points, 0 is off; heaters are on (true) or off; lines have a state.
use Rattle.std.specs.Prelude.{◌≡◌, ℕ, Bool, false, List, [], ◌∷◌, length, slice_set}
use Rattle.board.specs.declared.line_state.LineState.{LineState}
use Rattle.board.specs.declared.line_state.LineState.TheVariants.{Off}

pub record Outputs : Type 0 where
  pub supplies : List ℕ
  pub heaters : List Bool
  pub lines : List LineState

-- how many of each there are
pub record Whole (o : Outputs) : Type 0 where
  pub supplies : length o.supplies ≡ 2
  pub heaters : length o.heaters ≡ 2
  pub lines : length o.lines ≡ 6

-- a board of any make, before and after, now has these outputs
pub record Leaves {B : Type 0} (means : B → Outputs) (before after : B) (o : Outputs) : Type 0 where
  pub outputs : means after ≡ o

-- one output set, the other nine as they were; a number that names nothing changes nothing

abbrev pub with_supply : Outputs → ℕ → ℕ → Outputs
with_supply o i v = record { supplies = slice_set o.supplies i v; heaters = o.heaters; lines = o.lines }

abbrev pub with_heater : Outputs → ℕ → Bool → Outputs
with_heater o i b = record { supplies = o.supplies; heaters = slice_set o.heaters i b; lines = o.lines }

abbrev pub with_line : Outputs → ℕ → LineState → Outputs
with_line o i s = record { supplies = o.supplies; heaters = o.heaters; lines = slice_set o.lines i s }

-- everything off
abbrev pub dark : Outputs
dark = record { supplies = 0 ∷ 0 ∷ []; heaters = false ∷ false ∷ []; lines = Off ∷ Off ∷ Off ∷ Off ∷ Off ∷ Off ∷ [] }
