-- A number that names nothing changes nothing. No proof of this repository cites these: the check finds them alone.
use Rattle.std.proofs.Common.{◌≡◌, ℕ, ◌≤◌, Bool, List, sym, ap, arith}
use Rattle.std.proofs.lemmas.List.{set_past}
use Rattle.board.specs.declared.line_state.LineState.{LineState}
use Rattle.board.specs.Meaning.{Outputs, Whole, with_supply, with_heater, with_line}

abbrev made : List ℕ → List Bool → List LineState → Outputs
made s h l = record { supplies = s; heaters = h; lines = l }

module _ (o : Outputs) (w : Whole o) (i : ℕ) where
  pub supply_past : (v : ℕ) → 2 ≤ i → o ≡ with_supply o i v
  supply_past v h = ap (λ l. made l o.heaters o.lines) (sym (set_past o.supplies i v (omega arith)))

  pub heater_past : (b : Bool) → 2 ≤ i → o ≡ with_heater o i b
  heater_past b h = ap (λ l. made o.supplies l o.lines) (sym (set_past o.heaters i b (omega arith)))

  pub line_past : (s : LineState) → 6 ≤ i → o ≡ with_line o i s
  line_past s h = ap (made o.supplies o.heaters) (sym (set_past o.lines i s (omega arith)))
