-- Everything off, setting by setting.
use Rattle.std.proofs.Common.{◌≡◌, ℕ, zero, suc, ◌+◌, false, List, [], ◌∷◌, length, set, refl, add-one, arith}
use Rattle.board.specs.declared.line_state.LineState.TheVariants.{Off}
use Rattle.board.specs.Meaning.{Outputs, Whole, dark, with_supply, with_heater, with_line}

-- the first i supplies and heaters off
abbrev pub off_pairs : ℕ → Outputs → Outputs
off_pairs zero o = o
off_pairs (suc i) o = with_heater (with_supply (off_pairs i o) i 0) i false

-- the first i lines off
abbrev pub off_lines : ℕ → Outputs → Outputs
off_lines zero o = o
off_lines (suc i) o = with_line (off_lines i o) i Off

pub lines_more : (i : ℕ) (o p : Outputs) → p ≡ with_line (off_lines i o) i Off → p ≡ off_lines (i + 1) o
lines_more i o p e = rw add-one e

two : {X : Type 0} (l : List X) (x : X) → length l ≡ 2 → set (set l 0 x) 1 x ≡ x ∷ x ∷ []
two (p ∷ q ∷ []) x e = refl
two [] x e = absurd (omega arith)
two (p ∷ []) x e = absurd (omega arith)
two (p ∷ q ∷ r ∷ l) x e = absurd (omega arith)

six : {X : Type 0} (l : List X) (x : X) → length l ≡ 6 → set (set (set (set (set (set l 0 x) 1 x) 2 x) 3 x) 4 x) 5 x ≡ x ∷ x ∷ x ∷ x ∷ x ∷ x ∷ []
six (p ∷ q ∷ r ∷ s ∷ t ∷ u ∷ []) x e = refl
six [] x e = absurd (omega arith)
six (p ∷ []) x e = absurd (omega arith)
six (p ∷ q ∷ []) x e = absurd (omega arith)
six (p ∷ q ∷ r ∷ []) x e = absurd (omega arith)
six (p ∷ q ∷ r ∷ s ∷ []) x e = absurd (omega arith)
six (p ∷ q ∷ r ∷ s ∷ t ∷ []) x e = absurd (omega arith)
six (p ∷ q ∷ r ∷ s ∷ t ∷ u ∷ v ∷ l) x e = absurd (omega arith)

pub all_dark : (o : Outputs) → Whole o → off_lines 6 (off_pairs 2 o) ≡ dark
all_dark o w = cc (two o.supplies 0 w.supplies, two o.heaters false w.heaters, six o.lines Off w.lines)
