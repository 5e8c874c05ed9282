-- Reports by their four numbers, and refusals as an ordered chain of tests.
use Rattle.std.specs.Prelude.{ℕ, Bool, cond, Err, Result}
use Rattle.codes.specs.declared.Report.{Report}

-- layer, code, place, op-code
abbrev pub report : ℕ → ℕ → ℕ → ℕ → Report
report l c p o = record { layer = l; code = c; place = p; opcode = o }

-- the fault where the test holds, else what the rest of the chain answers
abbrev pub refuse : {V F : Type 0} → Bool → F → Result V F → Result V F
refuse test fault rest = cond test (Err fault) rest
