-- What a board refuses, with its numbers, and how it answers.
use Rattle.std.specs.Prelude.{ℕ, cond, Ok, Err, Result, nat_lt}
use Rattle.codes.specs.Reports.{report}
use Rattle.codes.specs.declared.Report.{Report}
use Rattle.board.specs.declared.fault.Fault.{Fault}
use Rattle.board.specs.declared.fault.Fault.TheVariants.{NamesNothing}

-- layer, code, place, op-code of each refusal
abbrev pub report_of : Fault → Report
report_of NamesNothing = report 6 0x70 0 0

-- the answer v of a call about number i of n outputs, or the refusal
abbrev pub reply : {V : Type 0} → ℕ → ℕ → V → Result V Fault
reply i n v = cond (nat_lt i n) (Ok v) (Err NamesNothing)
