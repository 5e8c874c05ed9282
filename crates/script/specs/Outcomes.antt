-- The lines that are printed.
use Rattle.std.specs.Prelude.{ℕ, ◌+◌, ◌*◌, Bool, List, [], ◌∷◌, ◌++◌, Some, None, codes, decimal, Option, slice_index}
use mir.Val.{bool_byte}
use Rattle.codes.specs.declared.Report.{Report}
use Rattle.head.specs.declared.Mode.{Mode}
use Rattle.head.specs.declared.Mode.TheVariants.{Safe, Checkout}
use Rattle.script.specs.Events.{letter_of}
use Rattle.script.specs.declared.outcome.Outcome.{Outcome}

-- `ok`, or layer, code and place with a colon between two
abbrev pub answer_text : Option Report → List ℕ
answer_text None = codes "ok"
answer_text (Some r) = decimal r.layer ++ (58 ∷ (decimal r.code ++ (58 ∷ decimal r.place)))

-- the letter of a mode: S, C
abbrev pub mode_letter : Mode → ℕ
mode_letter Safe = 83
mode_letter Checkout = 67

-- the sum of 1 for the first, 2 for the second, 4 for the third and so on, of those that are on
abbrev pub sum_of_bits : List Bool → ℕ
sum_of_bits [] = 0
sum_of_bits (b ∷ bs) = bool_byte b + 2 * sum_of_bits bs

-- letter, answer, mode, two supplies, heaters, lines, with one space between two
abbrev pub outcome_text : Outcome → List ℕ
outcome_text x =
    letter_of x.kind ∷ 32 ∷ (answer_text x.fault ++ (32 ∷ mode_letter x.mode ∷ 32 ∷ (decimal (slice_index x.supplies 0) ++ (32 ∷
    (decimal (slice_index x.supplies 1) ++ (32 ∷ (decimal (sum_of_bits x.heaters) ++ (32 ∷ decimal (sum_of_bits x.lines)))))))))

-- E and the number of the line
abbrev pub bad_line_text : ℕ → List ℕ
bad_line_text n = 69 ∷ 32 ∷ decimal n
