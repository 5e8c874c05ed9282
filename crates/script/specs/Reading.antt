-- What it means to read a text.
use Rattle.std.specs.Prelude.{◌≡◌, Option, MatchOption, ◌≢◌}

-- the answer is a value in range that has this text, and none only where no value in range has it
abbrev pub Reads : {X T : Type 0} → (X → Type 0) → (X → T) → T → Option X → Type 0
Reads {X} InRange text_of text r = MatchOption r ((x : X) → InRange x → text_of x ≢ text) (λ x. InRange x × (text_of x ≡ text))
