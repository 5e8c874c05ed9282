-- A line as far as it has been read.
use Rattle.std.specs.Prelude.{◌≡◌, ℕ, suc, cond, List, [], ◌∷◌, ◌++◌, length, Some, None, fold, Option, MatchOption, ◌≢◌, nat_lt}
use Rattle.std.specs.List.{AllByRecursion}

-- one byte more on a line, or none where the line is longer than the longest legal line then
abbrev pub with_byte : Option (List ℕ) → ℕ → Option (List ℕ)
with_byte None b = None
with_byte (Some bs) b = cond (nat_lt (length bs) 130) (Some (bs ++ b ∷ [])) None

-- more bytes, one after the other
abbrev pub onto : Option (List ℕ) → List ℕ → Option (List ℕ)
onto line more = fold with_byte line more

-- no line feed
abbrev pub Feedless : List ℕ → Type 0
Feedless bs = AllByRecursion (λ b. b ≢ 10) bs

-- where n bytes of a chunk end a line, the last of them is its line feed, and the others are of the line
pub record Ends (chunk : List ℕ) (before after : Option (List ℕ)) (n : ℕ) : Type 0 where
  pub front : List ℕ
  pub rest : List ℕ
  pub parts : chunk ≡ front ++ (10 ∷ rest)
  pub used : n ≡ suc (length front)
  pub first : Feedless front
  pub joins : after ≡ onto before front

-- what a chunk does to a line: it ends the line, or all of it is of the line
abbrev pub Took : List ℕ → Option (List ℕ) → Option (List ℕ) → Option ℕ → Type 0
Took chunk before after r = MatchOption r (Feedless chunk × (after ≡ onto before chunk)) (Ends chunk before after)
