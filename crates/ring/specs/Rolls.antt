-- What a ring comes to: how many records there is room for, and those held, newest first.
use Rattle.std.specs.Prelude.{ℕ, List, [], ◌∷◌, ◌++◌, reverse, length, take, drop}

pub record Roll (T : Type 0) : Type 0 where
  pub room : ℕ
  pub items : List T

-- what stands in the slots, newest first, where the next record goes to the slot `next`
abbrev pub back_from : {T : Type 0} → List T → ℕ → List T
back_from slots next = reverse (take next slots) ++ reverse (drop next slots)

-- the count newest of the records in the slots
abbrev pub roll : {T : Type 0} → List T → ℕ → ℕ → Roll T
roll slots next count = record { room = length slots; items = take count (back_from slots next) }

-- one more, cut at the room
abbrev pub added : {T : Type 0} → T → Roll T → Roll T
added x l = record { room = l.room; items = take l.room (x ∷ l.items) }

-- no record, and room for so many
abbrev pub empty_roll : {T : Type 0} → ℕ → Roll T
empty_roll room = record { room = room; items = [] }

-- none left, with the same room
abbrev pub emptied : {T : Type 0} → Roll T → Roll T
emptied l = empty_roll l.room
