-- What has ticks left: a critical command that waits, and a line that is driven.
use Rattle.std.specs.Prelude.{ℕ, ◌-◌, cond, Some, None, Option, nat_lt}
use Rattle.head.specs.declared.Order.{Order}
use Rattle.head.specs.declared.Timed.{Timed}

-- a critical command, and the ticks until it is lost
abbrev pub Waiting : Type 0
Waiting = Timed Order

-- a line, and the ticks until it goes off
abbrev pub Drive : Type 0
Drive = Timed ℕ

-- one tick less; with its last tick it is gone
abbrev pub less : {T : Type 0} → Timed T → Option (Timed T)
less x = cond (nat_lt 1 x.left) (Some (record { what = x.what; left = x.left - 1 })) None

-- the same of what may be absent
abbrev pub lessened : {T : Type 0} → Option (Timed T) → Option (Timed T)
lessened None = None
lessened (Some x) = less x

-- what is lost with its last tick
abbrev pub lost : {T : Type 0} → Option (Timed T) → Option T
lost None = None
lost (Some x) = cond (nat_lt 1 x.left) None (Some x.what)
