-- The interlocks: what holds after every event of every run.
use Rattle.std.specs.Prelude.{◌≡◌, ℕ, zero, suc, ◌+◌, ◌-◌, ◌%◌, ◌^◌, ◌<◌, true, false, ◌⊎◌, ◌↔◌, List, [], ◌∷◌, length, take, None, ◌≢◌}
use Rattle.telecommand.specs.Packet.{word}
use Rattle.head.specs.Requests.{marked}
use Rattle.head.specs.Events.{powered_on}
use Rattle.ring.specs.Rolls.{Roll}
use Rattle.head.specs.State.{State}
use Rattle.head.specs.declared.Mode.TheVariants.{Checkout}
use Rattle.interlock.specs.Events.{Event, reading, not_due}
use Rattle.interlock.specs.Runs.{next, shown_of, step_at, event_at}
use Rattle.interlock.specs.History.{powered, brought, Did, Past, marks, ticks_since_mark, raws, rates_of, Ago, Always, Before, supply_reads, heater_reads, line_reads, parameter_reads, last_shown, Accepted, IsFrame, PowersOn, ParameterIs, InCheckout, EntersSafe, TimerIs, SwitchedOn, HeatedOn, Runs}
use Rattle.interlock.specs.declared.step.Step.{Step}

-- the command was accepted fewer than 2,000 ticks ago, with no frame and no entry into SAFE since
abbrev pub Waits : ℕ → List ℕ → Past → Type 0
Waits op ws h = Ago (λ t p. Accepted op ws p × (t < 2000)) (λ p. (IsFrame p → ⊥) × (EntersSafe p → ⊥)) h

-- the newest event is an accepted confirm that names this critical command: its op-code, the bitwise complement, and in time
pub record Confirms (op : ℕ) (ws : List ℕ) (p : Past) : Type 0 where
  pub words : List ℕ
  pub accepted : Accepted 0x6604 words p
  pub critical : (marked op).critical ≡ true
  pub names : word words 0 ≡ op
  pub complements : word words 2 ≡ 0xFFFF - op
  pub in_time : Before (Waits op ws) p

-- after the newest event
pub record Kept (h : Past) : Type 0 where
  -- a supply stands at v above zero exactly when it was switched on to v, and not off since
  pub supply_stands_as_confirmed : (s v : ℕ) → s < 2 → 0 < v → (supply_reads s h ≡ v) ↔ SwitchedOn s v h
  -- a heater is on exactly when its latest accepted command said on, with no entry into SAFE since
  pub heater_on_as_commanded : (i : ℕ) → i < 2 → (heater_reads i h ≡ true) ↔ HeatedOn i h
  -- in SAFE both supplies and both heaters are off, and only the door-closing line may be on
  pub safe_supplies_off : (InCheckout h → ⊥) → (s : ℕ) → s < 2 → supply_reads s h ≡ 0
  pub safe_heaters_off : (InCheckout h → ⊥) → (s : ℕ) → s < 2 → heater_reads s h ≡ false
  pub safe_lines_off : (InCheckout h → ⊥) → (l : ℕ) → l < 5 → line_reads l h ≡ false
  -- a line is on exactly while a drive of it runs, and at most one drive runs
  pub line_on_while_driven : (l : ℕ) → l < 6 → (line_reads l h ≡ true) ↔ ((n : ℕ) × Runs l n h)
  pub one_drive_at_a_time : (l m j k : ℕ) (r : Runs l m h) (q : Runs j k h) → (l ≡ j) × (m ≡ k) × (r.back ≡ q.back)
  -- an accepted confirm confirms a critical command that waited
  pub confirm_confirms : (words : List ℕ) → Accepted 0x6604 words h → (op : ℕ) × (ws : List ℕ) × Confirms op ws h
  -- a supply is raised, a release fired, the door opened, a parameter changed only by the confirm of just that
  pub raised_by_confirm : (s v : ℕ) → s < 2 → 0 < v → supply_reads s h ≡ v → Before (λ p. supply_reads s p ≢ v) h → Confirms 0x6610 (s ∷ v ∷ []) h
  pub fired_by_confirm : (l : ℕ) → l < 4 → line_reads l h ≡ true → Before (λ p. line_reads l p ≡ false) h → (n : ℕ) × Confirms 0x6612 (l ∷ n ∷ []) h
  pub opened_by_confirm : line_reads 4 h ≡ true → Before (λ p. line_reads 4 p ≡ false) h → Confirms 0x660f [] h
  pub set_by_confirm : (i v : ℕ) → i < 25 → parameter_reads i h ≡ v → Before (λ p. parameter_reads i p ≢ v) h → Confirms 0x6607 (i ∷ v ∷ []) h ⊎ PowersOn i v h
  -- CHECKOUT is accepted only with the safety timer at 0, or the override not at 0
  pub checkout_waits_for_timer : Accepted 0x6603 [] h → Before (λ p. TimerIs 0 p ⊎ (ParameterIs 21 0 p → ⊥)) h
  -- the head's own mode and parameters are those of the history
  pub mode_follows : ((last_shown h).mode ≡ Checkout) ↔ InCheckout h
  pub parameter_follows : (i v : ℕ) → i < 25 → (parameter_reads i h ≡ v) ↔ ParameterIs i v h

-- power-on, as a history begins
abbrev pub begins : List ℕ → Did
begins stored = record { came = powered stored; shown = reading None not_due (powered_on stored) }

-- an event with what the rules answer and read
abbrev pub came_of : State → Event → Did
came_of s e = record { came = brought e; shown = shown_of s e }

-- the rules lead from power-on through this history, answer by answer and reading by reading, to this state
pub data Follows : Past → State → Type 0 where
  begun : (stored : List ℕ) → Follows (begins stored ∷ []) (powered_on stored)
  gone : {h : Past} {s : State} (e : Event) → Follows h s → Follows (came_of s e ∷ h) (next s e)

-- the history goes on with the first n steps, as they were brought and as they show
abbrev pub continued : Past → ℕ → List Step → Past
continued h zero steps = h
continued h (suc n) steps = record { came = brought (event_at steps n); shown = (step_at steps n).shown } ∷ continued h n steps

-- the head's clock counts what came: time the accepted second marks, the tick number the ticks since the latest, the safety timer the seconds since the latest trip
pub record ClockCounts (h : Past) (s : State) : Type 0 where
  pub time_counts_marks : s.core.meters.time ≡ (1000000 + marks h) % 2 ^ 32
  pub tick_number_counts_ticks : s.core.meters.tick ≡ ticks_since_mark h % 200
  pub timer_counts_down : TimerIs s.core.meters.timer h

-- the rates held are those of the accepted second marks, newest first, cut at the room for them
abbrev pub RatesHeld : Past → Roll ℕ → Type 0
RatesHeld h rates = rates.items ≡ take rates.room (rates_of (raws h))

-- a history that the rules lead through, with the interlocks kept after each of its events
pub record Stands (h : Past) (s : State) : Type 0 where
  pub follows : Follows h s
  pub interlocks : Always Kept h
  pub clock : ClockCounts h s

-- whatever history led to the state before, it goes on with the steps to the state after, and the interlocks are kept throughout
abbrev pub Promise : List Step → State → State → Type 0
Promise steps s t = (h : Past) → Follows h s → Stands (continued h (length steps) steps) t

-- and rates that were those of the history are so after the steps
abbrev pub RatesPromise : List Step → State → Roll ℕ → Roll ℕ → Type 0
RatesPromise steps s before after = (h : Past) → Follows h s → RatesHeld h before → RatesHeld (continued h (length steps) steps) after
