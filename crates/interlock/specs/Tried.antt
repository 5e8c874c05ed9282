-- Tried values, as the rules answer them.
use Rattle.std.specs.Prelude.{◌≡◌, ℕ, zero, suc, Bool, true, false, List, [], ◌∷◌, Some, None, slice_index_or}
use Rattle.codes.specs.Reports.{report}
use Rattle.head.specs.Parameters.{usuals}
use Rattle.head.specs.Checks.{rate, expected}
use Rattle.head.specs.Events.{powered_on}
use Rattle.head.specs.Rolls.{Log, entry}
use Rattle.head.specs.State.{State}
use Rattle.interlock.specs.Events.{Event, tick, frame, lines_read}
use Rattle.interlock.specs.Runs.{next, answer_of, log_after}

-- a frame on the primary link, with these octets after its sequence count
abbrev primary : List ℕ → Event
primary octets = frame (0x11 ∷ 0x01 ∷ 0xC0 ∷ 0 ∷ octets) []

-- the default parameters, after power-on
abbrev on : State
on = powered_on usuals

-- CHECKOUT, then the command to fire line 0 for so many ticks

abbrev checkout : Event
checkout = primary (0 ∷ 1 ∷ 0x66 ∷ 0x03 ∷ [])

abbrev fire : ℕ → Event
fire period = primary (0 ∷ 3 ∷ 0x66 ∷ 0x12 ∷ 0 ∷ period ∷ [])

abbrev pub armed : ℕ → State
armed period = next (next on checkout) (fire period)

-- the confirm of 6612, one with a wrong complement, and a blank one

abbrev confirm : Event
confirm = primary (0 ∷ 5 ∷ 0x66 ∷ 0x04 ∷ 0x66 ∷ 0x12 ∷ 0x99 ∷ 0xED ∷ [])

abbrev wrong : Event
wrong = primary (0 ∷ 5 ∷ 0x66 ∷ 0x04 ∷ 0x66 ∷ 0x12 ∷ 0x99 ∷ 0xEC ∷ [])

abbrev blank : Event
blank = primary (0 ∷ 1 ∷ 0x66 ∷ 0x04 ∷ [])

-- n ticks
abbrev pub ticked_for : ℕ → State → State
ticked_for zero s = s
ticked_for (suc n) s = next (ticked_for n s) tick

-- line 0 reads on
abbrev pub firing : State → Bool
firing s = slice_index_or (lines_read s.out) 0 false

-- an empty log with room for 8
abbrev empty : Log
empty = record { room = 8; items = [] }

abbrev pub Tried : Type 0
Tried =
    -- 11 01 C0 00 00 01 66 01 in SAFE is accepted; one octet less gets 0x20
    (answer_of on (frame (0x11 ∷ 0x01 ∷ 0xC0 ∷ 0 ∷ 0 ∷ 1 ∷ 0x66 ∷ 0x01 ∷ []) []) ≡ None)
    × (answer_of on (frame (0x11 ∷ 0x01 ∷ 0xC0 ∷ 0 ∷ 0 ∷ 1 ∷ 0x66 ∷ []) []) ≡ Some (report 1 0x20 4 0))
    -- the same beginning 01 gets 0x10, place 0
    × (answer_of on (frame (0x01 ∷ 0x01 ∷ 0xC0 ∷ 0 ∷ 0 ∷ 1 ∷ 0x66 ∷ 0x01 ∷ []) []) ≡ Some (report 1 0x10 0 0))
    -- a blank confirm while 6612 waits gets 0x22, and 0x26 is logged before it
    × (answer_of (armed 2) blank ≡ Some (report 2 0x22 8 0x6604))
    × ((log_after (armed 2) blank empty).items ≡ entry 1000000 (report 2 0x22 8 0x6604) ∷ entry 1000000 (report 2 0x26 6 0x6612) ∷ [])
    -- 66 12 99 ED confirms 6612; 66 12 99 EC gets 0x25
    × (answer_of (armed 2) confirm ≡ None)
    × (firing (next (armed 2) confirm) ≡ true)
    × (answer_of (armed 2) wrong ≡ Some (report 2 0x25 8 0x6604))
    × (firing (next (armed 2) wrong) ≡ false)
    -- period 0 gets 0x40, place 9; period 255 is off at the 255th tick
    × (answer_of (next on checkout) (fire 0) ≡ Some (report 2 0x40 9 0x6612))
    × (firing (ticked_for 254 (next (armed 255) confirm)) ≡ true)
    × (firing (ticked_for 255 (next (armed 255) confirm)) ≡ false)
    -- a confirm after 1,999 ticks acts, after 2,000 gets 0x27
    × (firing (next (ticked_for 1999 (armed 2)) confirm) ≡ true)
    × (answer_of (ticked_for 2000 (armed 2)) confirm ≡ Some (report 2 0x27 6 0x6604))
    -- raw 16,777,210 and then 4 is rate 10
    × (rate 16777210 4 ≡ 10)
    -- set point 100 with factor 23 expects 143
    × (expected 100 23 ≡ 143)
