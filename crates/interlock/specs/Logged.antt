-- What was to be logged, in the words of the history.
--   aside   a faulty primary link that was passed over for the redundant
--   lost    a command that waited, and that a frame took out without carrying it out
--   late    a command that waited for its confirm until its last tick
use Rattle.std.specs.Prelude.{◌≡◌, ℕ, zero, suc, ◌+◌, ◌%◌, ◌^◌, ◌<◌, true, cond, ◌⊎◌, ◌↔◌, List, [], ◌∷◌, length, take, Some, None, Option, ◌≢◌, slice_index}
use Rattle.codes.specs.Reports.{report}
use Rattle.codes.specs.declared.Report.{Report}
use Rattle.codes.specs.declared.Entry.{Entry}
use Rattle.telecommand.specs.Links.{set_aside}
use Rattle.telecommand.specs.Faults.{read_report}
use Rattle.telecommand.specs.declared.fault.ReadFault.{ReadFault}
use Rattle.head.specs.Parameters.{allowed}
use Rattle.head.specs.Requests.{marked}
use Rattle.head.specs.Rolls.{Log, entry}
use Rattle.head.specs.State.{State}
use Rattle.interlock.specs.Events.{tick, frame}
use Rattle.interlock.specs.History.{powered, brought, Did, Past, marks, Ago, Before, Accepted, IsFrame, TripsAt, EntersSafe, LeavesWaiting}
use Rattle.interlock.specs.Promises.{Waits, Follows, continued}
use Rattle.interlock.specs.declared.step.Step.{Step}

-- ---- the reports of the newest event

-- a primary link was set aside with this fault
abbrev pub SetsAside : Past → Report → Type 0
SetsAside [] r = ⊥
SetsAside (d ∷ h) r = (p : List ℕ) × (q : List ℕ) × (f : ReadFault) × (d.came ≡ brought (frame p q)) × (set_aside p q ≡ Some f) × (r ≡ read_report f)

-- a frame that says itself what became of the command that waited: its accepted confirm, or one answered 0x24, 0x25 or 0x45
abbrev pub Tells : Past → Type 0
Tells [] = ⊥
Tells (d ∷ h) =
    ((words : List ℕ) × Accepted 0x6604 words (d ∷ h))
    ⊎ ((r : Report) × (d.shown.fault ≡ Some r) × ((r.code ≡ 0x24) ⊎ ((r.code ≡ 0x25) ⊎ (r.code ≡ 0x45))))

-- any other frame loses the critical command that waited: 0x26 with its op-code
abbrev pub Loses : Past → Report → Type 0
Loses p r = (op : ℕ) × (ws : List ℕ) × ((marked op).critical ≡ true) × Before (Waits op ws) p × IsFrame p × (Tells p → ⊥) × (r ≡ report 2 0x26 6 op)

-- it was refused with this fault; that both links are empty is not logged
abbrev pub Refuses : Past → Report → Type 0
Refuses [] r = ⊥
Refuses (d ∷ h) r = (d.shown.fault ≡ Some r) × (d.came ≢ brought (frame [] []))

-- the 2,000th tick since a critical command was accepted, with no frame and no entry into SAFE between: 0x28 with its op-code
abbrev pub Late : Past → Report → Type 0
Late [] r = ⊥
Late (d ∷ h) r =
    (op : ℕ) × (ws : List ℕ) × ((marked op).critical ≡ true) × (d.came ≡ brought tick)
    × Ago (λ t p. Accepted op ws p × (t ≡ 2000)) LeavesWaiting (d ∷ h) × (r ≡ report 2 0x28 6 op)

-- an entry into SAFE at which check c trips and no lower one: 0x60 plus c
abbrev pub TripEnters : Past → Report → Type 0
TripEnters p r = (c : ℕ) × EntersSafe p × TripsAt c p × ((b : ℕ) → b < c → TripsAt b p → ⊥) × (r ≡ report 4 (0x60 + c) c 0)

-- ---- the log of a history

-- it is the one report of which this holds, or none where it holds of none
abbrev pub Only : (Report → Type 0) → Option Report → Type 0
Only Of o = (r : Report) → Of r ↔ (o ≡ Some r)

-- what the newest event adds to the log
pub record Adds (p : Past) : Type 0 where
  pub aside : Option Report
  pub loss : Option Report
  pub refusal : Option Report
  pub late : Option Report
  pub trip : Option Report
  pub aside_only : Only (SetsAside p) aside
  pub loss_only : Only (Loses p) loss
  pub refusal_only : Only (Refuses p) refusal
  pub late_only : Only (Late p) late
  pub trip_only : Only (TripEnters p) trip

-- the head's time, by the accepted second marks
abbrev pub time_of : Past → ℕ
time_of h = (1000000 + marks h) % 2 ^ 32

-- a report, if there is one, in front of the entries before it
abbrev pub stamped : ℕ → Option Report → List Entry → List Entry
stamped time None rest = rest
stamped time (Some r) rest = entry time r ∷ rest

-- a frame's own fault comes after the loss, and this after the fault set aside; the newest stands first
abbrev pub newer : {p : Past} → Adds p → ℕ → List Entry → List Entry
newer a time rest = stamped time a.trip (stamped time a.late (stamped time a.refusal (stamped time a.loss (stamped time a.aside rest))))

-- the notes of power-on, newest first: 0x52 for each stored parameter, of the first n, that is outside its range
abbrev pub replaced : ℕ → List ℕ → List Entry
replaced zero stored = []
replaced (suc n) stored = cond (allowed n (slice_index stored n)) (replaced n stored) (entry 1000000 (report 5 0x52 n 0) ∷ replaced n stored)

-- these entries are all that was to be logged since power-on, newest first, each with the head's time
pub data Logged : Past → List Entry → Type 0 where
  began : (d : Did) (stored : List ℕ) → d.came ≡ powered stored → Logged (d ∷ []) (replaced 25 stored)
  went_on : (d : Did) (h : Past) (rest : List Entry) (a : Adds (d ∷ h)) → Logged h rest → Logged (d ∷ h) (newer a (time_of (d ∷ h)) rest)

-- the log holds all that was to be logged, newest first, cut at the room for it
abbrev pub LogHeld : Past → Log → Type 0
LogHeld h log = (all : List Entry) × Logged h all × (log.items ≡ take log.room all)

-- a log that held all that was to be logged does so after the steps
abbrev pub LogPromise : List Step → State → Log → Log → Type 0
LogPromise steps s before after = (h : Past) → Follows h s → LogHeld h before → LogHeld (continued h (length steps) steps) after
