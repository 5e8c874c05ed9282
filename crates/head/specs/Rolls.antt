-- The log as what its ring comes to: a roll of entries.
use Rattle.std.specs.Prelude.{ℕ}
use Rattle.ring.specs.Rolls.{Roll}
use Rattle.codes.specs.declared.Report.{Report}
use Rattle.codes.specs.declared.Entry.{Entry}

abbrev pub Log : Type 0
Log = Roll Entry

-- a report as it stands in the log, with the head's time
abbrev pub entry : ℕ → Report → Entry
entry time report = record { time = time; report = report }
