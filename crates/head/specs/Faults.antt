-- What the head refuses and what it notes, each with its layer, code, place and op-code.
use Rattle.std.specs.Prelude.{◌+◌}
use Rattle.codes.specs.Reports.{report}
use Rattle.codes.specs.declared.Report.{Report}
use Rattle.telecommand.specs.Faults.{read_report}
use Rattle.head.specs.Checks.{number_of}
use Rattle.head.specs.declared.fault.Fault.{Fault}
use Rattle.head.specs.declared.fault.Fault.TheVariants.{BothEmpty, Unread, NotInSafe, CriticalWaits, WrongConfirm, NothingWaits, OutOfRange, TimerRuns, DriveRuns, ConfirmFailed, RawCount}
use Rattle.head.specs.declared.fault.Note.{Note}
use Rattle.head.specs.declared.fault.Note.TheVariants.{Lost, Late, Tripped, Replaced}

-- a refusal in layers 2 and 3 bears the frame's own op-code; that of a confirm is 6604, of CHECKOUT 6603
abbrev pub report_of : Fault → Report
report_of BothEmpty = report 1 0x11 0 0
report_of (Unread fault) = read_report fault
report_of (NotInSafe opcode) = report 2 0x23 6 opcode
report_of (CriticalWaits opcode) = report 2 0x24 6 opcode
report_of WrongConfirm = report 2 0x25 8 0x6604
report_of NothingWaits = report 2 0x27 6 0x6604
report_of (OutOfRange place opcode) = report 2 0x40 place opcode
report_of TimerRuns = report 3 0x30 6 0x6603
report_of (DriveRuns opcode) = report 3 0x41 6 opcode
report_of ConfirmFailed = report 3 0x45 6 0x6604
report_of RawCount = report 4 0x50 0 0

-- a note of a lost command bears the lost op-code
abbrev pub note_of : Note → Report
note_of (Lost opcode) = report 2 0x26 6 opcode
note_of (Late opcode) = report 2 0x28 6 opcode
note_of (Tripped check) = report 4 (0x60 + number_of check) (number_of check) 0
note_of (Replaced index) = report 5 0x52 index 0
