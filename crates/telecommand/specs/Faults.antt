-- What the reader and the writer refuse, each with its layer, code, place and op-code.
use Rattle.codes.specs.Reports.{report}
use Rattle.codes.specs.declared.Report.{Report}
use Rattle.telecommand.specs.declared.fault.ReadFault.{ReadFault}
use Rattle.telecommand.specs.declared.fault.ReadFault.TheVariants.{Length, Header, UnknownCommand, WordCount}
use Rattle.telecommand.specs.declared.fault.WriteFault.{WriteFault}
use Rattle.telecommand.specs.declared.fault.WriteFault.TheVariants.{PastEnd, NoFrame}

-- line noise is layer 1; what the sender got wrong is layer 2 and bears the frame's op-code
abbrev pub read_report : ReadFault → Report
read_report Length = report 1 0x20 4 0
read_report (Header octet) = report 1 0x10 octet 0
read_report (UnknownCommand opcode) = report 2 0x21 6 opcode
read_report (WordCount opcode) = report 2 0x22 8 opcode

-- what the calling program got wrong is layer 6
abbrev pub write_report : WriteFault → Report
write_report PastEnd = report 6 0x71 0 0
write_report NoFrame = report 6 0x72 0 0
