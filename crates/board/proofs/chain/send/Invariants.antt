use Rattle.std.proofs.Common.{◌≡◌, ◌-◌, ◌/◌, ◌%◌, ◌^◌, ◌<◌}
use Rattle.board.proofs.chain.send.Given as goal

-- nothing was latched, and the low cells hold the bits of the word from i on
abbrev pub invariant-loop-i : goal.invariant-loop-i
invariant-loop-i l = record { latches : l.register.latches ≡ l.initial.register.latches; fits : l.i < 32 → l.register.cells < 2 ^ 32; sent : l.register.cells % 2 ^ (32 - l.i) ≡ l.word / 2 ^ l.i }
