use Rattle.std.proofs.Common.{◌≡◌}
use Rattle.board.proofs.Above.{off_pairs, off_lines}
use Rattle.board.proofs.off.all_off.Given as goal

abbrev pub invariant-loop-i : goal.invariant-loop-i
invariant-loop-i g l = let m = g.B.Board.means in m l.board ≡ off_pairs l.i (m l.initial.board)

abbrev pub invariant-loop-k : goal.invariant-loop-k
invariant-loop-k g l = let m = g.B.Board.means in m l.board ≡ off_lines l.k (m l.initial.board)
