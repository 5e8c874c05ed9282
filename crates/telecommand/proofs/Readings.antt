-- What is read has as many words as its command.
use Rattle.std.proofs.Common.{◌≡◌, ℕ, ◌*◌, not, eqb, List, length, drop, Some, None, Ok, Err, Option, Result, subst, eqb-true}
use Rattle.std.proofs.lemmas.Bool.{not-false}
use Rattle.codes.proofs.Refusals.{passed}
use Rattle.telecommand.specs.Packet.{word}
use Rattle.telecommand.specs.Commands.{Telecommand, Legal, WordsFit, of_kind, kind_in, commands}
use Rattle.telecommand.specs.Links.{chosen, command_in, reads}
use Rattle.telecommand.specs.declared.kinds.Kind.{Kind}
use Rattle.telecommand.specs.declared.fault.ReadFault.{ReadFault}
use Rattle.telecommand.specs.declared.fault.ReadFault.TheVariants.{WordCount}

abbrev made : ℕ → List ℕ → Telecommand
made op ws = record { opcode = op; words = ws }

of_kind_legal : (k : Option Kind) (op : ℕ) (ws : List ℕ) (t : Telecommand) → of_kind k op ws ≡ Ok t → WordsFit k ws × (made op ws ≡ t)
of_kind_legal None op ws t e = cc
of_kind_legal (Some k) op ws t e =
    let p = passed (not (eqb (length ws) (2 * k.words))) (WordCount op) (Ok (made op ws)) t e in
    let f = p.1 in
    (eqb-true (length ws) (2 * k.words) (not-false (eqb (length ws) (2 * k.words)) p.0), cc)

command_legal : (c : Result (List ℕ) ReadFault) (t : Telecommand) → command_in c ≡ Ok t → Legal t.opcode t.words
command_legal (Ok d) t e =
    let k = of_kind_legal (kind_in commands (word d 0)) (word d 0) (drop 2 d) t e in
    subst (λ (u : Telecommand). Legal u.opcode u.words) k.1 k.0
command_legal (Err f) t e = cc

pub reads_legal : (p r : List ℕ) (t : Telecommand) → reads p r ≡ Ok t → Legal t.opcode t.words
reads_legal p r t e = command_legal (chosen p r) t e
