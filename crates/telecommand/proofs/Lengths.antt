-- Laws of the reader: a command without words, a data field by its op-code, and the least length of a field. Of these only
-- `chosen_long` is cited: the check finds the others alone.
use Rattle.std.proofs.Common.{◌≡◌, ℕ, ◌+◌, ◌-◌, ◌*◌, ◌/◌, ◌≤◌, Bool, not, eqb, leb, List, [], length, get_or, take, drop, Some, Ok, Err, Result, sym, ap, subst, arith, eq-eqb, leb-true}
use Rattle.std.proofs.lemmas.List.{nil_from_length, take_rest, length-drop}
use Rattle.std.proofs.lemmas.Bool.{and_parts, not-false}
use Rattle.codes.specs.Reports.{refuse}
use Rattle.codes.proofs.Refusals.{passed}
use Rattle.telecommand.specs.Packet.{word, sized, field_of}
use Rattle.telecommand.specs.Commands.{Telecommand, Legal, kind_in, commands, command_of}
use Rattle.telecommand.specs.Links.{prefer, blank, link_field, chosen}
use Rattle.telecommand.specs.declared.kinds.Kind.{Kind}
use Rattle.telecommand.specs.declared.fault.ReadFault.{ReadFault}
use Rattle.telecommand.specs.declared.fault.ReadFault.TheVariants.{Length, Header}

abbrev made : ℕ → List ℕ → Telecommand
made op ws = record { opcode = op; words = ws }

-- where the op-code's command has no words, none follow
pub bare : (op n : ℕ) (ws : List ℕ) → op ≡ n → (Legal n ws → length ws ≡ 0) → Legal op ws → made n [] ≡ made op ws
bare op n ws e none h =
    let z : ws ≡ [] = nil_from_length ws (none (subst (λ (k : ℕ). Legal k ws) e h)) in
    cc

-- a data field with the op-code of a kind and as many octets after it as that kind has
pub brings : (d : List ℕ) (k : Kind) → Some k ≡ kind_in commands (word d 0) → length (drop 2 d) ≡ 2 * k.words → Ok (made (word d 0) (drop 2 d)) ≡ command_of d
brings d k e l = rw (← e) (rw (eq-eqb (length (drop 2 d)) (2 * k.words) l))

-- the same, of the part that a pattern's rest has
pub brings_rest : (d : List ℕ) (k : Kind) → Some k ≡ kind_in commands (word d 0) → length (take (length d - 2) (drop 2 d)) ≡ 2 * k.words
    → Ok (made (word d 0) (take (length d - 2) (drop 2 d))) ≡ command_of d
brings_rest d k e l = rw (take_rest d 2) (brings d k e (rw (take_rest d 2) at l))

-- the tests of a header, on its octets
abbrev header_tests : ℕ → ℕ → ℕ → ℕ → ℕ → List ℕ → Result (List ℕ) ReadFault
header_tests first second flags high low field =
    refuse (not (eqb first high)) (Header 0) (refuse (not (eqb second low)) (Header 1) (refuse (not (eqb flags 3)) (Header 2) (Ok field)))

abbrev headed : ℕ → ℕ → List ℕ → Result (List ℕ) ReadFault
headed high low b = header_tests (get_or b 0 0) (get_or b 1 0) (get_or b 2 0 / 64) high low (drop 6 b)

rest_of : (first second flags high low : ℕ) (field d : List ℕ) → header_tests first second flags high low field ≡ Ok d → field ≡ d
rest_of first second flags high low field d e =
    let last : Result (List ℕ) ReadFault = refuse (not (eqb flags 3)) (Header 2) (Ok field) in
    let x = passed (not (eqb first high)) (Header 0) (refuse (not (eqb second low)) (Header 1) last) d e in
    let y = passed (not (eqb second low)) (Header 1) last d x.1 in
    let z = (passed {F = ReadFault} (not (eqb flags 3)) (Header 2) (Ok field) d y.1).1 in
    cc

-- the data field of a link has at least an op-code's two octets

field_long : (high low : ℕ) (b d : List ℕ) → field_of high low b ≡ Ok d → 2 ≤ length d
field_long high low b d e =
    let first = passed (not (sized b)) Length (headed high low b) d e in
    let size = leb-true 8 (length b) (and_parts (leb 8 (length b)) (eqb (length b) (7 + word b 4)) (not-false (sized b) first.0)).0 in
    omega (arith, length-drop 6 b, ap length (rest_of (get_or b 0 0) (get_or b 1 0) (get_or b 2 0 / 64) high low (drop 6 b) d first.1))

prefer_long : (none : Bool) (p r : Result (List ℕ) ReadFault) (d : List ℕ)
    → ((x : List ℕ) → p ≡ Ok x → 2 ≤ length x) → ((x : List ℕ) → r ≡ Ok x → 2 ≤ length x)
    → Ok d ≡ prefer none p r → 2 ≤ length d
prefer_long none (Ok x) r d f g e = f d (sym e)
prefer_long none (Err x) (Ok y) d f g e = g d (sym e)
prefer_long none (Err x) (Err y) d f g e = let z : ◌≡◌ {A = ℕ} 0 1 = cc in absurd (omega arith)

pub chosen_long : (p r d : List ℕ) → Ok d ≡ chosen p r → 2 ≤ length d
chosen_long p r d e = prefer_long (blank p) (link_field p) (link_field r) d (field_long 0x11 0x01 p) (field_long 0x11 0x01 r) e
