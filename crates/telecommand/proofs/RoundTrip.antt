-- A frame that was written is read as its command, on the primary link, whatever stands on the redundant.
use Rattle.std.proofs.Common.{◌≡◌, ℕ, ◌+◌, ◌*◌, ◌/◌, ◌≤◌, true, List, ◌∷◌, ◌++◌, length, take, drop, Some, None, Ok, Option, Result, ap, ◌∙◌, append_assoc, arith, eq-eqb, le-leb}
use Rattle.std.proofs.lemmas.List.{length-take-le, take_at, drop_at}
use Rattle.telecommand.specs.Packet.{word, sized}
use Rattle.telecommand.specs.Commands.{Telecommand, Legal, WordsFit, of_kind, kind_in, commands, command_of}
use Rattle.telecommand.specs.Links.{link_field, prefer, blank, command_in, reads}
use Rattle.telecommand.specs.Frames.{octets, frame_of, after, ReadsBack}
use Rattle.telecommand.specs.declared.kinds.Kind.{Kind}
use Rattle.telecommand.specs.declared.fault.ReadFault.{ReadFault}
use Rattle.telecommand.proofs.Octets.{octets_length}

frame_length : (op count : ℕ) (ws : List ℕ) → length (frame_of op ws count) ≡ 8 + 2 * length ws
frame_length op count ws = let o = octets_length ws in omega arith

frame_sized : (op count : ℕ) (ws : List ℕ) → sized (frame_of op ws count) ≡ true
frame_sized op count ws =
    let l = frame_length op count ws in
    let f = frame_of op ws count in
    let a : 8 ≤ length f = omega arith in
    let b : length f ≡ 7 + word f 4 = omega arith in
    rw (le-leb 8 (length f) a) (eq-eqb (length f) (7 + word f 4) b)

field_back : (op count : ℕ) (ws : List ℕ) → count ≤ 16383 → link_field (frame_of op ws count) ≡ Ok (octets (op ∷ ws))
field_back op count ws h =
    let t : (0xC0 + count / 256) / 64 ≡ 3 = omega arith in
    rw (frame_sized op count ws) (rw (eq-eqb ((0xC0 + count / 256) / 64) 3 t))

legal_kind : (k : Option Kind) (op : ℕ) (ws : List ℕ) → WordsFit k ws → of_kind k op ws ≡ Ok (record { opcode = op; words = ws })
legal_kind None op ws h = absurd h
legal_kind (Some k) op ws h = rw (eq-eqb (length ws) (2 * k.words) h)

abbrev made : ℕ → List ℕ → Result Telecommand ReadFault
made op ws = of_kind (kind_in commands op) op ws

command_back : (op : ℕ) (ws : List ℕ) → Legal op (octets ws) → command_of (octets (op ∷ ws)) ≡ Ok (record { opcode = op; words = octets ws })
command_back op ws h =
    let w : word (octets (op ∷ ws)) 0 ≡ op = omega arith in
    ap (λ (o : ℕ). made o (octets ws)) w ∙ legal_kind (kind_in commands op) op (octets ws) h

frame_back : (op count : ℕ) (ws other : List ℕ) → count ≤ 16383 → Legal op (octets ws) → reads (frame_of op ws count) other ≡ Ok (record { opcode = op; words = octets ws })
frame_back op count ws other h legal =
    let f = frame_of op ws count in
    ap (λ (r : Result (List ℕ) ReadFault). command_in (prefer (blank f) r (link_field other))) (field_back op count ws h) ∙ command_back op ws legal

-- the frame as it lies in the buffer
cut_back : (b f : List ℕ) (from n : ℕ) → from ≤ length b → length f ≡ n → take n (drop from (take from b ++ f ++ drop (from + n) b)) ≡ f
cut_back b f from n h l =
    let t : length (take from b) ≡ from = length-take-le from b h in
    rw (append_assoc, drop_at (take from b) (f ++ drop (from + n) b) from t, take_at f (drop (from + n) b) n l)

pub reads_back : (b b' : List ℕ) (from op count : ℕ) (ws : List ℕ) → from ≤ length b → count ≤ 16383
    → b' ≡ after b from (frame_of op ws count) (Ok (8 + 2 * length ws)) → ReadsBack b' from op ws (Ok (8 + 2 * length ws))
reads_back b b' from op count ws h m e legal other =
    ap (λ (z : List ℕ). reads (take (8 + 2 * length ws) (drop from z)) other) e
    ∙ (ap (λ (z : List ℕ). reads z other) (cut_back b (frame_of op ws count) from (8 + 2 * length ws) h (frame_length op count ws)) ∙ frame_back op count ws other m legal)
