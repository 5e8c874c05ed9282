use Rattle.std.proofs.Common.{◌≡◌, ℕ, ◌+◌, ◌-◌, ◌*◌, List, ◌++◌, length, take, drop, arith}
use borrow.Rule.Slice.PartMut.{put_mid}
use Rattle.std.proofs.lemmas.Grind.{common_steps}
use Rattle.telecommand.specs.Frames.{frame_of}
use Rattle.telecommand.proofs.RoundTrip.{reads_back}
use Rattle.telecommand.proofs.writer.write.Goals as goal

-- a buffer whose part from a on begins with f, and goes on as it was
put_front : (a n : ℕ) (xs ys f : List ℕ) → ys ≡ f ++ drop n (take (length xs - a) (drop a xs)) → put_mid a (length xs - a) xs ys ≡ take a xs ++ f ++ drop (a + n) xs
put_front a n xs ys f e = grind (arith, common_steps)

pub returns-clause-back : goal.returns-clause-back
returns-clause-back c =
    let ws = c.args.words.now in
    let f = frame_of c.args.opcode ws c.args.count in
    let stays = put_front c.args.from (8 + 2 * length ws) c.args.buffer.now c.put_frame.new.part f c.put_frame.ensures in
    reads_back c.args.buffer.now _ c.args.from c.args.opcode c.args.count ws (omega arith) (omega arith) stays
