use Rattle.std.proofs.Common.{length}
use Rattle.telecommand.proofs.writer.+put_words.Given as goal

abbrev pub decreases-put_words : goal.decreases-put_words
decreases-put_words l = length l.words.now
