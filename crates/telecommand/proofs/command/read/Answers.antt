use Rattle.telecommand.proofs.Lengths.{chosen_long}
use Rattle.telecommand.proofs.command.read.Goals as goal

-- the check finds this alone, at more than half of its limits
pub command_in-requires : goal.command_in-requires
command_in-requires c = chosen_long c.args.primary.now c.args.redundant.now _ c.in_ok-choose.ensures
