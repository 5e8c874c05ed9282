use lib.ListN.{get_or-map}
use Rattle.head.specs.Parameters.{table, row}
use Rattle.head.proofs.parameters.range_of.Goals as goal

pub returns : goal.returns
returns c = get_or-map row table c.args.i (0, 0, 0)
