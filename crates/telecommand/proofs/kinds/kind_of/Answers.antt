use Rattle.std.proofs.Common.{eqb, ◌∙◌, rules, tests}
use Rattle.std.proofs.lemmas.Iterator.{YieldsList-from_slice}
use Rattle.std.proofs.lemmas.Iterator.Search.{find_from_yields_List}
use Rattle.telecommand.specs.declared.kinds.Kind.{Kind}
use Rattle.telecommand.specs.Commands.{commands}
use Rattle.telecommand.proofs.kinds.kind_of.Goals as goal

pub returns : goal.returns
returns c =
    c.copied.ensures ∙ find_from_yields_List (λ (k : Kind). eqb k.opcode c.args.opcode) _ _ c.find.result c.find.ensures.ran (YieldsList-from_slice commands cc)
    (λ x b q k. search (rules, tests))
