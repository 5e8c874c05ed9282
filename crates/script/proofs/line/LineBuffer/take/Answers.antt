use Rattle.std.proofs.Common.{◌≡◌, ◌+◌, take, ap, ◌∙◌, rules, tests}
use Rattle.std.specs.Option.{option_map}
use Rattle.std.proofs.lemmas.Iterator.{YieldsList-from_slice}
use Rattle.std.proofs.lemmas.Iterator.Search.{position_from_yields_List}
use Rattle.script.specs.Lines.{onto}
use Rattle.script.proofs.Chunks.{is_feed, took}
use Rattle.script.proofs.line.LineBuffer.take.Goals as goal

pub returns : goal.returns
returns c =
    let end = position_from_yields_List is_feed _ _ c.position-end.result c.position-end.ensures.ran (YieldsList-from_slice c.args.chunk.now (cc)) (λ x b q k. search (rules, tests)) in
    let used : c.map.result ≡ option_map (λ i. i + 1) c.position-end.result = search rules in
    took c.args.chunk.now c.args.self.now c.extend.new.self c.position-end.result c.map.result end used
    (c.extend.ensures ∙ ap (λ n. onto c.args.self.now (take n c.args.chunk.now)) c.unwrap_or.ensures)
