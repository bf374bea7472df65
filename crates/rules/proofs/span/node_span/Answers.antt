use Rattle.std.proofs.Common.{◌∙◌}
use Rattle.rules.specs.Spans.{span_of}
use Rattle.rules.proofs.Sizes.{one_length}
use Rattle.rules.proofs.span.node_span.Goals as goal

pub returns : goal.returns
unfolding span_of
returns c = let e = c.own.ensures ∙ one_length c.args.list.now c.args.n in cc
