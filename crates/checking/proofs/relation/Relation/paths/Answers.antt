use Rattle.std.proofs.Common.{◌∙◌, arith}
use Rattle.checking.specs.Links.{node, links}
use Rattle.checking.specs.Paths.{in_row}
use Rattle.checking.proofs.Reaching.{reach_same}
use Rattle.checking.proofs.relation.Relation.paths.Goals as goal

pub returns : goal.returns
returns c = λ i j h. c.close.ensures i j h ∙ reach_same (in_row c.links-relation.result.rows) (links c.args.which (node c.args.nodes.now.list)) 128 c.links-relation.ensures 128 (omega arith) i j h
