use Rattle.std.proofs.Common.{sym}
use Rattle.checking.specs.Paths.{in_row}
use Rattle.checking.proofs.Reaching.{reach_none, reach_next}
use Rattle.checking.proofs.relation.Relation.close.Goals as goal

pub loop-k-init : goal.loop-k-init
loop-k-init c = λ i j h. sym (reach_none (in_row c.args.self.now.rows) i j)

pub loop-k-preserved : goal.loop-k-preserved
loop-k-preserved c =
    reach_next (in_row c.args.self.now.rows) (in_row c.loop-k.self.rows) (in_row c.pass.new.self.rows) c.loop-k.k c.loop-k-test.true c.loop-k.invariant c.pass.ensures
