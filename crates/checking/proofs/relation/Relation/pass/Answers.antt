use Rattle.std.proofs.Common.{◌<◌, length, refl, arith, rules}
use Rattle.checking.proofs.Rows.{pass_more, pass_rest}
use Rattle.checking.proofs.relation.Relation.pass.Goals as goal

pub loop-row-init : goal.loop-row-init
loop-row-init c = record { below = λ m h j. absurd (omega arith); rest = λ m h. refl; long = search rules }

pub loop-row-preserved : goal.loop-row-preserved
loop-row-preserved c =
    let h : c.loop-row.row-index < length c.loop-row.row-items = omega (arith, c.loop-row.invariant.long) in
    record {
      below = pass_more c.args.self.now.rows c.loop-row.row-items c.loop-row.row-index c.args.k c.through.result h c.loop-row.invariant.below c.loop-row.invariant.rest (search rules);
      rest = pass_rest c.args.self.now.rows c.loop-row.row-items c.loop-row.row-index c.through.result c.loop-row.invariant.rest;
      long = search rules;
    }

pub returns : goal.returns
returns c = λ i j h. c.loop-row.invariant.below i (omega arith) j
