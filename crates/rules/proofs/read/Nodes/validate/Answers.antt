use Rattle.std.proofs.Common.{◌≡◌, ◌-◌, ◌<◌, sym, ap, ◌∙◌, arith, rules}
use Rattle.rules.specs.Bytes.{checked}
use Rattle.rules.proofs.Reading.{nodes_zero, valid_more, valid_err}
use Rattle.rules.proofs.read.Nodes.validate.Goals as goal

pub returns-in_err-node : goal.returns-in_err-node
returns-in_err-node c =
    let h : c.loop.counter < c.loop.self.count = omega arith in
    let e = valid_err c.loop.self.all c.loop.self.count c.loop.counter c.loop.self.rest.now c.in_err-node.field-0.0 _ h c.in_err-node.ensures.node c.loop.invariant.left in
    search rules

pub loop-preserved : goal.loop-preserved
loop-preserved c =
    let h : c.loop.counter < c.loop.self.count = omega arith in
    record {
      left = rw (c.node.ensures.all, c.node.ensures.count) (valid_more c.loop.self.all c.loop.self.count c.loop.counter c.loop.self.rest.now c.node.new.self.rest.now _ _ h c.in_ok-node.ensures.node c.loop.invariant.left);
      all = c.node.ensures.all ∙ c.loop.invariant.all;
      count = c.node.ensures.count ∙ c.loop.invariant.count;
    }

pub returns : goal.returns
returns c =
    let h : c.loop.self.count - c.loop.counter ≡ 0 = omega arith in
    c.end.ensures ∙ (sym (ap checked (nodes_zero c.loop.self.all c.loop.self.count c.loop.self.rest.now)) ∙ (simp h at c.loop.invariant.left))
