use Rattle.std.proofs.Common.{◌≡◌, ◌-◌, ◌<◌, ◌≤◌, length, ◌∙◌, arith}
use Rattle.rules.proofs.Reading.{fill_more, fill_never, filled}
use Rattle.rules.proofs.read.Nodes.fill.Goals as goal

pub returns-in_default : goal.returns-in_default
returns-in_default c =
    let h : c.loop-i.i < c.loop-i.self.count = omega arith in
    absurd (fill_never c.loop-i.self.all c.loop-i.self.count _ _ c.loop-i.i c.loop-i.self.rest.now _ h c.in_default.ensures.node c.requires.fine c.loop-i.invariant.left)

pub loop-i-preserved : goal.loop-i-preserved
loop-i-preserved c =
    let h : c.loop-i.i < c.loop-i.self.count = omega arith in
    let l : c.loop-i.i < length c.loop-i.list = omega arith in
    record {
      left = rw (c.node.ensures.all, c.node.ensures.count) (fill_more c.loop-i.self.all c.loop-i.self.count _ c.loop-i.list c.loop-i.i c.loop-i.self.rest.now c.node.new.self.rest.now c.in-Ok.record h l c.in-Ok.ensures.node c.loop-i.invariant.left);
      all = c.node.ensures.all ∙ c.loop-i.invariant.all;
      count = c.node.ensures.count ∙ c.loop-i.invariant.count;
    }

pub returns : goal.returns
returns c =
    let h : c.loop-i.self.count - c.loop-i.i ≡ 0 = omega arith in
    let l : length c.loop-i.list ≤ c.loop-i.i = omega arith in
    filled c.loop-i.self.all c.loop-i.self.count _ c.loop-i.self.rest.now c.loop-i.i c.loop-i.list c.requires.fine (simp h at c.loop-i.invariant.left) l
