use Rattle.std.proofs.Common.{true, false, sym, ◌∙◌, arith}
use Rattle.checking.proofs.First.{first_hit, first_miss, first_end}
use Rattle.checking.proofs.lowest.lowest.Goals as goal

pub returns-then-test : goal.returns-then-test
returns-then-test g c = λ f p. sym (c.loop-n.invariant f p ∙ first_hit f 128 c.loop-n.n c.loop-n-test.true (sym (p c.loop-n.n true c.loop-n-test.true c.if-test.ensures)))

pub loop-n-preserved : goal.loop-n-preserved
loop-n-preserved g c = λ f p. c.loop-n.invariant f p ∙ first_miss f 128 c.loop-n.n c.loop-n-test.true (sym (p c.loop-n.n false c.loop-n-test.true c.if-test.ensures))

pub returns : goal.returns
returns g c = λ f p. sym (c.loop-n.invariant f p ∙ first_end f 128 c.loop-n.n (omega arith))
