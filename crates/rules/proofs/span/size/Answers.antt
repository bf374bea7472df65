use Rattle.std.proofs.Common.{ℕ, ◌+◌, ap, arith}
use Rattle.rules.specs.Spans.{size_of}
use Rattle.rules.proofs.Sizes.{size_most}
use Rattle.rules.proofs.span.size.Goals as goal

pub overflow_add-result : goal.overflow_add-result
unfolding size_of
overflow_add-result c = let m = size_most c.args.map in omega (arith, c.widths.ensures)

pub returns : goal.returns
unfolding size_of
returns c = let m = size_most c.args.map in record { is = ap (λ (k : ℕ). 1 + k) c.widths.ensures; most = omega (arith, c.widths.ensures) }
