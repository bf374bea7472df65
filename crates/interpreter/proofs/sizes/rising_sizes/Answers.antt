use Rattle.std.proofs.Common.{vec_items}
use Rattle.interpreter.proofs.Sizing.{sorted}
use Rattle.interpreter.proofs.sizes.rising_sizes.Goals as goal

pub returns : goal.returns
returns c = sorted _ (vec_items c.in_ok-sizes.sizes) (vec_items c.sort_unstable.new.self) c.in_ok-sizes.ensures c.sort_unstable.ensures.permutation c.sort_unstable.ensures.sorted
