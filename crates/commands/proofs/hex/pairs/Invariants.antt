use Rattle.std.proofs.Common.{◌≡◌, length, vec_items}
use Rattle.commands.specs.Hex.{pairs_of}
use Rattle.commands.proofs.Pairs.{onto}
use Rattle.commands.proofs.hex.pairs.Given as goal

abbrev pub invariant-loop-left : goal.invariant-loop-left
invariant-loop-left l = onto (vec_items l.bytes) (pairs_of l.left) ≡ pairs_of l.text

abbrev pub decreases-loop-left : goal.decreases-loop-left
decreases-loop-left l = length l.left
