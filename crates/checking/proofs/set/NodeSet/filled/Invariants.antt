use Rattle.std.proofs.Common.{ℕ, ◌<◌, ◌≡◌, false, ◌≤◌}
use Rattle.checking.specs.Sets.{holds}
use Rattle.checking.proofs.set.NodeSet.filled.Given as goal

abbrev pub invariant-loop-n : goal.invariant-loop-n
invariant-loop-n g l = record {
  below : (m : ℕ) → m < l.n → goal.F-post g l.test m (holds l.set m);
  rest : (m : ℕ) → l.n ≤ m → holds l.set m ≡ false;
}
