use Rattle.std.proofs.Common.{◌≡◌, ℕ, ◌-◌, ◌<◌, ◌≤◌, length}
use Rattle.rules.specs.declared.node.Node.TheVariants.{Empty}
use Rattle.checking.specs.Links.{node}
use Rattle.checking.specs.Nodes.{node_at}
use Rattle.checking.specs.Answer.{first, misplaced}
use Rattle.checking.proofs.nodes.Nodes.of.Given as goal

abbrev pub invariant-loop-n : goal.invariant-loop-n
invariant-loop-n l = record {
  good : first (misplaced l.list) 0 (length l.list) ≡ first (misplaced l.list) l.n (length l.list - l.n);
  below : (m : ℕ) → m < l.n → node l.nodes m ≡ node_at l.list m;
  rest : (m : ℕ) → l.n ≤ m → node l.nodes m ≡ Empty;
  long : length l.nodes ≡ 128;
}
