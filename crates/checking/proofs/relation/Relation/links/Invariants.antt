use Rattle.std.proofs.Common.{◌≡◌, ℕ, ◌<◌, length}
use Rattle.checking.specs.Links.{node, links}
use Rattle.checking.specs.Paths.{in_row}
use Rattle.checking.proofs.relation.Relation.links.Given as goal

abbrev pub invariant-loop-n : goal.invariant-loop-n
invariant-loop-n l = record {
  below : (m : ℕ) → m < l.n → (j : ℕ) → in_row l.rows m j ≡ links l.which (node l.nodes.list) m j;
  long : length l.rows ≡ 128;
}
