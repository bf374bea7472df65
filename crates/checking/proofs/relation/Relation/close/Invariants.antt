use Rattle.std.proofs.Common.{◌≡◌, ℕ, ◌<◌}
use Rattle.checking.specs.Paths.{in_row, reach}
use Rattle.checking.proofs.relation.Relation.close.Given as goal

abbrev pub invariant-loop-k : goal.invariant-loop-k
invariant-loop-k l = (i j : ℕ) → i < 128 → in_row l.self.rows i j ≡ reach (in_row l.initial.self.rows) l.k i j
