use Rattle.std.proofs.Common.{◌≡◌, ℕ, ◌<◌, ◌≤◌, ◌&&◌, ◌||◌, length, get_or}
use Rattle.checking.specs.Paths.{in_row, no_set}
use Rattle.checking.proofs.relation.Relation.pass.Given as goal

abbrev pub invariant-loop-row : goal.invariant-loop-row
invariant-loop-row l = record {
  below : (m : ℕ) → m < l.row-index → (j : ℕ) → in_row l.row-items m j ≡ (in_row l.initial.row-items m j || (in_row l.initial.row-items m l.k && in_row l.initial.row-items l.k j));
  rest : (m : ℕ) → l.row-index ≤ m → get_or l.row-items m no_set ≡ get_or l.initial.row-items m no_set;
  long : length l.row-items ≡ 128;
}
