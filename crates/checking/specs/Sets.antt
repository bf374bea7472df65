-- Sets of nodes, and counting.
use Rattle.std.specs.Prelude.{ℕ, zero, suc, ◌/◌, ◌%◌, ◌^◌, Bool, false, cond, ◌||◌, ◌==◌}
use Rattle.checking.specs.declared.set.NodeSet.{NodeSet}

-- node j is in the set: its bit is 1
unfoldable pub holds : NodeSet → ℕ → Bool
holds s j = s.bits / 2 ^ j % 2 == 1

-- how many numbers below k pass a test, and whether one does
unfoldable pub count : (ℕ → Bool) → ℕ → ℕ
count f zero = 0
count f (suc k) = cond (f k) (suc (count f k)) (count f k)

unfoldable pub any_below : (ℕ → Bool) → ℕ → Bool
any_below f zero = false
any_below f (suc k) = f k || any_below f k
