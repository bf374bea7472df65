-- Paths, and the table that finds them.
use Rattle.std.specs.Prelude.{◌≡◌, ℕ, zero, suc, Bool, true, ◌&&◌, ◌||◌, List, slice_index_or}
use Rattle.checking.specs.declared.set.NodeSet.{NodeSet}
use Rattle.checking.specs.Sets.{holds}

-- one or more links lead from i to j
pub data Path (l : ℕ → ℕ → Bool) : ℕ → ℕ → Type 0 where
  one : {i j : ℕ} → l i j ≡ true → Path l i j
  more : {i j k : ℕ} → l i j ≡ true → Path l j k → Path l i k

-- the same through nodes below k only: adding node k adds the paths that pass it
unfoldable pub reach : (ℕ → ℕ → Bool) → ℕ → ℕ → ℕ → Bool
reach l zero i j = l i j
reach l (suc k) i j = reach l k i j || (reach l k i k && reach l k k j)

abbrev pub no_set : NodeSet
no_set = record { bits = 0 }

-- row i of a table has j
abbrev pub in_row : List NodeSet → ℕ → ℕ → Bool
in_row rows i j = holds (slice_index_or rows i no_set) j
