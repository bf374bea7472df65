-- How large states are.
use Rattle.std.specs.Prelude.{ℕ, ◌-◌, ◌^◌, min, List, map}
use Rattle.std.specs.List.Sorted.{IsPermutation, IsNonDecreasing}
use Rattle.calculus.specs.States.{State, cells}

-- the cells of a state, to the largest number that memory can count
abbrev pub size_of : State → ℕ
size_of t = min (cells t) (2 ^ 64 - 1)

abbrev pub sizes_of : List State → List ℕ
sizes_of ts = map size_of ts

-- ys are the numbers xs in rising order
pub record Ordered (xs ys : List ℕ) : Type 0 where
  pub same : IsPermutation xs ys
  pub order : IsNonDecreasing ys
