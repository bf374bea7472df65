-- A state has a cell at least.
use Rattle.std.proofs.Common.{◌≤◌, arith}
use Rattle.calculus.specs.States.{State, leaf, pair, binder, filter, cells}

pub cells_pos : (t : State) → 1 ≤ cells t
cells_pos (leaf n σ) = omega arith
cells_pos (pair o l r) = omega arith
cells_pos (binder v t) = omega arith
cells_pos (filter n t) = omega arith
