-- The variables and their numbers.
use Rattle.std.specs.Prelude.{ℕ, Bool, cond, Ok, Err, Result, ◌==◌}
use Rattle.rules.specs.declared.node.Var.{Var}
use Rattle.rules.specs.declared.node.Var.TheVariants.{V0, V1, V2, V3}
use Rattle.rules.specs.declared.node.UnknownVar.{UnknownVar}

abbrev pub index_of : Var → ℕ
index_of V0 = 0
index_of V1 = 1
index_of V2 = 2
index_of V3 = 3

abbrev pub same : Var → Var → Bool
same a b = index_of a == index_of b

-- the variable with a number, which is 0 to 3
abbrev pub numbered : ℕ → Result Var UnknownVar
numbered n = cond (n == 0) (Ok V0) (cond (n == 1) (Ok V1) (cond (n == 2) (Ok V2) (cond (n == 3) (Ok V3) (Err (record { 0 = n })))))
