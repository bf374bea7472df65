-- A value for each variable.
use Rattle.std.specs.Prelude.{ℕ, Option}
use Rattle.rules.specs.declared.node.Var.{Var}
use Rattle.rules.specs.declared.node.Var.TheVariants.{V0, V1, V2, V3}
use Rattle.rules.specs.declared.by_var.ByVar.{ByVar}

-- the value of a variable
abbrev pub at : {T : Type 0} → ByVar T → Var → T
at s V0 = s.v0
at s V1 = s.v1
at s V2 = s.v2
at s V3 = s.v3

-- these values
abbrev pub tabulate : {T : Type 0} → (Var → T) → ByVar T
tabulate f = record { v0 = f V0; v1 = f V1; v2 = f V2; v3 = f V3 }

-- a number for each variable that has one
abbrev pub Substitution : Type 0
Substitution = ByVar (Option ℕ)
