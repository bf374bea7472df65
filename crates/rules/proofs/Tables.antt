-- A value for each variable is known by the value of each.
use Rattle.std.proofs.Common.{◌≡◌}
use Rattle.rules.specs.declared.node.Var.{Var}
use Rattle.rules.specs.declared.node.Var.TheVariants.{V0, V1, V2, V3}
use Rattle.rules.specs.declared.by_var.ByVar.{ByVar}
use Rattle.rules.specs.ByVar.{at, tabulate}

pub tabulated : {T : Type 0} (s : ByVar T) (f : Var → T) → ((v : Var) → at s v ≡ f v) → s ≡ tabulate f
tabulated s f e =
    let p0 = e V0 in
    let p1 = e V1 in
    let p2 = e V2 in
    let p3 = e V3 in
    λ i. record { v0 = p0 i; v1 = p1 i; v2 = p2 i; v3 = p3 i }
