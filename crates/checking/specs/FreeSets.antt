-- For each variable the set of nodes in which it is free.
use Rattle.std.specs.Prelude.{ℕ, Bool, true, false, ◌&&◌, nat_lt}
use Rattle.rules.specs.declared.node.Var.{Var}
use Rattle.rules.specs.declared.by_var.ByVar.{ByVar}
use Rattle.rules.specs.ByVar.{at, tabulate}
use Rattle.rules.specs.declared.node.Node.{Node}
use Rattle.rules.specs.Layout.{most_nodes}
use Rattle.checking.specs.declared.links.Links.TheVariants.{Free}
use Rattle.checking.specs.declared.set.NodeSet.{NodeSet}
use Rattle.checking.specs.Sets.{holds}
use Rattle.checking.specs.Links.{link}

abbrev pub FreeSets : Type 0
FreeSets = ByVar NodeSet

abbrev pub is_free : FreeSets → Var → ℕ → Bool
is_free s v n = nat_lt n most_nodes && holds (at s v) n

-- no variable is free anywhere
abbrev pub no_sets : FreeSets
no_sets = tabulate (λ v. record { bits = 0 })

abbrev pub implies : Bool → Bool → Bool
implies true b = b
implies false b = true

-- what is free in c is free in the node n that has a link to c, unless n binds it
abbrev pub passed : FreeSets → Node → ℕ → ℕ → Var → Bool
passed s nd n c v = implies (link (Free v) nd c && is_free s v c) (is_free s v n)
