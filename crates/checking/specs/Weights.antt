-- The weight of a node: 1, and the weights of those that its unguarded links lead to.
use Rattle.std.specs.Prelude.{◌≡◌, ℕ, suc, ◌+◌, ◌<◌, List, [], ◌∷◌, Some, None, Option}
use Rattle.rules.specs.declared.node.Node.{Node}
use Rattle.checking.specs.declared.links.Links.TheVariants.{Unguarded}
use Rattle.checking.specs.Links.{targets}

abbrev pub most_weight : ℕ
most_weight = 1000

-- nodes weigh so much together
pub data Weigh (g : ℕ → Node) : List ℕ → ℕ → Type 0 where
  none : Weigh g [] 0
  some : {n : ℕ} {ns : List ℕ} {x y : ℕ} → Weigh g (targets Unguarded (g n)) x → Weigh g ns y → Weigh g (n ∷ ns) (suc x + y)

-- what a weight leaves of a limit: nothing at all where it is over
abbrev pub Leaves : Option ℕ → ℕ → ℕ → Type 0
Leaves None m w = m < w
Leaves (Some left) m w = left + w ≡ m
