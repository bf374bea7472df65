-- Which node leads to which.
use Rattle.std.specs.Prelude.{◌≡◌, ℕ, ◌<◌, Bool, true, false, cond, ◌&&◌, ◌||◌, List, [], ◌∷◌, ◌==◌, nat_lt, slice_index, slice_index_or}
use Rattle.rules.specs.declared.node.Var.{Var}
use Rattle.rules.specs.declared.node.Slot.{Slot}
use Rattle.rules.specs.declared.node.Slot.TheVariants.{Any, Constant, Variable}
use Rattle.rules.specs.declared.node.Node.{Node}
use Rattle.rules.specs.declared.node.Node.TheVariants.{Empty, Prefix, Pair, Binder, Filter}
use Rattle.rules.specs.Layout.{most_nodes}
use Rattle.rules.specs.Vars.{same}
use Rattle.checking.specs.declared.links.Links.{Links}
use Rattle.checking.specs.declared.links.Links.TheVariants.{Unguarded, Free}
use Rattle.checking.specs.declared.links.Children.{Children}
use Rattle.checking.specs.declared.links.Children.TheVariants.{None, One, Two}

-- Where the links of a node lead. Unguarded links, all but a prefix's, count for loops, weights and ranks; a variable stays free
-- along every link but those of a binder for it.
abbrev pub targets : Links → Node → List ℕ
targets w Empty = []
targets Unguarded (Prefix p t) = []
targets (Free v) (Prefix p t) = t ∷ []
targets w (Pair o a b) = a ∷ b ∷ []
targets Unguarded (Binder u c) = c ∷ []
targets (Free v) (Binder u c) = cond (same u v) [] (c ∷ [])
targets w (Filter p c) = c ∷ []

abbrev pub listed : Children → List ℕ
listed None = []
listed (One c) = c ∷ []
listed (Two a b) = a ∷ b ∷ []

abbrev pub among : ℕ → List ℕ → Bool
among j [] = false
among j (x ∷ xs) = x == j || among j xs

-- a link leads from the node to j
abbrev pub link : Links → Node → ℕ → Bool
link w n j = among j (targets w n)

-- node k of some nodes; empty past the end
abbrev pub node : List Node → ℕ → Node
node ns k = slice_index_or ns k Empty

-- a link leads from node i to node j
abbrev pub links : Links → (ℕ → Node) → ℕ → ℕ → Bool
links w g i j = link w (g i) j

abbrev pub slot_names : Var → Slot → Bool
slot_names v Any = false
slot_names v (Constant k) = false
slot_names v (Variable w) = same w v

-- the pattern of the node names v; that of a filter never does
abbrev pub names : Var → Node → Bool
names v Empty = false
names v (Prefix p t) = slot_names v p.player || (slot_names v p.card || slot_names v p.strokes)
names v (Pair o x y) = false
names v (Binder w c) = false
names v (Filter p c) = false

-- the children of the node are below n
abbrev pub inside : ℕ → Node → Bool
inside n Empty = true
inside n (Prefix p t) = nat_lt t n
inside n (Pair o a b) = nat_lt a n && nat_lt b n
inside n (Binder v c) = nat_lt c n
inside n (Filter p c) = nat_lt c n

abbrev pub Ranged : (ℕ → Node) → Type 0
Ranged g = (k : ℕ) → inside most_nodes (g k) ≡ true

-- each of these nodes has a rank below k
abbrev pub Falls : List ℕ → ℕ → List ℕ → Type 0
Falls ranks k [] = Unit {0}
Falls ranks k (c ∷ cs) = (slice_index ranks c < k) × Falls ranks k cs
