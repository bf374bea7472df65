-- A rule as the mathematics sees it: its nodes, and in each node the free variables and the rank.
use Rattle.std.specs.Prelude.{◌≡◌, ℕ, ◌<◌, Bool, true, false, slice_index}
use Rattle.checking.specs.Links.{node as node_in}
use Rattle.checking.specs.FreeSets.{is_free}
use Rattle.calculus.specs.Vocabulary.{Var, Slot, Any, Constant, Variable, Pattern, Node, Empty, Prefix, Pair, Binder, Filter, Rule, same}

-- nodes by their numbers; the rank falls at every link that is not from a prefix
pub record Graph : Type 0 where
  pub node : ℕ → Node
  pub free : ℕ → Var → Bool
  pub rank : ℕ → ℕ

-- the graph of a checked rule: past its nodes there are empty ones
abbrev pub graph_of : Rule → Graph
graph_of r = record { node = node_in r.nodes; free = λ n v. is_free r.free v n; rank = λ n. slice_index r.rank n }

-- all variables of one set are in another
abbrev pub Within : (Var → Bool) → (Var → Bool) → Type 0
Within f g = (v : Var) → f v ≡ true → g v ≡ true

-- a slot of a pattern names the variable
abbrev pub Names : Var → Slot → Type 0
Names v Any = ⊥
Names v (Constant k) = ⊥
Names v (Variable w) = w ≡ v

-- the variables of a pattern are in the set
pub record NamesWithin (p : Pattern) (g : Var → Bool) : Type 0 where
  pub player : (v : Var) → Names v p.player → g v ≡ true
  pub card : (v : Var) → Names v p.card → g v ≡ true
  pub strokes : (v : Var) → Names v p.strokes → g v ≡ true

-- what holds at a node: ranks fall to children except from a prefix, and what is free in a child is free here unless bound here
abbrev pub WellFormedAt : Graph → ℕ → Node → Type 0
WellFormedAt G n Empty = Unit {0}
WellFormedAt G n (Prefix p t) = NamesWithin p (G.free n) × Within (G.free t) (G.free n)
WellFormedAt G n (Pair o a b) =
    (G.rank a < G.rank n) × (G.rank b < G.rank n) × Within (G.free a) (G.free n) × Within (G.free b) (G.free n)
WellFormedAt G n (Binder v c) = (G.rank c < G.rank n) × ((w : Var) → G.free c w ≡ true → same v w ≡ false → G.free n w ≡ true)
WellFormedAt G n (Filter p c) = (G.rank c < G.rank n) × Within (G.free c) (G.free n)

-- every node is so
abbrev pub WellFormed : Graph → Type 0
WellFormed G = (n : ℕ) → WellFormedAt G n (G.node n)

-- no variable is free in node 0
abbrev pub ClosedAtStart : Graph → Type 0
ClosedAtStart G = (v : Var) → G.free 0 v ≡ false
