-- The state that a tree in memory is.
use Rattle.calculus.specs.States.{State, leaf, pair, binder, filter}
use Rattle.states.specs.declared.tree.Tree.{Tree}
use Rattle.states.specs.declared.tree.Tree.TheVariants.{Leaf, Pair', Binder', Filter'}

abbrev pub state : Tree → State
state (Leaf n σ) = leaf n σ
state (Pair' o p l q r) = pair o (state l) (state r)
state (Binder' v p t) = binder v (state t)
state (Filter' n p t) = filter n (state t)
