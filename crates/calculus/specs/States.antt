-- States: trees that say where each part of a rule stands, when they may end, and which lists they allow.
use Rattle.std.specs.Prelude.{◌≡◌, ℕ, zero, suc, ◌+◌, Bool, true, false, cond, ◌&&◌, ◌||◌, ◌⊎◌, List}
use Rattle.calculus.specs.Vocabulary.{Option, None, Some, Var, Op, Or, And, Concat, Shuffle, Node, Empty, Prefix, Pair, Binder, Filter, Substitution, Meaning, same}
use Rattle.calculus.specs.Numbers.{Choice, lookup, restrict, assign, over, update}
use Rattle.calculus.specs.Matching.{Narrow, passes_at, select}
use Rattle.calculus.specs.Graphs.{Graph}
use Rattle.calculus.specs.Reading.{Mode, whole, beginning, Deal, Cut, Permits}

-- a leaf is a node with settled numbers; a pair, a binder state (a variable) and a filter state (a node) stand over states
pub data State : Type 0 where
  leaf : ℕ → Substitution → State
  pair : Op → State → State → State
  binder : Var → State → State
  filter : ℕ → State → State

-- every part of the tree is one cell
abbrev pub cells : State → ℕ
cells (leaf n σ) = 1
cells (pair o l r) = 1 + (cells l + cells r)
cells (binder v t) = 1 + cells t
cells (filter n t) = 1 + cells t

-- the leaf of a child: of the settled numbers it has those that are free there
abbrev pub child : Graph → ℕ → Substitution → State
child G n σ = leaf n (restrict (G.free n) σ)

-- a pair may end: an or where either side may, any other where both may
abbrev pub pair_ends : Op → Bool → Bool → Bool
pair_ends Or x y = x || y
pair_ends And x y = x && y
pair_ends Concat x y = x && y
pair_ends Shuffle x y = x && y

-- a node may end; the first number bounds the depth, and one more than the rank is enough
abbrev pub node_ends : Graph → ℕ → Node → Bool
node_ends G zero nd = false
node_ends G (suc f) Empty = true
node_ends G (suc f) (Prefix p t) = false
node_ends G (suc f) (Pair o a b) = pair_ends o (node_ends G f (G.node a)) (node_ends G f (G.node b))
node_ends G (suc f) (Binder v c) = node_ends G f (G.node c)
node_ends G (suc f) (Filter p c) = node_ends G f (G.node c)

-- a state may end: binder and filter states as what they stand over
abbrev pub may_end : Graph → State → Bool
may_end G (leaf n σ) = node_ends G (suc (G.rank n)) (G.node n)
may_end G (pair o l r) = pair_ends o (may_end G l) (may_end G r)
may_end G (binder v t) = may_end G t
may_end G (filter n t) = may_end G t

-- settle v in a leaf, where it is free and has no number yet
abbrev pub settle_leaf : Bool → Option ℕ → Var → ℕ → Substitution → Substitution
settle_leaf false o v k σ = σ
settle_leaf true None v k σ = assign v k σ
settle_leaf true (Some j) v k σ = σ

-- settle v in every leaf below, except under an inner binder state for v
abbrev pub settle : Graph → Var → ℕ → State → State
settle G v k (leaf n σ) = leaf n (settle_leaf (G.free n v) (lookup σ v) v k σ)
settle G v k (pair o l r) = pair o (settle G v k l) (settle G v k r)
settle G v k (binder w t) = cond (same v w) (binder w t) (binder w (settle G v k t))
settle G v k (filter n t) = filter n (settle G v k t)

-- a variable is unsettled in a state: free in some leaf, with no number there, and under no binder state for it
abbrev pub Unsettled : Graph → Var → State → Type 0
Unsettled G v (leaf n σ) = (G.free n v ≡ true) × (lookup σ v ≡ None)
Unsettled G v (pair o l r) = Unsettled G v l ⊎ Unsettled G v r
Unsettled G v (binder w t) = (same w v ≡ false) × Unsettled G v t
Unsettled G v (filter n t) = Unsettled G v t

-- no variable is unsettled in a state
abbrev pub Closed : Graph → State → Type 0
Closed G t = (v : Var) → Unsettled G v t → ⊥

-- which lists are allowed, whole and as a beginning
abbrev pub Language : Type 1
Language = Mode → List Meaning → Type 0

-- the language of a pair from those of its sides, as the reading has it for the operator
abbrev pub Combined : Op → Language → Language → Language
Combined Or L K m es = L m es ⊎ K m es
Combined And L K m es = L m es × K m es
Combined Concat L K m es =
    ((m ≡ beginning) × L beginning es) ⊎
    ((xs : List Meaning) × (ys : List Meaning) × Cut xs ys es × L whole xs × K m ys)
Combined Shuffle L K m es = (xs : List Meaning) × (ys : List Meaning) × Deal xs ys es × L m xs × K m ys

-- the reading of a state, for numbers chosen beforehand
abbrev pub Allows : Graph → State → Choice → Language
Allows G (leaf n σ) ρ m es = Permits G.node m (G.node n) (over σ ρ) es
Allows G (pair o l r) ρ m es = Combined o (Allows G l ρ) (Allows G r ρ) m es
Allows G (binder v t) ρ m es = (k : ℕ) × Narrow k × Allows G t (update ρ v k) m es
Allows G (filter n t) ρ m es = Allows G t ρ m (select (passes_at (G.node n)) es)
