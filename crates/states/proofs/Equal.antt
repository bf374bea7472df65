-- The derived equality of trees is that of states.
use Rattle.std.proofs.Common.{◌≡◌, Bool, ◌&&◌, ℕ, eqb, refl, ◌∙◌, ap, ap₂}
use Rattle.std.specs.Option.{option_eq}
use Rattle.rules.specs.contracts.node.OpPartialEq.TheImpl as ops
use Rattle.rules.specs.contracts.node.VarPartialEq.TheImpl as vars
use Rattle.calculus.specs.Vocabulary.{None, Op, Option, Or, And, Concat, Shuffle, Some, Var, V0, V1, V2, V3, Substitution, same}
use Rattle.calculus.specs.Equality.{same_number, same_numbers, same_op, same_state}
use Rattle.states.specs.contracts.tree.TreePartialEq.TheImpl.{ghosts}
use Rattle.states.specs.contracts.tree.TreePartialEq.TheImpl.Laws.{is}
use Rattle.states.specs.declared.tree.Tree.{Tree}
use Rattle.states.specs.declared.tree.Tree.TheVariants.{Leaf, Pair', Binder', Filter'}
use Rattle.states.specs.State.{state}

op_same : (o p : Op) → ops.ghosts.eq o p ≡ same_op o p
op_same Or Or = refl
op_same Or And = refl
op_same Or Concat = refl
op_same Or Shuffle = refl
op_same And Or = refl
op_same And And = refl
op_same And Concat = refl
op_same And Shuffle = refl
op_same Concat Or = refl
op_same Concat And = refl
op_same Concat Concat = refl
op_same Concat Shuffle = refl
op_same Shuffle Or = refl
op_same Shuffle And = refl
op_same Shuffle Concat = refl
op_same Shuffle Shuffle = refl

var_same : (v w : Var) → vars.ghosts.eq v w ≡ same v w
var_same V0 V0 = refl
var_same V0 V1 = refl
var_same V0 V2 = refl
var_same V0 V3 = refl
var_same V1 V0 = refl
var_same V1 V1 = refl
var_same V1 V2 = refl
var_same V1 V3 = refl
var_same V2 V0 = refl
var_same V2 V1 = refl
var_same V2 V2 = refl
var_same V2 V3 = refl
var_same V3 V0 = refl
var_same V3 V1 = refl
var_same V3 V2 = refl
var_same V3 V3 = refl

number_same : (o p : Option ℕ) → option_eq eqb o p ≡ same_number o p
number_same None None = refl
number_same None (Some k) = refl
number_same (Some j) None = refl
number_same (Some j) (Some k) = refl

both : {a b c d : Bool} → a ≡ b → c ≡ d → (a && c) ≡ (b && d)
both p q = ap₂ (λ (x y : Bool). x && y) p q

-- the derived equality of substitutions is that of the calculus
pub numbers_same : (σ τ : Substitution) →
    (option_eq eqb σ.v0 τ.v0 && (option_eq eqb σ.v1 τ.v1 && (option_eq eqb σ.v2 τ.v2 && option_eq eqb σ.v3 τ.v3))) ≡ same_numbers σ τ
numbers_same σ τ =
    both (number_same σ.v0 τ.v0) (both (number_same σ.v1 τ.v1) (both (number_same σ.v2 τ.v2) (number_same σ.v3 τ.v3)))

-- the derived equality of trees is that of their states
pub tree_same : (a b : Tree) → ghosts.eq a b ≡ same_state (state a) (state b)
tree_same (Leaf n σ) (Leaf m τ) = is (Leaf n σ) (Leaf m τ) ∙ ap (λ (c : Bool). eqb n m && c) (numbers_same σ τ)
tree_same (Leaf n σ) (Pair' o p l q r) = is (Leaf n σ) (Pair' o p l q r)
tree_same (Leaf n σ) (Binder' v p t) = is (Leaf n σ) (Binder' v p t)
tree_same (Leaf n σ) (Filter' m p t) = is (Leaf n σ) (Filter' m p t)
tree_same (Pair' o p l q r) (Leaf m τ) = is (Pair' o p l q r) (Leaf m τ)
tree_same (Pair' o p l q r) (Pair' o' p' l' q' r') = is (Pair' o p l q r) (Pair' o' p' l' q' r') ∙ both (op_same o o') (both (tree_same l l') (tree_same r r'))
tree_same (Pair' o p l q r) (Binder' v p' t) = is (Pair' o p l q r) (Binder' v p' t)
tree_same (Pair' o p l q r) (Filter' m p' t) = is (Pair' o p l q r) (Filter' m p' t)
tree_same (Binder' w p s) (Leaf m τ) = is (Binder' w p s) (Leaf m τ)
tree_same (Binder' w p s) (Pair' o q l q' r) = is (Binder' w p s) (Pair' o q l q' r)
tree_same (Binder' w p s) (Binder' v q t) = is (Binder' w p s) (Binder' v q t) ∙ both (var_same w v) (tree_same s t)
tree_same (Binder' w p s) (Filter' m q t) = is (Binder' w p s) (Filter' m q t)
tree_same (Filter' n p s) (Leaf m τ) = is (Filter' n p s) (Leaf m τ)
tree_same (Filter' n p s) (Pair' o q l q' r) = is (Filter' n p s) (Pair' o q l q' r)
tree_same (Filter' n p s) (Binder' v q t) = is (Filter' n p s) (Binder' v q t)
tree_same (Filter' n p s) (Filter' m q t) = is (Filter' n p s) (Filter' m q t) ∙ ap (λ (c : Bool). eqb n m && c) (tree_same s t)
