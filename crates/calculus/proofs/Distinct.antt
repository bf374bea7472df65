-- No outcome stands twice in the list of outcomes, and no state in the list of held states: their lengths count different ones.
use Rattle.std.proofs.Common.{ℕ, zero, suc, Bool, true, false, List, [], ◌∷◌}
use Rattle.calculus.specs.Vocabulary.{Binder, Empty, Filter, Meaning, Node, None, Op, Option, Pair, Prefix, Some, Substitution, Var}
use Rattle.calculus.specs.Numbers.{lookup, no_numbers, restrict, without}
use Rattle.calculus.specs.Matching.{bind, passes, passes_at}
use Rattle.calculus.specs.Graphs.{Graph}
use Rattle.calculus.specs.States.{binder, child, filter, leaf, may_end, pair, State}
use Rattle.calculus.specs.Steps.{Outcome}
use Rattle.calculus.specs.Lists.{Distinct, gather}
use Rattle.calculus.specs.Equality.{same_outcome, same_state}
use Rattle.calculus.specs.Outcomes.{after, binder_outcomes, filter_outcomes, node_outcomes, on_match, outcomes, paired, pair_outcomes, released, unique}
use Rattle.calculus.proofs.Members.{once_distinct}
use Rattle.calculus.proofs.Equality.{same_out_refl, same_state_refl}

unique_distinct : (xs : List Outcome) → Distinct (unique xs)
unique_distinct xs = once_distinct same_outcome same_out_refl [] xs tt

pub after_distinct : (G : Graph) (e : Meaning) (ts : List State) → Distinct (after G e ts)
after_distinct G e ts = once_distinct same_state same_state_refl [] (gather (λ t. gather (λ x. x.0 ∷ []) (outcomes G e t)) ts) tt

one_distinct : (x : Outcome) → Distinct (x ∷ [])
one_distinct x = ((λ i. i), tt)

filters_distinct : (n : ℕ) (b : Bool) (t : State) (xs : List Outcome) → Distinct (filter_outcomes n b t xs)
filters_distinct n true t xs = unique_distinct (gather (λ (x : Outcome). (filter n x.0, x.1) ∷ []) xs)
filters_distinct n false t xs = one_distinct (t, no_numbers)

matched_distinct : (o : Option Substitution) (t : State) → Distinct (on_match o t)
matched_distinct None t = tt
matched_distinct (Some β) t = one_distinct (t, β)

module _ (G : Graph) (e : Meaning) where
  op_distinct : (o : Op) (l r : State) (ls rs : List Outcome) → Distinct (pair_outcomes o l r (may_end G l) ls rs)
  op_distinct o l r ls rs = unique_distinct (paired o l r (may_end G l) ls rs)

  binder_distinct : (v : Var) (xs : List Outcome) → Distinct (binder_outcomes G v xs)
  binder_distinct v xs = unique_distinct (gather (λ x. released G v (lookup x.1 v) x ∷ []) xs)

  node_distinct : (f n : ℕ) (σ : Substitution) (nd : Node) → Distinct (node_outcomes G e f n σ nd)
  node_distinct zero n σ nd = tt
  node_distinct (suc f) n σ Empty = tt
  node_distinct (suc f) n σ (Prefix p t) = matched_distinct (bind σ p e) (child G t σ)
  node_distinct (suc f) n σ (Pair o a b) =
      op_distinct o (child G a σ) (child G b σ) (node_outcomes G e f a (restrict (G.free a) σ) (G.node a)) (node_outcomes G e f b (restrict (G.free b) σ) (G.node b))
  node_distinct (suc f) n σ (Binder v c) = binder_distinct v (node_outcomes G e f c (restrict (G.free c) (without v σ)) (G.node c))
  node_distinct (suc f) n σ (Filter p c) =
      filters_distinct n (passes p e) (leaf n σ) (node_outcomes G e f c (restrict (G.free c) σ) (G.node c))

  pub outcomes_distinct : (t : State) → Distinct (outcomes G e t)
  outcomes_distinct (leaf n σ) = node_distinct (suc (G.rank n)) n σ (G.node n)
  outcomes_distinct (pair o l r) = op_distinct o l r (outcomes G e l) (outcomes G e r)
  outcomes_distinct (binder v t) = binder_distinct v (outcomes G e t)
  outcomes_distinct (filter n t) = filters_distinct n (passes_at (G.node n) e) (filter n t) (outcomes G e t)
