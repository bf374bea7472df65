-- The executable mirror of the steps: the outcomes of a state as a list, each once, in the order in which code finds them.
use Rattle.std.specs.Prelude.{ℕ, zero, suc, Bool, true, false, cond, List, [], ◌∷◌, ◌++◌}
use Rattle.calculus.specs.Vocabulary.{And, Binder, Concat, Empty, Filter, Meaning, Node, None, Op, Option, Or, Pair, Prefix, Shuffle, Some, Substitution, Var}
use Rattle.calculus.specs.Numbers.{compatible, lookup, no_numbers, restrict, union, without}
use Rattle.calculus.specs.Matching.{bind, passes, passes_at}
use Rattle.calculus.specs.Graphs.{Graph}
use Rattle.calculus.specs.States.{binder, child, filter, leaf, may_end, pair, settle, State}
use Rattle.calculus.specs.Steps.{Outcome}
use Rattle.calculus.specs.Lists.{gather, once}
use Rattle.calculus.specs.Equality.{same_outcome, same_state}

-- each outcome of a list once
abbrev pub unique : List Outcome → List Outcome
unique xs = once same_outcome [] xs

-- the outcome of a prefix, on a match
abbrev pub on_match : Option Substitution → State → List Outcome
on_match None t = []
on_match (Some β) t = (t, β) ∷ []

-- the outcome, where the test passed
abbrev pub when : Bool → Outcome → List Outcome
when true x = x ∷ []
when false x = []

-- the outcomes of a pair from those of its sides; b says whether the left side may end
abbrev pub paired : Op → State → State → Bool → List Outcome → List Outcome → List Outcome
paired Or l r b ls rs = ls ++ rs
paired And l r b ls rs =
    gather (λ x. gather (λ y. when (compatible x.1 y.1) (pair And x.0 y.0, union x.1 y.1)) rs) ls
paired Concat l r b ls rs = gather (λ x. (pair Concat x.0 r, x.1) ∷ []) ls ++ cond b rs []
paired Shuffle l r b ls rs =
    gather (λ x. (pair Shuffle x.0 r, x.1) ∷ []) ls ++ gather (λ x. (pair Shuffle l x.0, x.1) ∷ []) rs

-- the same, each once
abbrev pub pair_outcomes : Op → State → State → Bool → List Outcome → List Outcome → List Outcome
pair_outcomes o l r b ls rs = unique (paired o l r b ls rs)

-- an outcome below a binder state, where the binding has this number for its variable, if any
abbrev pub released : Graph → Var → Option ℕ → Outcome → Outcome
released G v None x = (binder v x.0, x.1)
released G v (Some k) x = (settle G v k x.0, without v x.1)

-- the outcomes of a binder state from those below it
abbrev pub binder_outcomes : Graph → Var → List Outcome → List Outcome
binder_outcomes G v xs = unique (gather (λ x. released G v (lookup x.1 v) x ∷ []) xs)

-- the outcomes at a filter from those below it, where the event passes; otherwise the state itself
abbrev pub filter_outcomes : ℕ → Bool → State → List Outcome → List Outcome
filter_outcomes n true t xs = unique (gather (λ x. (filter n x.0, x.1) ∷ []) xs)
filter_outcomes n false t xs = (t, no_numbers) ∷ []

-- the outcomes of a leaf; the first number bounds the depth, and one more than the rank is enough
abbrev pub node_outcomes : Graph → Meaning → ℕ → ℕ → Substitution → Node → List Outcome
node_outcomes G e zero n σ nd = []
node_outcomes G e (suc f) n σ Empty = []
node_outcomes G e (suc f) n σ (Prefix p t) = on_match (bind σ p e) (child G t σ)
node_outcomes G e (suc f) n σ (Pair o a b) =
    pair_outcomes o (child G a σ) (child G b σ) (may_end G (child G a σ))
    (node_outcomes G e f a (restrict (G.free a) σ) (G.node a)) (node_outcomes G e f b (restrict (G.free b) σ) (G.node b))
node_outcomes G e (suc f) n σ (Binder v c) =
    binder_outcomes G v (node_outcomes G e f c (restrict (G.free c) (without v σ)) (G.node c))
node_outcomes G e (suc f) n σ (Filter p c) =
    filter_outcomes n (passes p e) (leaf n σ) (node_outcomes G e f c (restrict (G.free c) σ) (G.node c))

-- the outcomes of a state at an event
abbrev pub outcomes : Graph → Meaning → State → List Outcome
outcomes G e (leaf n σ) = node_outcomes G e (suc (G.rank n)) n σ (G.node n)
outcomes G e (pair o l r) = pair_outcomes o l r (may_end G l) (outcomes G e l) (outcomes G e r)
outcomes G e (binder v t) = binder_outcomes G v (outcomes G e t)
outcomes G e (filter n t) = filter_outcomes n (passes_at (G.node n) e) (filter n t) (outcomes G e t)

-- the states that held states step to, each once
abbrev pub after : Graph → Meaning → List State → List State
after G e ts = once same_state [] (gather (λ t. gather (λ x. x.0 ∷ []) (outcomes G e t)) ts)
