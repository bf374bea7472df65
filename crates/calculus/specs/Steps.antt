-- The steps of a state at an event: each outcome is a state and a binding of variables that no binder state below it binds.
use Rattle.std.specs.Prelude.{◌≡◌, ℕ, true, false, List, [], ◌∷◌, ◌++◌}
use Rattle.calculus.specs.Vocabulary.{And, Binder, Concat, Filter, Meaning, None, Op, Or, Pair, Pattern, Prefix, Shuffle, Some, Substitution, Var}
use Rattle.calculus.specs.Numbers.{compatible, lookup, no_numbers, union, without}
use Rattle.calculus.specs.Matching.{bind, passes_at}
use Rattle.calculus.specs.Graphs.{Graph}
use Rattle.calculus.specs.States.{binder, child, filter, leaf, may_end, pair, settle, State}

-- an outcome is a state and a binding
abbrev pub Outcome : Type 0
Outcome = State × Substitution

-- Step G e t s β: at the event e the state t steps to s, and binds β
pub data Step (G : Graph) (e : Meaning) : State → State → Substitution → Type 0 where
  -- a leaf of a prefix: on a match, its tail and the binding
  prefix_step : {n : ℕ} {σ : Substitution} {p : Pattern} {t : ℕ} {β : Substitution} →
      G.node n ≡ Prefix p t → bind σ p e ≡ Some β → Step G e (leaf n σ) (child G t σ) β
  -- a leaf of a pair steps as the pair of its children, one of a binder as a binder state with the variable unsettled
  as_pair : {n : ℕ} {σ : Substitution} {o : Op} {a b : ℕ} {s : State} {β : Substitution} →
      G.node n ≡ Pair o a b → Step G e (pair o (child G a σ) (child G b σ)) s β → Step G e (leaf n σ) s β
  as_binder : {n : ℕ} {σ : Substitution} {v : Var} {c : ℕ} {s : State} {β : Substitution} →
      G.node n ≡ Binder v c → Step G e (binder v (child G c (without v σ))) s β → Step G e (leaf n σ) s β
  -- a leaf of a filter: where the event passes, a filter state over the child's outcome; otherwise itself
  as_filter : {n : ℕ} {σ : Substitution} {p : Pattern} {c : ℕ} {s : State} {β : Substitution} →
      G.node n ≡ Filter p c → passes_at (G.node n) e ≡ true → Step G e (child G c σ) s β → Step G e (leaf n σ) (filter n s) β
  leaf_stays : {n : ℕ} {σ : Substitution} {p : Pattern} {c : ℕ} →
      G.node n ≡ Filter p c → passes_at (G.node n) e ≡ false → Step G e (leaf n σ) (leaf n σ) no_numbers
  -- or: the outcomes of both sides
  left : {l r s : State} {β : Substitution} → Step G e l s β → Step G e (pair Or l r) s β
  right : {l r s : State} {β : Substitution} → Step G e r s β → Step G e (pair Or l r) s β
  -- and: each two outcomes whose bindings agree
  together : {l r s t : State} {β γ : Substitution} → Step G e l s β → Step G e r t γ → compatible β γ ≡ true →
      Step G e (pair And l r) (pair And s t) (union β γ)
  -- shuffle: one side steps, the other remains
  shuffle_left : {l r s : State} {β : Substitution} → Step G e l s β → Step G e (pair Shuffle l r) (pair Shuffle s r) β
  shuffle_right : {l r s : State} {β : Substitution} → Step G e r s β → Step G e (pair Shuffle l r) (pair Shuffle l s) β
  -- concatenation: the first part steps; or, where it may end, the second part goes on alone
  first : {l r s : State} {β : Substitution} → Step G e l s β → Step G e (pair Concat l r) (pair Concat s r) β
  second : {l r s : State} {β : Substitution} → may_end G l ≡ true → Step G e r s β → Step G e (pair Concat l r) s β
  -- binder state: a binding that has the variable settles it everywhere below; otherwise the binder state remains
  settles : {v : Var} {k : ℕ} {t s : State} {β : Substitution} → Step G e t s β → lookup β v ≡ Some k →
      Step G e (binder v t) (settle G v k s) (without v β)
  remains : {v : Var} {t s : State} {β : Substitution} → Step G e t s β → lookup β v ≡ None → Step G e (binder v t) (binder v s) β
  -- filter state: where the event passes it steps below; otherwise it stays as it is
  passes_on : {n : ℕ} {t s : State} {β : Substitution} → passes_at (G.node n) e ≡ true → Step G e t s β → Step G e (filter n t) (filter n s) β
  stays : {n : ℕ} {t : State} → passes_at (G.node n) e ≡ false → Step G e (filter n t) (filter n t) no_numbers

-- the state from which every run starts: node 0 with no number settled
abbrev pub start : State
start = leaf 0 no_numbers

-- the events of a list, in their order, lead from the start to a state
pub data Reached (G : Graph) : List Meaning → State → Type 0 where
  at_start : Reached G [] start
  by_step : {es : List Meaning} {t s : State} {β : Substitution} (e : Meaning) → Reached G es t → Step G e t s β → Reached G (es ++ (e ∷ [])) s
