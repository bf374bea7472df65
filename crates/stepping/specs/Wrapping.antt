-- What comes of one outcome of a part.
use Rattle.std.specs.Prelude.{ℕ, List, [], ◌∷◌}
use Rattle.calculus.specs.Vocabulary.{Var, And}
use Rattle.calculus.specs.Numbers.{lookup, compatible, union}
use Rattle.calculus.specs.Graphs.{Graph}
use Rattle.calculus.specs.States.{pair, filter}
use Rattle.calculus.specs.Lists.{gather}
use Rattle.calculus.specs.Outcomes.{when, released}
use Rattle.calculus.specs.Steps.{Outcome}

-- both sides have stepped, where their bindings agree
abbrev pub with_one : Outcome → Outcome → List Outcome
with_one x y = when (compatible x.1 y.1) (pair And x.0 y.0, union x.1 y.1)

abbrev pub with_each : List Outcome → Outcome → List Outcome
with_each ys x = gather (with_one x) ys

-- below a binder state
abbrev pub outcomes_under_binder : Graph → Var → Outcome → List Outcome
outcomes_under_binder G v x = released G v (lookup x.1 v) x ∷ []

-- below a filter state
abbrev pub outcomes_under_filter : ℕ → Outcome → List Outcome
outcomes_under_filter n x = (filter n x.0, x.1) ∷ []
