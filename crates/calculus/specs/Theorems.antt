-- What is proved, for every checked rule.
use Rattle.std.specs.Prelude.{◌≡◌, ℕ, ◌≤◌, true, false, ◌&&◌, ◌||◌, ◌↔◌, List, [], ◌∷◌, length, take}
use Rattle.calculus.specs.Vocabulary.{Some, Var, Pattern, Node, Empty, Prefix, Pair, Binder, Filter, Substitution, Rule, Meaning}
use Rattle.calculus.specs.Numbers.{Choice, no_numbers, without, over, update, Agrees}
use Rattle.calculus.specs.Matching.{Proper, AllProper, Matches, bind, passes, passes_at}
use Rattle.calculus.specs.Graphs.{Graph, graph_of, NamesWithin, WellFormed, ClosedAtStart}
use Rattle.calculus.specs.Reading.{Mode, whole, beginning, Permits}
use Rattle.calculus.specs.States.{State, leaf, pair, binder, child, may_end, settle, Allows}
use Rattle.calculus.specs.Steps.{Outcome, Step, Reached}
use Rattle.calculus.specs.Lists.{In, Distinct}
use Rattle.calculus.specs.Outcomes.{filter_outcomes, outcomes}
use Rattle.calculus.specs.Visited.{OverflowsWithin, Exactly, Full}
use Rattle.calculus.specs.Fullness.{overflowing, full, refuses}
use Rattle.calculus.specs.Runs.{Run, begin, run, any_ends, verdict, Broken, MayEnd, Open}

-- an event matches under settled and chosen numbers, if and only if it gives a binding under the settled ones that agrees with the chosen
abbrev pub MatchingAgrees : Type 0
MatchingAgrees = (σ : Substitution) (p : Pattern) (e : Meaning) (ρ : Choice) →
    Matches (over σ ρ) p e ↔ ((β : Substitution) × (bind σ p e ≡ Some β) × Agrees β ρ)

-- an event passes a filter if and only if it matches the pattern, which names no variable
abbrev pub FilterMatches : Type 0
FilterMatches = (p : Pattern) (e : Meaning) (ρ : Choice) → NamesWithin p (λ v. false) → (passes p e ≡ true) ↔ Matches ρ p e

-- an outcome of t at e that agrees with the chosen numbers and allows the list
pub record StepsTo (G : Graph) (e : Meaning) (t : State) (ρ : Choice) (m : Mode) (es : List Meaning) : Type 0 where
  pub to : State
  pub binding : Substitution
  pub step : Step G e t to binding
  pub agrees : Agrees binding ρ
  pub on : Allows G to ρ m es

-- a state allows an event and then a list, if and only if some outcome that agrees with the chosen numbers allows the list
abbrev pub OneStep : Type 0
OneStep = (r : Rule) (e : Meaning) → Proper e → (t : State) (ρ : Choice) (m : Mode) (es : List Meaning) →
    Allows (graph_of r) t ρ m (e ∷ es) ↔ StepsTo (graph_of r) e t ρ m es

-- a state may end if and only if it allows the empty list whole; and every state allows the empty list as a beginning
abbrev pub Ending : Type 0
Ending = (r : Rule) (t : State) (ρ : Choice) →
    ((may_end (graph_of r) t ≡ true) ↔ Allows (graph_of r) t ρ whole []) × Allows (graph_of r) t ρ beginning []

-- to settle a variable is to choose its number beforehand
abbrev pub Settling : Type 0
Settling = (r : Rule) (t : State) (v : Var) (k : ℕ) (ρ : Choice) (m : Mode) (es : List Meaning) →
    Allows (graph_of r) (settle (graph_of r) v k t) ρ m es ↔ Allows (graph_of r) t (update ρ v k) m es

-- what a state allows does not depend on chosen numbers
abbrev pub Independent : Graph → State → Type 0
Independent G t = (ρ τ : Choice) (m : Mode) (es : List Meaning) → Allows G t ρ m es → Allows G t τ m es

-- states reached from the start need no chosen numbers, and their outcomes bind nothing
abbrev pub ReachedClosed : Type 0
ReachedClosed = (r : Rule) (es : List Meaning) (t : State) → Reached (graph_of r) es t →
    Independent (graph_of r) t × ((e : Meaning) (s : State) (β : Substitution) → Step (graph_of r) e t s β → β ≡ no_numbers)

-- n is the greatest number of events, from the front of es, that node 0 permits as a beginning
pub record Greatest (g : ℕ → Node) (ρ : Choice) (es : List Meaning) (n : ℕ) : Type 0 where
  pub within : n ≤ length es
  pub is : Permits g beginning (g 0) ρ (take n es)
  pub most : (k : ℕ) → k ≤ length es → Permits g beginning (g 0) ρ (take k es) → k ≤ n

-- what a run that was shown es says of the reading
pub record Follows (G : Graph) (ρ : Choice) (es : List Meaning) (M : Run) : Type 0 where
  pub shown : M.shown ≡ length es
  pub taken : Greatest G.node ρ es M.taken
  pub all : (M.taken ≡ M.shown) ↔ Permits G.node beginning (G.node 0) ρ es
  pub ends : (any_ends G M.states ≡ true) ↔ Permits G.node whole (G.node 0) ρ es
  pub broken : (verdict G M ≡ Broken) ↔ (Permits G.node beginning (G.node 0) ρ es → ⊥)
  pub may_end : (verdict G M ≡ MayEnd) ↔ Permits G.node whole (G.node 0) ρ es
  pub goes_on : (verdict G M ≡ Open) ↔ (Permits G.node beginning (G.node 0) ρ es × (Permits G.node whole (G.node 0) ρ es → ⊥))

-- after any proper events, whatever numbers are chosen, a run says what the reading says
abbrev pub RunsFollow : Type 0
RunsFollow = (r : Rule) (ρ : Choice) (es : List Meaning) → AllProper es → Follows (graph_of r) ρ es (run (graph_of r) es begin)

-- the events lead from the start to some state just where they are permitted as a beginning, and to one that may end just where they
-- are permitted whole
pub record ReadsReached (G : Graph) (ρ : Choice) (es : List Meaning) : Type 0 where
  pub begins : ((t : State) × Reached G es t) ↔ Permits G.node beginning (G.node 0) ρ es
  pub ends : ((t : State) × Reached G es t × (may_end G t ≡ true)) ↔ Permits G.node whole (G.node 0) ρ es

-- so it is after any proper events
abbrev pub StatesRead : Type 0
StatesRead = (r : Rule) (ρ : Choice) (es : List Meaning) → AllProper es → ReadsReached (graph_of r) ρ es

-- the held states are exactly those that the events lead to from the start, each once
abbrev pub HeldReached : Type 0
HeldReached = (r : Rule) (es : List Meaning) →
    ((t : State) → In t (run (graph_of r) es begin).states ↔ Reached (graph_of r) es t) × Distinct (run (graph_of r) es begin).states

-- ranks fall and free variables are closed, in every checked rule
abbrev pub CheckedRules : Type 0
CheckedRules = (r : Rule) → WellFormed (graph_of r) × ClosedAtStart (graph_of r)

-- the outcomes listed are exactly the steps, each once
abbrev pub Listed : Type 0
Listed = (r : Rule) (e : Meaning) (t : State) →
    ((s : State) (β : Substitution) → In {A = Outcome} (s, β) (outcomes (graph_of r) e t) ↔ Step (graph_of r) e t s β) × Distinct (outcomes (graph_of r) e t)

-- the test for full at one state is exact: a visited part overflows; where none does, the outcomes are few and small
abbrev pub FullAtState : Type 0
FullAtState = (r : Rule) (e : Meaning) (t : State) →
    ((full (graph_of r) e t ≡ true) ↔ OverflowsWithin (graph_of r) e t) × (full (graph_of r) e t ≡ false → Exactly (graph_of r) e t (outcomes (graph_of r) e t))

-- the test for full at the held states is exact: showing is refused
abbrev pub FullTogether : Type 0
FullTogether = (r : Rule) (e : Meaning) (ts : List State) → (refuses (graph_of r) e ts ≡ true) ↔ Full (graph_of r) e ts

-- two states may end alike, and have the same outcomes and the same answer to full
pub record Alike (G : Graph) (e : Meaning) (t s : State) : Type 0 where
  pub ends : may_end G t ≡ may_end G s
  pub listed : outcomes G e t ≡ outcomes G e s
  pub full : full G e t ≡ full G e s

-- a leaf of a filter: it ends as its child, and has a filter's outcomes over those of its child
pub record Filters (G : Graph) (e : Meaning) (n : ℕ) (σ : Substitution) (s : State) : Type 0 where
  pub ends : may_end G (leaf n σ) ≡ may_end G s
  pub listed : outcomes G e (leaf n σ) ≡ filter_outcomes n (passes_at (G.node n) e) (leaf n σ) (outcomes G e s)
  pub full : full G e (leaf n σ) ≡ (overflowing (outcomes G e (leaf n σ)) || (passes_at (G.node n) e && full G e s))

-- what a leaf computes to is what its children compute to: the bound on the depth, one more than the rank, is never met
abbrev pub Opens : Graph → Meaning → ℕ → Substitution → Node → Type 0
Opens G e n σ Empty = Unit {0}
Opens G e n σ (Prefix p t) = Unit {0}
Opens G e n σ (Pair o a b) = Alike G e (leaf n σ) (pair o (child G a σ) (child G b σ))
Opens G e n σ (Binder v c) = Alike G e (leaf n σ) (binder v (child G c (without v σ)))
Opens G e n σ (Filter p c) = Filters G e n σ (child G c σ)

-- so it is at every leaf
abbrev pub Opened : Type 0
Opened = (r : Rule) (e : Meaning) (n : ℕ) (σ : Substitution) → Opens (graph_of r) e n σ ((graph_of r).node n)
