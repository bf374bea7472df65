-- Which parts of a state a step visits, and when a step is refused as full.
use Rattle.std.specs.Prelude.{◌≡◌, ℕ, ◌<◌, ◌≤◌, Bool, true, ◌↔◌, List, length}
use Rattle.calculus.specs.Vocabulary.{And, Binder, Concat, Filter, Meaning, Op, Or, Pair, Pattern, Shuffle, Substitution, Var}
use Rattle.calculus.specs.Numbers.{without}
use Rattle.calculus.specs.Matching.{passes, passes_at}
use Rattle.calculus.specs.Graphs.{Graph}
use Rattle.calculus.specs.States.{binder, cells, child, filter, leaf, may_end, pair, State}
use Rattle.calculus.specs.Steps.{Outcome, Step}
use Rattle.calculus.specs.Lists.{Distinct, In}

-- the second side of a pair is visited too; that of a concatenation only where the first may end
abbrev pub visits_second : Op → Bool → Bool
visits_second Or b = true
visits_second And b = true
visits_second Concat b = b
visits_second Shuffle b = true

-- Visits G e t p: at the event e, a step of t visits the part p
pub data Visits (G : Graph) (e : Meaning) : State → State → Type 0 where
  itself : {t : State} → Visits G e t t
  in_pair_left : {n : ℕ} {σ : Substitution} {o : Op} {a b : ℕ} {p : State} → G.node n ≡ Pair o a b → Visits G e (child G a σ) p → Visits G e (leaf n σ) p
  in_pair_right : {n : ℕ} {σ : Substitution} {o : Op} {a b : ℕ} {p : State} → G.node n ≡ Pair o a b → visits_second o (may_end G (child G a σ)) ≡ true →
      Visits G e (child G b σ) p → Visits G e (leaf n σ) p
  in_binder : {n : ℕ} {σ : Substitution} {v : Var} {c : ℕ} {p : State} → G.node n ≡ Binder v c → Visits G e (child G c (without v σ)) p → Visits G e (leaf n σ) p
  in_filter : {n : ℕ} {σ : Substitution} {q : Pattern} {c : ℕ} {p : State} → G.node n ≡ Filter q c → passes q e ≡ true →
      Visits G e (child G c σ) p → Visits G e (leaf n σ) p
  on_left : {o : Op} {l r p : State} → Visits G e l p → Visits G e (pair o l r) p
  on_right : {o : Op} {l r p : State} → visits_second o (may_end G l) ≡ true → Visits G e r p → Visits G e (pair o l r) p
  under_binder : {v : Var} {t p : State} → Visits G e t p → Visits G e (binder v t) p
  under_filter : {n : ℕ} {t p : State} → passes_at (G.node n) e ≡ true → Visits G e t p → Visits G e (filter n t) p

-- a part has an outcome of over 64 cells, or over 16 different outcomes
pub data Overflows (G : Graph) (e : Meaning) (p : State) : Type 0 where
  large : (s : State) (β : Substitution) → Step G e p s β → 64 < cells s → Overflows G e p
  many : (xs : List Outcome) → 16 < length xs → Distinct xs → ((x : Outcome) → In x xs → Step G e p x.0 x.1) → Overflows G e p

-- a visited part of a state does so
pub record OverflowsWithin (G : Graph) (e : Meaning) (t : State) : Type 0 where
  pub part : State
  pub visited : Visits G e t part
  pub over : Overflows G e part

-- xs are the steps of t, each once, few and small, and no visited part overflows
pub record Exactly (G : Graph) (e : Meaning) (t : State) (xs : List Outcome) : Type 0 where
  pub steps : (s : State) (β : Substitution) → In {A = Outcome} (s, β) xs ↔ Step G e t s β
  pub distinct : Distinct xs
  pub few : length xs ≤ 16
  pub small : (x : Outcome) → In x xs → cells x.0 ≤ 64
  pub within : OverflowsWithin G e t → ⊥

-- s is a state after e of one that is held
pub record Successor (G : Graph) (e : Meaning) (ts : List State) (s : State) : Type 0 where
  pub from : State
  pub is_held : In from ts
  pub binding : Substitution
  pub step : Step G e from s binding

-- showing e is refused as full: a visited part of a held state overflows, or the held states yield over 16 different states
pub data Full (G : Graph) (e : Meaning) (ts : List State) : Type 0 where
  in_a_part : (t : State) → In t ts → OverflowsWithin G e t → Full G e ts
  in_all : (ss : List State) → 16 < length ss → Distinct ss → ((s : State) → In s ss → Successor G e ts s) → Full G e ts
