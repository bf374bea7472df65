-- The reading: which lists of events a node permits, for chosen numbers. It knows no states and no order of working.
use Rattle.std.specs.Prelude.{ℕ, List, [], ◌∷◌}
use Rattle.calculus.specs.Vocabulary.{Var, Pattern, Or, And, Concat, Shuffle, Node, Empty, Prefix, Pair, Binder, Filter, Meaning}
use Rattle.calculus.specs.Numbers.{Choice, update}
use Rattle.calculus.specs.Matching.{Narrow, Matches, passes, select}

-- a list is permitted whole, or as a beginning
pub data Mode : Type 0 where
  whole beginning : Mode

-- zs is dealt into xs and ys, each in its order
pub data Deal : List Meaning → List Meaning → List Meaning → Type 0 where
  dealt : Deal [] [] []
  to_left : {x : Meaning} {xs ys zs : List Meaning} → Deal xs ys zs → Deal (x ∷ xs) ys (x ∷ zs)
  to_right : {x : Meaning} {xs ys zs : List Meaning} → Deal xs ys zs → Deal xs (x ∷ ys) (x ∷ zs)

-- zs is cut into xs and then ys
pub data Cut : List Meaning → List Meaning → List Meaning → Type 0 where
  here : {ys : List Meaning} → Cut [] ys ys
  later : {x : Meaning} {xs ys zs : List Meaning} → Cut xs ys zs → Cut (x ∷ xs) ys (x ∷ zs)

-- the node permits the list, in this mode and for these numbers; g gives the nodes that it leads to
pub data Permits (g : ℕ → Node) : Mode → Node → Choice → List Meaning → Type 0 where
  -- empty: the empty list
  ended : {m : Mode} {ρ : Choice} → Permits g m Empty ρ []
  -- prefix: the empty list as a beginning; or a matching event first, and then what the tail permits
  begun : {p : Pattern} {t : ℕ} {ρ : Choice} → Permits g beginning (Prefix p t) ρ []
  next : {m : Mode} {p : Pattern} {t : ℕ} {ρ : Choice} {e : Meaning} {es : List Meaning} →
      Matches ρ p e → Permits g m (g t) ρ es → Permits g m (Prefix p t) ρ (e ∷ es)
  -- or: either child; and: both children
  by_left : {m : Mode} {a b : ℕ} {ρ : Choice} {es : List Meaning} →
      Permits g m (g a) ρ es → Permits g m (Pair Or a b) ρ es
  by_right : {m : Mode} {a b : ℕ} {ρ : Choice} {es : List Meaning} →
      Permits g m (g b) ρ es → Permits g m (Pair Or a b) ρ es
  by_both : {m : Mode} {a b : ℕ} {ρ : Choice} {es : List Meaning} →
      Permits g m (g a) ρ es → Permits g m (g b) ρ es → Permits g m (Pair And a b) ρ es
  -- shuffle: the list is dealt to the two children
  shuffled : {m : Mode} {a b : ℕ} {ρ : Choice} {xs ys es : List Meaning} →
      Deal xs ys es → Permits g m (g a) ρ xs → Permits g m (g b) ρ ys → Permits g m (Pair Shuffle a b) ρ es
  -- concatenation: a beginning of the first child; or the list is cut, and the first child permits its piece whole
  first_only : {a b : ℕ} {ρ : Choice} {es : List Meaning} →
      Permits g beginning (g a) ρ es → Permits g beginning (Pair Concat a b) ρ es
  cut_in_two : {m : Mode} {a b : ℕ} {ρ : Choice} {xs ys es : List Meaning} →
      Cut xs ys es → Permits g whole (g a) ρ xs → Permits g m (g b) ρ ys → Permits g m (Pair Concat a b) ρ es
  -- binder: for some number of 32 bits
  for_some : {m : Mode} {v : Var} {c : ℕ} {ρ : Choice} {es : List Meaning} →
      (k : ℕ) → Narrow k → Permits g m (g c) (update ρ v k) es → Permits g m (Binder v c) ρ es
  -- filter: the child permits the events that pass
  filtered : {m : Mode} {p : Pattern} {c : ℕ} {ρ : Choice} {es : List Meaning} →
      Permits g m (g c) ρ (select (passes p) es) → Permits g m (Filter p c) ρ es
