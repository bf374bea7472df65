-- Lists of outcomes that overflow, or do not, with one outcome more.
use Rattle.std.proofs.Common.{◌≡◌, ℕ, ◌-◌, ◌<◌, ◌≤◌, Bool, true, false, cond, ◌&&◌, ◌||◌, ltb, List, [], ◌∷◌, ◌++◌, length, is_some, None, Some, Option, sym, refl, ap, ap₂, ◌∙◌, inl, inr, arith, length-append, ltb-true, le-ltb, lt-ltb}
use borrow.Author.Tests.{clash}
use Rattle.std.specs.List.{list_any}
use Rattle.std.specs.Option.{SomeIff}
use Rattle.std.proofs.lemmas.Bool.{false≢true, true≢false}
use Rattle.std.proofs.lemmas.List.{length-map, map_push}
use Rattle.states.specs.State.{state}
use Rattle.calculus.specs.States.{cells}
use Rattle.calculus.specs.Equality.{same_outcome}
use Rattle.calculus.specs.Lists.{member, once}
use Rattle.calculus.specs.Steps.{Outcome as Out}
use Rattle.calculus.specs.Fullness.{any_large, overflowing}
use Rattle.states.proofs.Equal.{numbers_same, tree_same}
use Rattle.stepping.specs.contracts.outcome.OutcomePartialEq.TheImpl.{ghosts}
use Rattle.std.proofs.lemmas.Bool.{or_cases, or_left, or_right}
use Rattle.stepping.specs.declared.outcome.Outcome.{Outcome}
use Rattle.stepping.specs.Listed.{outcome_of, outcomes_of}

-- a search by equality of outcomes in memory is that of the calculus
outcome_same : (p o : Outcome) → ghosts.eq p o ≡ same_outcome (outcome_of p) (outcome_of o)
outcome_same p o = ap₂ (λ (a b : Bool). a && b) (tree_same p.tree o.tree) (numbers_same p.binding o.binding)

pub member_is : (o : Outcome) (os : List Outcome) → list_any (λ p. ghosts.eq p o) os ≡ member same_outcome (outcome_of o) (outcomes_of os)
member_is o [] = refl
member_is o (p ∷ os) = ap₂ (λ (a b : Bool). a || b) (outcome_same p o) (member_is o os)

-- what the search of a list in memory says
pub member_by : (o : Outcome) (os ps : List Outcome) (b : Bool) → ps ≡ os → b ≡ list_any (λ p. ghosts.eq p o) ps →
    member same_outcome (outcome_of o) (outcomes_of os) ≡ b
member_by o os ps b e q = sym (q ∙ ap (list_any (λ p. ghosts.eq p o)) e ∙ member_is o os)

or_neither : (a b : Bool) → (a || b) ≡ false → (a ≡ false) × (b ≡ false)
or_neither true b q = absurd (clash (sym q))
or_neither false b q = (refl, q)

large_append : (xs ys : List Out) → any_large (xs ++ ys) ≡ (any_large xs || any_large ys)
large_append [] ys = refl
large_append (x ∷ xs) ys = rw (large_append xs ys) (or_assoc (ltb 64 (cells x.0)) (any_large xs) (any_large ys))
  where
    or_assoc : (a b c : Bool) → (a || (b || c)) ≡ ((a || b) || c)
    or_assoc true b c = refl
    or_assoc false b c = refl

overflow_large : (xs : List Out) (x : Out) → 64 < cells x.0 → overflowing (xs ++ x ∷ []) ≡ true
overflow_large xs x h =
    or_right (ltb 16 (length (xs ++ x ∷ []))) (any_large (xs ++ x ∷ []))
    (large_append xs (x ∷ []) ∙ or_right (any_large xs) (any_large (x ∷ [])) (or_left (ltb 64 (cells x.0)) false (lt-ltb 64 (cells x.0) h)))

overflow_many : (xs : List Out) (x : Out) → 16 ≤ length xs → overflowing (xs ++ x ∷ []) ≡ true
overflow_many xs x h =
    or_left (ltb 16 (length (xs ++ x ∷ []))) (any_large (xs ++ x ∷ [])) (lt-ltb 16 (length (xs ++ x ∷ [])) (omega (arith, length-append xs (x ∷ []))))

fits_more : (xs : List Out) (x : Out) → overflowing xs ≡ false → cells x.0 ≤ 64 → length xs < 16 → overflowing (xs ++ x ∷ []) ≡ false
fits_more xs x q small few =
    rw (le-ltb 16 (length (xs ++ x ∷ [])) (omega (arith, length-append xs (x ∷ []))), large_append xs (x ∷ []), (or_neither (ltb 16 (length xs)) (any_large xs) q).1, le-ltb 64 (cells x.0) small)

-- a list that overflows goes on to
pub overflow_kept : (xs : List Out) (x : Out) → overflowing xs ≡ true → overflowing (xs ++ x ∷ []) ≡ true
overflow_kept xs x q =
    elim (or_cases (ltb 16 (length xs)) (any_large xs) q) [
      | inl h ↦ overflow_many xs x (let k : 16 < length xs = ltb-true 16 (length xs) h in omega arith)
      | inr h ↦ or_right (ltb 16 (length (xs ++ x ∷ []))) (any_large (xs ++ x ∷ [])) (large_append xs (x ∷ []) ∙ or_left (any_large xs) (any_large (x ∷ [])) h)
    ]

-- what is left of a limit says whether a state is over it
pub is_large : (r : Option ℕ) (n m : ℕ) → SomeIff r (n ≤ m) (m - n) → is_some r ≡ false → m < n
is_large None n m h q = omega (arith, h)
is_large (Some x) n m h q = absurd (true≢false q)

pub is_small : (r : Option ℕ) (n m : ℕ) → SomeIff r (n ≤ m) (m - n) → is_some r ≡ true → n ≤ m
is_small None n m h q = absurd (false≢true q)
is_small (Some x) n m h q = h.0

-- a list that an outcome was pushed to, where there was memory
pub pushed_fits : (b : Bool) (ys xs : List Outcome) (o : Outcome) → ys ≡ cond b (xs ++ o ∷ []) xs → overflowing (outcomes_of xs) ≡ false →
    cells (state o.tree) ≤ 64 → length xs < 16 → overflowing (outcomes_of ys) ≡ false
pushed_fits true ys xs o e fits small few =
    ap (λ (l : List Outcome). overflowing (outcomes_of l)) e ∙ ap overflowing (map_push outcome_of xs o) ∙
    fits_more (outcomes_of xs) (outcome_of o) fits small (simp length-map few)
pushed_fits false ys xs o e fits small few = ap (λ (l : List Outcome). overflowing (outcomes_of l)) e ∙ fits

-- one outcome that is there
pub found : (xs : List Out) (x : Out) → member same_outcome x xs ≡ true → overflowing xs ≡ false → (xs ≡ once same_outcome xs (x ∷ [])) × (overflowing xs ≡ false)
found xs x q fits = (rw q refl, fits)

-- one outcome that is not there yet: too large, one too many, or added
pub new_large : (xs : List Out) (x : Out) → member same_outcome x xs ≡ false → 64 < cells x.0 → overflowing (once same_outcome xs (x ∷ [])) ≡ true
new_large xs x q h = rw q (overflow_large xs x h)

pub new_many : (xs : List Out) (x : Out) → member same_outcome x xs ≡ false → 16 ≤ length xs → overflowing (once same_outcome xs (x ∷ [])) ≡ true
new_many xs x q h = rw q (overflow_many xs x h)

pub new_fits : (xs : List Out) (x : Out) (ys : List Out) → member same_outcome x xs ≡ false → overflowing xs ≡ false → cells x.0 ≤ 64 → length xs < 16 →
    ys ≡ xs ++ x ∷ [] → (ys ≡ once same_outcome xs (x ∷ [])) × (overflowing ys ≡ false)
new_fits xs x ys q fits small few e = (rw q e, rw e (fits_more xs x fits small few))
