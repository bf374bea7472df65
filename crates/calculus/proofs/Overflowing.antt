-- The test for full says what the steps alone say.
use Rattle.std.proofs.Common.{◌≡◌, ◌+◌, ◌<◌, ◌≤◌, Bool, true, false, ltb, List, [], ◌∷◌, length, sym, refl, ap, ◌∙◌, subst, inl, inr, true≢false, arith}
use Rattle.std.proofs.lemmas.Bool.{or_cases, or_left, or_right, ltb-true, lt-ltb, or_parts, ltb-false}
use borrow.Author.Tests.{clash}
use Rattle.calculus.specs.Vocabulary.{Meaning}
use Rattle.calculus.specs.Graphs.{Graph, WellFormed}
use Rattle.calculus.specs.States.{cells, State}
use Rattle.calculus.specs.Steps.{Outcome}
use Rattle.calculus.specs.Lists.{Distinct, In}
use Rattle.calculus.specs.Visited.{Exactly, Full, in_a_part, in_all, itself, large, many, Overflows, OverflowsWithin}
use Rattle.calculus.specs.Outcomes.{after, outcomes}
use Rattle.calculus.specs.Fullness.{any_full, any_large, full, overflowing, refuses}
use Rattle.calculus.proofs.Listing.{after_in, after_out, outcomes_step, step_outcomes}
use Rattle.calculus.proofs.Distinct.{after_distinct, outcomes_distinct}
use Rattle.calculus.proofs.Filling.{fills, overflows}

-- a list of different elements of another is no longer than that
module _ {A : Type 0} where
  abbrev without : (x : A) (ys : List A) → In x ys → List A
  without x [] i = absurd i
  without x (y ∷ ys) (inl q) = ys
  without x (y ∷ ys) (inr i) = y ∷ without x ys i

  without_length : (x : A) (ys : List A) (i : In x ys) → length (without x ys i) + 1 ≡ length ys
  without_length x [] i = absurd i
  without_length x (y ∷ ys) (inl q) = omega arith
  without_length x (y ∷ ys) (inr i) = omega (arith, without_length x ys i)

  without_in : (x : A) (ys : List A) (i : In x ys) (z : A) → In z ys → (x ≡ z → ⊥) → In z (without x ys i)
  without_in x [] i z j n = absurd i
  without_in x (y ∷ ys) (inl q) z (inl p) n = absurd (n (sym q ∙ p))
  without_in x (y ∷ ys) (inl q) z (inr j) n = j
  without_in x (y ∷ ys) (inr i) z (inl p) n = inl p
  without_in x (y ∷ ys) (inr i) z (inr j) n = inr (without_in x ys i z j n)

  pub no_longer : (xs ys : List A) → Distinct xs → ((x : A) → In x xs → In x ys) → length xs ≤ length ys
  no_longer [] ys d f = omega arith
  no_longer (x ∷ xs) ys d f =
      let i = f x (inl refl) in
      let h = no_longer xs (without x ys i) d.1 (λ z j. without_in x ys i z (f z (inr j)) (λ p. d.0 (subst (λ (w : A). In w xs) (sym p) j))) in
      omega (arith, without_length x ys i, h)

large_in : (xs : List Outcome) → any_large xs ≡ true → (x : Outcome) × In x xs × (64 < cells x.0)
large_in [] q = absurd (clash q)
large_in (x ∷ xs) q =
    elim (or_cases (ltb 64 (cells x.0)) (any_large xs) q)
    [ inl h ↦ (x, inl refl, ltb-true 64 (cells x.0) h) | inr h ↦ let r = large_in xs h in (r.0, inr r.1, r.2) ]

in_large : (xs : List Outcome) (x : Outcome) → In x xs → 64 < cells x.0 → any_large xs ≡ true
in_large [] x i h = absurd i
in_large (y ∷ ys) x (inl q) h = or_left (ltb 64 (cells y.0)) (any_large ys) (lt-ltb 64 (cells y.0) (subst (λ (z : Outcome). 64 < cells z.0) (sym q) h))
in_large (y ∷ ys) x (inr i) h = or_right (ltb 64 (cells y.0)) (any_large ys) (in_large ys x i h)

module _ (G : Graph) (W : WellFormed G) (e : Meaning) where
  overflow : (p : State) → overflowing (outcomes G e p) ≡ true → Overflows G e p
  overflow p q =
      elim (or_cases (ltb 16 (length (outcomes G e p))) (any_large (outcomes G e p)) q) [
        | inl h ↦ many (outcomes G e p) (ltb-true 16 (length (outcomes G e p)) h) (outcomes_distinct G e p) (λ x i. outcomes_step G e p x i)
        | inr h ↦ let r = large_in (outcomes G e p) h in large r.0.0 r.0.1 (outcomes_step G e p r.0 r.1) r.2
      ]

  overflow_listed : (p : State) → Overflows G e p → overflowing (outcomes G e p) ≡ true
  overflow_listed p (large s β d h) = or_right (ltb 16 (length (outcomes G e p))) (any_large (outcomes G e p)) (in_large (outcomes G e p) (s, β) (step_outcomes G W e d) h)
  overflow_listed p (many xs h d f) =
      or_left (ltb 16 (length (outcomes G e p))) (any_large (outcomes G e p))
      (lt-ltb 16 (length (outcomes G e p)) (omega (arith, h, no_longer xs (outcomes G e p) d (λ x i. step_outcomes G W e (f x i)))))

  pub overflow_within : (t : State) → full G e t ≡ true → OverflowsWithin G e t
  overflow_within t q = let o = overflows G W e t q in record { part = o.0; visited = o.1; over = overflow o.0 o.2 }

  pub within_full : (t : State) → OverflowsWithin G e t → full G e t ≡ true
  within_full t o = fills G W e o.visited (overflow_listed o.part o.over)

  some_full : (ts : List State) → any_full G e ts ≡ true → (t : State) × In t ts × (full G e t ≡ true)
  some_full [] q = absurd (clash q)
  some_full (t ∷ ts) q =
      elim (or_cases (full G e t) (any_full G e ts) q)
      [ inl h ↦ (t, inl refl, h) | inr h ↦ let r = some_full ts h in (r.0, inr r.1, r.2) ]

  full_some : (ts : List State) (t : State) → In t ts → full G e t ≡ true → any_full G e ts ≡ true
  full_some [] t i q = absurd i
  full_some (u ∷ ts) t (inl p) q = or_left (full G e u) (any_full G e ts) (ap (full G e) p ∙ q)
  full_some (u ∷ ts) t (inr i) q = or_right (full G e u) (any_full G e ts) (full_some ts t i q)

  pub is_full : (ts : List State) → refuses G e ts ≡ true → Full G e ts
  is_full ts q =
      elim (or_cases (any_full G e ts) (ltb 16 (length (after G e ts))) q) [
        | inl h ↦ let r = some_full ts h in in_a_part r.0 r.1 (overflow_within r.0 r.2)
        | inr h ↦ in_all (after G e ts) (ltb-true 16 (length (after G e ts)) h) (after_distinct G e ts) (after_out G e ts)
      ]

  pub full_is : (ts : List State) → Full G e ts → refuses G e ts ≡ true
  full_is ts (in_a_part t i o) = or_left (any_full G e ts) (ltb 16 (length (after G e ts))) (full_some ts t i (within_full t o))
  full_is ts (in_all ss h d f) =
      or_right (any_full G e ts) (ltb 16 (length (after G e ts)))
      (lt-ltb 16 (length (after G e ts)) (omega (arith, h, no_longer ss (after G e ts) d (λ s i. after_in G W e ts s (f s i)))))

  -- where it is not full
  none_large : (xs : List Outcome) → any_large xs ≡ false → (x : Outcome) → In x xs → cells x.0 ≤ 64
  none_large [] q x i = absurd i
  none_large (y ∷ ys) q x (inl i) =
      subst (λ (z : Outcome). cells z.0 ≤ 64) i (ltb-false 64 (cells y.0) (or_parts (ltb 64 (cells y.0)) (any_large ys) q).0)
  none_large (y ∷ ys) q x (inr i) = none_large ys (or_parts (ltb 64 (cells y.0)) (any_large ys) q).1 x i

  fits_in : (t : State) → full G e t ≡ false → overflowing (outcomes G e t) ≡ false
  fits_in t q = go (overflowing (outcomes G e t)) refl
    where
      go : (b : Bool) → overflowing (outcomes G e t) ≡ b → b ≡ false
      go true p = absurd (true≢false (sym (fills G W e {t = t} {p = t} itself p) ∙ q))
      go false p = refl

  pub exactly : (t : State) → full G e t ≡ false → Exactly G e t (outcomes G e t)
  exactly t q =
      let b = or_parts (ltb 16 (length (outcomes G e t))) (any_large (outcomes G e t)) (fits_in t q) in
      record {
        steps = λ s β. ((λ i. outcomes_step G e t (s, β) i), λ d. step_outcomes G W e d);
        distinct = outcomes_distinct G e t;
        few = ltb-false 16 (length (outcomes G e t)) b.0;
        small = none_large (outcomes G e t) b.1;
        within = λ o. true≢false (sym (within_full t o) ∙ q);
      }
