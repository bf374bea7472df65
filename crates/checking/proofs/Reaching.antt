-- Paths are what `reach` finds.
use Rattle.std.proofs.Common.{◌≡◌, ℕ, zero, suc, ◌+◌, ◌<◌, ◌≤◌, Bool, true, false, ◌&&◌, ◌||◌, refl, subst, inl, inr, add-one, arith}
use Rattle.std.proofs.lemmas.Bool.{or_left, or_right, or_cases, and_parts, and_from}
use Rattle.checking.specs.Paths.{Path, one, more, reach}

module _ (l : ℕ → ℕ → Bool) where
  then_path : {i j k : ℕ} → Path l i j → Path l j k → Path l i k
  then_path (one h) q = more h q
  then_path (more h p) q = more h (then_path p q)

  pub reach_path : (k i j : ℕ) → reach l k i j ≡ true → Path l i j
  unfolding reach
  reach_path zero i j h = one h
  reach_path (suc k) i j h =
      elim (or_cases (reach l k i j) (reach l k i k && reach l k k j) h) [
        | inl x ↦ reach_path k i j x
        | inr x ↦ let y = and_parts (reach l k i k) (reach l k k j) x in then_path (reach_path k i k y.0) (reach_path k k j y.1)
      ]

  reach_more : (k i j : ℕ) → l i j ≡ true → reach l k i j ≡ true
  unfolding reach
  reach_more zero i j h = h
  reach_more (suc k) i j h = or_left _ _ (reach_more k i j h)

  through : (k a b c : ℕ) → b < k → reach l k a b ≡ true → reach l k b c ≡ true → reach l k a c ≡ true
  unfolding reach
  through zero a b c h p q = absurd (omega arith)
  through (suc k) a b c h p q =
      elim (native.Mathlib.Decide.ℕ_discrete b k) [
        | yes e ↦
            let x : reach l (suc k) a k ≡ true = subst (λ (z : ℕ). reach l (suc k) a z ≡ true) e p in
            let y : reach l (suc k) k c ≡ true = subst (λ (z : ℕ). reach l (suc k) z c ≡ true) e q in
            or_right (reach l k a c) _ (and_from _ _ (to_k a x) (from_k c y))
        | no n ↦
            let h' : b < k = omega arith in
            elim (or_cases (reach l k a b) (reach l k a k && reach l k k b) p) [
              | inl ab ↦ elim (or_cases (reach l k b c) (reach l k b k && reach l k k c) q) [
                | inl bc ↦ or_left _ _ (through k a b c h' ab bc)
                | inr y ↦ let z = and_parts (reach l k b k) (reach l k k c) y in
                    or_right (reach l k a c) _ (and_from _ _ (through k a b k h' ab z.0) z.1)
              ]
              | inr x ↦ let w = and_parts (reach l k a k) (reach l k k b) x in
                  elim (or_cases (reach l k b c) (reach l k b k && reach l k k c) q) [
                    | inl bc ↦ or_right (reach l k a c) _ (and_from _ _ w.0 (through k k b c h' w.1 bc))
                    | inr y ↦ let z = and_parts (reach l k b k) (reach l k k c) y in
                        or_right (reach l k a c) _ (and_from _ _ w.0 z.1)
                  ]
            ]
      ]
    where
      to_k : (i : ℕ) → reach l (suc k) i k ≡ true → reach l k i k ≡ true
      to_k i x = elim (or_cases (reach l k i k) (reach l k i k && reach l k k k) x) [ inl y ↦ y | inr y ↦ (and_parts (reach l k i k) (reach l k k k) y).0 ]

      from_k : (j : ℕ) → reach l (suc k) k j ≡ true → reach l k k j ≡ true
      from_k j x = elim (or_cases (reach l k k j) (reach l k k k && reach l k k j) x) [ inl y ↦ y | inr y ↦ (and_parts (reach l k k k) (reach l k k j) y).1 ]

  pub path_reach : (N : ℕ) → ((i j : ℕ) → l i j ≡ true → j < N) → {i j : ℕ} → Path l i j → reach l N i j ≡ true
  path_reach N f (one {i = i} {j = j} h) = reach_more N i j h
  path_reach N f (more {i = i} {j = j} {k = k} h p) = through N i j k (f i j h) (reach_more N i j h) (path_reach N f p)

  pub path_end : (N : ℕ) → ((i j : ℕ) → l i j ≡ true → j < N) → {i j : ℕ} → Path l i j → j < N
  path_end N f (one {i = i} {j = j} h) = f i j h
  path_end N f (more h p) = path_end N f p

pub reach_none : (l : ℕ → ℕ → Bool) (i j : ℕ) → reach l 0 i j ≡ l i j
unfolding reach
reach_none l i j = refl

pub reach_next : (l now after : ℕ → ℕ → Bool) (k : ℕ) → k < 128
    → ((i j : ℕ) → i < 128 → now i j ≡ reach l k i j)
    → ((i j : ℕ) → i < 128 → after i j ≡ (now i j || (now i k && now k j)))
    → (i j : ℕ) → i < 128 → after i j ≡ reach l (k + 1) i j
unfolding reach
reach_next l now after k b inv step i j h = rw (add-one k, ← inv i j h, ← inv i k h, ← inv k j b) (step i j h)

pub reach_same : (l m : ℕ → ℕ → Bool) (N : ℕ) → ((i j : ℕ) → i < N → l i j ≡ m i j) → (k : ℕ) → k ≤ N → (i j : ℕ) → i < N → reach l k i j ≡ reach m k i j
unfolding reach
reach_same l m N e zero b i j h = e i j h
reach_same l m N e (suc k) b i j h =
    rw (reach_same l m N e k (omega arith) i j h, reach_same l m N e k (omega arith) i k h, reach_same l m N e k (omega arith) k j (omega arith))

-- nothing leads on from a node without links
pub reach_nothing : (l : ℕ → ℕ → Bool) (n : ℕ) → ((j : ℕ) → l n j ≡ false) → (k j : ℕ) → reach l k n j ≡ false
unfolding reach
reach_nothing l n e zero j = e j
reach_nothing l n e (suc k) j = rw (reach_nothing l n e k j, reach_nothing l n e k k)
