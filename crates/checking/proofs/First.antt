use Rattle.std.proofs.Common.{◌≡◌, ℕ, zero, suc, ◌+◌, ◌-◌, ◌<◌, ◌≤◌, Bool, true, false, cond, Some, None, sym, refl, ap, ◌∙◌, add-one, arith}
use Rattle.checking.specs.Answer.{first}

module _ (f : ℕ → Bool) where
  pub first_hit : (N i : ℕ) → i < N → f i ≡ true → first f i (N - i) ≡ Some i
  unfolding first
  first_hit N i h q = let d : N - i ≡ suc (N - (i + 1)) = omega arith in rw (d, q)

  pub first_miss : (N i : ℕ) → i < N → f i ≡ false → first f i (N - i) ≡ first f (i + 1) (N - (i + 1))
  unfolding first
  first_miss N i h q = let d : N - i ≡ suc (N - (i + 1)) = omega arith in rw (d, q, add-one i)

  pub first_end : (N i : ℕ) → N ≤ i → first f i (N - i) ≡ None
  unfolding first
  first_end N i h = let d : N - i ≡ 0 = omega arith in rw d

  -- a test that agrees below N has the same first number
  pub first_same : (g : ℕ → Bool) (i k N : ℕ) → i + k ≤ N → ((m : ℕ) → m < N → f m ≡ g m) → first f i k ≡ first g i k
  unfolding first
  first_same g i zero N b e = refl
  first_same g i (suc k) N b e = rw (e i (omega arith), first_same g (suc i) k N (omega arith) e)

pub first_none : (f : ℕ → Bool) (i k : ℕ) → first f i k ≡ None → (m : ℕ) → i ≤ m → m < i + k → f m ≡ false
unfolding first
first_none f i zero q m h b = absurd (omega arith)
first_none f i (suc k) q m h b = go (f i) refl q (λ r a. first_none f (suc i) k r m a (omega arith))
  where
    go : (t : Bool) → f i ≡ t → cond t (Some i) (first f (suc i) k) ≡ None → (first f (suc i) k ≡ None → suc i ≤ m → f m ≡ false) → f m ≡ false
    go true e r ih = cc
    go false e r ih = elim (native.Mathlib.Decide.ℕ_discrete m i) [ yes d ↦ ap f d ∙ e | no d ↦ ih r (omega arith) ]

pub first_some : (f : ℕ → Bool) (i k n : ℕ) → first f i k ≡ Some n → (f n ≡ true) × (n < i + k) × ((m : ℕ) → i ≤ m → m < n → f m ≡ false)
unfolding first
first_some f i zero n q = cc
first_some f i (suc k) n q = go (f i) refl q (λ r. first_some f (suc i) k n r)
  where
    go : (t : Bool) → f i ≡ t → cond t (Some i) (first f (suc i) k) ≡ Some n
        → (first f (suc i) k ≡ Some n → (f n ≡ true) × (n < suc i + k) × ((m : ℕ) → suc i ≤ m → m < n → f m ≡ false))
        → (f n ≡ true) × (n < i + suc k) × ((m : ℕ) → i ≤ m → m < n → f m ≡ false)
    go true e r ih = let d : i ≡ n = cc in (ap f (sym d) ∙ e, omega arith, λ m a b. absurd (omega arith))
    go false e r ih =
        let h = ih r in
        let b = h.1 in
        (h.0, omega arith, λ m a c. elim (native.Mathlib.Decide.ℕ_discrete m i) [ yes d ↦ ap f d ∙ e | no d ↦ h.2 m (omega arith) c ])

pub first_is : (f : ℕ → Bool) (i k n : ℕ) → i ≤ n → n < i + k → f n ≡ true → ((m : ℕ) → i ≤ m → m < n → f m ≡ false) → first f i k ≡ Some n
unfolding first
first_is f i zero n a b t l = absurd (omega arith)
first_is f i (suc k) n a b t l =
    elim (native.Mathlib.Decide.ℕ_discrete i n) [
      | yes d ↦ rw (ap f d ∙ t) (ap Some d)
      | no d ↦ rw (l i (omega arith) (omega arith)) (first_is f (suc i) k n (omega arith) (omega arith) t (λ m c e. l m (omega arith) e))
    ]

pub first_nowhere : (f : ℕ → Bool) (i k : ℕ) → ((m : ℕ) → f m ≡ false) → first f i k ≡ None
unfolding first
first_nowhere f i zero l = refl
first_nowhere f i (suc k) l = rw (l i) (first_nowhere f (suc i) k l)
