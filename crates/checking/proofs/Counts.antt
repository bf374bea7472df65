-- How many numbers pass a test, and whether one does.
use Rattle.std.proofs.Common.{◌≡◌, ℕ, zero, suc, ◌<◌, ◌≤◌, Bool, true, false, cond, refl, subst, inl, inr, arith}
use Rattle.std.proofs.lemmas.Bool.{or_left, or_right, or_cases, false≢true}
use Rattle.checking.specs.Sets.{count, any_below}

pub count_none : (f : ℕ → Bool) → count f 0 ≡ 0
unfolding count
count_none f = refl

pub any_in : (f : ℕ → Bool) (N m : ℕ) → m < N → f m ≡ true → any_below f N ≡ true
unfolding any_below
any_in f zero m h q = absurd (omega arith)
any_in f (suc k) m h q =
    elim (native.Mathlib.Decide.ℕ_discrete m k) [
      | yes e ↦ or_left _ _ (subst (λ (z : ℕ). f z ≡ true) e q)
      | no n ↦ let h' : m < k = omega arith in or_right (f k) _ (any_in f k m h' q)
    ]

pub count_most : (f : ℕ → Bool) (N : ℕ) → count f N ≤ N
unfolding count
count_most f zero = omega arith
count_most f (suc k) = let h = count_most f k in elim (f k) as (λ b. cond b (suc (count f k)) (count f k) ≤ suc k) [ true ↦ omega arith | false ↦ omega arith ]

module _ (f g : ℕ → Bool) (sub : (n : ℕ) → f n ≡ true → g n ≡ true) where
  count_step : (a b : Bool) (x y : ℕ) → (a ≡ true → b ≡ true) → x ≤ y → cond a (suc x) x ≤ cond b (suc y) y
  count_step true true x y s h = omega arith
  count_step true false x y s h = absurd (false≢true (s refl))
  count_step false true x y s h = omega arith
  count_step false false x y s h = h

  count_strict : (a b : Bool) (x y : ℕ) → (a ≡ true → b ≡ true) → x < y → cond a (suc x) x < cond b (suc y) y
  count_strict true true x y s i = omega arith
  count_strict true false x y s i = absurd (false≢true (s refl))
  count_strict false true x y s i = omega arith
  count_strict false false x y s i = i

  count_le : (N : ℕ) → count f N ≤ count g N
  unfolding count
  count_le zero = omega arith
  count_le (suc k) = count_step (f k) (g k) (count f k) (count g k) (sub k) (count_le k)

  pub count_less : (N c : ℕ) → c < N → f c ≡ false → g c ≡ true → count f N < count g N
  unfolding count
  count_less zero c h p q = absurd (omega arith)
  count_less (suc k) c h p q =
      elim (native.Mathlib.Decide.ℕ_discrete c k) [
        | yes e ↦
            let x : f k ≡ false = subst (λ (z : ℕ). f z ≡ false) e p in
            let y : g k ≡ true = subst (λ (z : ℕ). g z ≡ true) e q in
            let z = count_le k in
            rw (x, y) (omega arith)
        | no n ↦ let h' : c < k = omega arith in count_strict (f k) (g k) (count f k) (count g k) (sub k) (count_less k c h' p q)
      ]

pub any_out : (f : ℕ → Bool) (N : ℕ) → any_below f N ≡ true → (m : ℕ) × (m < N) × (f m ≡ true)
unfolding any_below
any_out f zero q = absurd (false≢true q)
any_out f (suc k) q =
    elim (or_cases (f k) (any_below f k) q)
    [ inl x ↦ (k, omega arith, x) | inr x ↦ let y = any_out f k x in (y.0, (let h = y.1 in omega arith), y.2) ]

pub none_counted : (f : ℕ → Bool) (k : ℕ) → ((j : ℕ) → f j ≡ false) → count f k ≡ 0
unfolding count
none_counted f zero e = refl
none_counted f (suc k) e = rw (e k) (none_counted f k e)

pub none_below : (f : ℕ → Bool) (k : ℕ) → ((j : ℕ) → f j ≡ false) → any_below f k ≡ false
unfolding any_below
none_below f zero e = refl
none_below f (suc k) e = rw (e k) (none_below f k e)

pub any_same : (f g : ℕ → Bool) (k : ℕ) → ((m : ℕ) → m < k → f m ≡ g m) → any_below f k ≡ any_below g k
unfolding any_below
any_same f g zero e = refl
any_same f g (suc k) e = rw (e k (omega arith), any_same f g k (λ m h. e m (omega arith)))

pub count_same : (f g : ℕ → Bool) (k : ℕ) → ((m : ℕ) → m < k → f m ≡ g m) → count f k ≡ count g k
unfolding count
count_same f g zero e = refl
count_same f g (suc k) e = rw (e k (omega arith), count_same f g k (λ m h. e m (omega arith)))
