-- The test for a full step is right: it passes just where a visited part overflows.
use Rattle.std.proofs.Common.{◌≡◌, ℕ, zero, suc, ◌<◌, Bool, true, ◌&&◌, ◌||◌, sym, refl, ap, ◌∙◌, ap₂, inl, inr, arith}
use mathlib.Core.Bool.{false≢true}
use Rattle.std.proofs.lemmas.Bool.{and_from, and_parts, or_cases, or_left, or_right}
use Rattle.calculus.specs.Vocabulary.{Binder, Empty, Filter, Meaning, Node, Op, Pair, Pattern, Prefix, Substitution, Var}
use Rattle.calculus.specs.Numbers.{restrict, without}
use Rattle.calculus.specs.Matching.{passes, passes_at}
use Rattle.calculus.specs.Graphs.{Graph, WellFormed, WellFormedAt}
use Rattle.calculus.specs.States.{binder, child, filter, leaf, may_end, pair, State}
use Rattle.calculus.specs.Visited.{in_binder, in_filter, in_pair_left, in_pair_right, itself, on_left, on_right, under_binder, under_filter, Visits, visits_second}
use Rattle.calculus.specs.Outcomes.{outcomes}
use Rattle.calculus.specs.Fullness.{full, node_full, overflowing}
use Rattle.calculus.specs.Theorems.{Opens}
use Rattle.calculus.proofs.Local.{ends_binder, ends_filter, ends_pair, fine}
use Rattle.calculus.proofs.Listing.{outcomes_binder, outcomes_filter, outcomes_pair}

-- a visited part has a list of outcomes that overflows
abbrev pub Crowded : Graph → Meaning → State → Type 0
Crowded G e t = (p : State) × Visits G e t p × (overflowing (outcomes G e p) ≡ true)

module _ (G : Graph) (W : WellFormed G) (e : Meaning) where
  over : {t u : State} → ((p : State) → Visits G e u p → Visits G e t p) → Crowded G e u → Crowded G e t
  over f x = (x.0, f x.0 x.1, x.2)

  node_overflows : (f n : ℕ) (σ : Substitution) (nd : Node) → G.node n ≡ nd → node_full G e f n σ nd ≡ true → Crowded G e (leaf n σ)
  node_overflows zero n σ nd q h = absurd (false≢true h)
  node_overflows (suc f) n σ Empty q h = (leaf n σ, itself, h)
  node_overflows (suc f) n σ (Prefix p t) q h = (leaf n σ, itself, h)
  node_overflows (suc f) n σ (Pair o a b) q h =
      let x = node_full G e f a (restrict (G.free a) σ) (G.node a) in
      let g = visits_second o (may_end G (child G a σ)) in
      let y = node_full G e f b (restrict (G.free b) σ) (G.node b) in
      elim (or_cases (overflowing (outcomes G e (leaf n σ))) (x || (g && y)) h) [
        | inl i ↦ (leaf n σ, itself, i)
        | inr i ↦ elim (or_cases x (g && y) i) [
          | inl j ↦ over (λ p d. in_pair_left q d) (node_overflows f a (restrict (G.free a) σ) (G.node a) refl j)
          | inr j ↦ let k = and_parts g y j in
              over (λ p d. in_pair_right q k.0 d) (node_overflows f b (restrict (G.free b) σ) (G.node b) refl k.1)
        ]
      ]
  node_overflows (suc f) n σ (Binder v c) q h =
      elim (or_cases (overflowing (outcomes G e (leaf n σ))) (node_full G e f c (restrict (G.free c) (without v σ)) (G.node c)) h) [
        | inl i ↦ (leaf n σ, itself, i)
        | inr i ↦ over (λ p d. in_binder q d) (node_overflows f c (restrict (G.free c) (without v σ)) (G.node c) refl i)
      ]
  node_overflows (suc f) n σ (Filter p c) q h =
      elim (or_cases (overflowing (outcomes G e (leaf n σ))) (passes p e && node_full G e f c (restrict (G.free c) σ) (G.node c)) h) [
        | inl i ↦ (leaf n σ, itself, i)
        | inr i ↦ let k = and_parts (passes p e) (node_full G e f c (restrict (G.free c) σ) (G.node c)) i in
            over (λ p d. in_filter q k.0 d) (node_overflows f c (restrict (G.free c) σ) (G.node c) refl k.1)
      ]

  pub overflows : (t : State) → full G e t ≡ true → Crowded G e t
  overflows (leaf n σ) h = node_overflows (suc (G.rank n)) n σ (G.node n) refl h
  overflows (pair o l r) h =
      elim (or_cases (overflowing (outcomes G e (pair o l r))) (full G e l || (visits_second o (may_end G l) && full G e r)) h) [
        | inl i ↦ (pair o l r, itself, i)
        | inr i ↦ elim (or_cases (full G e l) (visits_second o (may_end G l) && full G e r) i) [
          | inl j ↦ over (λ p d. on_left d) (overflows l j)
          | inr j ↦ let k = and_parts (visits_second o (may_end G l)) (full G e r) j in over (λ p d. on_right k.0 d) (overflows r k.1)
        ]
      ]
  overflows (binder v t) h =
      elim (or_cases (overflowing (outcomes G e (binder v t))) (full G e t) h)
      [ inl i ↦ (binder v t, itself, i) | inr i ↦ over (λ p d. under_binder d) (overflows t i) ]
  overflows (filter n t) h =
      elim (or_cases (overflowing (outcomes G e (filter n t))) (passes_at (G.node n) e && full G e t) h) [
        | inl i ↦ (filter n t, itself, i)
        | inr i ↦ let k = and_parts (passes_at (G.node n) e) (full G e t) i in over (λ p d. under_filter k.0 d) (overflows t k.1)
      ]

  stable : (f g n : ℕ) (σ : Substitution) (nd : Node) → G.rank n < f → G.rank n < g → G.node n ≡ nd →
      node_full G e f n σ nd ≡ node_full G e g n σ nd
  stable zero g n σ nd h k q = absurd (omega arith)
  stable (suc f) zero n σ nd h k q = absurd (omega arith)
  stable (suc f) (suc g) n σ Empty h k q = refl
  stable (suc f) (suc g) n σ (Prefix p t) h k q = refl
  stable (suc f) (suc g) n σ (Pair o a b) h k q =
      let F : WellFormedAt G n (Pair o a b) = fine G W n q in
      ap₂ (λ (x y : Bool). overflowing (outcomes G e (leaf n σ)) || (x || (visits_second o (may_end G (child G a σ)) && y)))
      (stable f g a (restrict (G.free a) σ) (G.node a) (omega (arith, F.0)) (omega (arith, F.0)) refl)
      (stable f g b (restrict (G.free b) σ) (G.node b) (omega (arith, F.1)) (omega (arith, F.1)) refl)
  stable (suc f) (suc g) n σ (Binder v c) h k q =
      let F : WellFormedAt G n (Binder v c) = fine G W n q in
      ap (λ (x : Bool). overflowing (outcomes G e (leaf n σ)) || x)
      (stable f g c (restrict (G.free c) (without v σ)) (G.node c) (omega (arith, F.0)) (omega (arith, F.0)) refl)
  stable (suc f) (suc g) n σ (Filter p c) h k q =
      let F : WellFormedAt G n (Filter p c) = fine G W n q in
      ap (λ (x : Bool). overflowing (outcomes G e (leaf n σ)) || (passes p e && x))
      (stable f g c (restrict (G.free c) σ) (G.node c) (omega (arith, F.0)) (omega (arith, F.0)) refl)

  node_of : (n : ℕ) (σ : Substitution) (nd : Node) → G.node n ≡ nd → node_full G e (suc (G.rank n)) n σ nd ≡ true → full G e (leaf n σ) ≡ true
  node_of n σ nd q h = ap (node_full G e (suc (G.rank n)) n σ) q ∙ h

  to_rank : (n a : ℕ) (σ : Substitution) → G.rank a < G.rank n → full G e (child G a σ) ≡ true →
      node_full G e (G.rank n) a (restrict (G.free a) σ) (G.node a) ≡ true
  to_rank n a σ h x = stable (G.rank n) (suc (G.rank a)) a (restrict (G.free a) σ) (G.node a) h (omega arith) refl ∙ x

  overflowing_full : (t : State) → overflowing (outcomes G e t) ≡ true → full G e t ≡ true
  overflowing_full (leaf n σ) h = go (G.node n) refl
    where
      go : (nd : Node) → G.node n ≡ nd → full G e (leaf n σ) ≡ true
      go Empty q = node_of n σ Empty q h
      go (Prefix p t) q = node_of n σ (Prefix p t) q h
      go (Pair o a b) q = node_of n σ (Pair o a b) q (or_left _ _ h)
      go (Binder v c) q = node_of n σ (Binder v c) q (or_left _ _ h)
      go (Filter p c) q = node_of n σ (Filter p c) q (or_left _ _ h)
  overflowing_full (pair o l r) h = or_left _ _ h
  overflowing_full (binder v t) h = or_left _ _ h
  overflowing_full (filter n t) h = or_left _ _ h

  pub fills : {t p : State} → Visits G e t p → overflowing (outcomes G e p) ≡ true → full G e t ≡ true
  fills (itself {t = t}) h = overflowing_full t h
  fills (in_pair_left {n = n} {σ = σ} {o = o} {a = a} {b = b} q d) h =
      node_of n σ (Pair o a b) q (or_right (overflowing (outcomes G e (leaf n σ))) _ (or_left _ _ (to_rank n a σ (fine G W n q).0 (fills d h))))
  fills (in_pair_right {n = n} {σ = σ} {o = o} {a = a} {b = b} q g d) h =
      node_of n σ (Pair o a b) q (or_right (overflowing (outcomes G e (leaf n σ))) _ (or_right (node_full G e (G.rank n) a (restrict (G.free a) σ) (G.node a)) _
      (and_from _ _ g (to_rank n b σ (fine G W n q).1 (fills d h)))))
  fills (in_binder {n = n} {σ = σ} {v = v} {c = c} q d) h =
      node_of n σ (Binder v c) q (or_right (overflowing (outcomes G e (leaf n σ))) _ (to_rank n c (without v σ) (fine G W n q).0 (fills d h)))
  fills (in_filter {n = n} {σ = σ} {q = p} {c = c} q l d) h =
      node_of n σ (Filter p c) q (or_right (overflowing (outcomes G e (leaf n σ))) _ (and_from _ _ l (to_rank n c σ (fine G W n q).0 (fills d h))))
  fills (on_left {o = o} {l = l} {r = r} d) h = or_right (overflowing (outcomes G e (pair o l r))) _ (or_left _ _ (fills d h))
  fills (on_right {o = o} {l = l} {r = r} g d) h =
      or_right (overflowing (outcomes G e (pair o l r))) _ (or_right (full G e l) _ (and_from _ _ g (fills d h)))
  fills (under_binder {v = v} {t = t} d) h = or_right (overflowing (outcomes G e (binder v t))) _ (fills d h)
  fills (under_filter {n = n} {t = t} l d) h = or_right (overflowing (outcomes G e (filter n t))) _ (and_from _ _ l (fills d h))

  -- a leaf is full just where what it steps as is full
  pub full_pair : (n : ℕ) (σ : Substitution) (o : Op) (a b : ℕ) → G.node n ≡ Pair o a b →
      full G e (leaf n σ) ≡ full G e (pair o (child G a σ) (child G b σ))
  full_pair n σ o a b q =
      let F : WellFormedAt G n (Pair o a b) = fine G W n q in
      let p = outcomes_pair G W e n σ o a b q in
      let x = stable (G.rank n) (suc (G.rank a)) a (restrict (G.free a) σ) (G.node a) F.0 (omega arith) refl in
      let y = stable (G.rank n) (suc (G.rank b)) b (restrict (G.free b) σ) (G.node b) F.1 (omega arith) refl in
      ap (node_full G e (suc (G.rank n)) n σ) q ∙ (λ i. overflowing (p i) || (x i || (visits_second o (may_end G (child G a σ)) && y i)))

  pub full_binder : (n : ℕ) (σ : Substitution) (v : Var) (c : ℕ) → G.node n ≡ Binder v c →
      full G e (leaf n σ) ≡ full G e (binder v (child G c (without v σ)))
  full_binder n σ v c q =
      let F : WellFormedAt G n (Binder v c) = fine G W n q in
      let p = outcomes_binder G W e n σ v c q in
      let x = stable (G.rank n) (suc (G.rank c)) c (restrict (G.free c) (without v σ)) (G.node c) F.0 (omega arith) refl in
      ap (node_full G e (suc (G.rank n)) n σ) q ∙ (λ i. overflowing (p i) || x i)

  pub full_filter : (n : ℕ) (σ : Substitution) (p : Pattern) (c : ℕ) → G.node n ≡ Filter p c →
      full G e (leaf n σ) ≡ (overflowing (outcomes G e (leaf n σ)) || (passes_at (G.node n) e && full G e (child G c σ)))
  full_filter n σ p c q =
      let F : WellFormedAt G n (Filter p c) = fine G W n q in
      let l = ap (λ (nd : Node). passes_at nd e) (sym q) in
      let x = stable (G.rank n) (suc (G.rank c)) c (restrict (G.free c) σ) (G.node c) F.0 (omega arith) refl in
      ap (node_full G e (suc (G.rank n)) n σ) q ∙ (λ i. overflowing (outcomes G e (leaf n σ)) || (l i && x i))

  pub opens : (n : ℕ) (σ : Substitution) → Opens G e n σ (G.node n)
  opens n σ = go (G.node n) refl
    where
      go : (nd : Node) → G.node n ≡ nd → Opens G e n σ nd
      go Empty q = tt
      go (Prefix p t) q = tt
      go (Pair o a b) q = record { ends = ends_pair G W n σ o a b q; listed = outcomes_pair G W e n σ o a b q; full = full_pair n σ o a b q }
      go (Binder v c) q = record { ends = ends_binder G W n σ v c q; listed = outcomes_binder G W e n σ v c q; full = full_binder n σ v c q }
      go (Filter p c) q = record { ends = ends_filter G W n σ p c q; listed = outcomes_filter G W e n σ p c q; full = full_filter n σ p c q }
