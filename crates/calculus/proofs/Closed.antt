-- Closed states step to closed states, and bind nothing.
use Rattle.std.proofs.Common.{◌≡◌, ℕ, Bool, true, false, cond, sym, refl, ◌∙◌, subst, inl, inr}
use mathlib.Core.Bool.{false≢true}
use Rattle.calculus.specs.Vocabulary.{Binder, Filter, Meaning, None, Op, Option, Pair, Pattern, same, Some, Substitution, Var}
use Rattle.calculus.specs.Numbers.{lookup, or_else, restrict, without}
use Rattle.calculus.specs.Graphs.{Graph, WellFormed}
use Rattle.calculus.specs.States.{binder, child, filter, leaf, pair, settle, settle_leaf, State, Unsettled}
use Rattle.calculus.specs.Steps.{as_binder, as_filter, as_pair, first, leaf_stays, left, passes_on, prefix_step, remains, right, second, settles, shuffle_left, shuffle_right, stays, Step, together}
use Rattle.calculus.proofs.Substitutions.{lookup_assign, lookup_tabulate, lookup_without, none_bound, none_some, same_case, same_refl, union_some}
use Rattle.calculus.proofs.Binding.{bind_free}
use Rattle.calculus.proofs.Local.{fine}
use Rattle.calculus.proofs.Allowing.{lookup_settled}

restrict_none : (f : Var → Bool) (σ : Substitution) (v : Var) → f v ≡ true → lookup (restrict f σ) v ≡ None → lookup σ v ≡ None
restrict_none f σ v e g = rw (lookup_tabulate (λ w. cond (f w) (lookup σ w) None) v, e) at g

without_none : (σ : Substitution) (w v : Var) → same w v ≡ false → lookup (without w σ) v ≡ None → lookup σ v ≡ None
without_none σ w v s g = rw (lookup_without w σ v, s) at g

unsettled : (b : Bool) (o : Option ℕ) (v : Var) (k : ℕ) (σ : Substitution) → b ≡ true → lookup σ v ≡ o →
    lookup (settle_leaf b o v k σ) v ≡ None → ⊥
unsettled false o v k σ e g x = false≢true e
unsettled true None v k σ e g x = none_some k (sym (rw (lookup_assign v k σ v, same_refl v) at x))
unsettled true (Some j) v k σ e g x = none_some j (sym x ∙ g)

module _ (G : Graph) where
  settle_free : (t : State) (v : Var) (k : ℕ) (w : Var) → Unsettled G w (settle G v k t) → Unsettled G w t × (same v w ≡ false)
  settle_free (leaf n σ) v k w x =
      elim (same_case v w) [
        | inl s ↦ absurd (unsettled (G.free n v) (lookup σ v) v k σ (rw s.1 x.0) refl
            (subst (λ (u : Var). lookup (settle_leaf (G.free n v) (lookup σ v) v k σ) u ≡ None) (sym s.1) x.1))
        | inr s ↦ ((x.0, rw (lookup_settled (G.free n v) (lookup σ v) v k σ w s) at x.1), s)
      ]
  settle_free (pair o l r) v k w (inl x) = let y = settle_free l v k w x in (inl y.0, y.1)
  settle_free (pair o l r) v k w (inr x) = let y = settle_free r v k w x in (inr y.0, y.1)
  settle_free (binder u t) v k w x =
      elim (same_case v u) [
        | inl s ↦ let y : Unsettled G w (binder u t) = rw s.0 at x in (y, rw s.1 y.0)
        | inr s ↦ let y : Unsettled G w (binder u (settle G v k t)) = rw s at x in
            let z = settle_free t v k w y.1 in ((y.0, z.0), z.1)
      ]
  settle_free (filter n t) v k w x = settle_free t v k w x

module _ (G : Graph) (W : WellFormed G) (e : Meaning) where
  up_pair : (n : ℕ) (σ : Substitution) (o : Op) (a b : ℕ) (v : Var) → G.node n ≡ Pair o a b →
      Unsettled G v (pair o (child G a σ) (child G b σ)) → Unsettled G v (leaf n σ)
  up_pair n σ o a b v q (inl x) = ((fine G W n q).2 v x.0, restrict_none (G.free a) σ v x.0 x.1)
  up_pair n σ o a b v q (inr x) = ((fine G W n q).3 v x.0, restrict_none (G.free b) σ v x.0 x.1)

  up_binder : (n : ℕ) (σ : Substitution) (w : Var) (c : ℕ) (v : Var) → G.node n ≡ Binder w c →
      Unsettled G v (binder w (child G c (without w σ))) → Unsettled G v (leaf n σ)
  up_binder n σ w c v q x =
      ((fine G W n q).1 v x.1.0 x.0, without_none σ w v x.0 (restrict_none (G.free c) (without w σ) v x.1.0 x.1.1))

  up_filter : (n : ℕ) (σ : Substitution) (p : Pattern) (c : ℕ) (v : Var) → G.node n ≡ Filter p c → Unsettled G v (child G c σ) → Unsettled G v (leaf n σ)
  up_filter n σ p c v q x = ((fine G W n q).1 v x.0, restrict_none (G.free c) σ v x.0 x.1)

  pub free_back : {t s : State} {β : Substitution} → Step G e t s β → (v : Var) → Unsettled G v s → Unsettled G v t
  free_back (prefix_step {n = n} {σ = σ} {t = t} q b) v x = ((fine G W n q).1 v x.0, restrict_none (G.free t) σ v x.0 x.1)
  free_back (as_pair {n = n} {σ = σ} {o = o} {a = a} {b = b} q d) v x = up_pair n σ o a b v q (free_back d v x)
  free_back (as_binder {n = n} {σ = σ} {v = w} {c = c} q d) v x = up_binder n σ w c v q (free_back d v x)
  free_back (as_filter {n = n} {σ = σ} {p = p} {c = c} q l d) v x = up_filter n σ p c v q (free_back d v x)
  free_back (leaf_stays q l) v x = x
  free_back (left d) v x = inl (free_back d v x)
  free_back (right d) v x = inr (free_back d v x)
  free_back (together c d g) v x = elim x [ inl y ↦ inl (free_back c v y) | inr y ↦ inr (free_back d v y) ]
  free_back (shuffle_left d) v x = elim x [ inl y ↦ inl (free_back d v y) | inr y ↦ inr y ]
  free_back (shuffle_right d) v x = elim x [ inl y ↦ inl y | inr y ↦ inr (free_back d v y) ]
  free_back (first d) v x = elim x [ inl y ↦ inl (free_back d v y) | inr y ↦ inr y ]
  free_back (second g d) v x = inr (free_back d v x)
  free_back (settles {v = w} {k = k} {s = s} d g) v x = let y = settle_free G s w k v x in (y.1, free_back d v y.0)
  free_back (remains d g) v x = (x.0, free_back d v x.1)
  free_back (passes_on l d) v x = free_back d v x
  free_back (stays l) v x = x

  pub free_bound : {t s : State} {β : Substitution} → Step G e t s β → (v : Var) (k : ℕ) → lookup β v ≡ Some k → Unsettled G v t
  free_bound (prefix_step {n = n} {σ = σ} {p = p} {β = β} q b) v k x = bind_free σ p e β (G.free n) b (fine G W n q).0 v k x
  free_bound (as_pair {n = n} {σ = σ} {o = o} {a = a} {b = b} q d) v k x = up_pair n σ o a b v q (free_bound d v k x)
  free_bound (as_binder {n = n} {σ = σ} {v = w} {c = c} q d) v k x = up_binder n σ w c v q (free_bound d v k x)
  free_bound (as_filter {n = n} {σ = σ} {p = p} {c = c} q l d) v k x = up_filter n σ p c v q (free_bound d v k x)
  free_bound (leaf_stays q l) v k x = absurd (none_bound v k x)
  free_bound (left d) v k x = inl (free_bound d v k x)
  free_bound (right d) v k x = inr (free_bound d v k x)
  free_bound (together {β = β} {γ = γ} c d g) v k x =
      elim (union_some (lookup β v) (lookup γ v) k (rw (lookup_tabulate (λ w. or_else (lookup β w) (lookup γ w)) v) at x))
      [ inl y ↦ inl (free_bound c v k y) | inr y ↦ inr (free_bound d v k y) ]
  free_bound (shuffle_left d) v k x = inl (free_bound d v k x)
  free_bound (shuffle_right d) v k x = inr (free_bound d v k x)
  free_bound (first d) v k x = inl (free_bound d v k x)
  free_bound (second g d) v k x = inr (free_bound d v k x)
  free_bound (settles {v = w} {β = β} d g) v k x =
      elim (same_case w v) [
        | inl s ↦ absurd (none_some k (rw (lookup_without w β v, s.0) at x))
        | inr s ↦ (s, free_bound d v k (rw (lookup_without w β v, s) at x))
      ]
  free_bound (remains {v = w} {β = β} d g) v k x =
      elim (same_case w v) [
        | inl s ↦ absurd (none_some k (sym g ∙ (rw (← s.1) at x)))
        | inr s ↦ (s, free_bound d v k x)
      ]
  free_bound (passes_on l d) v k x = free_bound d v k x
  free_bound (stays l) v k x = absurd (none_bound v k x)
