-- Steps agree with the reading, event by event.
-- what a step binds has 32 bits
use Rattle.std.proofs.Common.{◌≡◌, ℕ, zero, suc, ◌<◌, Bool, true, false, List, [], ◌∷◌, sym, refl, subst, inl, inr, arith}
use Rattle.calculus.specs.Vocabulary.{And, Binder, Concat, Empty, Filter, Meaning, Node, None, Op, Option, Or, Pair, Prefix, Shuffle, Some, Substitution, Var}
use Rattle.calculus.specs.Numbers.{Agrees, Choice, lookup, no_numbers, or_else, over, restrict, union, update, without}
use Rattle.calculus.specs.Matching.{Narrow, passes_at, Proper, select}
use Rattle.calculus.specs.Graphs.{Graph, WellFormed, WellFormedAt}
use Rattle.calculus.specs.Reading.{beginning, Cut, Deal, here, later, Mode, next, Permits, to_left, to_right, whole}
use Rattle.calculus.specs.States.{Allows, binder, child, filter, leaf, pair, settle, State}
use Rattle.calculus.specs.Steps.{as_binder, as_filter, as_pair, first, leaf_stays, left, passes_on, prefix_step, remains, right, second, settles, shuffle_left, shuffle_right, stays, Step, together}
use Rattle.calculus.specs.Theorems.{StepsTo}
use Rattle.calculus.proofs.Substitutions.{agrees_apart, agrees_its, agrees_made, agrees_none, agrees_other, agrees_settled, agrees_unsettled, agrees_without, lookup_tabulate, lookup_without, none_bound, none_some, same_case, union_some}
use Rattle.calculus.proofs.Binding.{bind_complete, bind_narrow, bind_sound}
use Rattle.calculus.proofs.Local.{fine, no_empty, unfold_prefix}
use Rattle.calculus.proofs.Allowing.{child_down, child_up, close_binder, close_filter, close_pair, may_end_tells, open_binder, open_filter, open_pair, settle_down, settle_up}

pub step_narrow : {G : Graph} {e : Meaning} {t s : State} {β : Substitution} → Proper e → Step G e t s β → (v : Var) (k : ℕ) → lookup β v ≡ Some k → Narrow k
step_narrow {e = e} P (prefix_step {σ = σ} {p = p} {β = β} q b) v k x = bind_narrow σ p e β P b v k x
step_narrow P (as_pair q d) v k x = step_narrow P d v k x
step_narrow P (as_binder q d) v k x = step_narrow P d v k x
step_narrow P (as_filter q l d) v k x = step_narrow P d v k x
step_narrow P (leaf_stays q l) v k x = absurd (none_bound v k x)
step_narrow P (left d) v k x = step_narrow P d v k x
step_narrow P (right d) v k x = step_narrow P d v k x
step_narrow P (together {β = β} {γ = γ} c d g) v k x =
    elim (union_some (lookup β v) (lookup γ v) k (rw (lookup_tabulate (λ w. or_else (lookup β w) (lookup γ w)) v) at x))
    [ inl y ↦ step_narrow P c v k y | inr y ↦ step_narrow P d v k y ]
step_narrow P (shuffle_left d) v k x = step_narrow P d v k x
step_narrow P (shuffle_right d) v k x = step_narrow P d v k x
step_narrow P (first d) v k x = step_narrow P d v k x
step_narrow P (second g d) v k x = step_narrow P d v k x
step_narrow P (settles {v = w} {β = β} d g) v k x =
    elim (same_case w v) [
      | inl s ↦ absurd (none_some k (rw (lookup_without w β v, s.0) at x))
      | inr s ↦ step_narrow P d v k (rw (lookup_without w β v, s) at x)
    ]
step_narrow P (remains d g) v k x = step_narrow P d v k x
step_narrow P (passes_on l d) v k x = step_narrow P d v k x
step_narrow P (stays l) v k x = absurd (none_bound v k x)

module _ (G : Graph) (W : WellFormed G) (e : Meaning) where
  -- what the state after a step allows, the state before it allows after the event
  pub sound : Proper e → {t s : State} {β : Substitution} → Step G e t s β → (ρ : Choice) (m : Mode) (es : List Meaning) →
      Agrees β ρ → Allows G s ρ m es → Allows G t ρ m (e ∷ es)
  sound P (prefix_step {n = n} {σ = σ} {p = p} {t = t} {β = β} q b) ρ m es h x =
      subst (λ (y : Node). Permits G.node m y (over σ ρ) (e ∷ es)) (sym q)
      (next (bind_sound σ p e β ρ b h) (child_up G W t σ ρ m es x))
  sound P (as_pair {n = n} {σ = σ} {o = o} {a = a} {b = b} q d) ρ m es h x =
      close_pair G W n σ o a b ρ m (e ∷ es) q (sound P d ρ m es h x)
  sound P (as_binder {n = n} {σ = σ} {v = v} {c = c} q d) ρ m es h x =
      close_binder G W n σ v c ρ m (e ∷ es) q (sound P d ρ m es h x)
  sound P (as_filter {n = n} {σ = σ} {p = p} {c = c} q l d) ρ m es h x =
      close_filter G W n σ p c ρ m (e ∷ es) q (rw l (sound P d ρ m (select (passes_at (G.node n)) es) h x))
  sound P (leaf_stays {n = n} {σ = σ} {p = p} {c = c} q l) ρ m es h x =
      close_filter G W n σ p c ρ m (e ∷ es) q (rw l (open_filter G W n σ p c ρ m es q x))
  sound P (left d) ρ m es h x = inl (sound P d ρ m es h x)
  sound P (right d) ρ m es h x = inr (sound P d ρ m es h x)
  sound P (together {β = β} {γ = γ} c d g) ρ m es h x =
      let b = agrees_apart β γ ρ g h in (sound P c ρ m es b.0 x.0, sound P d ρ m es b.1 x.1)
  sound P (shuffle_left d) ρ m es h x = (e ∷ x.0, x.1, to_left x.2, sound P d ρ m x.0 h x.3, x.4)
  sound P (shuffle_right d) ρ m es h x = (x.0, e ∷ x.1, to_right x.2, x.3, sound P d ρ m x.1 h x.4)
  sound P (first d) ρ m es h x =
      elim x [
        | inl y ↦ inl (y.0, sound P d ρ beginning es h y.1)
        | inr y ↦ inr (e ∷ y.0, y.1, later y.2, sound P d ρ whole y.0 h y.3, y.4)
      ]
  sound P (second {l = l} g d) ρ m es h x = inr ([], e ∷ es, here, (may_end_tells G W l ρ).0 g, sound P d ρ m es h x)
  sound P (settles {v = v} {k = k} {s = s} {β = β} d g) ρ m es h x =
      (k, step_narrow P d v k g, sound P d (update ρ v k) m es (agrees_settled β ρ v k g h) (settle_down G W s v k ρ m es x))
  sound P (remains {v = v} {β = β} d g) ρ m es h x =
      (x.0, x.1, sound P d (update ρ v x.0) m es (agrees_unsettled β ρ v x.0 g h) x.2)
  sound P (passes_on {n = n} l d) ρ m es h x = rw l (sound P d ρ m (select (passes_at (G.node n)) es) h x)
  sound P (stays l) ρ m es h x = rw l x

  abbrev All : State → Choice → Type 0
  All t ρ = (m : Mode) (es : List Meaning) → Allows G t ρ m (e ∷ es) → StepsTo G e t ρ m es

  cut_goes : (l r : State) (ρ : Choice) → All l ρ → All r ρ → (m : Mode) {xs ys : List Meaning} (es : List Meaning) → Cut xs ys (e ∷ es) →
      Allows G l ρ whole xs → Allows G r ρ m ys → StepsTo G e (pair Concat l r) ρ m es
  cut_goes l r ρ f g m es here x y =
      let z = g m es y in
      record { to = z.to; binding = z.binding; step = second ((may_end_tells G W l ρ).1 x) z.step; agrees = z.agrees; on = z.on }
  cut_goes l r ρ f g m es (later {xs = xs} {ys = ys} c) x y =
      let z = f whole xs x in
      record { to = pair Concat z.to r; binding = z.binding; step = first z.step; agrees = z.agrees; on = inr (xs, ys, c, z.on, y) }

  deal_goes : (l r : State) (ρ : Choice) → All l ρ → All r ρ → (m : Mode) {xs ys : List Meaning} (es : List Meaning) → Deal xs ys (e ∷ es) →
      Allows G l ρ m xs → Allows G r ρ m ys → StepsTo G e (pair Shuffle l r) ρ m es
  deal_goes l r ρ f g m es (to_left {xs = xs} {ys = ys} c) x y =
      let z = f m xs x in
      record { to = pair Shuffle z.to r; binding = z.binding; step = shuffle_left z.step; agrees = z.agrees; on = (xs, ys, c, z.on, y) }
  deal_goes l r ρ f g m es (to_right {xs = xs} {ys = ys} c) x y =
      let z = g m ys y in
      record { to = pair Shuffle l z.to; binding = z.binding; step = shuffle_right z.step; agrees = z.agrees; on = (xs, ys, c, x, z.on) }

  pair_goes : (o : Op) (l r : State) (ρ : Choice) → All l ρ → All r ρ → All (pair o l r) ρ
  pair_goes Or l r ρ f g m es (inl x) =
      let z = f m es x in record { to = z.to; binding = z.binding; step = left z.step; agrees = z.agrees; on = z.on }
  pair_goes Or l r ρ f g m es (inr x) =
      let z = g m es x in record { to = z.to; binding = z.binding; step = right z.step; agrees = z.agrees; on = z.on }
  pair_goes And l r ρ f g m es x =
      let y = f m es x.0 in
      let z = g m es x.1 in
      let b = agrees_made y.binding z.binding ρ y.agrees z.agrees in
      record { to = pair And y.to z.to; binding = union y.binding z.binding; step = together y.step z.step b.0; agrees = b.1; on = (y.on, z.on) }
  pair_goes Concat l r ρ f g m es (inl x) =
      let z = f beginning es x.1 in
      record { to = pair Concat z.to r; binding = z.binding; step = first z.step; agrees = z.agrees; on = inl (x.0, z.on) }
  pair_goes Concat l r ρ f g m es (inr x) = cut_goes l r ρ f g m es x.2 x.3 x.4
  pair_goes Shuffle l r ρ f g m es x = deal_goes l r ρ f g m es x.2 x.3 x.4

  binder_goes : (v : Var) (t : State) (ρ : Choice) → ((k : ℕ) → All t (update ρ v k)) → All (binder v t) ρ
  binder_goes v t ρ f m es x = go (lookup z.binding v) refl
    where
      k : ℕ
      k = x.0

      z : StepsTo G e t (update ρ v k) m es
      z = f k m es x.2

      go : (o : Option ℕ) → lookup z.binding v ≡ o → StepsTo G e (binder v t) ρ m es
      go None g = record {
        to = binder v z.to;
        binding = z.binding;
        step = remains z.step g;
        agrees = agrees_other z.binding ρ v k g z.agrees;
        on = (k, x.1, z.on);
      }
      go (Some j) g = record {
        to = settle G v j z.to;
        binding = without v z.binding;
        step = settles z.step g;
        agrees = agrees_without z.binding ρ v k z.agrees;
        on = settle_up G W z.to v j ρ m es
            (subst (λ (i : ℕ). Allows G z.to (update ρ v i) m es) (sym (agrees_its z.binding ρ v k j g z.agrees)) z.on);
      }

  filter_goes : (n : ℕ) (t : State) (ρ : Choice) → All t ρ → All (filter n t) ρ
  filter_goes n t ρ f m es x = go (passes_at (G.node n) e) refl
    where
      go : (b : Bool) → passes_at (G.node n) e ≡ b → StepsTo G e (filter n t) ρ m es
      go true l = let z = f m (select (passes_at (G.node n)) es) (rw l at x) in
          record { to = filter n z.to; binding = z.binding; step = passes_on l z.step; agrees = z.agrees; on = z.on }
      go false l = record { to = filter n t; binding = no_numbers; step = stays l; agrees = agrees_none ρ; on = rw l at x }

  leaf_at : (f n : ℕ) → ((a : ℕ) → G.rank a < f → (σ : Substitution) (ρ : Choice) → All (leaf a σ) ρ) →
      G.rank n < suc f → (nd : Node) → G.node n ≡ nd → (σ : Substitution) (ρ : Choice) → All (leaf n σ) ρ
  leaf_at f n ih h Empty q σ ρ m es x = absurd (no_empty G (subst (λ (y : Node). Permits G.node m y (over σ ρ) (e ∷ es)) q x))
  leaf_at f n ih h (Prefix p t) q σ ρ m es x =
      let y = unfold_prefix G (subst (λ (y : Node). Permits G.node m y (over σ ρ) (e ∷ es)) q x) in
      let b = bind_complete σ p e ρ y.0 in
      record { to = child G t σ; binding = b.0; step = prefix_step q b.1; agrees = b.2; on = child_down G W t σ ρ m es y.1 }
  leaf_at f n ih h (Pair o a b) q σ ρ m es x =
      let F : WellFormedAt G n (Pair o a b) = fine G W n q in
      let z = pair_goes o (child G a σ) (child G b σ) ρ
      (ih a (omega (arith, F.0)) (restrict (G.free a) σ) ρ) (ih b (omega (arith, F.1)) (restrict (G.free b) σ) ρ) m es
      (open_pair G W n σ o a b ρ m (e ∷ es) q x) in
      record { to = z.to; binding = z.binding; step = as_pair q z.step; agrees = z.agrees; on = z.on }
  leaf_at f n ih h (Binder v c) q σ ρ m es x =
      let z = binder_goes v (child G c (without v σ)) ρ
      (λ k. ih c (omega (arith, (fine G W n q).0)) (restrict (G.free c) (without v σ)) (update ρ v k)) m es
      (open_binder G W n σ v c ρ m (e ∷ es) q x) in
      record { to = z.to; binding = z.binding; step = as_binder q z.step; agrees = z.agrees; on = z.on }
  leaf_at f n ih h (Filter p c) q σ ρ m es x = go (passes_at (G.node n) e) refl
    where
      y : Allows G (filter n (child G c σ)) ρ m (e ∷ es)
      y = open_filter G W n σ p c ρ m (e ∷ es) q x

      go : (b : Bool) → passes_at (G.node n) e ≡ b → StepsTo G e (leaf n σ) ρ m es
      go true l =
          let z = ih c (omega (arith, (fine G W n q).0)) (restrict (G.free c) σ) ρ m (select (passes_at (G.node n)) es) (rw l at y) in
          record { to = filter n z.to; binding = z.binding; step = as_filter q l z.step; agrees = z.agrees; on = z.on }
      go false l = record {
        to = leaf n σ;
        binding = no_numbers;
        step = leaf_stays q l;
        agrees = agrees_none ρ;
        on = close_filter G W n σ p c ρ m es q (rw l at y);
      }

  leaf_goes : (f n : ℕ) → G.rank n < f → (σ : Substitution) (ρ : Choice) → All (leaf n σ) ρ
  leaf_goes zero n h σ ρ = absurd (omega arith)
  leaf_goes (suc f) n h σ ρ = leaf_at f n (leaf_goes f) h (G.node n) refl σ ρ

  -- what a state allows after the event, a state after some step allows
  pub complete : (t : State) (ρ : Choice) (m : Mode) (es : List Meaning) → Allows G t ρ m (e ∷ es) → StepsTo G e t ρ m es
  complete (leaf n σ) ρ = leaf_goes (suc (G.rank n)) n (omega arith) σ ρ
  complete (pair o l r) ρ = pair_goes o l r ρ (complete l ρ) (complete r ρ)
  complete (binder v t) ρ = binder_goes v t ρ (λ k. complete t (update ρ v k))
  complete (filter n t) ρ = filter_goes n t ρ (complete t ρ)
