-- The list of outcomes holds just the steps.
use Rattle.std.proofs.Common.{◌≡◌, ℕ, zero, suc, ◌<◌, Bool, true, false, cond, List, [], ◌∷◌, sym, refl, ap, ◌∙◌, subst, ap₂, inl, inr, arith}
use Rattle.calculus.specs.Vocabulary.{And, Binder, Concat, Empty, Filter, Meaning, Node, None, Op, Option, Or, Pair, Pattern, Prefix, Shuffle, Some, Substitution, Var}
use Rattle.calculus.specs.Numbers.{compatible, lookup, no_numbers, restrict, union, without}
use Rattle.calculus.specs.Matching.{bind, passes, passes_at}
use Rattle.calculus.specs.Graphs.{Graph, WellFormed, WellFormedAt}
use Rattle.calculus.specs.States.{binder, child, filter, leaf, may_end, pair, settle, State}
use Rattle.calculus.specs.Steps.{as_binder, as_filter, as_pair, first, leaf_stays, left, Outcome, passes_on, prefix_step, remains, right, second, settles, shuffle_left, shuffle_right, stays, Step, together}
use Rattle.calculus.specs.Lists.{gather, In, once}
use Rattle.calculus.specs.Visited.{Successor}
use Rattle.calculus.specs.Equality.{same_outcome, same_state}
use Rattle.calculus.specs.Outcomes.{after, binder_outcomes, filter_outcomes, node_outcomes, on_match, outcomes, paired, pair_outcomes, released, unique, when}
use Rattle.calculus.proofs.Local.{fine}
use Rattle.calculus.proofs.Members.{gather_in, gather_out, in_left, in_one, in_right, in_split, once_in, once_out}
use Rattle.calculus.proofs.Equality.{same_out_eq, same_state_eq}

unique_out : (x : Outcome) (xs : List Outcome) → In x (unique xs) → In x xs
unique_out x xs i = elim (once_out same_outcome x [] xs i) [ inl j ↦ absurd j | inr j ↦ j ]

unique_in : (x : Outcome) (xs : List Outcome) → In x xs → In x (unique xs)
unique_in x xs i = once_in same_outcome same_out_eq x [] xs (inr i)

pub states_out : (x : State) (xs : List State) → In x (once same_state [] xs) → In x xs
states_out x xs i = elim (once_out same_state x [] xs i) [ inl j ↦ absurd j | inr j ↦ j ]

pub states_in : (x : State) (xs : List State) → In x xs → In x (once same_state [] xs)
states_in x xs i = once_in same_state same_state_eq x [] xs (inr i)

when_out : (b : Bool) (y x : Outcome) → In x (when b y) → (b ≡ true) × (y ≡ x)
when_out true y x i = (refl, in_one x y i)
when_out false y x i = absurd i

cond_out : (b : Bool) (xs : List Outcome) (x : Outcome) → In x (cond b xs []) → (b ≡ true) × In x xs
cond_out true xs x i = (refl, i)
cond_out false xs x i = absurd i

matched_out : (o : Option Substitution) (t : State) (x : Outcome) → In x (on_match o t) → (β : Substitution) × (o ≡ Some β) × (◌≡◌ {A = Outcome} (t, β) x)
matched_out None t x i = absurd i
matched_out (Some β) t x i = (β, refl, in_one {A = Outcome} x (t, β) i)

module _ (G : Graph) (e : Meaning) where
  -- every outcome is a step
  abbrev Steps : State → Outcome → Type 0
  Steps t x = Step G e t x.0 x.1

  abbrev Each : State → List Outcome → Type 0
  Each t xs = (x : Outcome) → In x xs → Steps t x

  both_each : (l r : State) (rs : List Outcome) → Each r rs → (y : Outcome) → Steps l y →
      Each (pair And l r) (gather (λ z. when (compatible y.1 z.1) (pair And y.0 z.0, union y.1 z.1)) rs)
  both_each l r rs g y d x i =
      let q = gather_out (λ z. when (compatible y.1 z.1) (pair And y.0 z.0, union y.1 z.1)) rs x i in
      let k = when_out (compatible y.1 q.0.1) (pair And y.0 q.0.0, union y.1 q.0.1) x q.2 in
      subst (Steps (pair And l r)) k.1 (together d (g q.0 q.1) k.0)

  paired_each : (o : Op) (l r : State) (ls rs : List Outcome) → Each l ls → Each r rs → Each (pair o l r) (paired o l r (may_end G l) ls rs)
  paired_each Or l r ls rs f g x i = elim (in_split x ls rs i) [ inl j ↦ left (f x j) | inr j ↦ right (g x j) ]
  paired_each And l r ls rs f g x i =
      let p = gather_out (λ y. gather (λ z. when (compatible y.1 z.1) (pair And y.0 z.0, union y.1 z.1)) rs) ls x i in
      both_each l r rs g p.0 (f p.0 p.1) x p.2
  paired_each Concat l r ls rs f g x i =
      elim (in_split x (gather (λ y. (pair Concat y.0 r, y.1) ∷ []) ls) (cond (may_end G l) rs []) i) [
        | inl j ↦
            let p = gather_out (λ y. (pair Concat y.0 r, y.1) ∷ []) ls x j in
            subst (Steps (pair Concat l r)) (in_one x (pair Concat p.0.0 r, p.0.1) p.2) (first (f p.0 p.1))
        | inr j ↦ let k = cond_out (may_end G l) rs x j in second k.0 (g x k.1)
      ]
  paired_each Shuffle l r ls rs f g x i =
      elim (in_split x (gather (λ y. (pair Shuffle y.0 r, y.1) ∷ []) ls) (gather (λ y. (pair Shuffle l y.0, y.1) ∷ []) rs) i) [
        | inl j ↦
            let p = gather_out (λ y. (pair Shuffle y.0 r, y.1) ∷ []) ls x j in
            subst (Steps (pair Shuffle l r)) (in_one x (pair Shuffle p.0.0 r, p.0.1) p.2) (shuffle_left (f p.0 p.1))
        | inr j ↦
            let p = gather_out (λ y. (pair Shuffle l y.0, y.1) ∷ []) rs x j in
            subst (Steps (pair Shuffle l r)) (in_one x (pair Shuffle l p.0.0, p.0.1) p.2) (shuffle_right (g p.0 p.1))
      ]

  op_each : (o : Op) (l r : State) (ls rs : List Outcome) → Each l ls → Each r rs → Each (pair o l r) (pair_outcomes o l r (may_end G l) ls rs)
  op_each o l r ls rs f g x i = paired_each o l r ls rs f g x (unique_out x (paired o l r (may_end G l) ls rs) i)

  released_step : (v : Var) (t : State) (x : Outcome) (o : Option ℕ) → lookup x.1 v ≡ o → Steps t x → Steps (binder v t) (released G v o x)
  released_step v t x None q d = remains d q
  released_step v t x (Some k) q d = settles d q

  binder_each : (v : Var) (t : State) (xs : List Outcome) → Each t xs → Each (binder v t) (binder_outcomes G v xs)
  binder_each v t xs f x i =
      let p = gather_out (λ y. released G v (lookup y.1 v) y ∷ []) xs x (unique_out x (gather (λ y. released G v (lookup y.1 v) y ∷ []) xs) i) in
      subst (Steps (binder v t)) (in_one x (released G v (lookup p.0.1 v) p.0) p.2)
      (released_step v t p.0 (lookup p.0.1 v) refl (f p.0 p.1))

  filter_each : (n : ℕ) (u c : State) (b : Bool) (xs : List Outcome) → (b ≡ false → Step G e u u no_numbers) →
      (b ≡ true → (x : Outcome) → In x xs → Step G e u (filter n x.0) x.1) → Each u (filter_outcomes n b u xs)
  filter_each n u c false xs f g x i = subst (Steps u) (in_one x (u, no_numbers) i) (f refl)
  filter_each n u c true xs f g x i =
      let p = gather_out (λ y. (filter n y.0, y.1) ∷ []) xs x (unique_out x (gather (λ y. (filter n y.0, y.1) ∷ []) xs) i) in
      subst (Steps u) (in_one x (filter n p.0.0, p.0.1) p.2) (g refl p.0 p.1)

  node_each : (f n : ℕ) (σ : Substitution) (nd : Node) → G.node n ≡ nd → Each (leaf n σ) (node_outcomes G e f n σ nd)
  node_each zero n σ nd q x i = absurd i
  node_each (suc f) n σ Empty q x i = absurd i
  node_each (suc f) n σ (Prefix p t) q x i =
      let k = matched_out (bind σ p e) (child G t σ) x i in subst (Steps (leaf n σ)) k.2 (prefix_step q k.1)
  node_each (suc f) n σ (Pair o a b) q x i =
      as_pair q (op_each o (child G a σ) (child G b σ) (node_outcomes G e f a (restrict (G.free a) σ) (G.node a)) (node_outcomes G e f b (restrict (G.free b) σ) (G.node b))
      (node_each f a (restrict (G.free a) σ) (G.node a) refl) (node_each f b (restrict (G.free b) σ) (G.node b) refl) x i)
  node_each (suc f) n σ (Binder v c) q x i =
      as_binder q (binder_each v (child G c (without v σ)) (node_outcomes G e f c (restrict (G.free c) (without v σ)) (G.node c))
      (node_each f c (restrict (G.free c) (without v σ)) (G.node c) refl) x i)
  node_each (suc f) n σ (Filter p c) q x i =
      filter_each n (leaf n σ) (child G c σ) (passes p e) (node_outcomes G e f c (restrict (G.free c) σ) (G.node c))
      (λ l. leaf_stays q (rw q l)) (λ l y j. as_filter q (rw q l) (node_each f c (restrict (G.free c) σ) (G.node c) refl y j)) x i

  pub outcomes_step : (t : State) → Each t (outcomes G e t)
  outcomes_step (leaf n σ) = node_each (suc (G.rank n)) n σ (G.node n) refl
  outcomes_step (pair o l r) = op_each o l r (outcomes G e l) (outcomes G e r) (outcomes_step l) (outcomes_step r)
  outcomes_step (binder v t) = binder_each v t (outcomes G e t) (outcomes_step t)
  outcomes_step (filter n t) = filter_each n (filter n t) t (passes_at (G.node n) e) (outcomes G e t) (λ l. stays l) (λ l y j. passes_on l (outcomes_step t y j))

module _ (G : Graph) (W : WellFormed G) (e : Meaning) where
  -- more fuel than the rank changes nothing
  stable : (f g n : ℕ) (σ : Substitution) (nd : Node) → G.rank n < f → G.rank n < g → G.node n ≡ nd →
      node_outcomes G e f n σ nd ≡ node_outcomes G e g n σ nd
  stable zero g n σ nd h k q = absurd (omega arith)
  stable (suc f) zero n σ nd h k q = absurd (omega arith)
  stable (suc f) (suc g) n σ Empty h k q = refl
  stable (suc f) (suc g) n σ (Prefix p t) h k q = refl
  stable (suc f) (suc g) n σ (Pair o a b) h k q =
      let F : WellFormedAt G n (Pair o a b) = fine G W n q in
      ap₂ (pair_outcomes o (child G a σ) (child G b σ) (may_end G (child G a σ)))
      (stable f g a (restrict (G.free a) σ) (G.node a) (omega (arith, F.0)) (omega (arith, F.0)) refl)
      (stable f g b (restrict (G.free b) σ) (G.node b) (omega (arith, F.1)) (omega (arith, F.1)) refl)
  stable (suc f) (suc g) n σ (Binder v c) h k q =
      let F : WellFormedAt G n (Binder v c) = fine G W n q in
      ap (binder_outcomes G v) (stable f g c (restrict (G.free c) (without v σ)) (G.node c) (omega (arith, F.0)) (omega (arith, F.0)) refl)
  stable (suc f) (suc g) n σ (Filter p c) h k q =
      let F : WellFormedAt G n (Filter p c) = fine G W n q in
      ap (filter_outcomes n (passes p e) (leaf n σ)) (stable f g c (restrict (G.free c) σ) (G.node c) (omega (arith, F.0)) (omega (arith, F.0)) refl)

  -- so a leaf's outcomes are those of what it steps as
  node_of : (n : ℕ) (σ : Substitution) (nd : Node) → G.node n ≡ nd → outcomes G e (leaf n σ) ≡ node_outcomes G e (suc (G.rank n)) n σ nd
  node_of n σ nd q = ap (node_outcomes G e (suc (G.rank n)) n σ) q

  to_rank : (n a : ℕ) (σ : Substitution) → G.rank a < G.rank n → node_outcomes G e (G.rank n) a (restrict (G.free a) σ) (G.node a) ≡ outcomes G e (child G a σ)
  to_rank n a σ h = stable (G.rank n) (suc (G.rank a)) a (restrict (G.free a) σ) (G.node a) h (omega arith) refl

  pub outcomes_pair : (n : ℕ) (σ : Substitution) (o : Op) (a b : ℕ) → G.node n ≡ Pair o a b →
      outcomes G e (leaf n σ) ≡ outcomes G e (pair o (child G a σ) (child G b σ))
  outcomes_pair n σ o a b q =
      node_of n σ (Pair o a b) q ∙
      ap₂ (pair_outcomes o (child G a σ) (child G b σ) (may_end G (child G a σ))) (to_rank n a σ (fine G W n q).0) (to_rank n b σ (fine G W n q).1)

  pub outcomes_binder : (n : ℕ) (σ : Substitution) (v : Var) (c : ℕ) → G.node n ≡ Binder v c →
      outcomes G e (leaf n σ) ≡ outcomes G e (binder v (child G c (without v σ)))
  outcomes_binder n σ v c q = node_of n σ (Binder v c) q ∙ ap (binder_outcomes G v) (to_rank n c (without v σ) (fine G W n q).0)

  pub outcomes_filter : (n : ℕ) (σ : Substitution) (p : Pattern) (c : ℕ) → G.node n ≡ Filter p c →
      outcomes G e (leaf n σ) ≡ filter_outcomes n (passes_at (G.node n) e) (leaf n σ) (outcomes G e (child G c σ))
  outcomes_filter n σ p c q =
      node_of n σ (Filter p c) q ∙ ap₂ (λ (b : Bool) (xs : List Outcome). filter_outcomes n b (leaf n σ) xs)
      (ap (λ (nd : Node). passes_at nd e) (sym q)) (to_rank n c σ (fine G W n q).0)

  op_in : (o : Op) (l r : State) (x : Outcome) → In x (paired o l r (may_end G l) (outcomes G e l) (outcomes G e r)) → In x (outcomes G e (pair o l r))
  op_in o l r x i = unique_in x (paired o l r (may_end G l) (outcomes G e l) (outcomes G e r)) i

  binder_in : (v : Var) (t : State) (x y : Outcome) → In x (outcomes G e t) → released G v (lookup x.1 v) x ≡ y → In y (outcomes G e (binder v t))
  binder_in v t x y i q =
      unique_in y (gather (λ (z : Outcome). released G v (lookup z.1 v) z ∷ []) (outcomes G e t))
      (gather_in (λ (z : Outcome). released G v (lookup z.1 v) z ∷ []) (outcomes G e t) x y i (inl q))

  pub step_outcomes : {t s : State} {β : Substitution} → Step G e t s β → In {A = Outcome} (s, β) (outcomes G e t)
  step_outcomes (prefix_step {n = n} {σ = σ} {p = p} {t = t} {β = β} q b) =
      subst (λ (xs : List Outcome). In {A = Outcome} (child G t σ, β) xs)
      (sym (node_of n σ (Prefix p t) q ∙ ap (λ (o : Option Substitution). on_match o (child G t σ)) b)) (inl refl)
  step_outcomes (as_pair {n = n} {σ = σ} {o = o} {a = a} {b = b} {s = s} {β = β} q d) =
      subst (λ (xs : List Outcome). In {A = Outcome} (s, β) xs) (sym (outcomes_pair n σ o a b q)) (step_outcomes d)
  step_outcomes (as_binder {n = n} {σ = σ} {v = v} {c = c} {s = s} {β = β} q d) =
      subst (λ (xs : List Outcome). In {A = Outcome} (s, β) xs) (sym (outcomes_binder n σ v c q)) (step_outcomes d)
  step_outcomes (as_filter {n = n} {σ = σ} {p = p} {c = c} {s = s} {β = β} q l d) =
      subst (λ (xs : List Outcome). In {A = Outcome} (filter n s, β) xs) (sym (outcomes_filter n σ p c q))
      (rw l (unique_in (filter n s, β) (gather (λ (y : Outcome). (filter n y.0, y.1) ∷ []) (outcomes G e (child G c σ))) (gather_in (λ (y : Outcome). (filter n y.0, y.1) ∷ []) (outcomes G e (child G c σ)) (s, β) (filter n s, β) (step_outcomes d) (inl refl))))
  step_outcomes (leaf_stays {n = n} {σ = σ} {p = p} {c = c} q l) =
      subst (λ (xs : List Outcome). In {A = Outcome} (leaf n σ, no_numbers) xs) (sym (outcomes_filter n σ p c q)) (rw l (inl refl))
  step_outcomes (left {l = t} {r = r} {s = s} {β = β} d) = op_in Or t r (s, β) (in_left {A = Outcome} (s, β) (outcomes G e t) (outcomes G e r) (step_outcomes d))
  step_outcomes (right {l = t} {r = r} {s = s} {β = β} d) = op_in Or t r (s, β) (in_right {A = Outcome} (s, β) (outcomes G e t) (outcomes G e r) (step_outcomes d))
  step_outcomes (together {l = l} {r = r} {s = s} {t = t} {β = β} {γ = γ} c d g) =
      op_in And l r (pair And s t, union β γ) (gather_in (λ (y : Outcome). gather (λ (z : Outcome). when (compatible y.1 z.1) (pair And y.0 z.0, union y.1 z.1)) (outcomes G e r)) (outcomes G e l)
      (s, β) (pair And s t, union β γ) (step_outcomes c)
      (gather_in (λ (z : Outcome). when (compatible β z.1) (pair And s z.0, union β z.1)) (outcomes G e r) (t, γ) (pair And s t, union β γ) (step_outcomes d)
      (rw g (inl refl))))
  step_outcomes (shuffle_left {l = l} {r = r} {s = s} {β = β} d) =
      op_in Shuffle l r (pair Shuffle s r, β) (in_left {A = Outcome} (pair Shuffle s r, β) _ _ (gather_in (λ (y : Outcome). (pair Shuffle y.0 r, y.1) ∷ []) (outcomes G e l) (s, β) (pair Shuffle s r, β) (step_outcomes d) (inl refl)))
  step_outcomes (shuffle_right {l = l} {r = r} {s = s} {β = β} d) =
      op_in Shuffle l r (pair Shuffle l s, β) (in_right {A = Outcome} (pair Shuffle l s, β) (gather (λ (y : Outcome). (pair Shuffle y.0 r, y.1) ∷ []) (outcomes G e l)) _
      (gather_in (λ (y : Outcome). (pair Shuffle l y.0, y.1) ∷ []) (outcomes G e r) (s, β) (pair Shuffle l s, β) (step_outcomes d) (inl refl)))
  step_outcomes (first {l = l} {r = r} {s = s} {β = β} d) =
      op_in Concat l r (pair Concat s r, β) (in_left {A = Outcome} (pair Concat s r, β) _ _ (gather_in (λ (y : Outcome). (pair Concat y.0 r, y.1) ∷ []) (outcomes G e l) (s, β) (pair Concat s r, β) (step_outcomes d) (inl refl)))
  step_outcomes (second {l = l} {r = r} {s = s} {β = β} g d) =
      op_in Concat l r (s, β) (in_right {A = Outcome} (s, β) (gather (λ (y : Outcome). (pair Concat y.0 r, y.1) ∷ []) (outcomes G e l)) _ (rw g (step_outcomes d)))
  step_outcomes (settles {v = v} {k = k} {t = t} {s = s} {β = β} d g) =
      binder_in v t (s, β) (settle G v k s, without v β) (step_outcomes d) (ap (λ (o : Option ℕ). released G v o (s, β)) g)
  step_outcomes (remains {v = v} {t = t} {s = s} {β = β} d g) =
      binder_in v t (s, β) (binder v s, β) (step_outcomes d) (ap (λ (o : Option ℕ). released G v o (s, β)) g)
  step_outcomes (passes_on {n = n} {t = t} {s = s} {β = β} l d) =
      rw l (unique_in (filter n s, β) (gather (λ (y : Outcome). (filter n y.0, y.1) ∷ []) (outcomes G e t)) (gather_in (λ (y : Outcome). (filter n y.0, y.1) ∷ []) (outcomes G e t) (s, β) (filter n s, β) (step_outcomes d) (inl refl)))
  step_outcomes (stays l) = rw l (inl refl)

-- the states after an event are the successors of those held
abbrev state_of : Outcome → List State
state_of x = x.0 ∷ []

abbrev states_of : Graph → Meaning → State → List State
states_of G e t = gather state_of (outcomes G e t)

pub after_out : (G : Graph) (e : Meaning) (ts : List State) (s : State) → In s (after G e ts) → Successor G e ts s
after_out G e ts s i =
    let g = gather_out (states_of G e) ts s (states_out s (gather (states_of G e) ts) i) in
    let k = gather_out state_of (outcomes G e g.0) s g.2 in
    record {
      from = g.0;
      is_held = g.1;
      binding = k.0.1;
      step = subst (λ (u : State). Step G e g.0 u k.0.1) (in_one s k.0.0 k.2) (outcomes_step G e g.0 k.0 k.1);
    }

pub after_in : (G : Graph) → WellFormed G → (e : Meaning) (ts : List State) (s : State) → Successor G e ts s → In s (after G e ts)
after_in G W e ts s n =
    states_in s (gather (states_of G e) ts) (gather_in (states_of G e) ts n.from s n.is_held
    (gather_in state_of (outcomes G e n.from) (s, n.binding) s (step_outcomes G W e n.step) (inl refl)))
