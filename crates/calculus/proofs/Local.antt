-- The reading of a node: it depends on the node's free variables alone, and is taken apart and put together by the node's kind.
use Rattle.std.proofs.Common.{◌≡◌, ℕ, zero, suc, ◌<◌, Bool, true, false, ◌⊎◌, List, [], ◌∷◌, refl, ap, ◌∙◌, subst, ap₂, inl, inr, arith}
use Rattle.calculus.specs.Vocabulary.{And, Any, Binder, Concat, Constant, Empty, Filter, Meaning, Node, Op, Option, Or, Pair, Pattern, Prefix, same, Shuffle, Slot, Some, Substitution, Var, Variable}
use Rattle.calculus.specs.Numbers.{Choice, update, without}
use Rattle.calculus.specs.Matching.{Fits, Matches, Narrow, passes, select}
use Rattle.calculus.specs.Graphs.{Graph, Names, NamesWithin, WellFormed, WellFormedAt}
use Rattle.calculus.specs.Reading.{beginning, begun, by_both, by_left, by_right, cut_in_two, ended, filtered, first_only, for_some, Mode, next, Permits, shuffled, whole}
use Rattle.calculus.specs.States.{binder, child, Combined, Language, leaf, may_end, node_ends, pair, pair_ends}
use Rattle.calculus.proofs.Substitutions.{same_case}

abbrev pub AgreeOn : (Var → Bool) → Choice → Choice → Type 0
AgreeOn f ρ τ = (v : Var) → f v ≡ true → ρ v ≡ τ v

fits_local : (s : Slot) (o : Option ℕ) {ρ τ : Choice} → ((v : Var) → Names v s → ρ v ≡ τ v) → Fits ρ s o → Fits τ s o
fits_local Any o h x = tt
fits_local (Constant k) o h x = x
fits_local (Variable v) o h x = x ∙ ap Some (h v refl)

match_local : (p : Pattern) (e : Meaning) (g : Var → Bool) {ρ τ : Choice} → NamesWithin p g → AgreeOn g ρ τ → Matches ρ p e → Matches τ p e
match_local p e g n h x = record {
  type = x.type;
  player = fits_local p.player e.player (λ v i. h v (n.player v i)) x.player;
  card = fits_local p.card e.card (λ v i. h v (n.card v i)) x.card;
  strokes = fits_local p.strokes e.strokes (λ v i. h v (n.strokes v i)) x.strokes;
}

pub combined_map : (o : Op) (L L' K K' : Language) → ((m : Mode) (es : List Meaning) → L m es → L' m es) →
    ((m : Mode) (es : List Meaning) → K m es → K' m es) → (m : Mode) (es : List Meaning) → Combined o L K m es → Combined o L' K' m es
combined_map Or L L' K K' f g m es (inl x) = inl (f m es x)
combined_map Or L L' K K' f g m es (inr x) = inr (g m es x)
combined_map And L L' K K' f g m es x = (f m es x.0, g m es x.1)
combined_map Concat L L' K K' f g m es (inl x) = inl (x.0, f beginning es x.1)
combined_map Concat L L' K K' f g m es (inr x) = inr (x.0, x.1, x.2, f whole x.0 x.3, g m x.1 x.4)
combined_map Shuffle L L' K K' f g m es x = (x.0, x.1, x.2, f m x.0 x.3, g m x.1 x.4)

module _ (G : Graph) where
  pub fold_pair : (o : Op) (a b : ℕ) {m : Mode} {ρ : Choice} {es : List Meaning} →
      Combined o (λ i. Permits G.node i (G.node a) ρ) (λ i. Permits G.node i (G.node b) ρ) m es → Permits G.node m (Pair o a b) ρ es
  fold_pair Or a b (inl x) = by_left x
  fold_pair Or a b (inr x) = by_right x
  fold_pair And a b x = by_both x.0 x.1
  fold_pair Concat a b (inl x) = rw x.0 (first_only x.1)
  fold_pair Concat a b (inr x) = cut_in_two x.2 x.3 x.4
  fold_pair Shuffle a b x = shuffled x.2 x.3 x.4

  pub unfold_pair : {o : Op} {a b : ℕ} {m : Mode} {ρ : Choice} {es : List Meaning} → Permits G.node m (Pair o a b) ρ es →
      Combined o (λ i. Permits G.node i (G.node a) ρ) (λ i. Permits G.node i (G.node b) ρ) m es
  unfold_pair (by_left d) = inl d
  unfold_pair (by_right d) = inr d
  unfold_pair (by_both c d) = (c, d)
  unfold_pair (shuffled x c d) = (_, _, x, c, d)
  unfold_pair (first_only d) = inl (refl, d)
  unfold_pair (cut_in_two x c d) = inr (_, _, x, c, d)

  pub unfold_binder : {v : Var} {c : ℕ} {m : Mode} {ρ : Choice} {es : List Meaning} → Permits G.node m (Binder v c) ρ es →
      (k : ℕ) × Narrow k × Permits G.node m (G.node c) (update ρ v k) es
  unfold_binder (for_some k h d) = (k, h, d)

  pub unfold_filter : {p : Pattern} {c : ℕ} {m : Mode} {ρ : Choice} {es : List Meaning} → Permits G.node m (Filter p c) ρ es →
      Permits G.node m (G.node c) ρ (select (passes p) es)
  unfold_filter (filtered d) = d

  pub unfold_prefix : {p : Pattern} {t : ℕ} {m : Mode} {ρ : Choice} {e : Meaning} {es : List Meaning} → Permits G.node m (Prefix p t) ρ (e ∷ es) →
      Matches ρ p e × Permits G.node m (G.node t) ρ es
  unfold_prefix (next x d) = (x, d)

  pub no_empty : {m : Mode} {ρ : Choice} {e : Meaning} {es : List Meaning} → Permits G.node m Empty ρ (e ∷ es) → ⊥
  no_empty d = elim d [ ]

  pub no_prefix : {p : Pattern} {t : ℕ} {ρ : Choice} → Permits G.node whole (Prefix p t) ρ [] → ⊥
  no_prefix d = elim d [ ]

module _ (G : Graph) (W : WellFormed G) where
  pub fine : {nd : Node} (n : ℕ) → G.node n ≡ nd → WellFormedAt G n nd
  fine n q = subst (λ (x : Node). WellFormedAt G n x) q (W n)

  pub local : {m : Mode} {nd : Node} {ρ : Choice} {es : List Meaning} (n : ℕ) (τ : Choice) →
      G.node n ≡ nd → AgreeOn (G.free n) ρ τ → Permits G.node m nd ρ es → Permits G.node m nd τ es
  local n τ q h ended = ended
  local n τ q h begun = begun
  local n τ q h (next {p = p} {t = t} {e = e} x d) =
      next (match_local p e (G.free n) (fine n q).0 h x) (local t τ refl (λ v f. h v ((fine n q).1 v f)) d)
  local n τ q h (by_left {a = a} d) = by_left (local a τ refl (λ v f. h v ((fine n q).2 v f)) d)
  local n τ q h (by_right {b = b} d) = by_right (local b τ refl (λ v f. h v ((fine n q).3 v f)) d)
  local n τ q h (by_both {a = a} {b = b} c d) =
      by_both (local a τ refl (λ v f. h v ((fine n q).2 v f)) c) (local b τ refl (λ v f. h v ((fine n q).3 v f)) d)
  local n τ q h (shuffled {a = a} {b = b} x c d) =
      shuffled x (local a τ refl (λ v f. h v ((fine n q).2 v f)) c) (local b τ refl (λ v f. h v ((fine n q).3 v f)) d)
  local n τ q h (first_only {a = a} d) = first_only (local a τ refl (λ v f. h v ((fine n q).2 v f)) d)
  local n τ q h (cut_in_two {a = a} {b = b} x c d) =
      cut_in_two x (local a τ refl (λ v f. h v ((fine n q).2 v f)) c) (local b τ refl (λ v f. h v ((fine n q).3 v f)) d)
  local n τ q h (for_some {v = v} {c = c} {ρ = ρ} k j d) =
      for_some k j (local c (update τ v k) refl (λ w f. update_agree w f (same_case v w)) d)
    where
      update_agree : (w : Var) → G.free c w ≡ true → ((same v w ≡ true) × (v ≡ w)) ⊎ (same v w ≡ false) → update ρ v k w ≡ update τ v k w
      update_agree w f (inl s) = rw s.0
      update_agree w f (inr s) = rw s (h w ((fine n q).1 w f s))
  local n τ q h (filtered {c = c} d) = filtered (local c τ refl (λ v f. h v ((fine n q).1 v f)) d)

  -- a bound above the rank changes nothing in whether a node may end
  ends_stable : (f g n : ℕ) (nd : Node) → G.rank n < f → G.rank n < g → G.node n ≡ nd → node_ends G f nd ≡ node_ends G g nd
  ends_stable zero g n nd h k q = absurd (omega arith)
  ends_stable (suc f) zero n nd h k q = absurd (omega arith)
  ends_stable (suc f) (suc g) n Empty h k q = refl
  ends_stable (suc f) (suc g) n (Prefix p t) h k q = refl
  ends_stable (suc f) (suc g) n (Pair o a b) h k q =
      let F : WellFormedAt G n (Pair o a b) = fine n q in
      ap₂ (pair_ends o)
      (ends_stable f g a (G.node a) (omega (arith, F.0)) (omega (arith, F.0)) refl)
      (ends_stable f g b (G.node b) (omega (arith, F.1)) (omega (arith, F.1)) refl)
  ends_stable (suc f) (suc g) n (Binder v c) h k q =
      let F : WellFormedAt G n (Binder v c) = fine n q in
      ends_stable f g c (G.node c) (omega (arith, F.0)) (omega (arith, F.0)) refl
  ends_stable (suc f) (suc g) n (Filter p c) h k q =
      let F : WellFormedAt G n (Filter p c) = fine n q in
      ends_stable f g c (G.node c) (omega (arith, F.0)) (omega (arith, F.0)) refl

  ends_child : (n a : ℕ) → G.rank a < G.rank n → node_ends G (G.rank n) (G.node a) ≡ node_ends G (suc (G.rank a)) (G.node a)
  ends_child n a h = ends_stable (G.rank n) (suc (G.rank a)) a (G.node a) h (omega arith) refl

  pub ends_pair : (n : ℕ) (σ : Substitution) (o : Op) (a b : ℕ) → G.node n ≡ Pair o a b →
      may_end G (leaf n σ) ≡ may_end G (pair o (child G a σ) (child G b σ))
  ends_pair n σ o a b q =
      ap (node_ends G (suc (G.rank n))) q ∙ ap₂ (pair_ends o) (ends_child n a (fine n q).0) (ends_child n b (fine n q).1)

  pub ends_binder : (n : ℕ) (σ : Substitution) (v : Var) (c : ℕ) → G.node n ≡ Binder v c →
      may_end G (leaf n σ) ≡ may_end G (binder v (child G c (without v σ)))
  ends_binder n σ v c q = ap (node_ends G (suc (G.rank n))) q ∙ ends_child n c (fine n q).0

  pub ends_filter : (n : ℕ) (σ : Substitution) (p : Pattern) (c : ℕ) → G.node n ≡ Filter p c →
      may_end G (leaf n σ) ≡ may_end G (child G c σ)
  ends_filter n σ p c q = ap (node_ends G (suc (G.rank n))) q ∙ ends_child n c (fine n q).0
