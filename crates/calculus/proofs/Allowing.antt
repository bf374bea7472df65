-- The reading of states: a leaf reads as what it steps as; settling a variable; may end; the empty list.
use Rattle.std.proofs.Common.{◌≡◌, ℕ, zero, suc, ◌<◌, Bool, true, false, cond, ◌&&◌, ◌↔◌, List, [], sym, refl, ◌∙◌, subst, inl, inr, arith, lit<}
use mathlib.Core.Path.{fun_ext}
use Rattle.calculus.specs.Vocabulary.{And, Binder, Concat, Empty, Filter, Meaning, Node, None, Op, Option, Or, Pair, Pattern, Prefix, same, Shuffle, Some, Substitution, Var}
use Rattle.calculus.specs.Numbers.{Choice, lookup, or_chosen, over, restrict, update, without}
use Rattle.calculus.specs.Matching.{passes_at, select}
use Rattle.calculus.specs.Graphs.{Graph, WellFormed, WellFormedAt}
use Rattle.calculus.specs.Reading.{beginning, begun, Cut, Deal, dealt, ended, filtered, for_some, here, Mode, Permits, whole}
use Rattle.calculus.specs.States.{Allows, binder, child, Combined, filter, Language, leaf, may_end, node_ends, pair, pair_ends, settle, settle_leaf, State}
use Rattle.calculus.proofs.Substitutions.{lookup_assign, lookup_tabulate, lookup_without, same_case, same_refl}
use Rattle.calculus.proofs.Local.{AgreeOn, combined_map, fine, fold_pair, local, no_prefix, unfold_binder, unfold_filter, unfold_pair}

pub over_restrict : (f : Var → Bool) (σ : Substitution) (ρ : Choice) → AgreeOn f (over σ ρ) (over (restrict f σ) ρ)
over_restrict f σ ρ v e = rw (lookup_tabulate (λ w. cond (f w) (lookup σ w) None) v, e)

over_without : (σ : Substitution) (ρ : Choice) (v : Var) (k : ℕ) (w : Var) → update (over σ ρ) v k w ≡ over (without v σ) (update ρ v k) w
over_without σ ρ v k w =
    elim (same_case v w) [ inl s ↦ rw (lookup_without v σ w, s.0) | inr s ↦ rw (lookup_without v σ w, s) ]

pub lookup_settled : (b : Bool) (o : Option ℕ) (v : Var) (k : ℕ) (σ : Substitution) (w : Var) → same v w ≡ false →
    lookup (settle_leaf b o v k σ) w ≡ lookup σ w
lookup_settled false o v k σ w s = refl
lookup_settled true None v k σ w s = rw (lookup_assign v k σ w, s)
lookup_settled true (Some j) v k σ w s = refl

assign_if_here : (b : Bool) (o : Option ℕ) (v : Var) (k i : ℕ) (σ : Substitution) → b ≡ true → lookup σ v ≡ o →
    or_chosen (lookup (settle_leaf b o v k σ) v) i ≡ or_chosen o k
assign_if_here false o v k i σ e g = absurd (mathlib.Core.Bool.false≢true e)
assign_if_here true None v k i σ e g = rw (lookup_assign v k σ v, same_refl v)
assign_if_here true (Some j) v k i σ e g = rw g

settle_agree : (f : Var → Bool) (σ : Substitution) (ρ : Choice) (v : Var) (k : ℕ) →
    AgreeOn f (over (settle_leaf (f v) (lookup σ v) v k σ) ρ) (over σ (update ρ v k))
settle_agree f σ ρ v k w e =
    elim (same_case v w) [
      | inl s ↦ rw s.0 (rw (← s.1) (assign_if_here (f v) (lookup σ v) v k (ρ v) σ (rw s.1 e) refl))
      | inr s ↦ rw (lookup_settled (f v) (lookup σ v) v k σ w s, s)
    ]

update_twice : (ρ : Choice) (v w : Var) (k j : ℕ) → v ≡ w → update ρ w j ≡ update (update ρ v k) w j
update_twice ρ v w k j e = fun_ext (λ u. elim (same_case w u) [ inl s ↦ rw s.0 | inr s ↦ rw (e, s) ])

update_swap : (ρ : Choice) (v w : Var) (k j : ℕ) → same v w ≡ false → update (update ρ w j) v k ≡ update (update ρ v k) w j
update_swap ρ v w k j e = fun_ext (λ u. elim (same_case v u) [
  | inl s ↦ elim (same_case w u) [ inl t ↦ absurd (mathlib.Core.Bool.true≢false (sym (same_refl u) ∙ (rw (s.1, t.1) at e))) | inr t ↦ rw (s.0, t) ]
  | inr s ↦ rw s
])

cut_nil : {xs ys : List Meaning} → Cut xs ys [] → (xs ≡ []) × (ys ≡ [])
cut_nil here = (refl, refl)

deal_nil : {xs ys : List Meaning} → Deal xs ys [] → (xs ≡ []) × (ys ≡ [])
deal_nil dealt = (refl, refl)

-- may end, and the empty list
abbrev pub Tells : Language → Bool → Type 0
Tells L b = (b ≡ true) ↔ L whole []

cat_nil : (L K : Language) → (L whole [] × K whole []) ↔ Combined Concat L K whole []
cat_nil L K = (
  (λ x. inr ([], [], here, x.0, x.1)),
  elim [
    | inl x ↦ absurd (let z : ◌≡◌ {A = ℕ} 0 1 = cc x.0 in omega arith)
    | inr x ↦ (subst (L whole) (cut_nil x.2).0 x.3, subst (K whole) (cut_nil x.2).1 x.4)
  ],
)

shuffle_nil : (L K : Language) → (L whole [] × K whole []) ↔ Combined Shuffle L K whole []
shuffle_nil L K = (
  (λ x. ([], [], dealt, x.0, x.1)),
  λ x. (subst (L whole) (deal_nil x.2).0 x.3, subst (K whole) (deal_nil x.2).1 x.4),
)

both_tells : (L K : Language) (a b : Bool) → Tells L a → Tells K b → ((a && b) ≡ true) ↔ (L whole [] × K whole [])
both_tells L K true b x y = ((λ e. (x.0 refl, y.0 e)), λ j. y.1 j.1)
both_tells L K false b x y = ((λ e. absurd (mathlib.Core.Bool.false≢true e)), λ j. x.1 j.0)

pub op_tells : (o : Op) (L K : Language) (a b : Bool) → Tells L a → Tells K b → Tells (Combined o L K) (pair_ends o a b)
op_tells Or L K true b x y = ((λ e. inl (x.0 refl)), λ j. refl)
op_tells Or L K false b x y = ((λ e. inr (y.0 e)), elim [ inl l ↦ absurd (mathlib.Core.Bool.false≢true (x.1 l)) | inr k ↦ y.1 k ])
op_tells And L K a b x y = both_tells L K a b x y
op_tells Concat L K a b x y = let t = both_tells L K a b x y in
    ((λ e. (cat_nil L K).0 (t.0 e)), λ j. t.1 ((cat_nil L K).1 j))
op_tells Shuffle L K a b x y = let t = both_tells L K a b x y in
    ((λ e. (shuffle_nil L K).0 (t.0 e)), λ j. t.1 ((shuffle_nil L K).1 j))

pub op_begins : (o : Op) (L K : Language) → L beginning [] → K beginning [] → Combined o L K beginning []
op_begins Or L K x y = inl x
op_begins And L K x y = (x, y)
op_begins Concat L K x y = inl (refl, x)
op_begins Shuffle L K x y = ([], [], dealt, x, y)

module _ (G : Graph) (W : WellFormed G) where
  pub child_up : (a : ℕ) (σ : Substitution) (ρ : Choice) (m : Mode) (es : List Meaning) →
      Allows G (child G a σ) ρ m es → Permits G.node m (G.node a) (over σ ρ) es
  child_up a σ ρ m es d = local G W a (over σ ρ) refl (λ v f. sym (over_restrict (G.free a) σ ρ v f)) d

  pub child_down : (a : ℕ) (σ : Substitution) (ρ : Choice) (m : Mode) (es : List Meaning) →
      Permits G.node m (G.node a) (over σ ρ) es → Allows G (child G a σ) ρ m es
  child_down a σ ρ m es d = local G W a (over (restrict (G.free a) σ) ρ) refl (over_restrict (G.free a) σ ρ) d

  -- a leaf and what it steps as
  pub open_pair : (n : ℕ) (σ : Substitution) (o : Op) (a b : ℕ) (ρ : Choice) (m : Mode) (es : List Meaning) → G.node n ≡ Pair o a b →
      Allows G (leaf n σ) ρ m es → Allows G (pair o (child G a σ) (child G b σ)) ρ m es
  open_pair n σ o a b ρ m es q d =
      combined_map o (λ i. Permits G.node i (G.node a) (over σ ρ)) (Allows G (child G a σ) ρ)
      (λ i. Permits G.node i (G.node b) (over σ ρ)) (Allows G (child G b σ) ρ)
      (child_down a σ ρ) (child_down b σ ρ) m es
      (unfold_pair G (subst (λ (x : Node). Permits G.node m x (over σ ρ) es) q d))

  pub close_pair : (n : ℕ) (σ : Substitution) (o : Op) (a b : ℕ) (ρ : Choice) (m : Mode) (es : List Meaning) → G.node n ≡ Pair o a b →
      Allows G (pair o (child G a σ) (child G b σ)) ρ m es → Allows G (leaf n σ) ρ m es
  close_pair n σ o a b ρ m es q d =
      subst (λ (x : Node). Permits G.node m x (over σ ρ) es) (sym q) (fold_pair G o a b
      (combined_map o (Allows G (child G a σ) ρ) (λ i. Permits G.node i (G.node a) (over σ ρ))
      (Allows G (child G b σ) ρ) (λ i. Permits G.node i (G.node b) (over σ ρ)) (child_up a σ ρ) (child_up b σ ρ) m es d))

  pub open_binder : (n : ℕ) (σ : Substitution) (v : Var) (c : ℕ) (ρ : Choice) (m : Mode) (es : List Meaning) → G.node n ≡ Binder v c →
      Allows G (leaf n σ) ρ m es → Allows G (binder v (child G c (without v σ))) ρ m es
  open_binder n σ v c ρ m es q d =
      let x = unfold_binder G (subst (λ (y : Node). Permits G.node m y (over σ ρ) es) q d) in (
        x.0,
        x.1,
        child_down c (without v σ) (update ρ v x.0) m es
            (subst (λ (τ : Choice). Permits G.node m (G.node c) τ es) (fun_ext (over_without σ ρ v x.0)) x.2),
      )

  pub close_binder : (n : ℕ) (σ : Substitution) (v : Var) (c : ℕ) (ρ : Choice) (m : Mode) (es : List Meaning) → G.node n ≡ Binder v c →
      Allows G (binder v (child G c (without v σ))) ρ m es → Allows G (leaf n σ) ρ m es
  close_binder n σ v c ρ m es q d =
      subst (λ (x : Node). Permits G.node m x (over σ ρ) es) (sym q) (for_some d.0 d.1
      (subst (λ (τ : Choice). Permits G.node m (G.node c) τ es) (sym (fun_ext (over_without σ ρ v d.0)))
      (child_up c (without v σ) (update ρ v d.0) m es d.2)))

  pub open_filter : (n : ℕ) (σ : Substitution) (p : Pattern) (c : ℕ) (ρ : Choice) (m : Mode) (es : List Meaning) → G.node n ≡ Filter p c →
      Allows G (leaf n σ) ρ m es → Allows G (filter n (child G c σ)) ρ m es
  open_filter n σ p c ρ m es q d =
      child_down c σ ρ m (select (passes_at (G.node n)) es)
      (subst (λ (x : Node). Permits G.node m (G.node c) (over σ ρ) (select (passes_at x) es)) (sym q)
      (unfold_filter G (subst (λ (x : Node). Permits G.node m x (over σ ρ) es) q d)))

  pub close_filter : (n : ℕ) (σ : Substitution) (p : Pattern) (c : ℕ) (ρ : Choice) (m : Mode) (es : List Meaning) → G.node n ≡ Filter p c →
      Allows G (filter n (child G c σ)) ρ m es → Allows G (leaf n σ) ρ m es
  close_filter n σ p c ρ m es q d =
      subst (λ (x : Node). Permits G.node m x (over σ ρ) es) (sym q) (filtered
      (subst (λ (x : Node). Permits G.node m (G.node c) (over σ ρ) (select (passes_at x) es)) q
      (child_up c σ ρ m (select (passes_at (G.node n)) es) d)))

  -- settling
  pub settle_down : (t : State) (v : Var) (k : ℕ) (ρ : Choice) (m : Mode) (es : List Meaning) →
      Allows G (settle G v k t) ρ m es → Allows G t (update ρ v k) m es
  settle_down (leaf n σ) v k ρ m es d = local G W n (over σ (update ρ v k)) refl (settle_agree (G.free n) σ ρ v k) d
  settle_down (pair o l r) v k ρ m es d =
      combined_map o (Allows G (settle G v k l) ρ) (Allows G l (update ρ v k)) (Allows G (settle G v k r) ρ) (Allows G r (update ρ v k))
      (settle_down l v k ρ) (settle_down r v k ρ) m es d
  settle_down (binder w t) v k ρ m es d =
      elim (same_case v w) [
        | inl s ↦ let x : Allows G (binder w t) ρ m es = rw s.0 at d in
            (x.0, x.1, subst (λ (τ : Choice). Allows G t τ m es) (update_twice ρ v w k x.0 s.1) x.2)
        | inr s ↦ let x : Allows G (binder w (settle G v k t)) ρ m es = rw s at d in
            (x.0, x.1, subst (λ (τ : Choice). Allows G t τ m es) (update_swap ρ v w k x.0 s) (settle_down t v k (update ρ w x.0) m es x.2))
      ]
  settle_down (filter n t) v k ρ m es d = settle_down t v k ρ m (select (passes_at (G.node n)) es) d

  pub settle_up : (t : State) (v : Var) (k : ℕ) (ρ : Choice) (m : Mode) (es : List Meaning) →
      Allows G t (update ρ v k) m es → Allows G (settle G v k t) ρ m es
  settle_up (leaf n σ) v k ρ m es d =
      local G W n (over (settle_leaf (G.free n v) (lookup σ v) v k σ) ρ) refl (λ w f. sym (settle_agree (G.free n) σ ρ v k w f)) d
  settle_up (pair o l r) v k ρ m es d =
      combined_map o (Allows G l (update ρ v k)) (Allows G (settle G v k l) ρ) (Allows G r (update ρ v k)) (Allows G (settle G v k r) ρ)
      (settle_up l v k ρ) (settle_up r v k ρ) m es d
  settle_up (binder w t) v k ρ m es d =
      elim (same_case v w) [
        | inl s ↦ let x : Allows G (binder w t) ρ m es = (d.0, d.1, subst (λ (τ : Choice). Allows G t τ m es) (sym (update_twice ρ v w k d.0 s.1)) d.2) in
            rw s.0 x
        | inr s ↦ let x : Allows G (binder w (settle G v k t)) ρ m es =
            (d.0, d.1, settle_up t v k (update ρ w d.0) m es (subst (λ (τ : Choice). Allows G t τ m es) (sym (update_swap ρ v w k d.0 s)) d.2)) in
            rw s x
      ]
  settle_up (filter n t) v k ρ m es d = settle_up t v k ρ m (select (passes_at (G.node n)) es) d

  -- may end, at a node and at a state
  ends_at : (f n : ℕ) → ((a : ℕ) → G.rank a < f → (ρ : Choice) → Tells (λ m. Permits G.node m (G.node a) ρ) (node_ends G f (G.node a))) →
      G.rank n < suc f → (nd : Node) → G.node n ≡ nd → (ρ : Choice) → Tells (λ m. Permits G.node m nd ρ) (node_ends G (suc f) nd)
  ends_at f n ih h Empty q ρ = ((λ e. ended), λ d. refl)
  ends_at f n ih h (Prefix p t) q ρ = ((λ e. absurd (mathlib.Core.Bool.false≢true e)), λ d. absurd (no_prefix G d))
  ends_at f n ih h (Pair o a b) q ρ =
      let F : WellFormedAt G n (Pair o a b) = fine G W n q in
      let t = op_tells o (λ m. Permits G.node m (G.node a) ρ) (λ m. Permits G.node m (G.node b) ρ) (node_ends G f (G.node a)) (node_ends G f (G.node b))
      (ih a (omega (arith, F.0)) ρ) (ih b (omega (arith, F.1)) ρ) in
      ((λ e. fold_pair G o a b (t.0 e)), λ d. t.1 (unfold_pair G d))
  ends_at f n ih h (Binder v c) q ρ = (
    (λ e. for_some 0 (lit< tt) ((ih c (omega (arith, (fine G W n q).0)) (update ρ v 0)).0 e)),
    λ d. let x = unfold_binder G d in (ih c (omega (arith, (fine G W n q).0)) (update ρ v x.0)).1 x.2,
  )
  ends_at f n ih h (Filter p c) q ρ =
      let t = ih c (omega (arith, (fine G W n q).0)) ρ in
      ((λ e. filtered (t.0 e)), λ d. t.1 (unfold_filter G d))

  pub ends_node : (f n : ℕ) → G.rank n < f → (ρ : Choice) → Tells (λ m. Permits G.node m (G.node n) ρ) (node_ends G f (G.node n))
  ends_node zero n h ρ = absurd (omega arith)
  ends_node (suc f) n h ρ = ends_at f n (ends_node f) h (G.node n) refl ρ

  pub may_end_tells : (t : State) (ρ : Choice) → Tells (Allows G t ρ) (may_end G t)
  may_end_tells (leaf n σ) ρ = ends_node (suc (G.rank n)) n (omega arith) (over σ ρ)
  may_end_tells (pair o l r) ρ =
      op_tells o (Allows G l ρ) (Allows G r ρ) (may_end G l) (may_end G r) (may_end_tells l ρ) (may_end_tells r ρ)
  may_end_tells (binder v t) ρ =
      ((λ e. (0, lit< tt, (may_end_tells t (update ρ v 0)).0 e)), λ d. (may_end_tells t (update ρ v d.0)).1 d.2)
  may_end_tells (filter n t) ρ = may_end_tells t ρ

  -- the empty list is a beginning
  begins_at : (f n : ℕ) → ((a : ℕ) → G.rank a < f → (ρ : Choice) → Permits G.node beginning (G.node a) ρ []) →
      G.rank n < suc f → (nd : Node) → G.node n ≡ nd → (ρ : Choice) → Permits G.node beginning nd ρ []
  begins_at f n ih h Empty q ρ = ended
  begins_at f n ih h (Prefix p t) q ρ = begun
  begins_at f n ih h (Pair o a b) q ρ =
      let F : WellFormedAt G n (Pair o a b) = fine G W n q in
      fold_pair G o a b (op_begins o (λ m. Permits G.node m (G.node a) ρ) (λ m. Permits G.node m (G.node b) ρ)
      (ih a (omega (arith, F.0)) ρ) (ih b (omega (arith, F.1)) ρ))
  begins_at f n ih h (Binder v c) q ρ = for_some 0 (lit< tt) (ih c (omega (arith, (fine G W n q).0)) (update ρ v 0))
  begins_at f n ih h (Filter p c) q ρ = filtered (ih c (omega (arith, (fine G W n q).0)) ρ)

  begins_node : (f n : ℕ) → G.rank n < f → (ρ : Choice) → Permits G.node beginning (G.node n) ρ []
  begins_node zero n h ρ = absurd (omega arith)
  begins_node (suc f) n h ρ = begins_at f n (begins_node f) h (G.node n) refl ρ

  pub begins : (t : State) (ρ : Choice) → Allows G t ρ beginning []
  begins (leaf n σ) ρ = begins_node (suc (G.rank n)) n (omega arith) (over σ ρ)
  begins (pair o l r) ρ = op_begins o (Allows G l ρ) (Allows G r ρ) (begins l ρ) (begins r ρ)
  begins (binder v t) ρ = (0, lit< tt, begins t (update ρ v 0))
  begins (filter n t) ρ = begins t ρ
