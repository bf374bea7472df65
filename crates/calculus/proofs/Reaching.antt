-- States reached from the start: they are closed, and a run holds just those.
use Rattle.std.proofs.Common.{◌≡◌, ℕ, ◌↔◌, List, [], ◌∷◌, ◌++◌, sym, refl, ◌∙◌, subst, inl, inr, true≢false, append_assoc, append-nil}
use Rattle.calculus.specs.Vocabulary.{Meaning, None, Option, Some, Substitution, V0, V1, V2, V3, Var}
use Rattle.calculus.specs.Numbers.{Choice, lookup, no_numbers, or_chosen, over, update}
use Rattle.calculus.specs.Matching.{AllProper, passes_at, select}
use Rattle.calculus.specs.Graphs.{ClosedAtStart, Graph, WellFormed}
use Rattle.calculus.specs.Reading.{beginning, Mode, whole}
use Rattle.calculus.specs.States.{Allows, binder, Closed, filter, leaf, pair, State, Unsettled}
use Rattle.calculus.specs.Steps.{at_start, by_step, Reached, start, Step}
use Rattle.calculus.specs.Lists.{Distinct, In}
use Rattle.calculus.specs.Outcomes.{after}
use Rattle.calculus.specs.Runs.{begin, run}
use Rattle.calculus.specs.Theorems.{Independent, ReadsReached}
use Rattle.calculus.proofs.Substitutions.{same_case}
use Rattle.calculus.proofs.Local.{combined_map, local}
use Rattle.calculus.proofs.Allowing.{begins, may_end_tells}
use Rattle.calculus.proofs.Closed.{free_back, free_bound}
use Rattle.calculus.proofs.Listing.{after_in, after_out}
use Rattle.calculus.proofs.Distinct.{after_distinct}
use Rattle.calculus.proofs.Running.{final, run_states, runs_back, runs_fore, start_closed, start_in, start_out}

empty_option : (o : Option ℕ) → ((k : ℕ) → o ≡ Some k → ⊥) → o ≡ None
empty_option None h = refl
empty_option (Some k) h = absurd (h k refl)

unbound : (β : Substitution) → ((v : Var) (k : ℕ) → lookup β v ≡ Some k → ⊥) → β ≡ no_numbers
unbound β h =
    let p0 = empty_option β.v0 (h V0) in
    let p1 = empty_option β.v1 (h V1) in
    let p2 = empty_option β.v2 (h V2) in
    let p3 = empty_option β.v3 (h V3) in
    λ i. record { v0 = p0 i; v1 = p1 i; v2 = p2 i; v3 = p3 i }

same_chosen : (o : Option ℕ) (j k : ℕ) → (o ≡ None → j ≡ k) → or_chosen o j ≡ or_chosen o k
same_chosen None j k h = h refl
same_chosen (Some i) j k h = refl

module _ (G : Graph) (W : WellFormed G) where
  -- what a state allows depends on its free variables alone
  allows_local : (t : State) (ρ τ : Choice) → ((v : Var) → Unsettled G v t → ρ v ≡ τ v) → (m : Mode) (es : List Meaning) → Allows G t ρ m es → Allows G t τ m es
  allows_local (leaf n σ) ρ τ h m es d =
      local G W n (over σ τ) refl (λ v f. same_chosen (lookup σ v) (ρ v) (τ v) (λ q. h v (f, q))) d
  allows_local (pair o l r) ρ τ h m es d =
      combined_map o (Allows G l ρ) (Allows G l τ) (Allows G r ρ) (Allows G r τ)
      (allows_local l ρ τ (λ v x. h v (inl x))) (allows_local r ρ τ (λ v x. h v (inr x))) m es d
  allows_local (binder v t) ρ τ h m es d = (
    d.0,
    d.1,
    allows_local t (update ρ v d.0) (update τ v d.0)
        (λ w x. elim (same_case v w) [ inl s ↦ rw s.0 | inr s ↦ rw s (h w (s, x)) ]) m es d.2,
  )
  allows_local (filter n t) ρ τ h m es d = allows_local t ρ τ h m (select (passes_at (G.node n)) es) d

  module _ (Z : ClosedAtStart G) where
    reached_closed : {es : List Meaning} {t : State} → Reached G es t → Closed G t
    reached_closed at_start v x = true≢false (sym x.0 ∙ Z v)
    reached_closed (by_step e p d) v x = reached_closed p v (free_back G W e d v x)

    pub independent : {es : List Meaning} {t : State} → Reached G es t → Independent G t
    independent {t = t} p ρ τ m es d = allows_local t ρ τ (λ v x. absurd (reached_closed p v x)) m es d

    pub binds_nothing : {es : List Meaning} {t : State} → Reached G es t → (e : Meaning) (s : State) (β : Substitution) → Step G e t s β → β ≡ no_numbers
    binds_nothing p e s β d = unbound β (λ v k q. reached_closed p v (free_bound G W e d v k q))

  -- a run holds the states that are reached
  final_snoc : (es : List Meaning) (e : Meaning) (ts : List State) → final G ts (es ++ (e ∷ [])) ≡ after G e (final G ts es)
  final_snoc [] e ts = refl
  final_snoc (x ∷ es) e ts = final_snoc es e (after G x ts)

  reached_in : {es : List Meaning} {t : State} → Reached G es t → In t (final G (start ∷ []) es)
  reached_in at_start = inl refl
  reached_in (by_step {es = es} {t = t} {s = s} {β = β} e p d) =
      subst (λ (ts : List State). In s ts) (sym (final_snoc es e (start ∷ []))) (after_in G W e (final G (start ∷ []) es) s (record { from = t; is_held = reached_in p; binding = β; step = d }))

  in_reached : (es fs : List Meaning) (ts : List State) → ((t : State) → In t ts → Reached G fs t) → (s : State) → In s (final G ts es) → Reached G (fs ++ es) s
  in_reached [] fs ts h s i = subst (λ (xs : List Meaning). Reached G xs s) (sym (append-nil fs)) (h s i)
  in_reached (e ∷ es) fs ts h s i =
      subst (λ (xs : List Meaning). Reached G xs s) (append_assoc fs (e ∷ []) es)
      (in_reached es (fs ++ (e ∷ [])) (after G e ts) (λ u j. let p = after_out G e ts u j in by_step e (h p.from p.is_held) p.step) s i)

  final_distinct : (es : List Meaning) (ts : List State) → Distinct ts → Distinct (final G ts es)
  final_distinct [] ts d = d
  final_distinct (e ∷ es) ts d = final_distinct es (after G e ts) (after_distinct G e ts)

  pub held_reached : (es : List Meaning) →
      ((t : State) → In t (run G es begin).states ↔ Reached G es t) × Distinct (run G es begin).states
  held_reached es = (
    (λ t. (
      (λ i. in_reached es [] (start ∷ []) at_the_start t (subst (λ (ts : List State). In t ts) (run_states G es begin) i)),
      λ p. subst (λ (ts : List State). In t ts) (sym (run_states G es begin)) (reached_in p),
    )),
    subst (λ (ts : List State). Distinct ts) (sym (run_states G es begin)) (final_distinct es (start ∷ []) ((λ i. i), tt)),
  )
    where
      at_the_start : (t : State) → In t (start ∷ []) → Reached G [] t
      at_the_start t (inl q) = subst (λ (u : State). Reached G [] u) q at_start
      at_the_start t (inr i) = absurd i

  reached_final : (es : List Meaning) (t : State) → In t (final G (start ∷ []) es) → Reached G es t
  reached_final es t i = ((held_reached es).0 t).0 (subst (λ (ts : List State). In t ts) (sym (run_states G es begin)) i)

  pub reads_reached : ClosedAtStart G → (ρ : Choice) (es : List Meaning) → AllProper es → ReadsReached G ρ es
  reads_reached Z ρ es P = record {
    begins = (
      (λ x. start_out G W ρ beginning es (runs_fore G W es P (start ∷ []) ρ beginning (start_closed G W Z) (x.0, reached_in x.1, begins G W x.0 ρ))),
      λ d. let y = runs_back G W es (start ∷ []) ρ beginning (start_in G W ρ beginning es d) in (y.0, reached_final es y.0 y.1),
    );
    ends = (
      (λ x. start_out G W ρ whole es (runs_fore G W es P (start ∷ []) ρ whole (start_closed G W Z) (x.0, reached_in x.1, (may_end_tells G W x.0 ρ).0 x.2))),
      λ d. let y = runs_back G W es (start ∷ []) ρ whole (start_in G W ρ whole es d) in (y.0, reached_final es y.0 y.1, (may_end_tells G W y.0 ρ).1 y.2),
    );
  }
