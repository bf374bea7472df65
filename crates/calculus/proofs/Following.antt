-- What a run says, the reading says.
use Rattle.std.proofs.Common.{◌≡◌, ℕ, ◌≤◌, Bool, true, false, cond, eqb, ◌↔◌, List, [], ◌∷◌, length, take, sym, refl, ◌∙◌, subst, inl, true≢false, zero-add, arith}
use Rattle.std.proofs.lemmas.Bool.{eqb-true, eq-eqb, ne_eqb}
use Rattle.std.proofs.lemmas.List.{take_all}
use Rattle.calculus.specs.Vocabulary.{Meaning}
use Rattle.calculus.specs.Numbers.{Choice}
use Rattle.calculus.specs.Matching.{AllProper}
use Rattle.calculus.specs.Graphs.{ClosedAtStart, Graph, WellFormed}
use Rattle.calculus.specs.Reading.{beginning, Permits, whole}
use Rattle.calculus.specs.States.{State}
use Rattle.calculus.specs.Steps.{start}
use Rattle.calculus.specs.Runs.{any_ends, begin, Broken, MayEnd, Open, Run, run, verdict}
use Rattle.calculus.specs.Theorems.{Follows, Greatest}
use Rattle.calculus.proofs.Substitutions.{not_so}
use Rattle.calculus.proofs.Running.{ends_in, ends_whole, final, run_shown, run_states, run_taken, start_closed, start_in, start_out, taken_is, taken_most, takes, takes_all, takes_le, whole_ends}

-- the verdict, by the counts and the held states
is_mayend : (G : Graph) (M : Run) → (verdict G M ≡ MayEnd) ↔ ((M.shown ≡ M.taken) × (any_ends G M.states ≡ true))
is_mayend G M = (go (eqb M.shown M.taken) (any_ends G M.states) refl refl, λ x. rw (eq-eqb M.shown M.taken x.0, x.1))
  where
    go : (a b : Bool) → eqb M.shown M.taken ≡ a → any_ends G M.states ≡ b → cond a (cond b MayEnd Open) Broken ≡ MayEnd →
        (M.shown ≡ M.taken) × (any_ends G M.states ≡ true)
    go true true p q e = (eqb-true M.shown M.taken p, q)
    go true false p q e = absurd (let z : ◌≡◌ {A = ℕ} 0 1 = cc e in omega arith)
    go false b p q e = absurd (let z : ◌≡◌ {A = ℕ} 0 1 = cc e in omega arith)

is_broken : (G : Graph) (M : Run) → (verdict G M ≡ Broken) ↔ (M.shown ≡ M.taken → ⊥)
is_broken G M = (go (eqb M.shown M.taken) (any_ends G M.states) refl, λ h. rw (ne_eqb M.shown M.taken h))
  where
    go : (a b : Bool) → eqb M.shown M.taken ≡ a → cond a (cond b MayEnd Open) Broken ≡ Broken → M.shown ≡ M.taken → ⊥
    go true true p e h = let z : ◌≡◌ {A = ℕ} 0 1 = cc e in omega arith
    go true false p e h = let z : ◌≡◌ {A = ℕ} 0 1 = cc e in omega arith
    go false b p e h = true≢false (sym (eq-eqb M.shown M.taken h) ∙ p)

is_open : (G : Graph) (M : Run) → (verdict G M ≡ Open) ↔ ((M.shown ≡ M.taken) × (any_ends G M.states ≡ false))
is_open G M = (go (eqb M.shown M.taken) (any_ends G M.states) refl refl, λ x. rw (eq-eqb M.shown M.taken x.0, x.1))
  where
    go : (a b : Bool) → eqb M.shown M.taken ≡ a → any_ends G M.states ≡ b → cond a (cond b MayEnd Open) Broken ≡ Open →
        (M.shown ≡ M.taken) × (any_ends G M.states ≡ false)
    go true true p q e = absurd (let z : ◌≡◌ {A = ℕ} 0 1 = cc e in omega arith)
    go true false p q e = (eqb-true M.shown M.taken p, q)
    go false b p q e = absurd (let z : ◌≡◌ {A = ℕ} 0 1 = cc e in omega arith)

module _ (G : Graph) (W : WellFormed G) (Z : ClosedAtStart G) (ρ : Choice) (es : List Meaning) (P : AllProper es) where
  abbrev M : Run
  M = run G es begin

  abbrev Beginning : Type 0
  Beginning = Permits G.node beginning (G.node 0) ρ es

  abbrev Whole : Type 0
  Whole = Permits G.node whole (G.node 0) ρ es

  sh : M.shown ≡ length es
  sh = run_shown G es begin ∙ zero-add (length es)

  tk : M.taken ≡ takes G (start ∷ []) es
  tk = run_taken G es begin ∙ zero-add (takes G (start ∷ []) es)

  st : M.states ≡ final G (start ∷ []) es
  st = run_states G es begin

  greatest : Greatest G.node ρ es M.taken
  greatest = record {
    within = subst (λ (n : ℕ). n ≤ length es) (sym tk) (takes_le G es (start ∷ []));
    is = subst (λ (n : ℕ). Permits G.node beginning (G.node 0) ρ (take n es)) (sym tk)
        (start_out G W ρ beginning (take (takes G (start ∷ []) es) es)
        (taken_is G W es P (start ∷ []) ρ (start_closed G W Z) start (inl refl)));
    most = λ k h d. subst (λ (n : ℕ). k ≤ n) (sym tk) (taken_most G W es (start ∷ []) ρ k h (start_in G W ρ beginning (take k es) d));
  }

  all_taken : (M.taken ≡ M.shown) ↔ Beginning
  all_taken = (
    (λ q. subst (λ (xs : List Meaning). Permits G.node beginning (G.node 0) ρ xs) (take_all (length es) es (omega arith))
        (subst (λ (n : ℕ). Permits G.node beginning (G.node 0) ρ (take n es)) (q ∙ sh) greatest.is)),
    λ d. let h = greatest.most (length es) (omega arith)
        (subst (λ (xs : List Meaning). Permits G.node beginning (G.node 0) ρ xs) (sym (take_all (length es) es (omega arith))) d) in
        let w = greatest.within in let s = sh in omega arith,
  )

  some_ends : (any_ends G M.states ≡ true) ↔ Whole
  some_ends = (
    (λ q. start_out G W ρ whole es (ends_whole G W es P (start ∷ []) ρ (start_closed G W Z)
        (subst (λ (ts : List State). any_ends G ts ≡ true) st q))),
    λ d. subst (λ (ts : List State). any_ends G ts ≡ true) (sym st) (whole_ends G W es (start ∷ []) ρ (start_in G W ρ whole es d)),
  )

  ends_taken : any_ends G M.states ≡ true → M.shown ≡ M.taken
  ends_taken q =
      let i = ends_in G W (final G (start ∷ []) es) (subst (λ (ts : List State). any_ends G ts ≡ true) st q) in
      sh ∙ sym (tk ∙ takes_all G es (start ∷ []) i.0 i.1)

  pub follows : Follows G ρ es (run G es begin)
  follows = record {
    shown = sh;
    taken = greatest;
    all = all_taken;
    ends = some_ends;
    broken = ((λ q d. (is_broken G M).0 q (sym (all_taken.1 d))), λ h. (is_broken G M).1 (λ q. h (all_taken.0 (sym q))));
    may_end = ((λ q. some_ends.0 ((is_mayend G M).0 q).1), λ d. let e = some_ends.1 d in (is_mayend G M).1 (ends_taken e, e));
    goes_on = (
      (λ q. let x = (is_open G M).0 q in (all_taken.0 (sym x.0), λ d. true≢false (sym (some_ends.1 d) ∙ x.1))),
      λ x. (is_open G M).1 (sym (all_taken.1 x.0), not_so (any_ends G M.states) (λ q. x.1 (some_ends.0 q))),
    );
  }
