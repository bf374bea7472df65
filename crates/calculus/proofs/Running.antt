-- What held states allow, before and after events, and how many events a run takes.
-- what a run leaves, by recursion on the events
use Rattle.std.proofs.Common.{◌≡◌, ℕ, zero, suc, ◌+◌, ◌≤◌, Bool, true, false, cond, List, [], ◌∷◌, length, take, sym, refl, ap, ◌∙◌, subst, inl, inr, true≢false, add-zero, add-suc, suc-add, arith}
use mathlib.Core.Bool.{false≢true}
use Rattle.calculus.specs.Vocabulary.{Meaning, Substitution, Var}
use Rattle.calculus.specs.Numbers.{Agrees, Choice}
use Rattle.calculus.specs.Matching.{AllProper, Proper}
use Rattle.calculus.specs.Graphs.{Graph, WellFormed}
use Rattle.calculus.specs.Reading.{beginning, Mode, Permits, whole}
use Rattle.calculus.specs.States.{Allows, Closed, may_end, State}
use Rattle.calculus.specs.Steps.{start, Step}
use Rattle.calculus.specs.Lists.{In}
use Rattle.calculus.specs.Outcomes.{after}
use Rattle.calculus.specs.Runs.{any_ends, move, Run, run, show}
use Rattle.calculus.proofs.Substitutions.{over_none}
use Rattle.calculus.proofs.Binding.{agrees_any}
use Rattle.calculus.proofs.Allowing.{begins, may_end_tells}
use Rattle.calculus.proofs.Agreement.{complete, sound}
use Rattle.calculus.proofs.Closed.{free_back, free_bound}
use Rattle.calculus.proofs.Members.{in_one}
use Rattle.calculus.proofs.Listing.{after_in, after_out}

-- what a run leaves, and how many events it takes, by recursion on the events
abbrev pub final : Graph → List State → List Meaning → List State
final G ts [] = ts
final G ts (e ∷ es) = final G (after G e ts) es

abbrev counted : List State → ℕ → ℕ
counted [] n = 0
counted (t ∷ ts) n = suc n

abbrev pub takes : Graph → List State → List Meaning → ℕ
takes G ts [] = 0
takes G ts (e ∷ es) = counted (after G e ts) (takes G (after G e ts) es)

takes_nil : (G : Graph) (es : List Meaning) → takes G [] es ≡ 0
takes_nil G [] = refl
takes_nil G (e ∷ es) = refl

final_nil : (G : Graph) (es : List Meaning) → final G [] es ≡ []
final_nil G [] = refl
final_nil G (e ∷ es) = final_nil G es

moved_states : (ts : List State) (M : Run) → (move ts M).states ≡ ts
moved_states [] M = refl
moved_states (t ∷ ts) M = refl

moved_shown : (ts : List State) (M : Run) → (move ts M).shown ≡ suc M.shown
moved_shown [] M = refl
moved_shown (t ∷ ts) M = refl

moved_taken : (G : Graph) (es : List Meaning) (ts : List State) (M : Run) →
    (move ts M).taken + takes G (move ts M).states es ≡ M.taken + counted ts (takes G ts es)
moved_taken G es [] M = rw (takes_nil G es)
moved_taken G es (t ∷ ts) M = suc-add M.taken (takes G (t ∷ ts) es) ∙ sym (add-suc M.taken (takes G (t ∷ ts) es))

pub run_states : (G : Graph) (es : List Meaning) (M : Run) → (run G es M).states ≡ final G M.states es
run_states G [] M = refl
run_states G (e ∷ es) M =
    run_states G es (show G e M) ∙ ap (λ (ts : List State). final G ts es) (moved_states (after G e M.states) M)

pub run_shown : (G : Graph) (es : List Meaning) (M : Run) → (run G es M).shown ≡ M.shown + length es
run_shown G [] M = sym (add-zero M.shown)
run_shown G (e ∷ es) M =
    run_shown G es (show G e M) ∙ ap (λ (n : ℕ). n + length es) (moved_shown (after G e M.states) M) ∙
    (suc-add M.shown (length es) ∙ sym (add-suc M.shown (length es)))

pub run_taken : (G : Graph) (es : List Meaning) (M : Run) → (run G es M).taken ≡ M.taken + takes G M.states es
run_taken G [] M = sym (add-zero M.taken)
run_taken G (e ∷ es) M = run_taken G es (show G e M) ∙ moved_taken G es (after G e M.states) M

pub takes_le : (G : Graph) (es : List Meaning) (ts : List State) → takes G ts es ≤ length es
takes_le G [] ts = omega arith
takes_le G (e ∷ es) ts = go (after G e ts) (takes_le G es (after G e ts))
  where
    go : (us : List State) → takes G us es ≤ length es → counted us (takes G us es) ≤ suc (length es)
    go [] h = omega arith
    go (u ∷ us) h = omega arith

pub takes_all : (G : Graph) (es : List Meaning) (ts : List State) (t : State) → In t (final G ts es) → takes G ts es ≡ length es
takes_all G [] ts t i = refl
takes_all G (e ∷ es) ts t i = go (after G e ts) i (takes_all G es (after G e ts) t i)
  where
    go : (us : List State) → In t (final G us es) → takes G us es ≡ length es → counted us (takes G us es) ≡ suc (length es)
    go [] j h = absurd (rw (final_nil G es) at j)
    go (u ∷ us) j h = ap suc h

module _ (G : Graph) (W : WellFormed G) where
  -- some held state allows the list
  abbrev pub SomeAllows : List State → Choice → Mode → List Meaning → Type 0
  SomeAllows ts ρ m es = (t : State) × In t ts × Allows G t ρ m es

  abbrev pub AllClosed : List State → Type 0
  AllClosed ts = (t : State) → In t ts → Closed G t

  closed_agrees : (e : Meaning) (t s : State) (β : Substitution) → Closed G t → Step G e t s β → (ρ : Choice) → Agrees β ρ
  closed_agrees e t s β c d ρ = agrees_any β (λ v k q. c v (free_bound G W e d v k q)) ρ

  closed_after : (e : Meaning) (ts : List State) → AllClosed ts → AllClosed (after G e ts)
  closed_after e ts c s i v x =
      let p = after_out G e ts s i in c p.from p.is_held v (free_back G W e p.step v x)

  any_fore : (e : Meaning) → Proper e → (ts : List State) (ρ : Choice) (m : Mode) (es : List Meaning) → AllClosed ts →
      SomeAllows (after G e ts) ρ m es → SomeAllows ts ρ m (e ∷ es)
  any_fore e P ts ρ m es c x =
      let p = after_out G e ts x.0 x.1 in
      (p.from, p.is_held, sound G W e P p.step ρ m es (closed_agrees e p.from x.0 p.binding (c p.from p.is_held) p.step ρ) x.2)

  any_back : (e : Meaning) (ts : List State) (ρ : Choice) (m : Mode) (es : List Meaning) →
      SomeAllows ts ρ m (e ∷ es) → SomeAllows (after G e ts) ρ m es
  any_back e ts ρ m es x =
      let g = complete G W e x.0 ρ m es x.2 in
      (g.to, after_in G W e ts g.to (record { from = x.0; is_held = x.1; binding = g.binding; step = g.step }), g.on)

  -- some state may end
  ends_any : (ts : List State) (ρ : Choice) → any_ends G ts ≡ true → SomeAllows ts ρ whole []
  ends_any [] ρ q = absurd (false≢true q)
  ends_any (t ∷ ts) ρ q = go (may_end G t) refl q (λ i. ends_any ts ρ i)
    where
      go : (b : Bool) → may_end G t ≡ b → cond b true (any_ends G ts) ≡ true → (any_ends G ts ≡ true → SomeAllows ts ρ whole []) → SomeAllows (t ∷ ts) ρ whole []
      go true h i f = (t, inl refl, (may_end_tells G W t ρ).0 h)
      go false h i f = let x = f i in (x.0, inr x.1, x.2)

  any_end : (ts : List State) (ρ : Choice) (t : State) → In t ts → Allows G t ρ whole [] → any_ends G ts ≡ true
  any_end [] ρ t i x = absurd i
  any_end (u ∷ ts) ρ t (inl q) x = rw (rw (← q) at ((may_end_tells G W t ρ).1 x))
  any_end (u ∷ ts) ρ t (inr i) x = rest (may_end G u) (any_end ts ρ t i x)
    where
      rest : (b : Bool) → any_ends G ts ≡ true → cond b true (any_ends G ts) ≡ true
      rest true h = refl
      rest false h = h

  -- before and after all the events
  pub runs_back : (es : List Meaning) (ts : List State) (ρ : Choice) (m : Mode) → SomeAllows ts ρ m es → SomeAllows (final G ts es) ρ m []
  runs_back [] ts ρ m x = x
  runs_back (e ∷ es) ts ρ m x = runs_back es (after G e ts) ρ m (any_back e ts ρ m es x)

  pub runs_fore : (es : List Meaning) → AllProper es → (ts : List State) (ρ : Choice) (m : Mode) → AllClosed ts → SomeAllows (final G ts es) ρ m [] → SomeAllows ts ρ m es
  runs_fore [] P ts ρ m c x = x
  runs_fore (e ∷ es) P ts ρ m c x = any_fore e P.0 ts ρ m es c (runs_fore es P.1 (after G e ts) ρ m (closed_after e ts c) x)

  pub whole_ends : (es : List Meaning) (ts : List State) (ρ : Choice) → SomeAllows ts ρ whole es → any_ends G (final G ts es) ≡ true
  whole_ends es ts ρ x = let y = runs_back es ts ρ whole x in any_end (final G ts es) ρ y.0 y.1 y.2

  pub ends_whole : (es : List Meaning) → AllProper es → (ts : List State) (ρ : Choice) → AllClosed ts → any_ends G (final G ts es) ≡ true → SomeAllows ts ρ whole es
  ends_whole es P ts ρ c q = runs_fore es P ts ρ whole c (ends_any (final G ts es) ρ q)

  -- beginnings
  pub taken_is : (es : List Meaning) → AllProper es → (ts : List State) (ρ : Choice) → AllClosed ts → (t : State) → In t ts → SomeAllows ts ρ beginning (take (takes G ts es) es)
  taken_is [] P ts ρ c t i = (t, i, begins G W t ρ)
  taken_is (e ∷ es) P ts ρ c t i = go (after G e ts) (any_fore e P.0 ts ρ beginning) (taken_is es P.1 (after G e ts) ρ (closed_after e ts c))
    where
      go : (us : List State) → ((xs : List Meaning) → AllClosed ts → SomeAllows us ρ beginning xs → SomeAllows ts ρ beginning (e ∷ xs)) →
          ((u : State) → In u us → SomeAllows us ρ beginning (take (takes G us es) es)) →
          SomeAllows ts ρ beginning (take (counted us (takes G us es)) (e ∷ es))
      go [] f g = (t, i, begins G W t ρ)
      go (u ∷ us) f g = f (take (takes G (u ∷ us) es) es) c (g u (inl refl))

  pub taken_most : (es : List Meaning) (ts : List State) (ρ : Choice) (k : ℕ) → k ≤ length es → SomeAllows ts ρ beginning (take k es) → k ≤ takes G ts es
  taken_most es ts ρ zero h x = omega arith
  taken_most [] ts ρ (suc k) h x = h
  taken_most (e ∷ es) ts ρ (suc k) h x =
      let y = any_back e ts ρ beginning (take k es) x in
      go (after G e ts) y (taken_most es (after G e ts) ρ k (omega arith) y)
    where
      go : (us : List State) → SomeAllows us ρ beginning (take k es) → k ≤ takes G us es → suc k ≤ counted us (takes G us es)
      go [] y i = absurd y.1
      go (u ∷ us) y i = omega arith

  -- the start
  pub start_closed : ((v : Var) → G.free 0 v ≡ false) → AllClosed (start ∷ [])
  start_closed Z t (inl q) = subst (Closed G) q (λ v x. true≢false (sym x.0 ∙ Z v))
  start_closed Z t (inr i) = absurd i

  pub start_in : (ρ : Choice) (m : Mode) (es : List Meaning) → Permits G.node m (G.node 0) ρ es → SomeAllows (start ∷ []) ρ m es
  start_in ρ m es d = (start, inl refl, subst (λ (τ : Choice). Permits G.node m (G.node 0) τ es) (sym (over_none ρ)) d)

  pub start_out : (ρ : Choice) (m : Mode) (es : List Meaning) → SomeAllows (start ∷ []) ρ m es → Permits G.node m (G.node 0) ρ es
  start_out ρ m es x =
      subst (λ (τ : Choice). Permits G.node m (G.node 0) τ es) (over_none ρ)
      (subst (λ (t : State). Allows G t ρ m es) (sym (in_one x.0 start x.1)) x.2)

  pub ends_in : (ts : List State) → any_ends G ts ≡ true → (t : State) × In t ts
  ends_in [] q = absurd (false≢true q)
  ends_in (t ∷ ts) q = (t, inl refl)
