-- From what the calls gave to the step of a pair, a binder state and a filter state.
use Rattle.std.proofs.Common.{◌≡◌, ℕ, Bool, true, false, ◌&&◌, ◌||◌, List, [], ◌∷◌, Ok, sym, refl, ap, ◌∙◌, ap₂}
use borrow.Author.Tests.{clash}
use Rattle.calculus.specs.Vocabulary.{And, Concat, Meaning, Op, Or, Rule, Shuffle, Substitution, Var}
use Rattle.calculus.specs.Numbers.{no_numbers}
use Rattle.calculus.specs.Matching.{passes_at}
use Rattle.calculus.specs.Graphs.{Graph, graph_of}
use Rattle.calculus.specs.States.{State, pair, binder, filter, may_end}
use Rattle.calculus.specs.Lists.{gather}
use Rattle.calculus.specs.Outcomes.{binder_outcomes, filter_outcomes, outcomes, paired, unique}
use Rattle.calculus.specs.Steps.{Outcome as Out}
use Rattle.calculus.specs.Visited.{visits_second}
use Rattle.calculus.specs.Fullness.{full, overflowing}
use Rattle.std.proofs.lemmas.Bool.{or_left, or_right, and_from}
use Rattle.stepping.specs.declared.outcomes.Outcomes.{Outcomes}
use Rattle.stepping.specs.Adding.{Collects, outcomes_in}
use Rattle.stepping.specs.Wrapping.{outcomes_under_binder, outcomes_under_filter}
use Rattle.stepping.specs.Stepping.{Stepped}
use Rattle.stepping.proofs.Collecting.{Answer}
use Rattle.stepping.proofs.Steps.{or_none, or_neither, and_off, and_right, stepped_is, by_list}

-- where the second side is visited its outcomes count, and where it is not they do not
paired_on : (o : Op) (l r : State) (b : Bool) (ls rs : List Out) → true ≡ visits_second o b → paired o l r true ls rs ≡ paired o l r b ls rs
paired_on Or l r b ls rs q = refl
paired_on And l r b ls rs q = refl
paired_on Concat l r b ls rs q = ap (λ (c : Bool). paired Concat l r c ls rs) q
paired_on Shuffle l r b ls rs q = refl

paired_off : (o : Op) (l r : State) (b : Bool) (ls rs : List Out) → false ≡ visits_second o b → paired o l r true ls [] ≡ paired o l r b ls rs
paired_off Or l r b ls rs q = absurd (clash q)
paired_off And l r b ls rs q = absurd (clash q)
paired_off Concat l r b ls rs q = ap (λ (c : Bool). paired Concat l r c ls rs) q
paired_off Shuffle l r b ls rs q = absurd (clash q)

module _ (rule : Rule) (e : Meaning) where
  abbrev G : Graph
  G = graph_of rule

  -- a pair of which both sides are visited, or only the left one
  pub of_both : (o : Op) (l r : State) (v w : Outcomes) (q : Answer) → true ≡ visits_second o (may_end G l) → Stepped rule e l (Ok v) →
      Stepped rule e r (Ok w) → Collects (paired o l r true (outcomes_in v) (outcomes_in w)) q → Stepped rule e (pair o l r) q
  of_both o l r v w q g a b h =
      let i = stepped_is rule e l (Ok v) a in
      let j = stepped_is rule e r (Ok w) b in
      by_list rule e (pair o l r) (paired o l r true (outcomes_in v) (outcomes_in w)) q
      (ap₂ (λ (ls rs : List Out). unique (paired o l r true ls rs)) i.0 j.0 ∙ ap unique (paired_on o l r (may_end G l) (outcomes G e l) (outcomes G e r) g))
      (sym (or_none (overflowing (outcomes G e (pair o l r))) (full G e l || (visits_second o (may_end G l) && full G e r))
      (or_neither (full G e l) (visits_second o (may_end G l) && full G e r) i.1 (and_right (visits_second o (may_end G l)) (full G e r) j.1))))
      h

  pub of_left : (o : Op) (l r : State) (v w : Outcomes) (q : Answer) → false ≡ visits_second o (may_end G l) → Stepped rule e l (Ok v) →
      outcomes_in w ≡ [] → Collects (paired o l r true (outcomes_in v) (outcomes_in w)) q → Stepped rule e (pair o l r) q
  of_left o l r v w q g a b h =
      let i = stepped_is rule e l (Ok v) a in
      by_list rule e (pair o l r) (paired o l r true (outcomes_in v) (outcomes_in w)) q
      (ap₂ (λ (ls rs : List Out). unique (paired o l r true ls rs)) i.0 b ∙
      ap unique (paired_off o l r (may_end G l) (outcomes G e l) (outcomes G e r) g))
      (sym (or_none (overflowing (outcomes G e (pair o l r))) (full G e l || (visits_second o (may_end G l) && full G e r))
      (or_neither (full G e l) (visits_second o (may_end G l) && full G e r) i.1 (and_off (visits_second o (may_end G l)) (full G e r) (sym g)))))
      h

  pub left_full : (o : Op) (l r : State) → full G e l ≡ true → full G e (pair o l r) ≡ true
  left_full o l r h = or_right (overflowing (outcomes G e (pair o l r))) _ (or_left (full G e l) _ h)

  pub right_full : (o : Op) (l r : State) → true ≡ visits_second o (may_end G l) → full G e r ≡ true → full G e (pair o l r) ≡ true
  right_full o l r g h = or_right (overflowing (outcomes G e (pair o l r))) _ (or_right (full G e l) _ (and_from _ _ (sym g) h))

  -- a binder state
  pub of_binder : (v : Var) (t : State) (w : Outcomes) (q : Answer) → Stepped rule e t (Ok w) →
      Collects (gather (outcomes_under_binder G v) (outcomes_in w)) q → Stepped rule e (binder v t) q
  of_binder v t w q a h =
      let i = stepped_is rule e t (Ok w) a in
      by_list rule e (binder v t) (gather (outcomes_under_binder G v) (outcomes_in w)) q (ap (binder_outcomes G v) i.0)
      (sym (or_none (overflowing (outcomes G e (binder v t))) (full G e t) i.1)) h

  pub under_full : (v : Var) (t : State) → full G e t ≡ true → full G e (binder v t) ≡ true
  under_full v t h = or_right (overflowing (outcomes G e (binder v t))) _ h

  -- a filter state that the event passes, and one that stays
  pub of_filter : (n : ℕ) (t : State) (w : Outcomes) (q : Answer) → true ≡ passes_at (G.node n) e → Stepped rule e t (Ok w) →
      Collects (gather (outcomes_under_filter n) (outcomes_in w)) q → Stepped rule e (filter n t) q
  of_filter n t w q l a h =
      let i = stepped_is rule e t (Ok w) a in
      by_list rule e (filter n t) (gather (outcomes_under_filter n) (outcomes_in w)) q
      (ap (λ (xs : List Out). unique (gather (outcomes_under_filter n) xs)) i.0 ∙ ap (λ (b : Bool). filter_outcomes n b (filter n t) (outcomes G e t)) l)
      (sym (or_none (overflowing (outcomes G e (filter n t))) (passes_at (G.node n) e && full G e t) (and_right (passes_at (G.node n) e) (full G e t) i.1))) h

  pub of_stays : (n : ℕ) (t : State) (u : State) (β : Substitution) (q : Answer) → false ≡ passes_at (G.node n) e → u ≡ filter n t → β ≡ no_numbers →
      Collects ((u, β) ∷ []) q → Stepped rule e (filter n t) q
  of_stays n t u β q l i j h =
      by_list rule e (filter n t) ((u, β) ∷ []) q
      (ap₂ (λ (s : State) (γ : Substitution). (s, γ) ∷ []) i j ∙ ap (λ (b : Bool). filter_outcomes n b (filter n t) (outcomes G e t)) l)
      (sym (or_none (overflowing (outcomes G e (filter n t))) (passes_at (G.node n) e && full G e t) (and_off (passes_at (G.node n) e) (full G e t) (sym l)))) h

  pub below_full : (n : ℕ) (t : State) → true ≡ passes_at (G.node n) e → full G e t ≡ true → full G e (filter n t) ≡ true
  below_full n t l h = or_right (overflowing (outcomes G e (filter n t))) _ (and_from _ _ (sym l) h)
