-- From what the calls gave to the step of a leaf, by the kind of its node.
use Rattle.std.proofs.Common.{◌≡◌, ℕ, suc, Bool, true, false, ◌&&◌, List, [], ◌∷◌, Ok, sym, ap, ◌∙◌}
use Rattle.calculus.specs.Vocabulary.{Binder, Empty, Filter, Meaning, Node, None, Op, Option, Pair, Pattern, Prefix, Rule, Some, Substitution, Var}
use Rattle.calculus.specs.Numbers.{no_numbers, without}
use Rattle.calculus.specs.Matching.{bind, passes_at}
use Rattle.calculus.specs.Graphs.{Graph, graph_of, WellFormed}
use Rattle.calculus.specs.States.{State, leaf, pair, binder, child}
use Rattle.calculus.specs.Lists.{gather}
use Rattle.calculus.specs.Outcomes.{filter_outcomes, node_outcomes, on_match, outcomes, unique}
use Rattle.calculus.specs.Steps.{Outcome as Out}
use Rattle.calculus.specs.Fullness.{full, node_full, overflowing}
use Rattle.calculus.proofs.Checked.{well_formed}
use Rattle.calculus.proofs.Listing.{outcomes_pair, outcomes_binder, outcomes_filter}
use Rattle.calculus.proofs.Filling.{full_pair, full_binder, full_filter}
use Rattle.std.proofs.lemmas.Bool.{or_right, and_from}
use Rattle.stepping.specs.declared.outcomes.Outcomes.{Outcomes}
use Rattle.stepping.specs.Adding.{Collects, outcomes_in}
use Rattle.stepping.specs.Wrapping.{outcomes_under_filter}
use Rattle.stepping.specs.Stepping.{Stepped}
use Rattle.stepping.proofs.Collecting.{Answer, gives_to}
use Rattle.stepping.proofs.Steps.{or_none, and_off, and_right, is_stepped, stepped_is, stepped_as, by_list, none_stepped}

module _ (rule : Rule) (e : Meaning) where
  abbrev G : Graph
  G = graph_of rule

  abbrev W : WellFormed G
  W = well_formed rule

  outcomes_at : (n : ℕ) (σ : Substitution) (nd : Node) → nd ≡ G.node n → node_outcomes G e (suc (G.rank n)) n σ nd ≡ outcomes G e (leaf n σ)
  outcomes_at n σ nd q = ap (node_outcomes G e (suc (G.rank n)) n σ) q

  full_at : (n : ℕ) (σ : Substitution) (nd : Node) → nd ≡ G.node n → node_full G e (suc (G.rank n)) n σ nd ≡ full G e (leaf n σ)
  full_at n σ nd q = ap (node_full G e (suc (G.rank n)) n σ) q

  pub at_empty : (n : ℕ) (σ : Substitution) (v : Outcomes) → Empty ≡ G.node n → outcomes_in v ≡ [] → Stepped rule e (leaf n σ) (Ok v)
  at_empty n σ v q i = none_stepped rule e (leaf n σ) v (sym (outcomes_at n σ Empty q)) (full_at n σ Empty q) i

  -- a prefix, with a match and without
  pub at_prefix : (n : ℕ) (σ : Substitution) (p : Pattern) (t : ℕ) (β : Substitution) (u : State) (r : Answer) → Prefix p t ≡ G.node n →
      Some β ≡ bind σ p e → u ≡ child G t σ → Collects ((u, β) ∷ []) r → Stepped rule e (leaf n σ) r
  at_prefix n σ p t β u r q b s h =
      by_list rule e (leaf n σ) ((u, β) ∷ []) r
      (ap (λ (w : State). (w, β) ∷ []) s ∙ ap (λ (o : Option Substitution). on_match o (child G t σ)) b ∙ outcomes_at n σ (Prefix p t) q)
      (full_at n σ (Prefix p t) q) h

  pub at_no_match : (n : ℕ) (σ : Substitution) (p : Pattern) (t : ℕ) (v : Outcomes) → Prefix p t ≡ G.node n → None ≡ bind σ p e →
      outcomes_in v ≡ [] → Stepped rule e (leaf n σ) (Ok v)
  at_no_match n σ p t v q b i =
      none_stepped rule e (leaf n σ) v
      (sym (ap (λ (o : Option Substitution). on_match o (child G t σ)) b ∙ outcomes_at n σ (Prefix p t) q)) (full_at n σ (Prefix p t) q) i

  -- a pair and a binder step as the states over their children
  pub at_pair : (n : ℕ) (σ : Substitution) (o : Op) (a b : ℕ) (s : State) (r : Answer) → Pair o a b ≡ G.node n →
      s ≡ pair o (child G a σ) (child G b σ) → Stepped rule e s r → Stepped rule e (leaf n σ) r
  at_pair n σ o a b s r q w h =
      is_stepped rule e (leaf n σ) r
      (gives_to r (ap (outcomes G e) w ∙ sym (outcomes_pair G W e n σ o a b (sym q))) (ap (full G e) w ∙ sym (full_pair G W e n σ o a b (sym q)))
      (stepped_is rule e s r h))

  pub at_binder : (n : ℕ) (σ : Substitution) (v : Var) (c : ℕ) (s : State) (r : Answer) → Binder v c ≡ G.node n →
      s ≡ binder v (child G c (without v σ)) → Stepped rule e s r → Stepped rule e (leaf n σ) r
  at_binder n σ v c s r q w h =
      is_stepped rule e (leaf n σ) r
      (gives_to r (ap (outcomes G e) w ∙ sym (outcomes_binder G W e n σ v c (sym q))) (ap (full G e) w ∙ sym (full_binder G W e n σ v c (sym q)))
      (stepped_is rule e s r h))

  -- a filter that the event passes, one that it does not pass, and one that is full below
  pub at_filter : (n : ℕ) (σ : Substitution) (p : Pattern) (c : ℕ) (s : State) (v : Outcomes) (r : Answer) → Filter p c ≡ G.node n →
      true ≡ passes_at (G.node n) e → s ≡ child G c σ → Stepped rule e s (Ok v) → Collects (gather (outcomes_under_filter n) (outcomes_in v)) r →
      Stepped rule e (leaf n σ) r
  at_filter n σ p c s v r q l w g h =
      let k = stepped_is rule e (child G c σ) (Ok v) (stepped_as rule e (Ok v) w g) in
      by_list rule e (leaf n σ) (gather (outcomes_under_filter n) (outcomes_in v)) r
      (ap (λ (xs : List Out). unique (gather (outcomes_under_filter n) xs)) k.0 ∙ ap (λ (b : Bool). filter_outcomes n b (leaf n σ) (outcomes G e (child G c σ))) l ∙
      sym (outcomes_filter G W e n σ p c (sym q)))
      (sym (full_filter G W e n σ p c (sym q) ∙ or_none (overflowing (outcomes G e (leaf n σ))) (passes_at (G.node n) e && full G e (child G c σ))
      (and_right (passes_at (G.node n) e) (full G e (child G c σ)) k.1)))
      h

  pub at_stays : (n : ℕ) (σ : Substitution) (p : Pattern) (c : ℕ) (β : Substitution) (r : Answer) → Filter p c ≡ G.node n →
      false ≡ passes_at (G.node n) e → β ≡ no_numbers → Collects ((leaf n σ, β) ∷ []) r → Stepped rule e (leaf n σ) r
  at_stays n σ p c β r q l w h =
      by_list rule e (leaf n σ) ((leaf n σ, β) ∷ []) r
      (ap (λ (γ : Substitution). (leaf n σ, γ) ∷ []) w ∙ ap (λ (b : Bool). filter_outcomes n b (leaf n σ) (outcomes G e (child G c σ))) l ∙
      sym (outcomes_filter G W e n σ p c (sym q)))
      (sym (full_filter G W e n σ p c (sym q) ∙ or_none (overflowing (outcomes G e (leaf n σ))) (passes_at (G.node n) e && full G e (child G c σ))
      (and_off (passes_at (G.node n) e) (full G e (child G c σ)) (sym l))))
      h

  pub filter_full : (n : ℕ) (σ : Substitution) (p : Pattern) (c : ℕ) (s : State) → Filter p c ≡ G.node n → true ≡ passes_at (G.node n) e → s ≡ child G c σ →
      full G e s ≡ true → full G e (leaf n σ) ≡ true
  filter_full n σ p c s q l w h =
      full_filter G W e n σ p c (sym q) ∙
      or_right (overflowing (outcomes G e (leaf n σ))) (passes_at (G.node n) e && full G e (child G c σ))
      (and_from (passes_at (G.node n) e) (full G e (child G c σ)) (sym l) (ap (full G e) (sym w) ∙ h))
