-- The graph of a checked rule is well formed: what its invariants say, node by node.
use Rattle.std.proofs.Common.{◌≡◌, ℕ, Bool, true, false, ◌&&◌, eqb, refl}
use mathlib.Core.Bool.{false≢true}
use Rattle.std.proofs.lemmas.Bool.{or_left, or_right, eq-eqb}
use Rattle.checking.specs.declared.links.Links.TheVariants.{Free}
use Rattle.checking.specs.Links.{node as node_in, slot_names, link}
use Rattle.checking.specs.FreeSets.{is_free, implies}
use Rattle.calculus.specs.Vocabulary.{Any, Binder, Constant, Empty, Filter, Node, Pair, Prefix, Rule, Slot, Var, Variable}
use Rattle.calculus.specs.Graphs.{ClosedAtStart, graph_of, Names, WellFormed, WellFormedAt}
use Rattle.calculus.proofs.Substitutions.{same_refl}

slot_named : (v : Var) (s : Slot) → Names v s → slot_names v s ≡ true
slot_named v Any i = absurd i
slot_named v (Constant k) i = absurd i
slot_named v (Variable w) i = rw i (same_refl v)

implied : (a b c : Bool) → a ≡ true → b ≡ true → implies (a && b) c ≡ true → c ≡ true
implied true true c p q h = h
implied true false c p q h = absurd (false≢true q)
implied false b c p q h = absurd (false≢true p)

module _ (r : Rule) where
  -- what is free in a child is free in the node, along a link that does not bind it
  up : (v : Var) (n c : ℕ) → link (Free v) (node_in r.nodes n) c ≡ true → is_free r.free v c ≡ true → is_free r.free v n ≡ true
  up v n c h x = implied (link (Free v) (node_in r.nodes n) c) (is_free r.free v c) (is_free r.free v n) h x (r.carried v n c)

  pub well_formed : WellFormed (graph_of r)
  well_formed n = go (node_in r.nodes n) refl
    where
      go : (nd : Node) → node_in r.nodes n ≡ nd → WellFormedAt (graph_of r) n nd
      go Empty q = tt
      go (Prefix p t) q = (
        record {
          player = λ v i. r.named v n (rw q (or_left (slot_names v p.player) _ (slot_named v p.player i)));
          card = λ v i. r.named v n (rw q (or_right (slot_names v p.player) _ (or_left (slot_names v p.card) _ (slot_named v p.card i))));
          strokes = λ v i. r.named v n (rw q (or_right (slot_names v p.player) _ (or_right (slot_names v p.card) _ (slot_named v p.strokes i))));
        },
        λ v x. up v n t (rw q (or_left _ _ (eq-eqb t t refl))) x,
      )
      go (Pair o a b) q = (
        r.falls n a (rw q (or_left _ _ (eq-eqb a a refl))),
        r.falls n b (rw q (or_right (eqb a b) _ (or_left _ _ (eq-eqb b b refl)))),
        (λ v x. up v n a (rw q (or_left _ _ (eq-eqb a a refl))) x),
        λ v x. up v n b (rw q (or_right (eqb a b) _ (or_left _ _ (eq-eqb b b refl)))) x,
      )
      go (Binder w c) q =
          (r.falls n c (rw q (or_left _ _ (eq-eqb c c refl))), λ v x s. up v n c (rw (q, s) (or_left _ _ (eq-eqb c c refl))) x)
      go (Filter p c) q =
          (r.falls n c (rw q (or_left _ _ (eq-eqb c c refl))), λ v x. up v n c (rw q (or_left _ _ (eq-eqb c c refl))) x)

  pub closed_at_start : ClosedAtStart (graph_of r)
  closed_at_start v = r.closed v
