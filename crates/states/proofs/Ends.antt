-- A node may end just as its kind says of its children, whatever depth above the rank bounds the recursion.
use Rattle.std.proofs.Common.{◌≡◌, ℕ, zero, suc, ◌<◌, Bool, ◌&&◌, ◌||◌, ◌⊎◌, sym, refl, ap, ◌∙◌, ap₂, inl, inr, arith}
use Rattle.calculus.specs.Vocabulary.{And, Binder, Concat, Empty, Filter, Node, Op, Or, Pair, Pattern, Prefix, Rule, Shuffle, Var}
use Rattle.calculus.specs.Graphs.{Graph, graph_of, WellFormed, WellFormedAt}
use Rattle.calculus.specs.States.{node_ends, pair_ends}
use Rattle.calculus.proofs.Local.{fine}
use Rattle.calculus.proofs.Checked.{well_formed}

module _ (G : Graph) (W : WellFormed G) where
  stable : (f g n : ℕ) → G.rank n < f → G.rank n < g → (nd : Node) → G.node n ≡ nd → node_ends G f nd ≡ node_ends G g nd
  stable zero g n h k nd q = absurd (omega arith)
  stable (suc f) zero n h k nd q = absurd (omega arith)
  stable (suc f) (suc g) n h k Empty q = refl
  stable (suc f) (suc g) n h k (Prefix p t) q = refl
  stable (suc f) (suc g) n h k (Pair o a b) q =
      let F : WellFormedAt G n (Pair o a b) = fine G W n q in
      ap₂ (pair_ends o) (stable f g a (omega (arith, F.0)) (omega (arith, F.0)) (G.node a) refl)
      (stable f g b (omega (arith, F.1)) (omega (arith, F.1)) (G.node b) refl)
  stable (suc f) (suc g) n h k (Binder v c) q =
      let F : WellFormedAt G n (Binder v c) = fine G W n q in stable f g c (omega (arith, F.0)) (omega (arith, F.0)) (G.node c) refl
  stable (suc f) (suc g) n h k (Filter p c) q =
      let F : WellFormedAt G n (Filter p c) = fine G W n q in stable f g c (omega (arith, F.0)) (omega (arith, F.0)) (G.node c) refl

module _ (r : Rule) where
  abbrev G : Graph
  G = graph_of r

  -- node n may end
  abbrev pub NodeEnds : ℕ → Bool
  NodeEnds n = node_ends G (suc (G.rank n)) (G.node n)

  below : (n a : ℕ) → G.rank a < G.rank n → node_ends G (G.rank n) (G.node a) ≡ NodeEnds a
  below n a h = stable G (well_formed r) (G.rank n) (suc (G.rank a)) a h (omega arith) (G.node a) refl

  ends_pair : (n : ℕ) (o : Op) (a b : ℕ) → Pair o a b ≡ G.node n → pair_ends o (NodeEnds a) (NodeEnds b) ≡ NodeEnds n
  ends_pair n o a b q =
      let F : WellFormedAt G n (Pair o a b) = fine G (well_formed r) n (sym q) in
      sym (ap₂ (pair_ends o) (below n a F.0) (below n b F.1)) ∙ ap (node_ends G (suc (G.rank n))) q

  -- an or ends where either side does, any other pair where both do
  pub ends_either : (n : ℕ) (o : Op) (a b : ℕ) → o ≡ Or → Pair o a b ≡ G.node n → (NodeEnds a || NodeEnds b) ≡ NodeEnds n
  ends_either n o a b i q = ap (λ (p : Op). pair_ends p (NodeEnds a) (NodeEnds b)) (sym i) ∙ ends_pair n o a b q

  pub ends_both : (n : ℕ) (o : Op) (a b : ℕ) → (o ≡ And) ⊎ ((o ≡ Concat) ⊎ (o ≡ Shuffle)) → Pair o a b ≡ G.node n → (NodeEnds a && NodeEnds b) ≡ NodeEnds n
  ends_both n o a b (inl i) q = ap (λ (p : Op). pair_ends p (NodeEnds a) (NodeEnds b)) (sym i) ∙ ends_pair n o a b q
  ends_both n o a b (inr (inl i)) q = ap (λ (p : Op). pair_ends p (NodeEnds a) (NodeEnds b)) (sym i) ∙ ends_pair n o a b q
  ends_both n o a b (inr (inr i)) q = ap (λ (p : Op). pair_ends p (NodeEnds a) (NodeEnds b)) (sym i) ∙ ends_pair n o a b q

  pub ends_binder : (n : ℕ) (v : Var) (c : ℕ) → Binder v c ≡ G.node n → NodeEnds c ≡ NodeEnds n
  ends_binder n v c q =
      let F : WellFormedAt G n (Binder v c) = fine G (well_formed r) n (sym q) in
      sym (below n c F.0) ∙ ap (node_ends G (suc (G.rank n))) q

  pub ends_filter : (n : ℕ) (p : Pattern) (c : ℕ) → Filter p c ≡ G.node n → NodeEnds c ≡ NodeEnds n
  ends_filter n p c q =
      let F : WellFormedAt G n (Filter p c) = fine G (well_formed r) n (sym q) in
      sym (below n c F.0) ∙ ap (node_ends G (suc (G.rank n))) q
