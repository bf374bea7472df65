-- Children of nodes that keep to the layout are nodes of the rule.
use Rattle.std.proofs.Common.{◌≡◌, ℕ, ◌%◌, ◌<◌, ◌≤◌, Bool, true, false, cond, ◌&&◌, ◌||◌, eqb, ltb, [], ◌∷◌, Some, None, Option, refl, subst, inl, inr, arith}
use Rattle.std.proofs.lemmas.Bool.{or_cases, and_parts, and_from, eqb-true, ltb-true, false≢true, lt-ltb}
use Rattle.rules.specs.declared.node.Node.{Node}
use Rattle.rules.specs.declared.node.Node.TheVariants.{Empty, Prefix, Pair, Binder, Filter}
use Rattle.checking.specs.declared.links.Links.{Links}
use Rattle.checking.specs.declared.links.Links.TheVariants.{Unguarded, Free}
use Rattle.rules.specs.Vars.{same}
use Rattle.checking.specs.Links.{among, link, links, inside, Ranged}
use Rattle.checking.specs.Nodes.{or_empty}
use Rattle.rules.specs.declared.record.NodeRecord.{NodeRecord}
use Rattle.std.specs.Result.{result_ok}
use Rattle.rules.specs.declared.kind.Kind.{Kind}
use Rattle.rules.specs.declared.kind.Kind.TheVariants.{Prefix as PrefixKind, Pair as PairKind, Binder as BinderKind, Filter as FilterKind}
use Rattle.rules.specs.Kinds.{kind_of}
use Rattle.refusals.specs.Options.{on}
use Rattle.rules.specs.Layout.{pattern_of, var_of, has_constants, of_kind, decoded}

-- links lead inside
one_in : (c j N : ℕ) → ltb c N ≡ true → (eqb c j || false) ≡ true → j < N
one_in c j N g h = elim (or_cases (eqb c j) false h) [ inl x ↦ subst (λ (z : ℕ). z < N) (eqb-true c j x) (ltb-true c N g) | inr x ↦ absurd (false≢true x) ]

bind_in : (b : Bool) (c j N : ℕ) → ltb c N ≡ true → among j (cond b [] (c ∷ [])) ≡ true → j < N
bind_in true c j N g h = absurd (false≢true h)
bind_in false c j N g h = one_in c j N g h

pub link_in : (w : Links) (n : Node) (N j : ℕ) → inside N n ≡ true → link w n j ≡ true → j < N
link_in w Empty N j g h = absurd (false≢true h)
link_in Unguarded (Prefix p t) N j g h = absurd (false≢true h)
link_in (Free v) (Prefix p t) N j g h = one_in t j N g h
link_in w (Pair o a b) N j g h =
    let q = and_parts (ltb a N) (ltb b N) g in
    elim (or_cases (eqb a j) (eqb b j || false) h) [ inl x ↦ subst (λ (z : ℕ). z < N) (eqb-true a j x) (ltb-true a N q.0) | inr x ↦ one_in b j N q.1 x ]
link_in Unguarded (Binder u c) N j g h = one_in c j N g h
link_in (Free v) (Binder u c) N j g h = bind_in (same u v) c j N g h
link_in w (Filter p c) N j g h = one_in c j N g h

-- a record that keeps to the layout has its children inside
module _ (N : ℕ) where
  abbrev In : Option Node → Type 0
  In o = inside N (or_empty o) ≡ true

  either : (b : Bool) (x y : Option Node) → In x → In y → In (cond b x y)
  either true x y p q = p
  either false x y p q = q

  when : (a t : Bool) (x : Option Node) → (t ≡ true → In x) → In (cond (a && t) x None)
  when true true x f = f refl
  when true false x f = refl
  when false t x f = refl

  go_on : {X : Type 0} (o : Option X) (f : X → Option Node) → ((x : X) → In (f x)) → In (on o f)
  go_on None f h = refl
  go_on (Some x) f h = h x

  patterned_in : {X : Type 0} (a t : Bool) (o : Option X) (f : X → Option Node) → (t ≡ true → (x : X) → In (f x)) → In (on (cond (a && t) o None) f)
  patterned_in true true o f h = go_on o f (h refl)
  patterned_in true false o f h = refl
  patterned_in false t o f h = refl

  kind_inside : (r : NodeRecord) (k : Kind) → In (of_kind N r k)
  kind_inside r PrefixKind = patterned_in (eqb (r.map % 32) 11) (ltb r.first N) (pattern_of r) _ (λ h p. h)
  kind_inside r (PairKind o) = when (eqb r.map 7) (ltb r.first N && ltb r.second N) _ (λ h. h)
  kind_inside r BinderKind = when (eqb r.map 19) (ltb r.first N) _ (λ h. go_on (var_of r.variable) _ (λ v. h))
  kind_inside r FilterKind = patterned_in (eqb (r.map % 32) 11) (ltb r.first N) (pattern_of r) _ (λ h p. either (has_constants p) _ _ h refl)

  pub decoded_inside : (r : NodeRecord) → In (decoded N r)
  decoded_inside r = either (eqb r.map 0) _ _ refl (go_on (result_ok (kind_of r.kind)) (of_kind N r) (kind_inside r))

wider : (c N M : ℕ) → N ≤ M → ltb c N ≡ true → ltb c M ≡ true
wider c N M h q = let a = ltb-true c N q in lt-ltb c M (omega arith)

pub inside_wider : (n : Node) (N M : ℕ) → N ≤ M → inside N n ≡ true → inside M n ≡ true
inside_wider Empty N M h q = refl
inside_wider (Prefix p t) N M h q = wider t N M h q
inside_wider (Pair o a b) N M h q = let z = and_parts (ltb a N) (ltb b N) q in and_from _ _ (wider a N M h z.0) (wider b N M h z.1)
inside_wider (Binder v c) N M h q = wider c N M h q
inside_wider (Filter p c) N M h q = wider c N M h q

module _ (g : ℕ → Node) (G : Ranged g) where
  pub ranged : (w : Links) (i j : ℕ) → links w g i j ≡ true → j < 128
  ranged w i j h = link_in w (g i) 128 j (G i) h
