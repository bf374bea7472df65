-- Weights: what they leave of a limit, and that each node has one where there is no loop.
use Rattle.std.proofs.Common.{◌≡◌, ℕ, zero, suc, ◌+◌, ◌-◌, ◌<◌, ◌≤◌, Bool, true, false, not, is_some, eqb, List, [], ◌∷◌, IfSome, Some, None, Option, sym, refl, subst, arith}
use Rattle.std.proofs.lemmas.Bool.{eq-eqb, or_left, or_right, lt-ltb, le-ltb}
use Rattle.rules.specs.declared.node.Node.{Node}
use Rattle.checking.specs.declared.links.Links.TheVariants.{Unguarded}
use Rattle.checking.specs.Links.{targets, among, links, Ranged}
use Rattle.checking.specs.Paths.{reach}
use Rattle.checking.specs.Weights.{Weigh, none, some, Leaves}
use Rattle.checking.specs.Answer.{rank, weights, heavy}
use Rattle.checking.proofs.Ranks.{falls, rank_most}

pub less_on : (r : Option ℕ) (a b : ℕ) → a ≤ b → IfSome r (λ l. l < a) → IfSome r (λ l. l < b)
less_on None a b h k = tt
less_on (Some l) a b h k = omega arith

module _ (g : ℕ → Node) (bud : ℕ) (pos : 0 < bud) where
  one_way : (r : Option ℕ) (c w : ℕ) → ((v : ℕ) → Weigh g (targets Unguarded (g c)) v → Leaves r (bud - 1) (suc v)) → Weigh g (c ∷ []) w → Leaves r bud (suc w)
  one_way None c _ f (some {x = x} p none) = let h = f x p in omega arith
  one_way (Some l) c _ f (some {x = x} p none) = let h = f x p in omega arith

  pub leaves_one : (ts : List ℕ) (r : Option ℕ) (c : ℕ) → (c ∷ []) ≡ ts
      → ((v : ℕ) → Weigh g (targets Unguarded (g c)) v → Leaves r (bud - 1) (suc v)) → (w : ℕ) → Weigh g ts w → Leaves r bud (suc w)
  leaves_one ts r c e f w p = one_way r c w f (subst (λ (t : List ℕ). Weigh g t w) (sym e) p)

  two_ways : (r : Option ℕ) (a b left w : ℕ) → ((v : ℕ) → Weigh g (targets Unguarded (g a)) v → left + suc v ≡ bud - 1)
      → ((v : ℕ) → Weigh g (targets Unguarded (g b)) v → Leaves r left (suc v)) → Weigh g (a ∷ b ∷ []) w → Leaves r bud (suc w)
  two_ways None a b left _ f k (some {x = x} p (some {x = y} q none)) = let h = f x p in let i = k y q in omega arith
  two_ways (Some l) a b left _ f k (some {x = x} p (some {x = y} q none)) = let h = f x p in let i = k y q in omega arith

  pub leaves_two : (ts : List ℕ) (r : Option ℕ) (a b left : ℕ) → (a ∷ b ∷ []) ≡ ts → ((v : ℕ) → Weigh g (targets Unguarded (g a)) v → left + suc v ≡ bud - 1)
      → ((v : ℕ) → Weigh g (targets Unguarded (g b)) v → Leaves r left (suc v)) → (w : ℕ) → Weigh g ts w → Leaves r bud (suc w)
  leaves_two ts r a b left e f k w p = two_ways r a b left w f k (subst (λ (t : List ℕ). Weigh g t w) (sym e) p)

module _ (g : ℕ → Node) (n : ℕ) where
  pub light : (left : ℕ) → left + suc (weights g 128 (targets Unguarded (g n))) ≡ 1000 → heavy g n ≡ false
  unfolding heavy
  light left e = le-ltb 1000 _ (omega arith)

  pub too_heavy : 1000 < suc (weights g 128 (targets Unguarded (g n))) → heavy g n ≡ true
  unfolding heavy
  too_heavy h = lt-ltb 1000 _ h

  pub heavy_is : (r : Option ℕ) (b : Bool) → is_some r ≡ not b → Leaves r 1000 (suc (weights g 128 (targets Unguarded (g n)))) → b ≡ heavy g n
  heavy_is None true e h = sym (too_heavy h)
  heavy_is None false e h = cc
  heavy_is (Some left) true e h = cc
  heavy_is (Some left) false e h = sym (light left h)

module _ (g : ℕ → Node) (G : Ranged g) (L : (n : ℕ) → n < 128 → reach (links Unguarded g) 128 n n ≡ false) where
  weighs : (d : ℕ) (ns : List ℕ) → ((c : ℕ) → among c ns ≡ true → rank g c < d) → Weigh g ns (weights g d ns)
  unfolding weights
  weighs zero [] f = none
  weighs zero (n ∷ ns) f = let h = f n (or_left (eqb n n) _ (eq-eqb n n refl)) in absurd (omega arith)
  weighs (suc d) [] f = none
  weighs (suc d) (n ∷ ns) f =
      some (weighs d (targets Unguarded (g n)) (λ c h. let a = falls g G L n c h in let b = f n (or_left (eqb n n) _ (eq-eqb n n refl)) in omega arith))
      (weighs (suc d) ns (λ c h. f c (or_right (eqb n c) _ h)))

  pub weighed : (n : ℕ) → Weigh g (targets Unguarded (g n)) (weights g 128 (targets Unguarded (g n)))
  weighed n = weighs 128 (targets Unguarded (g n)) (λ c h. let a = falls g G L n c h in let b = rank_most g G L n in omega arith)
