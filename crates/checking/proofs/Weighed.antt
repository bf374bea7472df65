-- The weights of a checked rule's nodes.
use Rattle.std.proofs.Common.{◌≡◌, ℕ, suc, ◌+◌, ◌-◌, ◌≤◌, true, false, IsSome, Option, Some, None, [], ◌∷◌, sym, refl, ◌∙◌, subst, arith}
use Rattle.std.proofs.lemmas.Bool.{true≢false}
use Rattle.rules.specs.declared.node.Node.{Node}
use Rattle.checking.specs.declared.links.Links.TheVariants.{Unguarded}
use Rattle.checking.specs.Links.{targets, inside}
use Rattle.checking.specs.Weights.{Weigh, none, some, Leaves}
use Rattle.checking.specs.Answer.{weights, on_loop, heavy}
use Rattle.checking.proofs.Inside.{inside_wider}
use Rattle.checking.proofs.Weigh.{too_heavy, weighed}

module _ (g : ℕ → Node) (m : ℕ) (b : m ≤ 128) (I : (n : ℕ) → inside m (g n) ≡ true) (L : (n : ℕ) → on_loop g n ≡ false) (n : ℕ) where
  below : Weigh g (targets Unguarded (g n)) (weights g 128 (targets Unguarded (g n)))
  unfolding on_loop
  below = weighed g (λ k. inside_wider (g k) m 128 b (I k)) (λ k h. L k) n

  pub weighs_rest : (left : ℕ) → ((w : ℕ) → Weigh g (targets Unguarded (g n)) w → left + suc w ≡ 1000) → Weigh g (n ∷ []) (1000 - left)
  weighs_rest left f =
      let e = f (weights g 128 (targets Unguarded (g n))) below in
      let d : suc (weights g 128 (targets Unguarded (g n))) + 0 ≡ 1000 - left = omega arith in
      subst (λ (w : ℕ). Weigh g (n ∷ []) w) d (some below none)

  pub is_left : heavy g n ≡ false → (r : Option ℕ) → ((w : ℕ) → Weigh g (targets Unguarded (g n)) w → Leaves r 1000 (suc w)) → IsSome r
  is_left h None f = absurd (true≢false (sym (too_heavy g n (f (weights g 128 (targets Unguarded (g n))) below)) ∙ h))
  is_left h (Some left) f = refl
