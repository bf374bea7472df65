-- An empty node leads nowhere.
use Rattle.std.proofs.Common.{◌≡◌, ℕ, true, false, ◌&&◌, ltb, sym, ap, ◌∙◌}
use Rattle.std.proofs.lemmas.Bool.{false≢true, and_right}
use Rattle.checking.specs.Sets.{holds}
use Rattle.rules.specs.declared.node.Var.{Var}
use Rattle.rules.specs.declared.node.Node.{Node}
use Rattle.rules.specs.declared.node.Node.TheVariants.{Empty}
use Rattle.checking.specs.declared.links.Links.{Links}
use Rattle.checking.specs.declared.links.Links.TheVariants.{Unguarded, Free}
use Rattle.checking.specs.Links.{names, link, links, inside}
use Rattle.checking.specs.Paths.{reach}
use Rattle.checking.specs.Answer.{rank, free, weights, on_loop, heavy}
use Rattle.rules.specs.declared.node.Var.TheVariants.{V0, V1, V2, V3}
use Rattle.checking.specs.FreeSets.{FreeSets, is_free, no_sets, passed}
use Rattle.checking.proofs.Bits.{none_holds}
use Rattle.checking.proofs.Counts.{none_counted, none_below}
use Rattle.checking.proofs.Reaching.{reach_nothing}

none_here : (n : ℕ) → (ltb n 128 && holds (record { bits = 0 }) n) ≡ false
none_here n = and_right (ltb n 128) _ (none_holds n)

-- an empty node has no links and no names
module _ (nd : Node) (e : nd ≡ Empty) where
  pub empty_inside : (N : ℕ) → inside N nd ≡ true
  empty_inside N = ap (inside N) e

  pub empty_link : (w : Links) (c : ℕ) → link w nd c ≡ true → ⊥
  empty_link w c h = false≢true (sym (ap (λ (x : Node). link w x c) e) ∙ h)

  pub empty_names : (v : Var) → names v nd ≡ true → ⊥
  empty_names v h = false≢true (sym (ap (names v) e) ∙ h)

  pub empty_passed : (s : FreeSets) (n c : ℕ) (v : Var) → passed s nd n c v ≡ true
  empty_passed s n c v = ap (λ (x : Node). passed s x n c v) e

pub no_free : (v : Var) (n : ℕ) → is_free no_sets v n ≡ false
no_free V0 n = none_here n
no_free V1 n = none_here n
no_free V2 n = none_here n
no_free V3 n = none_here n

-- so an empty node is on no loop, has rank 0 and no free variable, and is light
module _ (g : ℕ → Node) (n : ℕ) (e : g n ≡ Empty) where
  no_link : (w : Links) (j : ℕ) → links w g n j ≡ false
  no_link w j = ap (λ (x : Node). link w x j) e

  no_reach : (w : Links) (j : ℕ) → reach (links w g) 128 n j ≡ false
  no_reach w j = reach_nothing (links w g) n (no_link w) 128 j

  pub empty_loopless : on_loop g n ≡ false
  unfolding on_loop
  empty_loopless = no_reach Unguarded n

  pub empty_rank : rank g n ≡ 0
  unfolding rank
  empty_rank = none_counted (reach (links Unguarded g) 128 n) 128 (no_reach Unguarded)

  pub empty_free : (v : Var) → free g v n ≡ false
  unfolding free
  empty_free v = rw (ap (names v) e) (none_below (λ m. reach (links (Free v) g) 128 n m && names v (g m)) 128 (λ m. rw (no_reach (Free v) m)))

  pub empty_light : heavy g n ≡ false
  unfolding heavy weights
  empty_light = rw e
