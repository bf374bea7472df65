-- Ranks fall along unguarded links, where there is no loop.
use Rattle.std.proofs.Common.{◌≡◌, ℕ, ◌<◌, ◌≤◌, true, false}
use Rattle.rules.specs.declared.node.Node.{Node}
use Rattle.checking.specs.declared.links.Links.TheVariants.{Unguarded}
use Rattle.checking.specs.Links.{links, Ranged}
use Rattle.checking.specs.Paths.{one, more, reach}
use Rattle.checking.specs.Answer.{rank}
use Rattle.checking.proofs.Counts.{count_most, count_less}
use Rattle.checking.proofs.Reaching.{reach_path, path_reach}
use Rattle.checking.proofs.Inside.{ranged}

module _ (g : ℕ → Node) (G : Ranged g) (L : (n : ℕ) → n < 128 → reach (links Unguarded g) 128 n n ≡ false) where
  pub falls : (n c : ℕ) → links Unguarded g n c ≡ true → rank g c < rank g n
  unfolding rank
  falls n c h =
      count_less (reach (links Unguarded g) 128 c) (reach (links Unguarded g) 128 n)
      (λ m x. path_reach (links Unguarded g) 128 (ranged g G Unguarded) (more h (reach_path (links Unguarded g) 128 c m x))) 128 c (ranged g G Unguarded n c h)
      (L c (ranged g G Unguarded n c h)) (path_reach (links Unguarded g) 128 (ranged g G Unguarded) (one h))

  pub rank_most : (n : ℕ) → rank g n ≤ 128
  unfolding rank
  rank_most n = count_most (reach (links Unguarded g) 128 n) 128
