-- The nodes in which a variable is free.
use Rattle.std.proofs.Common.{◌≡◌, ℕ, ◌<◌, Bool, true, ◌&&◌, ◌||◌, ap, inl, inr}
use Rattle.std.proofs.lemmas.Bool.{or_left, or_right, or_cases, and_parts, and_from}
use Rattle.checking.specs.Sets.{any_below}
use Rattle.rules.specs.declared.node.Var.{Var}
use Rattle.rules.specs.declared.node.Node.{Node}
use Rattle.checking.specs.declared.links.Links.TheVariants.{Free}
use Rattle.checking.specs.Links.{names, links, Ranged}
use Rattle.checking.specs.Paths.{one, more, reach}
use Rattle.checking.specs.Answer.{free}
use Rattle.checking.proofs.Counts.{any_in, any_out, any_same}
use Rattle.checking.proofs.Reaching.{reach_path, path_reach}
use Rattle.checking.proofs.Inside.{ranged}

module _ (g : ℕ → Node) (G : Ranged g) where
  pub free_here : (v : Var) (n : ℕ) → names v (g n) ≡ true → free g v n ≡ true
  unfolding free
  free_here v n h = or_left (names v (g n)) _ h

  pub free_up : (v : Var) (n c : ℕ) → links (Free v) g n c ≡ true → free g v c ≡ true → free g v n ≡ true
  unfolding free
  free_up v n c h x =
      elim (or_cases (names v (g c)) (any_below (f c) 128) x) [
        | inl y ↦ or_right (names v (g n)) _ (any_in (f n) 128 c (ranged g G (Free v) n c h) (and_from (reach l 128 n c) _ (path_reach l 128 (ranged g G (Free v)) (one h)) y))
        | inr y ↦
            let z = any_out (f c) 128 y in
            let w = and_parts (reach l 128 c z.0) (names v (g z.0)) z.2 in
            or_right (names v (g n)) _ (any_in (f n) 128 z.0 z.1
            (and_from (reach l 128 n z.0) _ (path_reach l 128 (ranged g G (Free v)) (more h (reach_path l 128 c z.0 w.0))) w.1))
      ]
    where
      l : ℕ → ℕ → Bool
      l = links (Free v) g

      f : ℕ → ℕ → Bool
      f n m = reach l 128 n m && names v (g m)

pub free_is : (g : ℕ → Node) (v : Var) (row base : ℕ → Bool) (n : ℕ) → n < 128
    → ((j : ℕ) → row j ≡ reach (links (Free v) g) 128 n j) → ((m : ℕ) → m < 128 → base m ≡ names v (g m))
    → (base n || any_below (λ j. row j && base j) 128) ≡ free g v n
unfolding free
free_is g v row base n h e d =
    rw (d n h) (ap (λ (x : Bool). names v (g n) || x)
    (any_same (λ j. row j && base j) (λ j. reach (links (Free v) g) 128 n j && names v (g j)) 128 (λ m k. rw (e m, d m k))))
