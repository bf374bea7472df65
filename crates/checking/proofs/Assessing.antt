use Rattle.std.proofs.Common.{◌≡◌, ℕ, ◌<◌, Bool, true, false, ◌||◌, List, Some, None, Ok, Err, sym, ap, ◌∙◌, arith}
use Rattle.rules.specs.declared.node.Var.{Var}
use Rattle.rules.specs.declared.node.Var.TheVariants.{V0, V1, V2, V3}
use Rattle.rules.specs.ByVar.{at}
use Rattle.rules.specs.declared.node.Node.{Node}
use Rattle.checking.specs.declared.set.NodeSet.{NodeSet}
use Rattle.checking.specs.declared.links.Links.TheVariants.{Unguarded}
use Rattle.checking.specs.declared.fault.CheckFault.TheVariants.{Loop, TooHeavy, FreeAtStart}
use Rattle.checking.specs.Sets.{holds, count}
use Rattle.checking.specs.Links.{links}
use Rattle.checking.specs.Paths.{in_row, reach}
use Rattle.checking.specs.FreeSets.{FreeSets, is_free}
use Rattle.checking.specs.Answer.{first, on_loop, heavy, free, rank, is_free_at_start, assessed}
use Rattle.checking.proofs.First.{first_none, first_same}
use mathlib.Core.Path.{fun_ext}

module _ (g : ℕ → Node) (rows : List NodeSet) (e : (i j : ℕ) → i < 128 → in_row rows i j ≡ reach (links Unguarded g) 128 i j) where
  pub looping_is : first (λ n. in_row rows n n) 0 128 ≡ first (on_loop g) 0 128
  unfolding on_loop
  looping_is = first_same (λ n. in_row rows n n) (on_loop g) 0 128 128 (omega arith) (λ m h. e m m h)

  pub no_loop : None ≡ first (λ n. in_row rows n n) 0 128 → (n : ℕ) → n < 128 → reach (links Unguarded g) 128 n n ≡ false
  unfolding on_loop
  no_loop q n h = first_none (on_loop g) 0 128 (sym looping_is ∙ sym q) n (omega arith) (omega arith)

  pub rank_is : (n : ℕ) → n < 128 → count (in_row rows n) 128 ≡ rank g n
  unfolding rank
  rank_is n h = ap (λ (f : ℕ → Bool). count f 128) (fun_ext (λ j. e n j h))

module _ (g : ℕ → Node) where
  pub assessed_loop : (n : ℕ) → first (on_loop g) 0 128 ≡ Some n → assessed g ≡ Err (Loop n)
  assessed_loop n p = rw p

  pub assessed_heavy : (n : ℕ) → first (on_loop g) 0 128 ≡ None → first (heavy g) 0 128 ≡ Some n → assessed g ≡ Err (TooHeavy n)
  assessed_heavy n p q = rw (p, q)

  pub assessed_open : first (on_loop g) 0 128 ≡ None → first (heavy g) 0 128 ≡ None → is_free_at_start g ≡ true → assessed g ≡ Err FreeAtStart
  assessed_open p q u = rw (p, q, u)

  pub assessed_fine : first (on_loop g) 0 128 ≡ None → first (heavy g) 0 128 ≡ None → is_free_at_start g ≡ false → assessed g ≡ Ok tt
  assessed_fine p q u = rw (p, q, u)

  pub open_is : (s : FreeSets) → ((v : Var) (n : ℕ) → n < 128 → holds (at s v) n ≡ free g v n) → (is_free s V0 0 || (is_free s V1 0 || (is_free s V2 0 || is_free s V3 0))) ≡ is_free_at_start g
  open_is s f = rw (f V0 0 (omega arith), f V1 0 (omega arith), f V2 0 (omega arith), f V3 0 (omega arith))
