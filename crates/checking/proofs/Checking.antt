-- What the parts of a check say together.
use Rattle.std.proofs.Common.{◌≡◌, ℕ, ◌<◌, ◌≤◌, Bool, true, false, cond, ◌&&◌, List, length, get_or, Some, None, Ok, Err, Option, sym, refl, ap, ◌∙◌, ⊎_elim, arith}
use mathlib.Core.Path.{fun_ext}
use Rattle.std.proofs.lemmas.Bool.{cases_lt, le-leb, lt-ltb, le-ltb, or_parts}
use Rattle.rules.specs.declared.node.Var.{Var}
use Rattle.rules.specs.declared.node.Node.{Node}
use Rattle.rules.specs.declared.node.Node.TheVariants.{Empty}
use Rattle.checking.specs.declared.links.Links.TheVariants.{Unguarded, Free}
use Rattle.checking.specs.Links.{names, link, links, inside, Ranged, node}
use Rattle.checking.specs.Paths.{reach}
use Rattle.rules.specs.Layout.{blank}
use Rattle.checking.specs.Nodes.{node_at}
use Rattle.checking.specs.Answer.{rank, free, on_loop, heavy, first, misplaced, is_free_at_start, refusing, assessed, answer_of}
use Rattle.rules.specs.declared.node.Var.TheVariants.{V0, V1, V2, V3}
use Rattle.checking.specs.FreeSets.{FreeSets, is_free, passed, implies}
use Rattle.std.proofs.lemmas.List.{get_or_past}
use Rattle.rules.specs.declared.record.NodeRecord.{NodeRecord}
use Rattle.checking.specs.declared.fault.CheckFault.TheVariants.{BadLayout, Loop, TooHeavy, FreeAtStart}
use Rattle.checking.specs.Made.{Facts}
use Rattle.checking.proofs.Inside.{decoded_inside, inside_wider}
use Rattle.checking.proofs.Ranks.{falls}
use Rattle.checking.proofs.Frees.{free_here, free_up}
use Rattle.checking.proofs.Emptied.{empty_loopless, empty_rank, empty_free, empty_light}
use Rattle.checking.proofs.First.{first_none}
use Rattle.checking.proofs.Placing.{past}

module _ (rs : List NodeRecord) (ns : List Node) (same : (k : ℕ) → node ns k ≡ node_at rs k) where
  pub whole : node ns ≡ node_at rs
  whole = fun_ext same

  pub all_inside : (k : ℕ) → inside (length rs) (node ns k) ≡ true
  all_inside k = ap (inside (length rs)) (same k) ∙ decoded_inside (length rs) (get_or rs k blank)

  pub all_ranged : length rs ≤ 128 → Ranged (node ns)
  all_ranged h k = inside_wider (node ns k) (length rs) 128 h (all_inside k)

  pub beyond : length rs ≤ 128 → (k : ℕ) → 128 ≤ k → node ns k ≡ Empty
  beyond h k b = same k ∙ past rs k (omega arith)

pub answer_is : (rs : List NodeRecord) → 1 ≤ length rs → length rs ≤ 128 → first (misplaced rs) 0 (length rs) ≡ None → answer_of rs ≡ assessed (node_at rs)
answer_is rs a b q = rw (le-leb 1 (length rs) a, le-leb (length rs) 128 b, q)

pub refused_at : (rs : List NodeRecord) (n : ℕ) → 1 ≤ length rs → length rs ≤ 128 → first (misplaced rs) 0 (length rs) ≡ Some n → answer_of rs ≡ Err (BadLayout n)
refused_at rs n a b q = rw (le-leb 1 (length rs) a, le-leb (length rs) 128 b, q)

accepted : (o p : Option ℕ) (b : Bool) → refusing o Loop (refusing p TooHeavy (cond b (Err FreeAtStart) (Ok tt))) ≡ Ok tt → (o ≡ None) × (p ≡ None) × (b ≡ false)
accepted None None false q = (refl, refl, refl)
accepted None None true q = cc
accepted None (Some n) b q = cc
accepted (Some n) p b q = cc

passes : (a b c : Bool) → (a ≡ true → b ≡ true → c ≡ true) → implies (a && b) c ≡ true
passes true true c f = f refl refl
passes true false c f = refl
passes false b c f = refl

-- the invariants of the rule that is written
module _ (g : ℕ → Node) (G : Ranged g) (B : (k : ℕ) → 128 ≤ k → g k ≡ Empty) (s : FreeSets) (rk : List ℕ) (F : Facts g s rk) (J : assessed g ≡ Ok tt) where
  A : (first (on_loop g) 0 128 ≡ None) × (first (heavy g) 0 128 ≡ None) × (is_free_at_start g ≡ false)
  A = accepted (first (on_loop g) 0 128) (first (heavy g) 0 128) (is_free_at_start g) J

  pub made_loopless : (n : ℕ) → on_loop g n ≡ false
  made_loopless n = ⊎_elim (λ b. first_none (on_loop g) 0 128 A.0 n (omega arith) (omega arith)) (λ b. empty_loopless g n (B n b)) (cases_lt n 128)

  pub made_light : (n : ℕ) → heavy g n ≡ false
  made_light n = ⊎_elim (λ b. first_none (heavy g) 0 128 A.1 n (omega arith) (omega arith)) (λ b. empty_light g n (B n b)) (cases_lt n 128)

  no_loops : (n : ℕ) → n < 128 → reach (links Unguarded g) 128 n n ≡ false
  unfolding on_loop
  no_loops n h = made_loopless n

  pub made_ranked : (n : ℕ) → get_or rk n 0 ≡ rank g n
  made_ranked n =
      ⊎_elim (F.ranked n) (λ b. get_or_past rk n 0 (let w = F.wide in omega arith) ∙ sym (empty_rank g n (B n b))) (cases_lt n 128)

  pub made_free : (v : Var) (n : ℕ) → is_free s v n ≡ free g v n
  made_free v n =
      ⊎_elim (λ b. rw (lt-ltb n 128 b) (F.frees v n b)) (λ b. rw (le-ltb n 128 b) (sym (empty_free g n (B n b) v))) (cases_lt n 128)

  pub made_falls : (n c : ℕ) → link Unguarded (g n) c ≡ true → get_or rk c 0 < get_or rk n 0
  made_falls n c h = rw (made_ranked n, made_ranked c) (falls g G no_loops n c h)

  pub made_named : (v : Var) (n : ℕ) → names v (g n) ≡ true → is_free s v n ≡ true
  made_named v n h = made_free v n ∙ free_here g G v n h

  pub made_carried : (v : Var) (n c : ℕ) → passed s (g n) n c v ≡ true
  made_carried v n c =
      passes (link (Free v) (g n) c) (is_free s v c) (is_free s v n) (λ h k. made_free v n ∙ free_up g G v n c h (sym (made_free v c) ∙ k))

  none_free : (v : Var) → free g v 0 ≡ false
  none_free V0 = (or_parts (free g V0 0) _ A.2).0
  none_free V1 = (or_parts (free g V1 0) _ (or_parts (free g V0 0) _ A.2).1).0
  none_free V2 = (or_parts (free g V2 0) _ (or_parts (free g V1 0) _ (or_parts (free g V0 0) _ A.2).1).1).0
  none_free V3 = (or_parts (free g V2 0) _ (or_parts (free g V1 0) _ (or_parts (free g V0 0) _ A.2).1).1).1

  pub made_closed : (v : Var) → is_free s v 0 ≡ false
  made_closed v = made_free v 0 ∙ none_free v
