-- The rule that is written is that of the list.
use Rattle.std.proofs.Common.{◌≡◌, ℕ, ◌≤◌, true, List, length, get_or, Ok, sym, ap, ◌∙◌, subst}
use Rattle.rules.specs.declared.record.NodeRecord.{NodeRecord}
use Rattle.rules.specs.declared.node.Var.{Var}
use Rattle.rules.specs.declared.node.Node.{Node}
use Rattle.rules.specs.declared.node.Node.TheVariants.{Empty}
use Rattle.checking.specs.Links.{node, Ranged}
use Rattle.checking.specs.FreeSets.{FreeSets, is_free}
use Rattle.checking.specs.Nodes.{node_at}
use Rattle.checking.specs.Answer.{rank, assessed}
use Rattle.checking.specs.Meaning.{FreeIn}
use Rattle.checking.specs.Made.{Facts}
use Rattle.checking.proofs.Checking.{whole, all_ranged, beyond, made_free, made_ranked}
use Rattle.checking.proofs.Meant.{free_sound, free_whole}

module _ (rs : List NodeRecord) (ns : List Node) (same : (k : ℕ) → node ns k ≡ node_at rs k) (h : length rs ≤ 128) (s : FreeSets) (rk : List ℕ) (F : Facts (node ns) s rk) (J : assessed (node ns) ≡ Ok tt) where
  abbrev e : node ns ≡ node_at rs
  e = whole rs ns same

  abbrev G : Ranged (node ns)
  G = all_ranged rs ns same h

  abbrev B : (k : ℕ) → 128 ≤ k → node ns k ≡ Empty
  B = beyond rs ns same h

  pub written_frees : (v : Var) (n : ℕ) → (is_free s v n ≡ true → FreeIn (node_at rs) v n) × (FreeIn (node_at rs) v n → is_free s v n ≡ true)
  written_frees v n =
      let f = made_free (node ns) G B s rk F J v n in (
        (λ q. subst (λ (g : ℕ → Node). FreeIn g v n) e (free_sound (node ns) G B v n (sym f ∙ q))),
        (λ q. f ∙ free_whole (node ns) G B v n (subst (λ (g : ℕ → Node). FreeIn g v n) (sym e) q)),
      )

  pub written_ranks : (n : ℕ) → get_or rk n 0 ≡ rank (node_at rs) n
  written_ranks n = made_ranked (node ns) G B s rk F J n ∙ ap (λ (g : ℕ → Node). rank g n) e
