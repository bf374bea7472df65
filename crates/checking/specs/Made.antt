-- What a checked rule holds.
use Rattle.std.specs.Prelude.{◌≡◌, ℕ, ◌<◌, true, List, length, slice_index}
use Rattle.rules.specs.declared.record.NodeRecord.{NodeRecord}
use Rattle.rules.specs.declared.node.Var.{Var}
use Rattle.rules.specs.ByVar.{at}
use Rattle.rules.specs.declared.node.Node.{Node}
use Rattle.rules.specs.Layout.{most_nodes}
use Rattle.checking.specs.declared.rule.Rule.{Rule}
use Rattle.checking.specs.Sets.{holds}
use Rattle.checking.specs.Links.{node}
use Rattle.checking.specs.FreeSets.{FreeSets, is_free}
use Rattle.checking.specs.Nodes.{node_at}
use Rattle.checking.specs.Answer.{free as free_in, rank as rank_of}
use Rattle.checking.specs.Meaning.{FreeIn}

-- sets and ranks that were computed for some nodes
pub record Facts (g : ℕ → Node) (sets : FreeSets) (ranks : List ℕ) : Type 0 where
  pub frees : (v : Var) (n : ℕ) → n < most_nodes → holds (at sets v) n ≡ free_in g v n
  pub ranked : (n : ℕ) → n < most_nodes → slice_index ranks n ≡ rank_of g n
  pub wide : length ranks ≡ most_nodes

-- the rule of a list of records: its count; its nodes, and empty ones after them; in each node exactly the variables that are
-- free there; and the ranks
pub record Made (rs : List NodeRecord) (r : Rule) : Type 0 where
  pub counted : r.count ≡ length rs
  pub decodes : (n : ℕ) → node r.nodes n ≡ node_at rs n
  pub frees : (v : Var) (n : ℕ) → (is_free r.free v n ≡ true → FreeIn (node_at rs) v n) × (FreeIn (node_at rs) v n → is_free r.free v n ≡ true)
  pub ranked : (n : ℕ) → slice_index r.rank n ≡ rank_of (node_at rs) n
