-- The nodes that a list of records is decoded to.
use Rattle.std.specs.Prelude.{◌≡◌, ℕ, List}
use Rattle.rules.specs.declared.record.NodeRecord.{NodeRecord}
use Rattle.rules.specs.declared.node.Node.{Node}
use Rattle.checking.specs.Links.{node}
use Rattle.checking.specs.Nodes.{node_at}
use Rattle.checking.specs.Answer.{assessed, answer_of}
use Rattle.checking.specs.Meaning.{Counted}

-- the count and the layout are good, so that the nodes are what is left to assess
pub record Decoded (rs : List NodeRecord) (ns : List Node) : Type 0 where
  pub counted : Counted rs
  pub nodes : (n : ℕ) → node ns n ≡ node_at rs n
  pub answer : answer_of rs ≡ assessed (node_at rs)
