-- The nodes of a list of records.
use Rattle.std.specs.Prelude.{ℕ, List, length, Some, None, Option, slice_index_or}
use Rattle.rules.specs.declared.record.NodeRecord.{NodeRecord}
use Rattle.rules.specs.declared.node.Node.{Node}
use Rattle.rules.specs.declared.node.Node.TheVariants.{Empty}
use Rattle.rules.specs.Layout.{blank, decoded}

abbrev pub or_empty : Option Node → Node
or_empty None = Empty
or_empty (Some n) = n

-- what record k stands for
abbrev pub found : List NodeRecord → ℕ → Option Node
found rs k = decoded (length rs) (slice_index_or rs k blank)

-- the node that record k stands for; empty past the end
abbrev pub node_at : List NodeRecord → ℕ → Node
node_at rs k = or_empty (found rs k)
