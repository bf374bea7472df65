-- How the parts of a rule are written out.
use Rattle.std.specs.Prelude.{ℕ, List, ◌++◌, codes, decimal}
use Rattle.rules.specs.declared.node.Var.{Var}
use Rattle.rules.specs.declared.node.Slot.{Slot}
use Rattle.rules.specs.declared.node.Slot.TheVariants.{Any, Constant, Variable}
use Rattle.rules.specs.declared.node.Pattern.{Pattern}
use Rattle.rules.specs.declared.node.Op.{Op}
use Rattle.rules.specs.declared.node.Op.TheVariants.{Or, And, Concat, Shuffle}
use Rattle.rules.specs.declared.node.Node.{Node}
use Rattle.rules.specs.declared.node.Node.TheVariants.{Empty, Prefix, Pair, Binder, Filter}
use Rattle.rules.specs.Vars.{index_of}

abbrev pub var_text : Var → List ℕ
var_text v = codes "v" ++ decimal (index_of v)

abbrev pub slot_text : Slot → List ℕ
slot_text Any = codes "any"
slot_text (Constant k) = decimal k
slot_text (Variable v) = var_text v

abbrev pub pattern_text : Pattern → List ℕ
pattern_text p =
    codes "type " ++ (decimal p.ty ++ (codes ", player " ++ (slot_text p.player ++ (codes ", card " ++ (slot_text p.card ++ (codes ", strokes " ++ slot_text p.strokes))))))

abbrev pub op_text : Op → List ℕ
op_text Or = codes "or"
op_text And = codes "and"
op_text Concat = codes "concat"
op_text Shuffle = codes "shuffle"

abbrev pub node_text : Node → List ℕ
node_text Empty = codes "empty"
node_text (Prefix p t) = codes "prefix (" ++ (pattern_text p ++ (codes "), then " ++ decimal t))
node_text (Pair o a b) = op_text o ++ (codes " of " ++ (decimal a ++ (codes " and " ++ decimal b)))
node_text (Binder v c) = codes "binder " ++ (var_text v ++ (codes " over " ++ decimal c))
node_text (Filter p c) = codes "filter (" ++ (pattern_text p ++ (codes ") over " ++ decimal c))
