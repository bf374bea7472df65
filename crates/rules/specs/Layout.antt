-- Which records the layout allows, and the node that each stands for.
use Rattle.std.specs.Prelude.{ℕ, ◌%◌, Bool, true, false, cond, ◌&&◌, Some, None, Option, ◌==◌, nat_lt}
use Rattle.std.specs.Result.{result_ok}
use Rattle.refusals.specs.Options.{on}
use Rattle.rules.specs.declared.record.SlotField.{SlotField}
use Rattle.rules.specs.declared.record.NodeRecord.{NodeRecord}
use Rattle.rules.specs.declared.node.Var.{Var}
use Rattle.rules.specs.declared.node.Slot.{Slot}
use Rattle.rules.specs.declared.node.Slot.TheVariants.{Any, Constant, Variable}
use Rattle.rules.specs.declared.node.Pattern.{Pattern}
use Rattle.rules.specs.declared.node.Op.{Op}
use Rattle.rules.specs.declared.node.Node.{Node}
use Rattle.rules.specs.declared.node.Node.TheVariants.{Empty, Prefix, Pair, Binder, Filter}
use Rattle.rules.specs.declared.kind.Kind.{Kind}
use Rattle.rules.specs.declared.kind.Kind.TheVariants.{Prefix as PrefixKind, Pair as PairKind, Binder as BinderKind, Filter as FilterKind}
use Rattle.rules.specs.Vars.{numbered}
use Rattle.rules.specs.Kinds.{kind_of}
use Rattle.rules.specs.Map.{is_set}

abbrev pub most_nodes : ℕ
most_nodes = 128

-- the record of an empty node
abbrev pub blank : NodeRecord
blank = record { map = 0; kind = 0; first = 0; second = 0; ty = 0; variable = 0; player = record { tag = 0; number = 0 }; card = record { tag = 0; number = 0 }; strokes = record { tag = 0; number = 0 } }

-- variables are 0 to 3
abbrev pub var_of : ℕ → Option Var
var_of n = result_ok (numbered n)

-- a slot that is not announced asks nothing; a tag is 0 or 1
abbrev pub slot_of : Bool → SlotField → Option Slot
slot_of false f = Some Any
slot_of true f = cond (f.tag == 0) (Some (Constant f.number)) (cond (f.tag == 1) (on (var_of f.number) (λ v. Some (Variable v))) None)

-- a type is at most 63
abbrev pub pattern_of : NodeRecord → Option Pattern
pattern_of r =
    cond (nat_lt 63 r.ty) None
    (on (slot_of (is_set r.map 32) r.player) (λ p.
    on (slot_of (is_set r.map 64) r.card) (λ c.
    on (slot_of (is_set r.map 128) r.strokes) (λ s.
    Some (record { ty = r.ty; player = p; card = c; strokes = s })))))

abbrev pub is_constant : Slot → Bool
is_constant Any = true
is_constant (Constant n) = true
is_constant (Variable v) = false

abbrev pub has_constants : Pattern → Bool
has_constants p = is_constant p.player && (is_constant p.card && is_constant p.strokes)

-- the lines of the layout for a rule of n nodes: the map of each kind, and children below n
abbrev pub patterned : ℕ → NodeRecord → Option Pattern
patterned n r = cond (r.map % 32 == 11 && nat_lt r.first n) (pattern_of r) None

abbrev pub prefix_of : ℕ → NodeRecord → Option Node
prefix_of n r = on (patterned n r) (λ p. Some (Prefix p r.first))

-- a filter's pattern has constants only
abbrev pub filter_of : ℕ → NodeRecord → Option Node
filter_of n r = on (patterned n r) (λ p. cond (has_constants p) (Some (Filter p r.first)) None)

abbrev pub pair_of : Op → ℕ → NodeRecord → Option Node
pair_of o n r = cond (r.map == 7 && (nat_lt r.first n && nat_lt r.second n)) (Some (Pair o r.first r.second)) None

abbrev pub binder_of : ℕ → NodeRecord → Option Node
binder_of n r = cond (r.map == 19 && nat_lt r.first n) (on (var_of r.variable) (λ v. Some (Binder v r.first))) None

-- the node of a kind
abbrev pub of_kind : ℕ → NodeRecord → Kind → Option Node
of_kind n r PrefixKind = prefix_of n r
of_kind n r (PairKind o) = pair_of o n r
of_kind n r BinderKind = binder_of n r
of_kind n r FilterKind = filter_of n r

-- the node that a record stands for; none where it breaks its line
abbrev pub decoded : ℕ → NodeRecord → Option Node
decoded n r = cond (r.map == 0) (Some Empty) (on (result_ok (kind_of r.kind)) (of_kind n r))
