-- The declared types that code and mathematics share, each under its one name.
pub use Rattle.std.specs.declared.option.Option.{Option}
pub use Rattle.std.specs.declared.option.Option.TheVariants.{None, Some}
pub use Rattle.rules.specs.declared.node.Var.{Var}
pub use Rattle.rules.specs.declared.node.Var.TheVariants.{V0, V1, V2, V3}
pub use Rattle.rules.specs.declared.node.Slot.{Slot}
pub use Rattle.rules.specs.declared.node.Slot.TheVariants.{Any, Constant, Variable}
pub use Rattle.rules.specs.declared.node.Pattern.{Pattern}
pub use Rattle.rules.specs.declared.node.Op.{Op}
pub use Rattle.rules.specs.declared.node.Op.TheVariants.{Or, And, Concat, Shuffle}
pub use Rattle.rules.specs.declared.node.Node.{Node}
pub use Rattle.rules.specs.declared.node.Node.TheVariants.{Empty, Prefix, Pair, Binder, Filter}
pub use Rattle.rules.specs.ByVar.{Substitution}
pub use Rattle.rules.specs.Vars.{same}
pub use Rattle.checking.specs.declared.rule.Rule.{Rule}
pub use Rattle.events.specs.declared.meaning.Meaning.{Meaning}
pub use Rattle.events.specs.Types.{has}
