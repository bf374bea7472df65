-- The kinds of node by their numbers.
use Rattle.std.specs.Prelude.{ℕ, cond, Ok, Err, Result, ◌==◌}
use Rattle.rules.specs.declared.node.Op.TheVariants.{Concat, And, Or, Shuffle}
use Rattle.rules.specs.declared.kind.Kind.{Kind}
use Rattle.rules.specs.declared.kind.Kind.TheVariants.{Prefix, Pair, Binder, Filter}
use Rattle.rules.specs.declared.kind.UnknownKind.{UnknownKind}

abbrev pub kind_of : ℕ → Result Kind UnknownKind
kind_of n =
    cond (n == 1) (Ok Prefix)
    (cond (n == 2) (Ok (Pair Concat))
    (cond (n == 3) (Ok (Pair And))
    (cond (n == 4) (Ok (Pair Or))
    (cond (n == 5) (Ok (Pair Shuffle))
    (cond (n == 6) (Ok Binder)
    (cond (n == 7) (Ok Filter) (Err (record { 0 = n }))))))))
