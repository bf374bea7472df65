-- The numbers that a record or a line can carry.
use Rattle.std.specs.Prelude.{ℕ, ◌^◌, ◌<◌, ◌≤◌, Some, None, Option}
use Rattle.events.specs.declared.fields.Fields.{Fields}

abbrev pub Below : ℕ → Option ℕ → Type 0
Below most None = Unit {0}
Below most (Some n) = n < most

pub record InRange (f : Fields) : Type 0 where
  pub ty : f.ty ≤ 47
  pub player : Below (2 ^ 32) f.player
  pub card : Below (2 ^ 32) f.card
  pub strokes : Below 256 f.strokes
