-- Lines and the byte that ends them.
use Rattle.std.specs.Prelude.{ℕ, ◌-◌, cond, List, length, take, ◌==◌, slice_index}

-- a line without its last byte, where that is byte 10
abbrev pub without_end : List ℕ → List ℕ
without_end xs = cond (slice_index xs (length xs - 1) == 10) (take (length xs - 1) xs) xs
