use Rattle.std.proofs.Common.{◌++◌, length, take, flat_map, codes, decimal}
use Rattle.std.specs.Fmt.{HasWritten, IsPlainFormatter}
use Rattle.replies.specs.Text.{size_piece}
use Rattle.replies.proofs.text.SizesDisplay.fmt.Given as goal

abbrev pub invariant-loop-size : goal.invariant-loop-size
invariant-loop-size g l =
    IsPlainFormatter l.fn.f → HasWritten g.W.Write.write_str_gives l.fn.f ((codes "held " ++ (decimal (length l.self.0.now) ++ codes ":")) ++ flat_map size_piece (take l.size-index l.self.0.now)) l.f
