use Rattle.std.proofs.Common.{◌/◌, ◌%◌, [], ◌∷◌, ◌++◌, get_or, take, arith, rules}
use Rattle.std.proofs.Output.{has_written_append, has_written_of_eq}
use Rattle.commands.specs.Hex.{digit_text, digits_text}
use Rattle.commands.proofs.Pairs.{digits_more}
use Rattle.commands.proofs.hex.HexDisplay.fmt.Goals as goal

pub loop-b-preserved : goal.loop-b-preserved
loop-b-preserved g c = λ p.
    let bs = c.args.self.now.0.now in
    let i = c.loop-b.b-index in
    let high = digit_text (get_or bs i 0 / 16) ∷ [] in
    let low = digit_text (get_or bs i 0 % 16) ∷ [] in
    let first = has_written_append _ c.args.f.now (digits_text (take i bs)) c.loop-b.f high c.write_str-in-loop-b.new.self (c.loop-b.invariant p) (search rules) in
    has_written_of_eq _ _ _ _ _ (digits_more bs i (omega arith))
    (has_written_append _ c.args.f.now (digits_text (take i bs) ++ high) c.write_str-in-loop-b.new.self low c.write_str-in-loop-b-2.new.self first (search rules))
