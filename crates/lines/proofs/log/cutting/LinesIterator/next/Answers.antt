use Rattle.std.proofs.Common.{◌≡◌, ◌+◌, ◌<◌, ◌∷◌, length, Some, sym, ap, ◌∙◌, arith, rules}
use Rattle.std.specs.Option.{option_map}
use Rattle.lines.specs.Logs.{lines_in}
use Rattle.lines.specs.Pieces.{piece_of}
use Rattle.lines.proofs.Numbered.{lines_first}
use Rattle.lines.proofs.log.cutting.LinesIterator.next.Goals as goal

pub returns-clause-steps : goal.returns-clause-steps
returns-clause-steps c =
    let rest = c.in_ok-rest.rest in
    let e : c.args.self.now.rest ≡ Some rest = search rules in
    let h : 0 < length rest.bytes.now = search rules in
    rw c.span-span.ensures (
    ap (λ o. lines_in c.args.self.now.passed (option_map piece_of o)) e
    ∙ lines_first c.args.self.now.passed (piece_of rest) h
    ∙ (λ i. record { span = record { at = (sym c.cut.ensures.first i).at; len = length (sym c.cut.ensures.first i).bytes }; number = c.args.self.now.passed + 1 } ∷ lines_in (c.args.self.now.passed + 1) (sym c.cut.ensures.rest i))
    )

pub returns-clause-goes : goal.returns-clause-goes
returns-clause-goes c = let e = ap length (returns-clause-steps c) in record { on = λ f. (tt, tt, omega (arith, e)); keeps = tt; rests = λ f. tt }
