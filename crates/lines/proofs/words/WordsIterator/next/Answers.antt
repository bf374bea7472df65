use Rattle.std.proofs.Common.{◌≡◌, ◌∷◌, length, Some, sym, ap, ◌∙◌, arith, rules}
use Rattle.std.specs.Option.{option_map}
use Rattle.lines.specs.Lines.{space}
use Rattle.lines.specs.Pieces.{piece_of, cut_in}
use Rattle.lines.proofs.Cutting.{cut_first}
use Rattle.lines.proofs.words.WordsIterator.next.Goals as goal

pub returns-clause-steps : goal.returns-clause-steps
returns-clause-steps c =
    let rest = c.in_ok-self.field-0 in
    let e : c.args.self.now.0 ≡ Some rest = search rules in
    ap (λ o. cut_in space (option_map piece_of o)) e ∙ cut_first space (piece_of rest) ∙ (λ i. sym c.cut.ensures.first i ∷ cut_in space (sym c.cut.ensures.rest i))

pub returns-clause-goes : goal.returns-clause-goes
returns-clause-goes c = let e = ap length (returns-clause-steps c) in record { on = λ f. (tt, tt, omega (arith, e)); keeps = tt; rests = λ f. tt }
