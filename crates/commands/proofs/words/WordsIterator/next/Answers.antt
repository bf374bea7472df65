use Rattle.std.proofs.Common.{rules}
use Rattle.tokens.proofs.Cuts.{pieces_first}
use Rattle.commands.proofs.words.WordsIterator.next.Goals as goal

pub returns-clause-steps : goal.returns-clause-steps
returns-clause-steps c = search (rules, pieces_first)

pub returns-clause-goes : goal.returns-clause-goes
returns-clause-goes c = search (rules, pieces_first)
