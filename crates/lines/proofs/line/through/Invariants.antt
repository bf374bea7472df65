use Rattle.std.proofs.Common.{◌≡◌, ℕ, List, Option}
use Rattle.lines.specs.Lines.{through, Computes, words_left}
use Rattle.lines.proofs.line.through.Given as goal

abbrev pub invariant-loop-word : goal.invariant-loop-word
invariant-loop-word g l =
    (goal.iterator-loop-word g).can_next l.word-iterator
    × (goal.iterator-loop-word g).is_finite l.word-iterator
    × ((f : _ → List ℕ → Option _) → Computes (goal.F-post g l.step) f → through f l.cause l.line l.state (words_left l.word-iterator) ≡ through f l.cause l.line l.fn.first (words_left l.fn.words))
