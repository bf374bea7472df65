-- What a verdict is called.
use Rattle.std.specs.Prelude.{ℕ, List, codes}
use Rattle.calculus.specs.declared.verdict.Verdict.{Verdict}
use Rattle.calculus.specs.declared.verdict.Verdict.TheVariants.{MayEnd, Open, Broken}

abbrev pub word_of : Verdict → List ℕ
word_of MayEnd = codes "may end"
word_of Open = codes "open"
word_of Broken = codes "broken"
