-- The words for the layers.
use Rattle.std.specs.Prelude.{ℕ, List, codes}
use Rattle.refusals.specs.declared.Layer.{Layer}
use Rattle.refusals.specs.declared.Layer.TheVariants.{Reading, Checking, Record, Word, Showing, Judging, Report}

abbrev pub name_of : Layer → List ℕ
name_of Reading = codes "reading"
name_of Checking = codes "checking"
name_of Record = codes "record"
name_of Word = codes "word"
name_of Showing = codes "showing"
name_of Judging = codes "judging"
name_of Report = codes "report"
