-- How counts are written out.
use Rattle.std.specs.Prelude.{ℕ, List, ◌++◌, codes, decimal}
use Rattle.monitor.specs.declared.Counts.{Counts}

abbrev pub counts_text : Counts → List ℕ
counts_text c = codes "shown " ++ (decimal c.shown ++ (codes " taken " ++ decimal c.taken))
