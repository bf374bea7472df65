-- The bytes that a fault lies in.
use Rattle.std.specs.Prelude.{ℕ, List, [], take, drop}
use Rattle.refusals.specs.declared.Layer.{Layer}
use Rattle.refusals.specs.declared.Layer.TheVariants.{Reading, Checking, Record, Word, Showing, Judging, Report}
use Rattle.refusals.specs.declared.Place.{Place}
use Rattle.refusals.specs.declared.Place.TheVariants.{Nowhere, Bytes, Node}
use Rattle.refusals.specs.declared.Refusal.{Refusal}

-- the part of some bytes at a place, cut off where they end; nothing where the place is no part of bytes
abbrev pub part_at : List ℕ → Place → List ℕ
part_at xs Nowhere = []
part_at xs (Node n) = []
part_at xs (Bytes s) = take s.len (drop s.at xs)

-- reading's places lie in the rule, words' in the log; no other layer's lie in either
abbrev pub part_by : Layer → List ℕ → List ℕ → Place → List ℕ
part_by Reading rule log p = part_at rule p
part_by Word rule log p = part_at log p
part_by Checking rule log p = []
part_by Record rule log p = []
part_by Showing rule log p = []
part_by Judging rule log p = []
part_by Report rule log p = []

abbrev pub excerpt_of : List ℕ → List ℕ → Refusal → List ℕ
excerpt_of rule log f = part_by f.layer rule log f.place
