-- A refusal in plain words, on one line.
use Rattle.std.specs.Prelude.{ℕ, cond, List, [], ◌++◌, codes, decimal, ◌==◌}
use Rattle.refusals.specs.declared.Place.{Place}
use Rattle.refusals.specs.declared.Place.TheVariants.{Nowhere, Bytes, Node}
use Rattle.refusals.specs.declared.Refusal.{Refusal}
use Rattle.refusals.specs.Names.{name_of}
use Rattle.refusals.specs.Text.{quoted_of}

-- lines are numbered from 1; 0 stands for no line
abbrev pub line_text : ℕ → List ℕ
line_text n = cond (n == 0) [] (codes "line " ++ (decimal n ++ codes ": "))

abbrev pub refused_text : Refusal → List ℕ → List ℕ
refused_text f cause = codes "refused " ++ (decimal f.number ++ (codes " " ++ (name_of f.layer ++ (codes ": " ++ cause))))

-- the place, with the bytes that lie there
abbrev pub place_text : Place → List ℕ → List ℕ
place_text Nowhere part = []
place_text (Node n) part = codes " at node " ++ decimal n
place_text (Bytes s) part = codes " " ++ (quoted_of part ++ (codes " at byte " ++ decimal s.at))

abbrev pub message_text : ℕ → Refusal → List ℕ → List ℕ → List ℕ
message_text line f cause part = ((line_text line ++ refused_text f cause) ++ place_text f.place part) ++ codes "\n"
