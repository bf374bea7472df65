-- Layers by their words.
use Rattle.std.specs.Prelude.{◌≡◌, ℕ, List, [], ◌∷◌, Some, Option}
use Rattle.std.specs.List.{find}
use Rattle.std.specs.Str.{bytes_eq}
use Rattle.refusals.specs.Names.{name_of}
use Rattle.refusals.specs.declared.Layer.{Layer}
use Rattle.refusals.specs.declared.Layer.TheVariants.{Reading, Checking, Record, Word, Showing, Judging, Report}

abbrev pub layers : List Layer
layers = Reading ∷ Checking ∷ Record ∷ Word ∷ Showing ∷ Judging ∷ Report ∷ []

abbrev pub layer_named : List ℕ → Option Layer
layer_named w = find (λ l. bytes_eq w (name_of l)) layers

-- a word names the layer whose name it is, and no other word names it
pub record Inverse (w : List ℕ) (r : Option Layer) : Type 0 where
  pub named : (l : Layer) → w ≡ name_of l → r ≡ Some l
  pub only : (l : Layer) → r ≡ Some l → w ≡ name_of l
