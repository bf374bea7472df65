-- Layers by their names.
use Rattle.std.proofs.Common.{◌≡◌, ℕ, Bool, true, false, cond, List, [], ◌∷◌, Some, Option, sym, refl, ap, ◌∙◌}
use Rattle.std.specs.List.{find}
use Rattle.std.specs.Str.{bytes_eq}
use Rattle.std.proofs.lemmas.Slice.Eq.{bytes_eq-Decides}
use Rattle.refusals.specs.Names.{name_of}
use Rattle.refusals.specs.declared.Layer.{Layer}
use Rattle.refusals.specs.declared.Layer.TheVariants.{Reading, Checking, Record, Word, Showing, Judging, Report}
use Rattle.commands.specs.Layers.{layers, layer_named, Inverse}

name_back : (l : Layer) → layer_named (name_of l) ≡ Some l
name_back Reading = refl
name_back Checking = refl
name_back Record = refl
name_back Word = refl
name_back Showing = refl
name_back Judging = refl
name_back Report = refl

-- the first test that holds
chosen : (w : List ℕ) (m : Layer) (o : Option Layer) (l : Layer) → (o ≡ Some l → w ≡ name_of l) → cond (bytes_eq w (name_of m)) (Some m) o ≡ Some l → w ≡ name_of l
chosen w m o l f = go (bytes_eq w (name_of m)) (bytes_eq-Decides w (name_of m)).0
  where
    go : (b : Bool) → (b ≡ true → w ≡ name_of m) → cond b (Some m) o ≡ Some l → w ≡ name_of l
    go true h e = h refl ∙ ap name_of (cc)
    go false h e = f e

named_only : (ls : List Layer) (w : List ℕ) (l : Layer) → find (λ m. bytes_eq w (name_of m)) ls ≡ Some l → w ≡ name_of l
named_only [] w l e = cc
named_only (m ∷ ls) w l e = chosen w m (find (λ m. bytes_eq w (name_of m)) ls) l (named_only ls w l) e

pub inverse : (w : List ℕ) (r : Option Layer) → r ≡ layer_named w → Inverse w r
inverse w r e = record { named = λ l q. e ∙ ap layer_named q ∙ name_back l; only = λ l q. named_only layers w l (sym e ∙ q) }
