-- Adding a list in parts, each element that is not there yet, where a test says that a list is too large.
use Rattle.std.proofs.Common.{◌≡◌, Bool, true, false, cond, List, [], ◌∷◌, ◌++◌, length, sym, refl, ap, ◌∙◌, arith}
use Rattle.std.specs.Vec.Iter.{into_iter_items, into_iter_len}
use Rattle.std.specs.declared.vec.IntoIter.{IntoIter}
use Rattle.calculus.specs.Lists.{member, once}
use Rattle.stepping.specs.declared.fault.StepFault.{StepFault}
use Rattle.stepping.specs.declared.fault.StepFault.TheVariants.{Full, Memory}
use Rattle.stepping.specs.Adding.{Says}

-- a fault that says a says b, where a implies b
pub says_more : (a b : Bool) (f : StepFault) → (a ≡ true → b ≡ true) → Says a f → Says b f
says_more a b Full g h = g h
says_more a b Memory g h = tt

-- the loop invariant: ws are to be added to xs; so far that gave ys, and adding zs, which are left, gives the whole
pub record Runs {A : Type 0} (eq : A → A → Bool) (xs ws ys zs : List A) : Type 0 where
  pub left : once eq ys zs ≡ once eq xs ws

-- none is left of a list that gives its items
pub none_left : {X Z : Type 0} (s : IntoIter X Z) → into_iter_len s ≡ 0 → into_iter_items s ≡ []
none_left s e = nil (into_iter_items s) (sym s.rest.ok.0 ∙ e)
  where
    nil : {X : Type 0} (xs : List X) → length xs ≡ 0 → xs ≡ []
    nil [] e = refl
    nil (x ∷ xs) e = absurd (omega arith)

module _ {A : Type 0} (eq : A → A → Bool) where
  pub once_append : (xs ys zs : List A) → once eq xs (ys ++ zs) ≡ once eq (once eq xs ys) zs
  once_append xs [] zs = refl
  once_append xs (y ∷ ys) zs = once_append (cond (member eq y xs) xs (xs ++ y ∷ [])) ys zs

  -- a turn of the loop, and its end
  pub goes : {xs ws ys zs bs : List A} (us rest : List A) → zs ≡ us ++ rest → Runs eq xs ws ys zs → bs ≡ once eq ys us → Runs eq xs ws bs rest
  goes {xs} {ws} {ys} {zs} {bs} us rest z h a = record {
    left = ap (λ (l : List A). once eq l rest) a ∙ sym (once_append ys us rest) ∙ ap (once eq ys) (sym z) ∙ h.left;
  }

  pub done : {xs ws vs ys zs : List A} → ws ≡ vs → zs ≡ [] → Runs eq xs ws ys zs → ys ≡ once eq xs vs
  done {xs} {ws} {vs} {ys} {zs} w z h = ap (once eq ys) (sym z) ∙ h.left ∙ ap (once eq xs) w

  -- a list that is too large stays so
  module _ (large : List A → Bool) (kept : (xs : List A) (x : A) → large xs ≡ true → large (xs ++ x ∷ []) ≡ true) where
    pub large_grows : (xs zs : List A) → large xs ≡ true → large (once eq xs zs) ≡ true
    large_grows xs [] q = q
    large_grows xs (z ∷ zs) q = large_grows (cond (member eq z xs) xs (xs ++ z ∷ [])) zs (go (member eq z xs))
      where
        go : (b : Bool) → large (cond b xs (xs ++ z ∷ [])) ≡ true
        go true = q
        go false = kept xs z q

    pub too_large : {xs ws ys zs : List A} (us rest : List A) → zs ≡ us ++ rest → Runs eq xs ws ys zs → large (once eq ys us) ≡ true → large (once eq xs ws) ≡ true
    too_large {xs} {ws} {ys} {zs} us rest z h q =
        ap large (sym h.left ∙ ap (once eq ys) z ∙ once_append ys us rest) ∙ large_grows (once eq ys us) rest q

    -- the loop stops at a fault
    pub stops : {xs ws vs ys zs : List A} (us rest : List A) (f : StepFault) → ws ≡ vs → zs ≡ us ++ rest → Runs eq xs ws ys zs →
        Says (large (once eq ys us)) f → Says (large (once eq xs vs)) f
    stops {xs} {ws} {vs} {ys} {zs} us rest f w z h a =
        says_more (large (once eq ys us)) (large (once eq xs vs)) f (λ p. ap (λ (l : List A). large (once eq xs l)) (sym w) ∙ too_large us rest z h p) a
