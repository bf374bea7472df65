-- What stands in a list that is put together, or that has each element once.
use Rattle.std.proofs.Common.{◌≡◌, Bool, true, false, cond, ◌||◌, ◌⊎◌, List, [], ◌∷◌, ◌++◌, sym, refl, ap, ◌∙◌, subst, inl, inr, true≢false}
use mathlib.Core.Bool.{false≢true}
use Rattle.calculus.specs.Lists.{Distinct, gather, In, member, once}

module _ {A : Type 0} where
  pub in_left : (x : A) (xs ys : List A) → In x xs → In x (xs ++ ys)
  in_left x [] ys i = absurd i
  in_left x (y ∷ xs) ys (inl q) = inl q
  in_left x (y ∷ xs) ys (inr i) = inr (in_left x xs ys i)

  pub in_right : (x : A) (xs ys : List A) → In x ys → In x (xs ++ ys)
  in_right x [] ys i = i
  in_right x (y ∷ xs) ys i = inr (in_right x xs ys i)

  pub in_split : (x : A) (xs ys : List A) → In x (xs ++ ys) → In x xs ⊎ In x ys
  in_split x [] ys i = inr i
  in_split x (y ∷ xs) ys (inl q) = inl (inl q)
  in_split x (y ∷ xs) ys (inr i) = elim (in_split x xs ys i) [ inl j ↦ inl (inr j) | inr j ↦ inr j ]

  pub in_one : (x y : A) → In x (y ∷ []) → y ≡ x
  in_one x y (inl q) = q
  in_one x y (inr i) = absurd i

module _ {A B : Type 0} (f : A → List B) where
  pub gather_in : (xs : List A) (x : A) (y : B) → In x xs → In y (f x) → In y (gather f xs)
  gather_in [] x y i j = absurd i
  gather_in (z ∷ xs) x y (inl q) j = in_left y (f z) (gather f xs) (subst (λ (w : A). In y (f w)) (sym q) j)
  gather_in (z ∷ xs) x y (inr i) j = in_right y (f z) (gather f xs) (gather_in xs x y i j)

  pub gather_out : (xs : List A) (y : B) → In y (gather f xs) → (x : A) × In x xs × In y (f x)
  gather_out [] y i = absurd i
  gather_out (z ∷ xs) y i =
      elim (in_split y (f z) (gather f xs) i)
      [ inl j ↦ (z, inl refl, j) | inr j ↦ let r = gather_out xs y j in (r.0, inr r.1, r.2) ]

module _ {A : Type 0} (eq : A → A → Bool) where
  pub once_out : (x : A) (acc xs : List A) → In x (once eq acc xs) → In x acc ⊎ In x xs
  once_out x acc [] i = inl i
  once_out x acc (y ∷ ys) i =
      elim (once_out x (cond (member eq y acc) acc (acc ++ (y ∷ []))) ys i) [ inl j ↦ go (member eq y acc) j | inr j ↦ inr (inr j) ]
    where
      go : (b : Bool) → In x (cond b acc (acc ++ (y ∷ []))) → In x acc ⊎ In x (y ∷ ys)
      go true j = inl j
      go false j = elim (in_split x acc (y ∷ []) j) [ inl k ↦ inl k | inr k ↦ inr (inl (in_one x y k)) ]

  module _ (eq-eq : (x y : A) → eq x y ≡ true → x ≡ y) where
    has_in : (x : A) (ys : List A) → member eq x ys ≡ true → In x ys
    has_in x [] q = absurd (false≢true q)
    has_in x (y ∷ ys) q = go (eq y x) refl q (has_in x ys)
      where
        go : (b : Bool) → eq y x ≡ b → (b || member eq x ys) ≡ true → (member eq x ys ≡ true → In x ys) → (y ≡ x) ⊎ In x ys
        go true p h f = inl (eq-eq y x p)
        go false p h f = inr (f h)

    pub once_in : (x : A) (acc xs : List A) → In x acc ⊎ In x xs → In x (once eq acc xs)
    once_in x acc [] (inl i) = i
    once_in x acc [] (inr i) = absurd i
    once_in x acc (y ∷ ys) i = once_in x (cond (member eq y acc) acc (acc ++ (y ∷ []))) ys (go (member eq y acc) refl i)
      where
        go : (b : Bool) → member eq y acc ≡ b → In x acc ⊎ In x (y ∷ ys) → In x (cond b acc (acc ++ (y ∷ []))) ⊎ In x ys
        go true h (inl j) = inl j
        go true h (inr (inl q)) = inl (subst (λ (z : A). In z acc) q (has_in y acc h))
        go true h (inr (inr j)) = inr j
        go false h (inl j) = inl (in_left x acc (y ∷ []) j)
        go false h (inr (inl q)) = inl (in_right x acc (y ∷ []) (inl q))
        go false h (inr (inr j)) = inr j

-- nothing stands twice where each is added once
module _ {A : Type 0} where
  append_distinct : (xs : List A) (x : A) → Distinct xs → (In x xs → ⊥) → Distinct (xs ++ (x ∷ []))
  append_distinct [] x d n = ((λ i. i), tt)
  append_distinct (y ∷ ys) x d n = (
    (λ i. elim (in_split y ys (x ∷ []) i) [ inl j ↦ d.0 j | inr j ↦ n (inl (sym (in_one y x j))) ]),
    append_distinct ys x d.1 (λ i. n (inr i)),
  )

  module _ (eq : A → A → Bool) (eq_refl : (x : A) → eq x x ≡ true) where
    has_not : (x : A) (ys : List A) → member eq x ys ≡ false → In x ys → ⊥
    has_not x (y ∷ ys) q (inl p) = true≢false (sym (ap (λ (b : Bool). b || member eq x ys) (ap (eq y) (sym p) ∙ eq_refl y)) ∙ q)
    has_not x (y ∷ ys) q (inr i) = go (eq y x) q (λ h. has_not x ys h i)
      where
        go : (b : Bool) → (b || member eq x ys) ≡ false → (member eq x ys ≡ false → ⊥) → ⊥
        go true h f = true≢false h
        go false h f = f h
    has_not x [] q i = i

    pub once_distinct : (acc xs : List A) → Distinct acc → Distinct (once eq acc xs)
    once_distinct acc [] d = d
    once_distinct acc (y ∷ ys) d = once_distinct (cond (member eq y acc) acc (acc ++ (y ∷ []))) ys (go (member eq y acc) refl)
      where
        go : (b : Bool) → member eq y acc ≡ b → Distinct (cond b acc (acc ++ (y ∷ [])))
        go true h = d
        go false h = append_distinct acc y d (has_not y acc h)
