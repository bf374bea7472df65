-- What stands in a list, and lists in which nothing stands twice.
use Rattle.std.specs.Prelude.{◌≡◌, Bool, false, cond, ◌||◌, ◌⊎◌, List, [], ◌∷◌, ◌++◌}

-- x stands in a list
abbrev pub In : {A : Type 0} → A → List A → Type 0
In x [] = ⊥
In x (y ∷ ys) = (y ≡ x) ⊎ In x ys

-- nothing stands twice in a list
abbrev pub Distinct : {A : Type 0} → List A → Type 0
Distinct [] = Unit {0}
Distinct (x ∷ xs) = (In x xs → ⊥) × Distinct xs

-- what f gives for each element, one after the other
abbrev pub gather : {A B : Type 0} → (A → List B) → List A → List B
gather f [] = []
gather f (x ∷ xs) = f x ++ gather f xs

-- an element equal to x stands in a list
abbrev pub member : {A : Type 0} → (A → A → Bool) → A → List A → Bool
member eq x [] = false
member eq x (y ∷ ys) = eq y x || member eq x ys

-- a list with further elements added one by one, each that is not there yet
abbrev pub once : {A : Type 0} → (A → A → Bool) → List A → List A → List A
once eq acc [] = acc
once eq acc (x ∷ xs) = once eq (cond (member eq x acc) acc (acc ++ (x ∷ []))) xs
