-- What checking answers, from facts about the nodes: on the definition of its answer alone.
use Rattle.std.proofs.Common.{◌≡◌, ℕ, zero, suc, Bool, true, false, ◌&&◌, List, length, Ok, Err, refl, ap, ◌∙◌, inl, inr}
use mathlib.Core.Path.{fun_ext}
use mathlib.Core.Bool.{false≢true}
use Rattle.std.proofs.lemmas.Bool.{and_parts, or_cases, or_left, le-leb}
use Rattle.rules.specs.declared.record.NodeRecord.{NodeRecord}
use Rattle.checking.specs.declared.fault.CheckFault.TheVariants.{Loop, TooHeavy}
use Rattle.checking.specs.declared.links.Links.TheVariants.{Unguarded, Free}
use Rattle.checking.specs.Sets.{any_below}
use Rattle.checking.specs.Links.{links, names}
use Rattle.checking.specs.Paths.{Path, one, more, reach}
use Rattle.checking.specs.Nodes.{found, node_at}
use Rattle.checking.specs.Answer.{first as lowest, misplaced, on_loop, heavy, free, is_free_at_start, assessed, answer_of}
use Rattle.checking.specs.Meaning.{FreeIn as Named, here as named_here, up as named_up, Counted, Never, Looping}
use Rattle.calculus.specs.Vocabulary.{Node, None, Some, V0, V1, V2, V3, Var}
use Rattle.calculus.proofs.Substitutions.{not_so}

lowest_none : (f : ℕ → Bool) (i k : ℕ) → ((n : ℕ) → f n ≡ false) → lowest f i k ≡ None
unfolding lowest
lowest_none f i zero h = refl
lowest_none f i (suc k) h = rw (h i) (lowest_none f (suc i) k h)

lowest_here : (f : ℕ → Bool) (i k : ℕ) → f i ≡ true → lowest f i (suc k) ≡ Some i
unfolding lowest
lowest_here f i k h = rw h

-- paths that are found are paths
then_path : {l : ℕ → ℕ → Bool} {i j k : ℕ} → Path l i j → Path l j k → Path l i k
then_path (one h) q = more h q
then_path (more h p) q = more h (then_path p q)

reach_path : (l : ℕ → ℕ → Bool) (k i j : ℕ) → reach l k i j ≡ true → Path l i j
unfolding reach
reach_path l zero i j h = one h
reach_path l (suc k) i j h =
    elim (or_cases (reach l k i j) (reach l k i k && reach l k k j) h) [
      | inl x ↦ reach_path l k i j x
      | inr x ↦ let y = and_parts (reach l k i k) (reach l k k j) x in then_path (reach_path l k i k y.0) (reach_path l k k j y.1)
    ]

-- a link is found
link_reach : (l : ℕ → ℕ → Bool) (k i j : ℕ) → l i j ≡ true → reach l k i j ≡ true
unfolding reach
link_reach l zero i j h = h
link_reach l (suc k) i j h = or_left _ _ (link_reach l k i j h)

some_below : (f : ℕ → Bool) (n : ℕ) → any_below f n ≡ true → (m : ℕ) × (f m ≡ true)
unfolding any_below
some_below f zero q = absurd (false≢true q)
some_below f (suc k) q = elim (or_cases (f k) (any_below f k) q) [ inl x ↦ (k, x) | inr x ↦ some_below f k x ]

module _ (g : ℕ → Node) where
  never_looping : Never (Looping g) → (n : ℕ) → on_loop g n ≡ false
  unfolding on_loop
  never_looping L n = not_so (reach (links Unguarded g) 128 n n) (λ q. L n (reach_path (links Unguarded g) 128 n n q))

  loops : (n : ℕ) → links Unguarded g n n ≡ true → on_loop g n ≡ true
  unfolding on_loop
  loops n h = link_reach (links Unguarded g) 128 n n h

  path_named : (v : Var) {n m : ℕ} → Path (links (Free v) g) n m → Named g v m → Named g v n
  path_named v (one h) x = named_up h x
  path_named v (more h p) x = named_up h (path_named v p x)

  free_named : (v : Var) (n : ℕ) → free g v n ≡ true → Named g v n
  unfolding free
  free_named v n q =
      elim (or_cases (names v (g n)) (any_below (λ m. reach (links (Free v) g) 128 n m && names v (g m)) 128) q) [
        | inl x ↦ named_here x
        | inr x ↦
            let m = some_below (λ m. reach (links (Free v) g) 128 n m && names v (g m)) 128 x in
            let y = and_parts (reach (links (Free v) g) 128 n m.0) (names v (g m.0)) m.1 in
            path_named v (reach_path (links (Free v) g) 128 n m.0 y.0) (named_here y.1)
      ]

  never_open : ((v : Var) → Named g v 0 → ⊥) → is_free_at_start g ≡ false
  never_open Z =
      let z : (v : Var) → free g v 0 ≡ false = λ v. not_so (free g v 0) (λ q. Z v (free_named v 0 q)) in
      rw (z V0, z V1, z V2, z V3)

  accepts : Never (Looping g) → ((n : ℕ) → heavy g n ≡ false) → ((v : Var) → Named g v 0 → ⊥) → assessed g ≡ Ok tt
  accepts L H Z = rw (lowest_none (on_loop g) 0 128 (never_looping L), lowest_none (heavy g) 0 128 H, never_open Z)

  refuses_loop : links Unguarded g 0 0 ≡ true → assessed g ≡ Err (Loop 0)
  refuses_loop h = rw (lowest_here (on_loop g) 0 127 (loops 0 h))

  refuses_heavy : Never (Looping g) → heavy g 0 ≡ true → assessed g ≡ Err (TooHeavy 0)
  refuses_heavy L h = rw (lowest_none (on_loop g) 0 128 (never_looping L), lowest_here (heavy g) 0 127 h)

-- records that stand for these nodes are answered as the nodes are
module _ (rs : List NodeRecord) (g : ℕ → Node) (C : Counted rs) (D : (k : ℕ) → found rs k ≡ Some (g k)) where
  pub nodes_are : node_at rs ≡ g
  nodes_are = fun_ext (λ k. rw (D k))

  answered : answer_of rs ≡ assessed g
  answered =
      rw (le-leb 1 (length rs) C.0, le-leb (length rs) 128 C.1, lowest_none (misplaced rs) 0 (length rs) (λ k. rw (D k)))
      (ap assessed nodes_are)

  pub answers_fine : Never (Looping g) → ((n : ℕ) → heavy g n ≡ false) → ((v : Var) → Named g v 0 → ⊥) → answer_of rs ≡ Ok tt
  answers_fine L H Z = answered ∙ accepts g L H Z

  pub answers_loop : links Unguarded g 0 0 ≡ true → answer_of rs ≡ Err (Loop 0)
  answers_loop h = answered ∙ refuses_loop g h

  pub answers_heavy : Never (Looping g) → heavy g 0 ≡ true → answer_of rs ≡ Err (TooHeavy 0)
  answers_heavy L h = answered ∙ refuses_heavy g L h
