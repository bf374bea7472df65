-- Bytes are read of their text, with letters in either case, and of no other.
use Rattle.std.proofs.Common.{◌≡◌, ℕ, suc, ◌+◌, ◌*◌, ◌/◌, ◌%◌, ◌<◌, Bool, true, false, cond, eqb, List, [], ◌∷◌, get_or, Some, None, Option, sym, refl, ap, ◌∙◌, subst, arith}
use Rattle.std.specs.Option.{option_map}
use Rattle.std.proofs.lemmas.Bool.{eqb-true}
use Rattle.std.proofs.lemmas.Bool.Decides.{nat_tests}
use Rattle.refusals.specs.Options.{on}
use Rattle.commands.specs.Hex.{digit_of, pairs_of, unhexed, digit_text, digits_text, hex_text, Octets, lower_case, lowered, Exactly}

impossible : {A : Type 0} → ◌≡◌ {A = ℕ} 0 1 → A
impossible e = absurd (omega arith)

-- a digit is read of its text, in either case, and of no other
digit_back : (x n : ℕ) → n < 16 → lower_case x ≡ digit_text n → digit_of x ≡ Some n
digit_back x n h e = grind (arith, nat_tests)

digit_only : (x n : ℕ) → digit_of x ≡ Some n → (lower_case x ≡ digit_text n) × (n < 16)
digit_only x n e = grind (arith, nat_tests)

pairs_back : (xs bs : List ℕ) → Octets bs → lowered xs ≡ digits_text bs → pairs_of xs ≡ Some bs
pairs_back [] [] h e = refl
pairs_back [] (b ∷ bs) h e = impossible (cc)
pairs_back (x ∷ []) [] h e = impossible (cc)
pairs_back (x ∷ []) (b ∷ bs) h e = impossible (cc)
pairs_back (x ∷ y ∷ xs) [] h e = impossible (cc)
pairs_back (x ∷ y ∷ xs) (b ∷ bs) h e =
    let p : lower_case x ≡ digit_text (b / 16) = cc in
    let q : lower_case y ≡ digit_text (b % 16) = cc in
    let r : lowered xs ≡ digits_text bs = cc in
    let d : b / 16 * 16 + b % 16 ≡ b = omega arith in
    rw (digit_back x (b / 16) (omega arith) p, digit_back y (b % 16) (omega arith) q, pairs_back xs bs h.1 r, d)

pairs_only : (xs bs : List ℕ) → pairs_of xs ≡ Some bs → (lowered xs ≡ digits_text bs) × Octets bs
pairs_only [] [] e = (refl, tt)
pairs_only [] (b ∷ bs) e = impossible (cc)
pairs_only (x ∷ []) bs e = impossible (cc)
pairs_only (x ∷ y ∷ xs) bs e = go (digit_of x) refl (digit_of y) refl (pairs_of xs) (pairs_only xs) e
  where
    go : (o : Option ℕ) → digit_of x ≡ o → (q : Option ℕ) → digit_of y ≡ q → (s : Option (List ℕ)) → ((cs : List ℕ) → s ≡ Some cs → (lowered xs ≡ digits_text cs) × Octets cs)
        → on (on o (λ a. on q (λ b. Some (a * 16 + b)))) (λ b. option_map (λ cs. b ∷ cs) s) ≡ Some bs → (lowered (x ∷ y ∷ xs) ≡ digits_text bs) × Octets bs
    go None p q r s f e = impossible (cc)
    go (Some m) p None r s f e = impossible (cc)
    go (Some m) p (Some n) r None f e = impossible (cc)
    go (Some m) p (Some n) r (Some cs) f e =
        let u = digit_only x m p in
        let v = digit_only y n r in
        let w = f cs refl in
        let h : (m * 16 + n) / 16 ≡ m = omega (arith, u.1, v.1) in
        let l : (m * 16 + n) % 16 ≡ n = omega (arith, u.1, v.1) in
        let all : lowered (x ∷ y ∷ xs) ≡ digits_text ((m * 16 + n) ∷ cs) = rw (h, l, u.0, v.0, w.0) in
        let same : (m * 16 + n) ∷ cs ≡ bs = cc in
        subst (λ (ds : List ℕ). (lowered (x ∷ y ∷ xs) ≡ digits_text ds) × Octets ds) same (all, (omega (arith, u.1, v.1), w.1))

text_back : (xs bs : List ℕ) → Octets bs → lowered xs ≡ hex_text bs → unhexed xs ≡ Some bs
text_back [] [] h e = impossible (cc)
text_back [] (b ∷ bs) h e = impossible (cc)
text_back (x ∷ []) [] h e = let p : lower_case x ≡ 45 = cc in grind (arith, nat_tests)
text_back (x ∷ []) (b ∷ bs) h e = impossible (cc)
text_back (x ∷ y ∷ xs) [] h e = impossible (cc)
text_back (x ∷ y ∷ xs) (b ∷ bs) h e = pairs_back (x ∷ y ∷ xs) (b ∷ bs) h e

text_only : (xs bs : List ℕ) → unhexed xs ≡ Some bs → (lowered xs ≡ hex_text bs) × Octets bs
text_only [] bs e = impossible (cc)
text_only (x ∷ []) bs e = go (eqb x 45) (eqb-true x 45) e
  where
    go : (b : Bool) → (b ≡ true → x ≡ 45) → cond b (Some []) None ≡ Some bs → (lowered (x ∷ []) ≡ hex_text bs) × Octets bs
    go true f e =
        let same : [] ≡ bs = cc in
        subst (λ (ds : List ℕ). (lowered (x ∷ []) ≡ hex_text ds) × Octets ds) same (ap (λ k. lower_case k ∷ []) (f refl), tt)
    go false f e = impossible (cc)
text_only (x ∷ y ∷ xs) [] e = let p = (pairs_only (x ∷ y ∷ xs) [] e).0 in impossible (cc)
text_only (x ∷ y ∷ xs) (b ∷ bs) e = pairs_only (x ∷ y ∷ xs) (b ∷ bs) e

-- what is written is read back
octets : (bs : List ℕ) → ((i : ℕ) → get_or bs i 0 < 256) → Octets bs
octets [] h = tt
octets (b ∷ bs) h = (h 0, octets bs (λ i. h (suc i)))

digit_lower : (n : ℕ) → n < 16 → lower_case (digit_text n) ≡ digit_text n
digit_lower n h = grind (arith, nat_tests)

digits_lower : (bs : List ℕ) → Octets bs → lowered (digits_text bs) ≡ digits_text bs
digits_lower [] h = refl
digits_lower (b ∷ bs) h = rw (digit_lower (b / 16) (omega arith), digit_lower (b % 16) (omega arith), digits_lower bs h.1)

text_lower : (bs : List ℕ) → Octets bs → lowered (hex_text bs) ≡ hex_text bs
text_lower [] h = refl
text_lower (b ∷ bs) h = digits_lower (b ∷ bs) h

pub exactly : (xs : List ℕ) (r : Option (List ℕ)) → r ≡ unhexed xs → Exactly xs r
exactly xs r q = record {
  back = λ bs h e. q ∙ text_back xs bs h e;
  only = λ bs e. text_only xs bs (sym q ∙ e);
  written = λ bs h e. q ∙ text_back xs bs h (ap lowered e ∙ text_lower bs h);
}

pub written_back : (bs s : List ℕ) → ((i : ℕ) → get_or bs i 0 < 256) → s ≡ hex_text bs → unhexed s ≡ Some bs
written_back bs s h e = ap unhexed e ∙ text_back (hex_text bs) bs (octets bs h) (text_lower bs (octets bs h))
