-- Reading takes the encoding of an event, and nothing else.
use Rattle.std.proofs.Common.{◌≡◌, ℕ, zero, suc, ◌+◌, ◌*◌, ◌/◌, ◌%◌, ◌^◌, ◌<◌, ◌≤◌, Bool, true, false, cond, ◌&&◌, eqb, leb, List, [], ◌∷◌, length, get_or, Some, None, Ok, Option, Result, sym, refl, ap, ◌∙◌, subst, arith}
use Rattle.std.proofs.lemmas.Bool.{le-leb, leb-true, and_parts}
use Rattle.refusals.specs.Options.{on}
use Rattle.refusals.proofs.Octets.{Octets, octets}
use Rattle.events.specs.declared.fields.Fields.{Fields}
use Rattle.events.specs.Ranges.{Below, InRange}
use Rattle.records.specs.declared.Record.{Record}
use Rattle.records.specs.declared.RecordFault.{RecordFault}
use Rattle.records.specs.Records.{joined4, bytes4, bytes1, field, ended, announced, fields_of, or_bad, record_of}
use Rattle.records.specs.Encoding.{put4, put1, flag, map_of, encoded, Exactly}

impossible : {A : Type 0} → ◌≡◌ {A = ℕ} 0 1 → A
impossible z = absurd (omega arith)

quad : (n : ℕ) → joined4 (n / 16777216) (n / 65536 % 256) (n / 256 % 256) (n % 256) ≡ n
quad n = omega arith

abbrev filled : Option ℕ → Bool
filled None = false
filled (Some n) = true

four_back : (o : Option ℕ) (xs : List ℕ) → field bytes4 (filled o) (put4 o xs) ≡ Some (o, xs)
four_back None xs = refl
four_back (Some n) xs = ap (λ (k : ℕ). Some (Some k, xs)) (quad n)

one_back : (o : Option ℕ) (xs : List ℕ) → field bytes1 (filled o) (put1 o xs) ≡ Some (o, xs)
one_back None xs = refl
one_back (Some n) xs = refl

-- the map of an encoding announces just the filled slots
abbrev Bits : Option ℕ → Option ℕ → Option ℕ → ℕ → Type 0
Bits p c s m = (m ≤ 7) × ((eqb (m % 2) 1 ≡ filled p) × ((eqb (m / 2 % 2) 1 ≡ filled c) × (eqb (m / 4 % 2) 1 ≡ filled s)))

bits : (p c s : Option ℕ) → Bits p c s (flag p + 2 * flag c + 4 * flag s)
bits None None None = (omega arith, (refl, (refl, refl)))
bits None None (Some k) = (omega arith, (refl, (refl, refl)))
bits None (Some n) None = (omega arith, (refl, (refl, refl)))
bits None (Some n) (Some k) = (omega arith, (refl, (refl, refl)))
bits (Some m) None None = (omega arith, (refl, (refl, refl)))
bits (Some m) None (Some k) = (omega arith, (refl, (refl, refl)))
bits (Some m) (Some n) None = (omega arith, (refl, (refl, refl)))
bits (Some m) (Some n) (Some k) = (omega arith, (refl, (refl, refl)))

fields_back : (f : Fields) → f.ty ≤ 47 → fields_of (encoded f) ≡ Some f
fields_back f h =
    let b = bits f.player f.card f.strokes in
    rw (
      le-leb (map_of f) 7 b.0,
      le-leb f.ty 47 h,
      b.1.0,
      four_back f.player (put4 f.card (put1 f.strokes [])),
      b.1.1.0,
      four_back f.card (put1 f.strokes []),
      b.1.1.1,
      one_back f.strokes [],
    )

abbrev number : Bool → ℕ
number true = 1
number false = 0

-- a field that was read: its bytes are those of its number
pub record Made4 (b : Bool) (xs : List ℕ) (o : Option ℕ) (ys : List ℕ) : Type 0 where
  bytes : xs ≡ put4 o ys
  fits : Below (2 ^ 32) o
  told : flag o ≡ number b
  rest : Octets ys

pub record Made1 (b : Bool) (xs : List ℕ) (o : Option ℕ) (ys : List ℕ) : Type 0 where
  bytes : xs ≡ put1 o ys
  fits : Below 256 o
  told : flag o ≡ number b
  rest : Octets ys

abbrev Slotted : Type 0
Slotted = Option ℕ × List ℕ

four_made : (b : Bool) (xs : List ℕ) (p : Slotted) → Octets xs → field bytes4 b xs ≡ Some p → Made4 b xs p.0 p.1
four_made false xs p o e =
    let q : (None, xs) ≡ p = cc in
    subst (λ (r : Slotted). Made4 false xs r.0 r.1) q (record { bytes = refl; fits = tt; told = refl; rest = o })
four_made true [] p o e = impossible (cc)
four_made true (a ∷ []) p o e = impossible (cc)
four_made true (a ∷ b ∷ []) p o e = impossible (cc)
four_made true (a ∷ b ∷ c ∷ []) p o e = impossible (cc)
four_made true (a ∷ b ∷ c ∷ d ∷ xs) p o e =
    let q : (Some (joined4 a b c d), xs) ≡ p = cc in
    let ha = o.0 in let hb = o.1.0 in let hc = o.1.1.0 in let hd = o.1.1.1.0 in
    let ea : a ≡ joined4 a b c d / 16777216 = omega arith in
    let eb : b ≡ joined4 a b c d / 65536 % 256 = omega arith in
    let ec : c ≡ joined4 a b c d / 256 % 256 = omega arith in
    let ed : d ≡ joined4 a b c d % 256 = omega arith in
    let w : (a ∷ b ∷ c ∷ d ∷ xs) ≡ put4 (Some (joined4 a b c d)) xs = cc in
    subst (λ (r : Slotted). Made4 true (a ∷ b ∷ c ∷ d ∷ xs) r.0 r.1) q (record { bytes = w; fits = omega arith; told = refl; rest = o.1.1.1.1 })

one_made : (b : Bool) (xs : List ℕ) (p : Slotted) → Octets xs → field bytes1 b xs ≡ Some p → Made1 b xs p.0 p.1
one_made false xs p o e =
    let q : (None, xs) ≡ p = cc in
    subst (λ (r : Slotted). Made1 false xs r.0 r.1) q (record { bytes = refl; fits = tt; told = refl; rest = o })
one_made true [] p o e = impossible (cc)
one_made true (a ∷ xs) p o e =
    let q : (Some a, xs) ≡ p = cc in
    subst (λ (r : Slotted). Made1 true (a ∷ xs) r.0 r.1) q (record { bytes = refl; fits = o.0; told = refl; rest = o.1 })

on_some : {X Y : Type 0} (o : Option X) (f : X → Option Y) (y : Y) → on o f ≡ Some y → (x : X) × (o ≡ Some x) × (f x ≡ Some y)
on_some None f y e = impossible (cc)
on_some (Some x) f y e = (x, refl, e)

ended_made : (g f : Fields) (xs : List ℕ) → ended g xs ≡ Some f → (xs ≡ []) × (g ≡ f)
ended_made g f [] e = (refl, cc)
ended_made g f (x ∷ xs) e = impossible (cc)

number_bit : (x : ℕ) → number (eqb (x % 2) 1) ≡ x % 2
number_bit x = go (x % 2) (omega arith)
  where
    go : (r : ℕ) → r < 2 → number (eqb r 1) ≡ r
    go zero h = refl
    go (suc zero) h = refl
    go (suc (suc r)) h = absurd (omega arith)

announced_made : (m k : ℕ) (xs : List ℕ) (f : Fields) → m ≤ 7 → k ≤ 47 → Octets xs → announced m k xs ≡ Some f → (m ∷ k ∷ xs ≡ encoded f) × InRange f
announced_made m k xs f hm hk o e =
    let p = on_some (field bytes4 (eqb (m % 2) 1) xs) _ f e in
    let a = four_made (eqb (m % 2) 1) xs p.0 o p.1 in
    let c = on_some (field bytes4 (eqb (m / 2 % 2) 1) p.0.1) _ f p.2 in
    let b = four_made (eqb (m / 2 % 2) 1) p.0.1 c.0 a.rest c.1 in
    let s = on_some (field bytes1 (eqb (m / 4 % 2) 1) c.0.1) _ f c.2 in
    let d = one_made (eqb (m / 4 % 2) 1) c.0.1 s.0 b.rest s.1 in
    let g : Fields = record { ty = k; player = p.0.0; card = c.0.0; strokes = s.0.0 } in
    let z = ended_made g f s.0.1 s.2 in
    let t : m ≡ map_of g = omega (arith, a.told, b.told, d.told, number_bit m, number_bit (m / 2), number_bit (m / 4)) in
    let w : xs ≡ put4 p.0.0 (put4 c.0.0 (put1 s.0.0 [])) =
    a.bytes ∙ ap (put4 p.0.0) (b.bytes ∙ ap (put4 c.0.0) (d.bytes ∙ ap (put1 s.0.0) z.0)) in
    subst (λ (h : Fields). (m ∷ k ∷ xs ≡ encoded h) × InRange h) z.1
    (ap (λ (n : ℕ). n ∷ k ∷ xs) t ∙ ap (λ (ys : List ℕ). map_of g ∷ k ∷ ys) w, record { ty = hk; player = a.fits; card = b.fits; strokes = d.fits })

fields_made : (xs : List ℕ) (f : Fields) → Octets xs → fields_of xs ≡ Some f → (xs ≡ encoded f) × InRange f
fields_made [] f o e = impossible (cc)
fields_made (m ∷ []) f o e = impossible (cc)
fields_made (m ∷ k ∷ xs) f o e = go (leb m 7 && leb k 47) refl e
  where
    go : (b : Bool) → (leb m 7 && leb k 47) ≡ b → cond b (announced m k xs) None ≡ Some f → (m ∷ k ∷ xs ≡ encoded f) × InRange f
    go true q h =
        let r = and_parts (leb m 7) (leb k 47) q in
        announced_made m k xs f (leb-true m 7 r.0) (leb-true k 47 r.1) o.1.1 h
    go false q h = impossible (cc)

exactly : (xs : List ℕ) → ((i : ℕ) → get_or xs i 0 < 256) → Exactly xs (record_of xs)
exactly xs o = record {
  back = λ f h e. ap (or_bad (length xs)) (ap fields_of e ∙ fields_back f h.ty);
  only = λ f e. fields_made xs f (octets xs o) (go (fields_of xs) f e);
}
  where
    go : (q : Option Fields) (f : Fields) → or_bad (length xs) q ≡ Ok (record { fields = f }) → q ≡ Some f
    go None f e = impossible (cc)
    go (Some g) f e = let r : ◌≡◌ {A = Record} (record { fields = g }) (record { fields = f }) = cc in ap (λ (x : Record). Some x.fields) r

pub exactly_at : (xs : List ℕ) (r : Result Record RecordFault) → ((i : ℕ) → get_or xs i 0 < 256) → r ≡ record_of xs → Exactly xs r
exactly_at xs r o e = subst (Exactly xs) (sym e) (exactly xs o)
