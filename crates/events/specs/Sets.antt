-- A set of types has just the types that were put in.
use Rattle.std.specs.Prelude.{◌≡◌, ℕ, zero, suc, ◌+◌, ◌-◌, ◌*◌, ◌/◌, ◌%◌, ◌^◌, ◌<◌, ◌≤◌, Bool, true, false, cond, ◌&&◌, ◌==◌, nat_eq, nat_lt, refl}
use Rattle.std.proofs.Common.{sym, ap, subst, ◌∙◌, inl, inr, add-one, eq-or-lt_of_le, add-zero, mod-eq_of_lt, arith, pow-add, pow_pos, ltb-true}
use Rattle.std.proofs.Math.Nat.{two-pow-succ, add-mul-div_right, add-mul-mod_self_right, mod-one}
use Rattle.std.proofs.lemmas.Nat.{shr_high, mod-pow-add}
use Rattle.std.proofs.lemmas.Bool.{lt-ltb, cases_eq, eq-eqb, ne_eqb}
use Rattle.events.specs.declared.types.TypeSet.{TypeSet}
use Rattle.events.specs.Types.{has, bits_below, those, common}

pub bits_none : (f : ℕ → Bool) → bits_below f 0 ≡ 0
unfolding bits_below
bits_none f = refl

pub bits_more : (f : ℕ → Bool) (n : ℕ) → bits_below f (n + 1) ≡ bits_below f n + cond (f n) (2 ^ n) 0
unfolding bits_below
bits_more f n = ap (bits_below f) (add-one n)

pub pow_more : (n : ℕ) → 2 ^ (n + 1) ≡ 2 ^ n + 2 ^ n
pow_more n = ap (λ k. 2 ^ k) (add-one n) ∙ two-pow-succ n

one_more : (b : Bool) (B p : ℕ) → B < p → B + cond b p 0 < p + p
one_more true B p h = omega arith
one_more false B p h = omega arith

bits_lt : (f : ℕ → Bool) (n : ℕ) → bits_below f n < 2 ^ n
unfolding bits_below
bits_lt f zero = omega arith
bits_lt f (suc n) = subst (λ (q : ℕ). bits_below f n + cond (f n) (2 ^ n) 0 < q) (sym (two-pow-succ n)) (one_more (f n) (bits_below f n) (2 ^ n) (bits_lt f n))

abbrev digit : Bool → ℕ
digit true = 1
digit false = 0

-- the topmost bit, and one below it
top : (b : Bool) (B n : ℕ) → B < 2 ^ n → ((B + cond b (2 ^ n) 0) / 2 ^ n) % 2 ≡ digit b
top true B n h = ap (λ (q : ℕ). (q / 2 ^ n) % 2) {x = B + 2 ^ n} {y = 1 * 2 ^ n + B} (omega arith) ∙ ap (λ (q : ℕ). q % 2) (shr_high 1 n B h)
top false B n h = ap (λ (q : ℕ). (q / 2 ^ n) % 2) {x = B + 0} {y = 0 * 2 ^ n + B} (omega arith) ∙ ap (λ (q : ℕ). q % 2) (shr_high 0 n B h)

below : (b : Bool) (B n t : ℕ) → t < n → ((B + cond b (2 ^ n) 0) / 2 ^ t) % 2 ≡ (B / 2 ^ t) % 2
below true B n t h =
    let k : ℕ = n - (t + 1) in
    let e : 2 ^ n ≡ (2 ^ k * 2) * 2 ^ t =
    ap (λ (m : ℕ). 2 ^ m) {x = n} {y = (k + 1) + t} (omega arith) ∙ pow-add 2 (k + 1) t ∙ ap (λ (q : ℕ). q * 2 ^ t) (pow-add 2 k 1) in
    ap (λ (q : ℕ). ((B + q) / 2 ^ t) % 2) e ∙ ap (λ (q : ℕ). q % 2) (add-mul-div_right B (2 ^ k * 2) (pow_pos t)) ∙ add-mul-mod_self_right (B / 2 ^ t) (2 ^ k) 2
below false B n t h = ap (λ (q : ℕ). (q / 2 ^ t) % 2) (add-zero B)

bit_at : (f : ℕ → Bool) (n t : ℕ) → t < n → (bits_below f n / 2 ^ t) % 2 ≡ digit (f t)
unfolding bits_below
bit_at f zero t h = absurd (omega arith)
bit_at f (suc n) t h =
    elim (eq-or-lt_of_le {n = t} {m = n} (omega arith)) [
      | inl q ↦ subst (λ (u : ℕ). (bits_below f (suc n) / 2 ^ u) % 2 ≡ digit (f u)) (sym q) (top (f n) (bits_below f n) n (bits_lt f n))
      | inr q ↦ below (f n) (bits_below f n) n t q ∙ bit_at f n t q
    ]

digit_eqb : (b : Bool) → (digit b == 1) ≡ b
digit_eqb true = refl
digit_eqb false = refl

-- membership is the test, for types below 64
pub has_those : (f : ℕ → Bool) (t : ℕ) → has (those f) t ≡ (nat_lt t 64 && f t)
unfolding has those
has_those f t = go (nat_lt t 64) refl
  where
    go : (b : Bool) → nat_lt t 64 ≡ b → (b && (bits_below f 64 / 2 ^ t) % 2 == 1) ≡ (b && f t)
    go true q = ap (λ (n : ℕ). nat_eq n 1) (bit_at f 64 t (ltb-true t 64 q)) ∙ digit_eqb (f t)
    go false q = refl

-- no type over 63 is in it
pub those_known : (f : ℕ → Bool) → (those f).bits < 2 ^ 64
unfolding those
those_known f = bits_lt f 64

one_bit : (x p : ℕ) → x % 2 * p ≡ cond (x % 2 == 1) p 0
one_bit x p = elim (cases_eq (x % 2) 1) [
  | inl e ↦ rw (eq-eqb (x % 2) 1 e, e) (omega arith)
  | inr n ↦ let z : x % 2 ≡ 0 = omega arith in rw (ne_eqb (x % 2) 1 n, z) (omega arith)
]

has_below : (s : TypeSet) (n : ℕ) → n < 64 → has s n ≡ (s.bits / 2 ^ n % 2 == 1)
unfolding has
has_below s n h = rw (lt-ltb n 64 h)

gathered : (s : TypeSet) (n : ℕ) → n ≤ 64 → bits_below (has s) n ≡ s.bits % 2 ^ n
unfolding bits_below
gathered s zero h = sym (mod-one s.bits)
gathered s (suc n) h =
    let e : 1 + n ≡ suc n = omega arith in
    let m : s.bits % 2 ^ (1 + n) ≡ (s.bits / 2 ^ n % 2) * 2 ^ n + s.bits % 2 ^ n = mod-pow-add s.bits 1 n in
    let b = one_bit (s.bits / 2 ^ n) (2 ^ n) in
    rw (has_below s n (omega arith), gathered s n (omega arith), ← e) (omega arith)

-- tests that agree below 64 give the same set
bits_same : (f g : ℕ → Bool) (n : ℕ) → ((t : ℕ) → t < n → f t ≡ g t) → bits_below f n ≡ bits_below g n
unfolding bits_below
bits_same f g zero h = refl
bits_same f g (suc n) h = rw (bits_same f g n (λ t q. h t (omega arith)), h n (omega arith))

abbrev every : TypeSet
every = record { bits = 18446744073709551615 }

every_is : those (λ t. true) ≡ every
unfolding those bits_below
every_is = refl

every_has : (t : ℕ) → t < 64 → has every t ≡ true
every_has t h = ap (λ s. has s t) (sym every_is) ∙ has_those (λ t. true) t ∙ rw (lt-ltb t 64 h)

-- a set is gathered from its answers
pub common_every : (s : TypeSet) → s.bits < 2 ^ 64 → common every s ≡ s
unfolding those
common_every s h =
    let e : bits_below (λ t. has every t && has s t) 64 ≡ s.bits =
    bits_same (λ t. has every t && has s t) (has s) 64 (λ t q. rw (every_has t q)) ∙ gathered s 64 (omega arith) ∙ mod-eq_of_lt h in
    λ i. record { bits = e i }
