-- Sets of nodes as bits.
use Rattle.std.proofs.Common.{◌≡◌, ℕ, zero, suc, ◌^◌, ◌<◌, max, min, false, ◌&&◌, ◌||◌, eqb, sym, refl, arith}
use Rattle.std.specs.Int.{bit_at}
use Rattle.std.specs.Prelude.{bit_and, bit_or}
use Rattle.std.proofs.lemmas.Nat.Bits.{bit_at-zero, bit_at_and, bit_at_or, bit_at-pow_same, bit_at-pow_other, bit_at-lt}
use Rattle.std.proofs.lemmas.Bool.{eq-eqb, ne_eqb}
use Rattle.checking.specs.Sets.{holds}

pub none_holds : (j : ℕ) → holds (record { bits = 0 }) j ≡ false
unfolding holds
none_holds j = rw (bit_at-zero j)

max_bit : (p q : ℕ) → p < 2 → q < 2 → eqb (max p q) 1 ≡ (eqb p 1 || eqb q 1)
max_bit zero zero h k = refl
max_bit zero (suc zero) h k = refl
max_bit zero (suc (suc q)) h k = absurd (omega arith)
max_bit (suc zero) zero h k = refl
max_bit (suc zero) (suc zero) h k = refl
max_bit (suc zero) (suc (suc q)) h k = absurd (omega arith)
max_bit (suc (suc p)) q h k = absurd (omega arith)

min_bit : (p q : ℕ) → p < 2 → q < 2 → eqb (min p q) 1 ≡ (eqb p 1 && eqb q 1)
min_bit zero zero h k = refl
min_bit zero (suc zero) h k = refl
min_bit zero (suc (suc q)) h k = absurd (omega arith)
min_bit (suc zero) zero h k = refl
min_bit (suc zero) (suc zero) h k = refl
min_bit (suc zero) (suc (suc q)) h k = absurd (omega arith)
min_bit (suc (suc p)) q h k = absurd (omega arith)

pub join_holds : (a b j : ℕ) → holds (record { bits = bit_or a b }) j ≡ (holds (record { bits = a }) j || holds (record { bits = b }) j)
unfolding holds
join_holds a b j = rw (bit_at_or a b j) (max_bit (bit_at a j) (bit_at b j) (bit_at-lt a j) (bit_at-lt b j))

pub meet_holds : (a b j : ℕ) → holds (record { bits = bit_and a b }) j ≡ (holds (record { bits = a }) j && holds (record { bits = b }) j)
unfolding holds
meet_holds a b j = rw (bit_at_and a b j) (min_bit (bit_at a j) (bit_at b j) (bit_at-lt a j) (bit_at-lt b j))

pub one_holds : (n j : ℕ) → holds (record { bits = 2 ^ n }) j ≡ eqb n j
unfolding holds
one_holds n j =
    elim (native.Mathlib.Decide.ℕ_discrete j n) [
      | yes e ↦ rw (e, bit_at-pow_same n) (sym (eq-eqb n n refl))
      | no q ↦ rw (bit_at-pow_other n j q) (sym (ne_eqb n j (λ e. q (sym e))))
    ]
