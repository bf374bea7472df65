-- Two sets meet where they have a bit in common.
use Rattle.std.proofs.Common.{◌≡◌, ℕ, zero, suc, ◌<◌, ◌^◌, not, ◌&&◌, eqb, sym, ap, ◌∙◌, arith}
use Rattle.std.specs.Prelude.{bit_and}
use Rattle.std.specs.Int.{w128, trailing_zeros}
use Rattle.std.proofs.lemmas.Bool.{ne_eqb}
use Rattle.std.proofs.lemmas.Nat.{and_le_l}
use Rattle.std.proofs.lemmas.Nat.Bits.{bit_at-trailing_zeros}
use Rattle.checking.specs.Sets.{holds, any_below}
use Rattle.checking.proofs.Bits.{meet_holds, none_holds}
use Rattle.checking.proofs.Counts.{any_in, none_below, any_same}

-- a number is 0, or has a bit
any_bit : (n : ℕ) → n < 2 ^ 128 → not (eqb n 0) ≡ any_below (holds (record { bits = n })) 128
unfolding holds
any_bit zero h = sym (none_below (holds (record { bits = 0 })) 128 none_holds)
any_bit (suc n) h =
    let p : 0 < suc n = omega arith in
    let t = bit_at-trailing_zeros w128 (suc n) p h in
    rw (ne_eqb (suc n) 0 (λ e. absurd (omega arith))) (sym (any_in (holds (record { bits = suc n })) 128 (trailing_zeros w128 (suc n)) t.0 (ap (λ (b : ℕ). eqb b 1) t.1)))

pub meets_is : (a b : ℕ) → a < 2 ^ 128 → not (eqb (bit_and a b) 0) ≡ any_below (λ j. holds (record { bits = a }) j && holds (record { bits = b }) j) 128
meets_is a b h =
    let l = and_le_l a b in
    any_bit (bit_and a b) (omega arith) ∙ any_same (holds (record { bits = bit_and a b })) (λ j. holds (record { bits = a }) j && holds (record { bits = b }) j) 128 (λ m k. meet_holds a b m)
