-- The ones of a number, counted bit by bit.
use Rattle.std.proofs.Common.{◌≡◌, ℕ, zero, suc, ◌+◌, ◌/◌, ◌<◌, ◌^◌, Bool, true, false, cond, eqb, sym, refl, ap, arith}
use Rattle.std.specs.Prelude.{count_ones}
use Rattle.std.specs.Int.{bit_at}
use Rattle.std.proofs.lemmas.Nat.{ones-le}
use Rattle.std.proofs.lemmas.Nat.Bits.{bit_at_lowest, bit_at-suc, bit_at-lt}
use native.Mathlib.Nat.{pow-suc}
use lib.Count.{ones_step}
use Rattle.checking.specs.Sets.{count}
use Rattle.checking.proofs.Counts.{count_none, count_same}

-- the first number is counted apart
count_front : (f : ℕ → Bool) (k : ℕ) → count f (suc k) ≡ cond (f 0) 1 0 + count (λ j. f (suc j)) k
unfolding count
count_front f zero = elim (f 0) as (λ b. cond b 1 0 ≡ cond b 1 0 + 0) [ true ↦ refl | false ↦ refl ]
count_front f (suc k) =
    let e = count_front f k in
    elim (f (suc k)) as (λ b. cond b (suc (count f (suc k))) (count f (suc k)) ≡ cond (f 0) 1 0 + cond b (suc (count (λ j. f (suc j)) k)) (count (λ j. f (suc j)) k))
    [ true ↦ omega arith | false ↦ e ]

is_one : (b : ℕ) → b < 2 → b ≡ cond (eqb b 1) 1 0
is_one zero h = refl
is_one (suc zero) h = refl
is_one (suc (suc b)) h = absurd (omega arith)

-- a number below 2 ^ k has as many ones as bits below k
pub ones_counted : (k n : ℕ) → n < 2 ^ k → count_ones n ≡ count (λ j. eqb (bit_at n j) 1) k
ones_counted zero n h = let l = ones-le 0 n h in let z = count_none (λ j. eqb (bit_at n j) 1) in omega arith
ones_counted (suc k) n h =
    let s = ones_step n in
    let p = pow-suc 2 k in
    let e = ones_counted k (n / 2) (omega arith) in
    let r = count_same (λ j. eqb (bit_at (n / 2) j) 1) (λ j. eqb (bit_at n (suc j)) 1) k (λ m l. ap (λ (b : ℕ). eqb b 1) (sym (bit_at-suc n m))) in
    let f = count_front (λ j. eqb (bit_at n j) 1) k in
    let o = is_one (bit_at n 0) (bit_at-lt n 0) in
    let b = bit_at_lowest n in
    omega arith
