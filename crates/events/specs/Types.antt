-- Sets of types, numbered 0 to 63.
use Rattle.std.specs.Prelude.{ℕ, zero, suc, ◌+◌, ◌/◌, ◌%◌, ◌^◌, Bool, cond, ◌&&◌, ◌==◌, nat_lt}
use Rattle.events.specs.declared.types.TypeSet.{TypeSet}

-- is t in the set?
unfoldable pub has : TypeSet → ℕ → Bool
has s t = nat_lt t 64 && s.bits / 2 ^ t % 2 == 1

-- the numbers below n of which f holds, as bits
unfoldable pub bits_below : (ℕ → Bool) → ℕ → ℕ
bits_below f zero = 0
bits_below f (suc n) = bits_below f n + cond (f n) (2 ^ n) 0

-- the set of the types of which f holds
unfoldable pub those : (ℕ → Bool) → TypeSet
those f = record { bits = bits_below f 64 }

-- the types that two sets have in common
abbrev pub common : TypeSet → TypeSet → TypeSet
common s u = those (λ t. has s t && has u t)

abbrev pub is_empty : TypeSet → Bool
is_empty s = s.bits == 0
