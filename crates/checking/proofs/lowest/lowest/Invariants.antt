use Rattle.std.proofs.Common.{ℕ, Bool, ◌<◌, ◌≡◌, ◌-◌}
use Rattle.checking.specs.Answer.{first}
use Rattle.checking.proofs.lowest.lowest.Given as goal

abbrev pub invariant-loop-n : goal.invariant-loop-n
invariant-loop-n g l = (f : ℕ → Bool) → ((n : ℕ) (b : Bool) → n < 128 → goal.F-post g l.test n b → b ≡ f n) → first f 0 128 ≡ first f l.n (128 - l.n)
