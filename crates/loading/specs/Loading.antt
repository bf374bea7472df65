-- The rule that some bytes are.
use Rattle.std.specs.Prelude.{◌≡◌, ℕ, List, Ok, Err, Result}
use Rattle.rules.specs.declared.record.NodeRecord.{NodeRecord}
use Rattle.rules.specs.declared.fault.ReadFault.{ReadFault}
use Rattle.rules.specs.Bytes.{rule_of}
use Rattle.checking.specs.declared.rule.Rule.{Rule}
use Rattle.checking.specs.declared.fault.CheckFault.{CheckFault}
use Rattle.checking.specs.Meaning.{Says}
use Rattle.checking.specs.Made.{Made}
use Rattle.loading.specs.declared.fault.RuleFault.{RuleFault}
use Rattle.loading.specs.declared.fault.RuleFault.TheVariants.{Read, Check}

-- what loading answers: a fault of reading; a fault of checking the records that were read; or the rule that these records make
pub data Loads (xs : List ℕ) : Result Rule RuleFault → Type 0 where
  unread : {f : ReadFault} → rule_of xs ≡ Err f → Loads xs (Err (Read f))
  refused : {rs : List NodeRecord} {f : CheckFault} → rule_of xs ≡ Ok rs → Says rs (Err f) → Loads xs (Err (Check f))
  made : {rs : List NodeRecord} {r : Rule} → rule_of xs ≡ Ok rs → Says rs (Ok tt) → Made rs r → Loads xs (Ok r)
