-- What each refusal of reading answers: number, layer and place; and its cause in words.
use Rattle.std.specs.Prelude.{ℕ, List, codes}
use Rattle.refusals.specs.declared.Layer.TheVariants.{Reading}
use Rattle.refusals.specs.declared.Place.{Place}
use Rattle.refusals.specs.declared.Place.TheVariants.{Nowhere, Bytes}
use Rattle.refusals.specs.declared.Refusal.{Refusal}
use Rattle.rules.specs.declared.fault.ReadFault.{ReadFault}
use Rattle.rules.specs.declared.fault.ReadFault.TheVariants.{EndsEarly, BadCount, BadLayout, Surplus, ListTooShort}

abbrev pub reading : ℕ → Place → Refusal
reading k p = record { number = k; layer = Reading; place = p }

abbrev pub refusal_of : ReadFault → Refusal
refusal_of (EndsEarly end) = reading 1 (Bytes (record { at = end; len = 0 }))
refusal_of BadCount = reading 2 (Bytes (record { at = 0; len = 1 }))
refusal_of (BadLayout at) = reading 3 (Bytes (record { at = at; len = 1 }))
refusal_of (Surplus rest) = reading 4 (Bytes rest)
refusal_of ListTooShort = reading 21 Nowhere

abbrev pub cause_of : ReadFault → List ℕ
cause_of (EndsEarly end) = codes "the bytes end early"
cause_of BadCount = codes "the count is not 1 to 128"
cause_of (BadLayout at) = codes "a node breaks the layout"
cause_of (Surplus rest) = codes "bytes follow the last node"
cause_of ListTooShort = codes "the list is too short"
