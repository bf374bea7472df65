-- Under entries an event is of the types that its entries derive.
use Rattle.std.proofs.Common.{◌≡◌, ℕ, ◌≤◌, false, leb, sym, ap, ◌∙◌, ⊎_elim, arith}
use Rattle.std.proofs.lemmas.Bool.{cases_lt, lt-ltb, le-ltb, lt-leb, and_right}
use Rattle.events.specs.declared.types.TypeSet.{TypeSet}
use Rattle.events.specs.declared.derived.Entries.{Entries}
use Rattle.events.specs.declared.derived.Entry.{Entry}
use Rattle.events.specs.declared.derived.Entry.TheVariants.{Absent}
use Rattle.events.specs.Types.{has, those}
use Rattle.events.specs.Derivation.{derives, entry_for}
use Rattle.events.specs.Sets.{has_those}

has_past : (u : TypeSet) (t : ℕ) → 64 ≤ t → has u t ≡ false
unfolding has
has_past u t h = rw (le-ltb t 64 h)

no_entry : (es : Entries) (t : ℕ) → 64 ≤ t → entry_for es t ≡ Absent
no_entry es t h = rw (and_right (leb 48 t) (leb t 63) (lt-leb t 63 (omega arith)))

pub derived_at : (u : TypeSet) (es : Entries) (t : ℕ) (e : Entry) → e ≡ entry_for es t → derives u t e ≡ has (those (λ t. derives u t (entry_for es t))) t
derived_at u es t e q =
    ap (derives u t) q ∙ ⊎_elim
    (λ h. sym (has_those (λ t. derives u t (entry_for es t)) t ∙ rw (lt-ltb t 64 h)))
    (λ h. ap (derives u t) (no_entry es t h) ∙ has_past u t h ∙ sym (has_past (those (λ t. derives u t (entry_for es t))) t h))
    (cases_lt t 64)
