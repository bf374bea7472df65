-- The counts of the types, as they are printed.
use Rattle.std.proofs.Common.{◌≡◌, ℕ, ◌+◌, ◌<◌, ◌≤◌, List, ◌++◌, length, get_or, drop, sym, ap, ◌∙◌, append_assoc, append-nil}
use Rattle.std.proofs.lemmas.List.{at_drop_more, at_drop_all}
use Rattle.checklog.specs.Report.{type_text, counts_text}

pub counts_more : (ns s t all : List ℕ) (i : ℕ) → i < length ns → t ≡ s ++ type_text i (get_or ns i 0) → s ++ counts_text i (drop i ns) ≡ all → t ++ counts_text (i + 1) (drop (i + 1) ns) ≡ all
counts_more ns s t all i h e p =
    ap (λ x. x ++ counts_text (i + 1) (drop (i + 1) ns)) e
    ∙ append_assoc s (type_text i (get_or ns i 0)) (counts_text (i + 1) (drop (i + 1) ns))
    ∙ ap (λ x. s ++ x) (sym (at_drop_more (counts_text i) ns i 0 h))
    ∙ p

pub counts_all : (ns s all : List ℕ) (i : ℕ) → length ns ≤ i → s ++ counts_text i (drop i ns) ≡ all → s ≡ all
counts_all ns s all i h p = sym (append-nil s) ∙ ap (λ x. s ++ x) (sym (at_drop_all (counts_text i) ns i h)) ∙ p
