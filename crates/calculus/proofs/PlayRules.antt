-- Certificates for the rules of the worked plays, and that they fit.
use Rattle.std.proofs.Common.{◌≡◌, Bool, true, false, List, [], ◌∷◌, refl, ap, lit≤}
use Rattle.calculus.specs.Vocabulary.{Node, V0, V1, V2, V3, Var}
use Rattle.calculus.specs.Graphs.{ClosedAtStart}
use Rattle.calculus.specs.Plays.{beside, card_rule, choice, eight_ors, filtered_rule, inner_binder, nine_ors, optional, same_number_twice, sequence}
use Rattle.calculus.proofs.Certificates.{Certificate, certified, none_free}
use Rattle.calculus.proofs.Played.{Certifies}

abbrev only_v0 : Var → Bool
only_v0 V0 = true
only_v0 V1 = false
only_v0 V2 = false
only_v0 V3 = false

none_open : (ns : List Node) (c : Certificate) → (certified ns c).free 0 ≡ none_free → ClosedAtStart (certified ns c)
none_open ns c q v = ap (λ (f : Var → Bool). f v) q

abbrev pub cards : Certificate
cards = record { frees = none_free ∷ none_free ∷ none_free ∷ only_v0 ∷ only_v0 ∷ only_v0 ∷ only_v0 ∷ only_v0 ∷ []; ranks = 2 ∷ 0 ∷ 1 ∷ 0 ∷ 3 ∷ 0 ∷ 0 ∷ 0 ∷ []; weights = 4 ∷ 1 ∷ 2 ∷ 1 ∷ 6 ∷ 1 ∷ 1 ∷ 1 ∷ [] }

pub cards_fit : Certifies card_rule cards
cards_fit = record { decode = (refl, (refl, (refl, (refl, (refl, (refl, (refl, (refl, tt)))))))); counted = (lit≤ tt, lit≤ tt); fit = refl; closed = none_open card_rule cards refl; weighed = refl; table = refl }

abbrev pub options : Certificate
options = record { frees = []; ranks = 2 ∷ 1 ∷ 0 ∷ 0 ∷ 1 ∷ 0 ∷ 0 ∷ []; weights = 7 ∷ 3 ∷ 1 ∷ 1 ∷ 3 ∷ 1 ∷ 1 ∷ [] }

pub options_fit : Certifies optional options
options_fit = record { decode = (refl, (refl, (refl, (refl, (refl, (refl, (refl, tt))))))); counted = (lit≤ tt, lit≤ tt); fit = refl; closed = none_open optional options refl; weighed = refl; table = refl }

abbrev pub twice : Certificate
twice = record { frees = none_free ∷ only_v0 ∷ only_v0 ∷ only_v0 ∷ none_free ∷ []; ranks = 2 ∷ 1 ∷ 0 ∷ 0 ∷ 0 ∷ []; weights = 4 ∷ 3 ∷ 1 ∷ 1 ∷ 1 ∷ [] }

pub twice_fit : Certifies same_number_twice twice
twice_fit = record { decode = (refl, (refl, (refl, (refl, (refl, tt))))); counted = (lit≤ tt, lit≤ tt); fit = refl; closed = none_open same_number_twice twice refl; weighed = refl; table = refl }

abbrev pub filters : Certificate
filters = record { frees = []; ranks = 1 ∷ 0 ∷ 0 ∷ []; weights = 2 ∷ 1 ∷ 1 ∷ [] }

pub filters_fit : Certifies filtered_rule filters
filters_fit = record { decode = (refl, (refl, (refl, tt))); counted = (lit≤ tt, lit≤ tt); fit = refl; closed = none_open filtered_rule filters refl; weighed = refl; table = refl }

abbrev pub besides : Certificate
besides = record { frees = none_free ∷ only_v0 ∷ only_v0 ∷ only_v0 ∷ none_free ∷ []; ranks = 2 ∷ 1 ∷ 0 ∷ 0 ∷ 0 ∷ []; weights = 4 ∷ 3 ∷ 1 ∷ 1 ∷ 1 ∷ [] }

pub besides_fit : Certifies beside besides
besides_fit = record { decode = (refl, (refl, (refl, (refl, (refl, tt))))); counted = (lit≤ tt, lit≤ tt); fit = refl; closed = none_open beside besides refl; weighed = refl; table = refl }

abbrev pub inner : Certificate
inner = record { frees = none_free ∷ only_v0 ∷ only_v0 ∷ none_free ∷ none_free ∷ only_v0 ∷ only_v0 ∷ none_free ∷ []; ranks = 3 ∷ 2 ∷ 0 ∷ 0 ∷ 1 ∷ 0 ∷ 0 ∷ 0 ∷ []; weights = 5 ∷ 4 ∷ 1 ∷ 1 ∷ 2 ∷ 1 ∷ 1 ∷ 1 ∷ [] }

pub inner_fit : Certifies inner_binder inner
inner_fit = record { decode = (refl, (refl, (refl, (refl, (refl, (refl, (refl, (refl, tt)))))))); counted = (lit≤ tt, lit≤ tt); fit = refl; closed = none_open inner_binder inner refl; weighed = refl; table = refl }

abbrev pub eight : Certificate
eight = record { frees = []; ranks = 8 ∷ 7 ∷ 6 ∷ 5 ∷ 4 ∷ 3 ∷ 2 ∷ 1 ∷ 0 ∷ []; weights = 511 ∷ 255 ∷ 127 ∷ 63 ∷ 31 ∷ 15 ∷ 7 ∷ 3 ∷ 1 ∷ [] }

pub eight_fit : Certifies eight_ors eight
eight_fit = record { decode = (refl, (refl, (refl, (refl, (refl, (refl, (refl, (refl, (refl, tt))))))))); counted = (lit≤ tt, lit≤ tt); fit = refl; closed = none_open eight_ors eight refl; weighed = refl; table = refl }

abbrev pub nine : Certificate
nine = record { frees = []; ranks = 9 ∷ 8 ∷ 7 ∷ 6 ∷ 5 ∷ 4 ∷ 3 ∷ 2 ∷ 1 ∷ 0 ∷ []; weights = 1023 ∷ 511 ∷ 255 ∷ 127 ∷ 63 ∷ 31 ∷ 15 ∷ 7 ∷ 3 ∷ 1 ∷ [] }

pub nine_fit : Certifies nine_ors nine
nine_fit = record { decode = (refl, (refl, (refl, (refl, (refl, (refl, (refl, (refl, (refl, (refl, tt)))))))))); counted = (lit≤ tt, lit≤ tt); fit = refl; closed = none_open nine_ors nine refl; weighed = refl; table = refl }

abbrev pub choices : Certificate
choices = record { frees = []; ranks = 1 ∷ 0 ∷ 0 ∷ 0 ∷ 0 ∷ 0 ∷ []; weights = 3 ∷ 1 ∷ 1 ∷ 1 ∷ 1 ∷ 1 ∷ [] }

pub choices_fit : Certifies choice choices
choices_fit = record { decode = (refl, (refl, (refl, (refl, (refl, (refl, tt)))))); counted = (lit≤ tt, lit≤ tt); fit = refl; closed = none_open choice choices refl; weighed = refl; table = refl }

abbrev pub sequences : Certificate
sequences = record { frees = []; ranks = 1 ∷ 0 ∷ 0 ∷ 0 ∷ []; weights = 3 ∷ 1 ∷ 1 ∷ 1 ∷ [] }

pub sequences_fit : Certifies sequence sequences
sequences_fit = record { decode = (refl, (refl, (refl, (refl, tt)))); counted = (lit≤ tt, lit≤ tt); fit = refl; closed = none_open sequence sequences refl; weighed = refl; table = refl }
