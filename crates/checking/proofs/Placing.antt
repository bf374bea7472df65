use Rattle.std.proofs.Common.{◌≡◌, ℕ, zero, suc, ◌+◌, ◌<◌, ◌≤◌, true, false, ◌≢◌, List, length, set, replicate, Some, None, sym, refl, ap, ◌∙◌, ⊎_elim, arith, get_or-set_other, get_or-set_same, below_more}
use Rattle.std.proofs.lemmas.List.{get_or_past}
use Rattle.std.proofs.lemmas.Bool.{cases_lt}
use Rattle.rules.specs.declared.record.NodeRecord.{NodeRecord}
use Rattle.rules.specs.declared.node.Node.{Node}
use Rattle.rules.specs.declared.node.Node.TheVariants.{Empty}
use Rattle.rules.specs.Layout.{decoded}
use Rattle.checking.specs.Links.{node}
use Rattle.rules.specs.Layout.{blank}
use Rattle.checking.specs.Nodes.{node_at, found, or_empty}
use Rattle.checking.specs.Answer.{misplaced}

pub all_empty : (n m : ℕ) → node (replicate n Empty) m ≡ Empty
all_empty zero m = refl
all_empty (suc n) zero = refl
all_empty (suc n) (suc m) = all_empty n m

pub placed : (rs : List NodeRecord) (k : ℕ) (n : Node) → found rs k ≡ Some n → misplaced rs k ≡ false
placed rs k n e = rw e

pub not_placed : (rs : List NodeRecord) (k : ℕ) → found rs k ≡ None → misplaced rs k ≡ true
not_placed rs k e = rw e

pub node_more : (rs : List NodeRecord) (ns : List Node) (i : ℕ) (n : Node) → i < length ns → found rs i ≡ Some n
    → ((m : ℕ) → m < i → node ns m ≡ node_at rs m) → (m : ℕ) → m < i + 1 → node (set ns i n) m ≡ node_at rs m
node_more rs ns i n h e below =
    below_more _ _
    (λ m k. let ne : m ≢ i = omega arith in get_or-set_other ns i m n Empty ne ∙ below m k)
    (get_or-set_same ns i n Empty h ∙ rw e)

pub node_rest : (ns : List Node) (i : ℕ) (n : Node) → ((m : ℕ) → i ≤ m → node ns m ≡ Empty) → (m : ℕ) → i + 1 ≤ m → node (set ns i n) m ≡ Empty
node_rest ns i n rest m h = let ne : m ≢ i = omega arith in get_or-set_other ns i m n Empty ne ∙ rest m (omega arith)

pub past : (rs : List NodeRecord) (m : ℕ) → length rs ≤ m → node_at rs m ≡ Empty
past rs m h = ap (λ (r : NodeRecord). or_empty (decoded (length rs) r)) (get_or_past rs m blank h)

pub node_all : (rs : List NodeRecord) (ns : List Node) (i : ℕ) → length rs ≤ i → ((m : ℕ) → m < i → node ns m ≡ node_at rs m) → ((m : ℕ) → i ≤ m → node ns m ≡ Empty)
    → (m : ℕ) → node ns m ≡ node_at rs m
node_all rs ns i h below rest m = ⊎_elim (below m) (λ k. rest m k ∙ sym (past rs m (omega arith))) (cases_lt m i)
