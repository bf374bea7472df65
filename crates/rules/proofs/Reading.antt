use Rattle.std.proofs.Common.{◌≡◌, ℕ, zero, suc, ◌+◌, ◌-◌, ◌<◌, ◌≤◌, true, false, leb, List, [], ◌∷◌, ◌++◌, length, get_or, take, drop, set, is_ok, Ok, Err, Result, sym, refl, ap, ◌∙◌, append_assoc, arith}
use Rattle.std.proofs.lemmas.Bool.{le-leb, lt-leb, false≢true}
use Rattle.std.proofs.lemmas.List.{take_more_set, take_all, append-nil}
use Rattle.rules.specs.declared.record.NodeRecord.{NodeRecord}
use Rattle.rules.specs.declared.fault.ReadFault.{ReadFault}
use Rattle.rules.specs.declared.fault.ReadFault.TheVariants.{ListTooShort}
use Rattle.rules.specs.Bytes.{node_of, nodes_of, before, ending, then, checked, written, answered, rule_of}

module _ (all n : ℕ) where
  pub nodes_zero : (xs : List ℕ) → nodes_of all n 0 xs ≡ ending all xs
  unfolding nodes_of
  nodes_zero xs = refl

  pub nodes_ok : (m i : ℕ) (xs ys : List ℕ) (r : NodeRecord) → i < m → node_of all n xs ≡ Ok (r, ys) → nodes_of all n (m - i) xs ≡ before (r ∷ []) (nodes_of all n (m - (i + 1)) ys)
  unfolding nodes_of
  nodes_ok m i xs ys r h e = let d : m - i ≡ suc (m - (i + 1)) = omega arith in rw (d, e)

  pub nodes_err : (m i : ℕ) (xs : List ℕ) (f : ReadFault) → i < m → node_of all n xs ≡ Err f → nodes_of all n (m - i) xs ≡ Err f
  unfolding nodes_of
  nodes_err m i xs f h e = let d : m - i ≡ suc (m - (i + 1)) = omega arith in rw (d, e)

pub checked_before : (rs : List NodeRecord) (o : Result (List NodeRecord) ReadFault) → checked (before rs o) ≡ checked o
checked_before rs (Err e) = refl
checked_before rs (Ok qs) = refl

before_more : (rs : List NodeRecord) (r : NodeRecord) (o : Result (List NodeRecord) ReadFault) → before rs (before (r ∷ []) o) ≡ before (rs ++ r ∷ []) o
before_more rs r (Err e) = refl
before_more rs r (Ok qs) = ap Ok (sym (append_assoc rs (r ∷ []) qs))

module _ (all n : ℕ) where
  pub valid_more : (i : ℕ) (xs ys : List ℕ) (r : NodeRecord) (o : Result (Unit {0}) ReadFault) → i < n → node_of all n xs ≡ Ok (r, ys)
      → checked (nodes_of all n (n - i) xs) ≡ o → checked (nodes_of all n (n - (i + 1)) ys) ≡ o
  valid_more i xs ys r o h e p = sym (checked_before (r ∷ []) (nodes_of all n (n - (i + 1)) ys)) ∙ (sym (ap checked (nodes_ok all n n i xs ys r h e)) ∙ p)

  pub valid_err : (i : ℕ) (xs : List ℕ) (f : ReadFault) (o : Result (Unit {0}) ReadFault) → i < n → node_of all n xs ≡ Err f
      → checked (nodes_of all n (n - i) xs) ≡ o → Err f ≡ o
  valid_err i xs f o h e p = sym (ap checked (nodes_err all n n i xs f h e)) ∙ p

  pub fill_more : (o : Result (List NodeRecord) ReadFault) (list : List NodeRecord) (i : ℕ) (xs ys : List ℕ) (r : NodeRecord) → i < n → i < length list → node_of all n xs ≡ Ok (r, ys)
      → o ≡ before (take i list) (nodes_of all n (n - i) xs) → o ≡ before (take (i + 1) (set list i r)) (nodes_of all n (n - (i + 1)) ys)
  fill_more o list i xs ys r h l e p = p ∙ rw (nodes_ok all n n i xs ys r h e, take_more_set list i r l) (before_more (take i list) r (nodes_of all n (n - (i + 1)) ys))

  pub fill_never : (o : Result (List NodeRecord) ReadFault) (rs : List NodeRecord) (i : ℕ) (xs : List ℕ) (f : ReadFault) → i < n → node_of all n xs ≡ Err f → is_ok o ≡ true
      → o ≡ before rs (nodes_of all n (n - i) xs) → ⊥
  fill_never o rs i xs f h e s p = let q : o ≡ Err f = p ∙ ap (before rs) (nodes_err all n n i xs f h e) in false≢true (rw q at s)

-- after the last node the whole list is written
filled_end : (all : ℕ) (xs : List ℕ) (list : List NodeRecord) → is_ok (before list (ending all xs)) ≡ true → before list (ending all xs) ≡ Ok list
filled_end all [] list s = ap Ok (append-nil list)
filled_end all (x ∷ xs) list s = cc

pub filled : (all n : ℕ) (o : Result (List NodeRecord) ReadFault) (xs : List ℕ) (i : ℕ) (list : List NodeRecord) → is_ok o ≡ true → o ≡ before (take i list) (nodes_of all n 0 xs) → length list ≤ i → o ≡ Ok list
filled all n o xs i list s p l =
    let q : o ≡ before list (ending all xs) = p ∙ rw (nodes_zero all n xs, take_all i list l) in
    q ∙ filled_end all xs list (rw q at s)

pub rule_read : (xs : List ℕ) → 1 ≤ length xs → 1 ≤ get_or xs 0 0 → get_or xs 0 0 ≤ 128 → rule_of xs ≡ nodes_of (length xs) (get_or xs 0 0) (get_or xs 0 0) (drop 1 xs)
rule_read [] h l m = absurd (omega arith)
rule_read (n ∷ xs) h l m = rw (le-leb 1 n l, le-leb n 128 m)

module _ (all n : ℕ) where
  pub nodes_suc : (k : ℕ) (xs : List ℕ) → nodes_of all n (suc k) xs ≡ then (node_of all n xs) (nodes_of all n k)
  unfolding nodes_of
  nodes_suc k xs = refl

  after : (k : ℕ) (ih : (ys : List ℕ) (qs : List NodeRecord) → nodes_of all n k ys ≡ Ok qs → length qs ≡ k) (o : Result (NodeRecord × List ℕ) ReadFault) (rs : List NodeRecord)
      → then o (nodes_of all n k) ≡ Ok rs → length rs ≡ suc k
  after k ih (Err f) rs e = cc
  after k ih (Ok p) rs e = go (nodes_of all n k p.1) refl e
    where
      go : (o : Result (List NodeRecord) ReadFault) → nodes_of all n k p.1 ≡ o → before (p.0 ∷ []) o ≡ Ok rs → length rs ≡ suc k
      go (Err f) q h = cc
      go (Ok qs) q h = let w : (p.0 ∷ qs) ≡ rs = cc in let d = ih p.1 qs q in rw (← w) (omega arith)

  pub nodes_length : (k : ℕ) (xs : List ℕ) (rs : List NodeRecord) → nodes_of all n k xs ≡ Ok rs → length rs ≡ k
  nodes_length zero [] rs e = let q : [] ≡ rs = cc (nodes_zero all n []) in rw (← q)
  nodes_length zero (x ∷ xs) rs e = let z : ◌≡◌ {A = ℕ} 0 1 = cc (nodes_zero all n (x ∷ xs)) in absurd (omega arith)
  nodes_length (suc k) xs rs e = after k (nodes_length k) (node_of all n xs) rs (sym (nodes_suc k xs) ∙ e)

module _ (all n : ℕ) (xs : List ℕ) (old : List NodeRecord) where
  short_answered : (o : Result (List NodeRecord) ReadFault) → nodes_of all n n xs ≡ o → Ok tt ≡ checked o → length old < n → (Err ListTooShort ≡ answered o old) × (old ≡ written o old)
  short_answered (Err e) q h l = cc
  short_answered (Ok rs) q h l =
      let d : length rs ≡ n = nodes_length all n n xs rs q in
      let b : leb (length rs) (length old) ≡ false = lt-leb (length rs) (length old) (omega arith) in
      (rw b, rw b)

  pub short_list : Ok tt ≡ checked (nodes_of all n n xs) → length old < n → (Err ListTooShort ≡ answered (nodes_of all n n xs) old) × (old ≡ written (nodes_of all n n xs) old)
  short_list h l = short_answered (nodes_of all n n xs) refl h l

-- so many records that are read are written, where the list has room for them
pub full_list : (xs : List ℕ) (rs old : List NodeRecord) → rule_of xs ≡ Ok rs → length rs ≡ get_or xs 0 0 → get_or xs 0 0 ≤ length old
    → (Ok (get_or xs 0 0) ≡ answered (rule_of xs) old) × (rs ++ drop (get_or xs 0 0) old ≡ written (rule_of xs) old)
full_list xs rs old q d l = let b = le-leb (get_or xs 0 0) (length old) l in (rw (q, d, b), rw (q, d, b))
