-- A list of 128 records is long enough for every rule, so reading into it answers what the bytes say.
use Rattle.std.proofs.Common.{◌≡◌, ℕ, ◌≤◌, Bool, true, false, cond, ◌&&◌, leb, List, [], ◌∷◌, ◌++◌, length, take, drop, IsErrAnd, Ok, Err, Result, sym, refl, ap, ◌∙◌, subst, arith, le-leb}
use Rattle.std.proofs.lemmas.Bool.{leb-true}
use Rattle.std.proofs.lemmas.List.{take_at}
use Rattle.rules.specs.declared.record.NodeRecord.{NodeRecord}
use Rattle.rules.specs.declared.fault.ReadFault.{ReadFault}
use Rattle.rules.specs.declared.fault.ReadFault.TheVariants.{BadCount, ListTooShort}
use Rattle.rules.specs.Layout.{most_nodes}
use Rattle.rules.specs.Bytes.{rule_of, nodes_of, answered, written}
use Rattle.rules.proofs.Reading.{nodes_length}
use Rattle.checking.specs.declared.fault.CheckFault.{CheckFault}
use Rattle.checking.specs.declared.rule.Rule.{Rule}
use Rattle.checking.specs.Meaning.{Says}
use Rattle.checking.specs.Made.{Made}
use Rattle.loading.specs.declared.fault.RuleFault.{RuleFault}
use Rattle.loading.specs.declared.fault.RuleFault.TheVariants.{Read, Check}
use Rattle.loading.specs.Loading.{Loads, unread, refused, made}

-- a rule has 128 nodes at most
few : (xs : List ℕ) (rs : List NodeRecord) → rule_of xs ≡ Ok rs → length rs ≤ 128
few [] rs e = absurd (let z : ◌≡◌ {A = ℕ} 0 1 = cc in omega arith)
few (n ∷ xs) rs e = go (leb 1 n) (leb n most_nodes) refl e
  where
    go : (a b : Bool) → leb n most_nodes ≡ b → cond (a && b) (nodes_of (length (n ∷ xs)) n n xs) (Err BadCount) ≡ Ok rs → length rs ≤ 128
    go true true q h = omega (arith, nodes_length (length (n ∷ xs)) n n xs rs h, leb-true n most_nodes q)
    go true false q h = absurd (let z : ◌≡◌ {A = ℕ} 0 1 = cc in omega arith)
    go false b q h = absurd (let z : ◌≡◌ {A = ℕ} 0 1 = cc in omega arith)

pub read_err : (xs : List ℕ) (old : List NodeRecord) (f : ReadFault) → length old ≡ 128 → Err f ≡ answered (rule_of xs) old → rule_of xs ≡ Err f
read_err xs old f l e = go (rule_of xs) refl e
  where
    go : (o : Result (List NodeRecord) ReadFault) → rule_of xs ≡ o → Err f ≡ answered o old → o ≡ Err f
    go (Err g) q h = cc
    go (Ok rs) q h =
        let b : leb (length rs) (length old) ≡ true = le-leb (length rs) (length old) (omega (arith, few xs rs q)) in
        absurd (let z : ◌≡◌ {A = ℕ} 0 1 = cc (h ∙ ap (λ v. cond v (Ok (length rs)) (Err ListTooShort)) b) in omega arith)

-- the records that were read
pub record Found (xs : List ℕ) (front : List NodeRecord) : Type 0 where
  pub records : List NodeRecord
  pub reads : rule_of xs ≡ Ok records
  pub same : front ≡ records

pub read_ok : (xs : List ℕ) (old new : List NodeRecord) (n : ℕ) → length old ≡ 128 → Ok n ≡ answered (rule_of xs) old → new ≡ written (rule_of xs) old → Found xs (take n new)
read_ok xs old new n l e w = go (rule_of xs) refl e w
  where
    go : (o : Result (List NodeRecord) ReadFault) → rule_of xs ≡ o → Ok n ≡ answered o old → new ≡ written o old → Found xs (take n new)
    go (Err g) q h w = absurd (let z : ◌≡◌ {A = ℕ} 0 1 = cc in omega arith)
    go (Ok rs) q h w =
        let b : leb (length rs) (length old) ≡ true = le-leb (length rs) (length old) (omega (arith, few xs rs q)) in
        let d : length rs ≡ n = cc (h ∙ ap (λ v. cond v (Ok (length rs)) (Err ListTooShort)) b) in
        let m : new ≡ rs ++ drop (length rs) old = w ∙ ap (λ v. cond v (rs ++ drop (length rs) old) old) b in
        record { records = rs; reads = q; same = ap (take n) m ∙ take_at rs (drop (length rs) old) n d }

-- a fault that came through a `?`
as_fault : (xs : List ℕ) (r : Result Rule RuleFault) (f : RuleFault) → IsErrAnd r (λ y. y ≡ f) → Loads xs (Err f) → Loads xs r
as_fault xs (Ok u) f e l = absurd e
as_fault xs (Err y) f e l = subst (λ (z : RuleFault). Loads xs (Err z)) (sym e) l

module _ (xs : List ℕ) (old : List NodeRecord) (wide : length old ≡ 128) where
  pub not_read : (r : Result Rule RuleFault) (f : ReadFault) → Err f ≡ answered (rule_of xs) old → IsErrAnd r (λ y. y ≡ Read f) → Loads xs r
  not_read r f a e = as_fault xs r (Read f) e (unread (read_err xs old f wide a))

  module _ (n : ℕ) (new front : List NodeRecord) (a : Ok n ≡ answered (rule_of xs) old) (w : new ≡ written (rule_of xs) old) (q : front ≡ take n new) where
    pub not_checked : (r : Result Rule RuleFault) (f : CheckFault) → Says front (Err f) → IsErrAnd r (λ y. y ≡ Check f) → Loads xs r
    not_checked r f s e =
        let found = read_ok xs old new n wide a w in
        as_fault xs r (Check f) e (refused found.reads (subst (λ (rs : List NodeRecord). Says rs (Err f)) (q ∙ found.same) s))

    pub loaded : (r : Rule) → Says front (Ok tt) → Made front r → Loads xs (Ok r)
    loaded r s m =
        let found = read_ok xs old new n wide a w in
        made found.reads (subst (λ (rs : List NodeRecord). Says rs (Ok tt)) (q ∙ found.same) s) (subst (λ (rs : List NodeRecord). Made rs r) (q ∙ found.same) m)
