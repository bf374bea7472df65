use Rattle.std.proofs.Common.{◌≡◌, ℕ, zero, suc, ◌/◌, ◌%◌, Bool, true, false, cond, ◌&&◌, leb, List, [], ◌∷◌, length, is_some, Some, None, Ok, Err, Option, Result, sym, refl, ap, ◌∙◌, subst, arith}
use Rattle.rules.specs.declared.record.SlotField.{SlotField}
use Rattle.rules.specs.declared.record.NodeRecord.{NodeRecord}
use Rattle.rules.specs.declared.fault.ReadFault.{ReadFault}
use Rattle.rules.specs.declared.fault.ReadFault.TheVariants.{BadCount}
use Rattle.refusals.specs.Options.{on}
use Rattle.refusals.proofs.Octets.{Octets}
use Rattle.rules.specs.Map.{is_set}
use Rattle.rules.specs.Layout.{decoded}
use Rattle.rules.specs.Bytes.{byte_of, field_of, record_of, number4, node_of, nodes_of, before, then, rule_of, laid}
use Rattle.rules.specs.Writing.{byte_if, field_if, encoded, encoded_all, encoded_rule}
use Rattle.rules.proofs.Reading.{nodes_length, nodes_suc, nodes_zero}

on_some : {X Y : Type 0} (o : Option X) (f : X → Option Y) (y : Y) → on o f ≡ Some y → (x : X) × (o ≡ Some x) × (f x ≡ Some y)
on_some None f y e = cc
on_some (Some x) f y e = (x, refl, e)

same_some : {X : Type 0} (x y : X) → Some x ≡ Some y → x ≡ y
same_some x y e = cc

byte_made : (b : Bool) (xs : List ℕ) (p : ℕ × List ℕ) → byte_of b xs ≡ Some p → Octets xs → (xs ≡ byte_if b p.0 p.1) × Octets p.1
byte_made false xs p e o = let q : (0, xs) ≡ p = cc in (ap (λ (r : ℕ × List ℕ). r.1) q, subst (λ (r : ℕ × List ℕ). Octets r.1) q o)
byte_made true [] p e o = cc
byte_made true (a ∷ xs) p e o = let q : (a, xs) ≡ p = cc in (ap (λ (r : ℕ × List ℕ). r.0 ∷ r.1) q, subst (λ (r : ℕ × List ℕ). Octets r.1) q o.1)

field_made : (b : Bool) (xs : List ℕ) (p : SlotField × List ℕ) → field_of b xs ≡ Some p → Octets xs → (xs ≡ field_if b p.0 p.1) × Octets p.1
field_made false xs p e o = let q : (record { tag = 0; number = 0 }, xs) ≡ p = cc in (ap (λ (r : SlotField × List ℕ). r.1) q, subst (λ (r : SlotField × List ℕ). Octets r.1) q o)
field_made true [] p e o = cc
field_made true (t ∷ []) p e o = cc
field_made true (t ∷ a ∷ []) p e o = cc
field_made true (t ∷ a ∷ b ∷ []) p e o = cc
field_made true (t ∷ a ∷ b ∷ c ∷ []) p e o = cc
field_made true (t ∷ a ∷ b ∷ c ∷ d ∷ xs) p e o =
    let q : (record { tag = t; number = number4 a b c d }, xs) ≡ p = cc in
    let hb = o.1.1.0 in let hc = o.1.1.1.0 in let hd = o.1.1.1.1.0 in
    let ea : a ≡ number4 a b c d / 16777216 = omega arith in
    let eb : b ≡ number4 a b c d / 65536 % 256 = omega arith in
    let ec : c ≡ number4 a b c d / 256 % 256 = omega arith in
    let ed : d ≡ number4 a b c d % 256 = omega arith in
    let w : (t ∷ a ∷ b ∷ c ∷ d ∷ xs) ≡ field_if true (record { tag = t; number = number4 a b c d }) xs = cc in
    (subst (λ (r : SlotField × List ℕ). (t ∷ a ∷ b ∷ c ∷ d ∷ xs) ≡ field_if true r.0 r.1) q w, subst (λ (r : SlotField × List ℕ). Octets r.1) q o.1.1.1.1.1)

-- one field: what holds of its bytes as they are written holds of the bytes that were read
module _ {Y : Type 0} (b : Bool) (xs : List ℕ) (y : Y) (P : List ℕ → Type 0) where
  peel_byte : (F : ℕ × List ℕ → Option Y) → Octets xs → on (byte_of b xs) F ≡ Some y
      → ((x : ℕ) (ys : List ℕ) → Octets ys → F (x, ys) ≡ Some y → P (byte_if b x ys)) → P xs
  peel_byte F o e next =
      let s = on_some (byte_of b xs) F y e in
      let m = byte_made b xs s.0 s.1 o in
      subst P (sym m.0) (next s.0.0 s.0.1 m.1 s.2)

  peel_field : (F : SlotField × List ℕ → Option Y) → Octets xs → on (field_of b xs) F ≡ Some y
      → ((x : SlotField) (ys : List ℕ) → Octets ys → F (x, ys) ≡ Some y → P (field_if b x ys)) → P xs
  peel_field F o e next =
      let s = on_some (field_of b xs) F y e in
      let m = field_made b xs s.0 s.1 o in
      subst P (sym m.0) (next s.0.0 s.0.1 m.1 s.2)

abbrev Was : List ℕ → NodeRecord × List ℕ → Type 0
Was zs p = (zs ≡ encoded p.0 p.1) × Octets p.1

-- field by field, from the map on
record_made : (xs : List ℕ) (p : NodeRecord × List ℕ) → record_of xs ≡ Some p → Octets xs → Was xs p
record_made [] p e o = cc
record_made (m ∷ xs) p e o =
    peel_byte (is_set m 1) xs p (λ l. Was (m ∷ l) p) _ o.1 e (λ k x1 o1 e1.
    peel_byte (is_set m 2) x1 p (λ l. Was (m ∷ byte_if (is_set m 1) k l) p) _ o1 e1 (λ f x2 o2 e2.
    peel_byte (is_set m 4) x2 p (λ l. Was (m ∷ byte_if (is_set m 1) k (byte_if (is_set m 2) f l)) p) _ o2 e2 (λ s x3 o3 e3.
    peel_byte (is_set m 8) x3 p (λ l. Was (m ∷ byte_if (is_set m 1) k (byte_if (is_set m 2) f (byte_if (is_set m 4) s l))) p) _ o3 e3 (λ t x4 o4 e4.
    peel_byte (is_set m 16) x4 p (λ l. Was (m ∷ byte_if (is_set m 1) k (byte_if (is_set m 2) f (byte_if (is_set m 4) s (byte_if (is_set m 8) t l)))) p) _ o4 e4 (λ v x5 o5 e5.
    peel_field (is_set m 32) x5 p (λ l. Was (m ∷ byte_if (is_set m 1) k (byte_if (is_set m 2) f (byte_if (is_set m 4) s (byte_if (is_set m 8) t (byte_if (is_set m 16) v l))))) p) _ o5 e5 (λ a x6 o6 e6.
    peel_field (is_set m 64) x6 p (λ l. Was (m ∷ byte_if (is_set m 1) k (byte_if (is_set m 2) f (byte_if (is_set m 4) s (byte_if (is_set m 8) t (byte_if (is_set m 16) v (field_if (is_set m 32) a l)))))) p) _ o6 e6 (λ c x7 o7 e7.
    peel_field (is_set m 128) x7 p (λ l. Was (m ∷ byte_if (is_set m 1) k (byte_if (is_set m 2) f (byte_if (is_set m 4) s (byte_if (is_set m 8) t (byte_if (is_set m 16) v (field_if (is_set m 32) a (field_if (is_set m 64) c l))))))) p) _ o7 e7 (λ d x8 o8 e8.
    let r : NodeRecord = record { map = m; kind = k; first = f; second = s; ty = t; variable = v; player = a; card = c; strokes = d } in
    subst (Was (encoded r x8)) (same_some (r, x8) p e8) (refl, o8)))))))))

encoded_cons : (r : NodeRecord) (qs : List NodeRecord) → encoded_all (r ∷ qs) ≡ encoded r (encoded_all qs)
unfolding encoded_all
encoded_cons r qs = refl

encoded_none : encoded_all [] ≡ []
unfolding encoded_all
encoded_none = refl

module _ (all n : ℕ) where
  node_made : (xs : List ℕ) (p : NodeRecord × List ℕ) → node_of all n xs ≡ Ok p → record_of xs ≡ Some p
  node_made xs p e = go (record_of xs) refl e
    where
      pick : (b : Bool) (q : NodeRecord × List ℕ) (f : ReadFault) → cond b (Ok q) (Err f) ≡ Ok p → q ≡ p
      pick true q f h = cc
      pick false q f h = cc

      go : (o : Option (NodeRecord × List ℕ)) → record_of xs ≡ o → laid all n (length xs) o ≡ Ok p → o ≡ Some p
      go None q h = cc
      go (Some y) q h = ap Some (pick (is_some (decoded n y.0)) y _ h)

  step : (k : ℕ) (xs : List ℕ) (rs : List NodeRecord) (ih : (ys : List ℕ) (qs : List NodeRecord) → Octets ys → nodes_of all n k ys ≡ Ok qs → ys ≡ encoded_all qs) (o : Result (NodeRecord × List ℕ) ReadFault)
      → node_of all n xs ≡ o → Octets xs → then o (nodes_of all n k) ≡ Ok rs → xs ≡ encoded_all rs
  step k xs rs ih (Err f) q t e = cc
  step k xs rs ih (Ok p) q t e = go (nodes_of all n k p.1) refl e
    where
      m : (xs ≡ encoded p.0 p.1) × Octets p.1
      m = record_made xs p (node_made xs p q) t

      go : (o : Result (List NodeRecord) ReadFault) → nodes_of all n k p.1 ≡ o → before (p.0 ∷ []) o ≡ Ok rs → xs ≡ encoded_all rs
      go (Err f) u h = cc
      go (Ok qs) u h = let w : (p.0 ∷ qs) ≡ rs = cc in m.0 ∙ (ap (encoded p.0) (ih p.1 qs m.1 u) ∙ (sym (encoded_cons p.0 qs) ∙ ap encoded_all w))

  nodes_made : (k : ℕ) (xs : List ℕ) (rs : List NodeRecord) → Octets xs → nodes_of all n k xs ≡ Ok rs → xs ≡ encoded_all rs
  nodes_made zero [] rs t e = let q : [] ≡ rs = cc (nodes_zero all n []) in sym encoded_none ∙ ap encoded_all q
  nodes_made zero (x ∷ xs) rs t e = cc (nodes_zero all n (x ∷ xs))
  nodes_made (suc k) xs rs t e = step k xs rs (nodes_made k) (node_of all n xs) refl t (sym (nodes_suc all n k xs) ∙ e)

-- what is read was so written
pub reads_only : (xs : List ℕ) (rs : List NodeRecord) → Octets xs → rule_of xs ≡ Ok rs → xs ≡ encoded_rule rs
reads_only [] rs t e = cc
reads_only (n ∷ xs) rs t e = go (leb 1 n && leb n 128) e
  where
    go : (b : Bool) → cond b (nodes_of (length (n ∷ xs)) n n xs) (Err BadCount) ≡ Ok rs → (n ∷ xs) ≡ length rs ∷ encoded_all rs
    go true h =
        let a : length rs ≡ n = nodes_length (length (n ∷ xs)) n n xs rs h in
        let b : xs ≡ encoded_all rs = nodes_made (length (n ∷ xs)) n n xs rs t.1 h in
        ap (λ (m : ℕ). m ∷ xs) (sym a) ∙ ap (λ (ys : List ℕ). length rs ∷ ys) b
    go false h = cc
