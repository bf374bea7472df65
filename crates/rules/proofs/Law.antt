-- The law of reading, from what its answer and its list are.
use Rattle.std.proofs.Common.{◌≡◌, ℕ, ◌<◌, ◌≤◌, Bool, true, false, cond, leb, List, ◌++◌, map, length, get_or, take, drop, Ok, Err, Result, sym, refl, ap, ◌∙◌}
use lib.ListN.{length-map}
use Rattle.std.proofs.lemmas.Bool.{le-leb}
use Rattle.std.proofs.lemmas.List.{take_at}
use Rattle.refusals.proofs.Octets.{Octets, octets}
use Rattle.rules.specs.declared.record.NodeRecord.{NodeRecord}
use Rattle.rules.specs.declared.fault.ReadFault.{ReadFault}
use Rattle.rules.specs.declared.fault.ReadFault.TheVariants.{ListTooShort}
use Rattle.rules.specs.Bytes.{rule_of, answered, written}
use Rattle.rules.specs.Writing.{cleaned, encoded_rule, Laid, Decodes}
use Rattle.rules.proofs.Back.{reads_back}
use Rattle.rules.proofs.Only.{reads_only}

module _ (xs : List ℕ) (old : List NodeRecord) where
  read_back : (rs : List NodeRecord) → Laid rs → xs ≡ encoded_rule rs → length rs ≤ length old
      → (answered (rule_of xs) old ≡ Ok (length rs)) × (written (rule_of xs) old ≡ map cleaned rs ++ drop (length rs) old)
  read_back rs h e l =
      let q : rule_of xs ≡ Ok (map cleaned rs) = ap rule_of e ∙ reads_back rs h in
      let n : length (map cleaned rs) ≡ length rs = length-map rs cleaned in
      let b : leb (length rs) (length old) ≡ true = le-leb (length rs) (length old) l in
      (rw (q, n, b), rw (q, n, b))

  read_only : (o : Result (List NodeRecord) ReadFault) → rule_of xs ≡ o → (n : ℕ) → answered o old ≡ Ok n → Octets xs → xs ≡ encoded_rule (take n (written o old))
  read_only (Err e) q n h t = cc
  read_only (Ok rs) q n h t = go (leb (length rs) (length old)) h
    where
      go : (b : Bool) → cond b (Ok (length rs)) (Err ListTooShort) ≡ Ok n → xs ≡ encoded_rule (take n (cond b (rs ++ drop (length rs) old) old))
      go true k = let d : length rs ≡ n = cc in reads_only xs rs t q ∙ ap encoded_rule (sym (take_at rs (drop (length rs) old) n d))
      go false k = cc

pub decodes : (xs : List ℕ) (old : List NodeRecord) (r : Result ℕ ReadFault) (new : List NodeRecord)
    → ((i : ℕ) → get_or xs i 0 < 256) → r ≡ answered (rule_of xs) old → new ≡ written (rule_of xs) old → Decodes xs old r new
decodes xs old r new o a w = record {
  back = λ rs h e l. let q = read_back xs old rs h e l in (a ∙ q.0, w ∙ q.1);
  only = λ n k. rw w (read_only xs old (rule_of xs) refl n (sym a ∙ k) (octets xs o));
}
