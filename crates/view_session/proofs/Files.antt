-- Files in memory, after one of them is replaced.
use Rattle.std.proofs.Common.{◌≡◌, ℕ, List, [], Some, Option, String, Vec, BTreeMap, sym, ap, ◌∙◌, subst, IfSome}
use Rattle.std.proofs.Common.{bytes_eq}
use Rattle.std.proofs.{lemmas.Bool.false_from_ne_true, lemmas.Slice.Eq.bytes_eq-Decides}
use Rattle.std.proofs.lemmas.Map.{update_same, update_other}
use Rattle.std.specs.{BTreeMap.get_by_text, Option.option_map_or, Map.update}
use Rattle.view_session.specs.{MemoryFiles.held_by, Store.IsReplaced}

-- a file that is put under a name replaces the one of that name, and no other
pub file_replaced : {Y : Type 0} (old new : BTreeMap (String Y) (Vec ℕ Y)) (bs name : List ℕ) (v : Vec ℕ Y)
    (bytes : List ℕ) → bs ≡ name → v.items ≡ bytes
    → ((q : List ℕ) → get_by_text new q ≡ update bytes_eq (get_by_text old) bs (Some v) q)
    → IsReplaced (held_by old) (held_by new) name bytes
file_replaced old new bs name v bytes is_name is_bytes sets = record {
  replaced =
      ap (λ o. Some (option_map_or (λ v. v.items) o []))
      (sets name ∙ update_same bytes_eq (get_by_text old) bs (Some v) name ((bytes_eq-Decides bs name).1 is_name))
      ∙ ap Some is_bytes;
  others = λ other differs. ap (λ o. Some (option_map_or (λ v. v.items) o []))
      (sets other ∙ update_other bytes_eq (get_by_text old) bs (Some v) other
      (false_from_ne_true _ (λ same. differs (sym ((bytes_eq-Decides bs other).0 same) ∙ is_name))));
}

-- what was loaded is what was held, where it is read a step later
pub loaded_bytes : (before after : Option (List ℕ)) (found bytes : List ℕ) → after ≡ before → after ≡ Some found
    → bytes ≡ found → IfSome before (λ known. bytes ≡ known)
loaded_bytes before after found bytes same is_found is =
    subst (λ (known : Option (List ℕ)). IfSome known (λ held. bytes ≡ held)) (sym is_found ∙ same) is
