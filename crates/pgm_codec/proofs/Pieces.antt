-- What is known of bytes that were read.
use Rattle.std.proofs.Common.{◌≡◌, ℕ, List, Option, Some, None, IfSome, Result, Ok, Err, IfOk, IfErr, IsErrOf, ◌⊎◌, inl}
use Rattle.std.proofs.Common.{inr, subst}
use Rattle.byte_devices.specs.Transfer.{IsInputOf}
use Rattle.pgm_codec.specs.{declared.error.PgmError.PgmError, declared.error.PgmError.TheVariants.Memory}
use Rattle.pgm_codec.specs.{FirstFault.PgmFault, Graymap.Graymap, Spelling.PgmSpells}
use Rattle.pgm_codec.specs.Transfer.{IsOfMemory, IsOfDevice, ReadsImage}

-- what holds of the text holds of the known bytes, if they are the text
pub IfSome-known : (known : Option (List ℕ)) (text : List ℕ) (P : List ℕ → Type 0) → IsInputOf known text
    → P text → IfSome known P
IfSome-known None text P e h = tt
IfSome-known (Some xs) text P e h = subst P e h

-- what reading answers on a text, it answers on known bytes that are this text
pub reads_known : (known : Option (List ℕ)) (text : List ℕ) (result : Result Graymap PgmError) → IsInputOf known text
    → IfOk result (λ image. PgmSpells text image)
    → ((image : Graymap) → PgmSpells text image → (result ≡ Ok image) ⊎ IsErrOf result Memory)
    → IfErr result (λ e. (e ≡ Memory) ⊎ PgmFault text e)
    → ReadsImage known result
reads_known known text (Ok x) same found only fault = record {
  found = IfSome-known known text (λ t. PgmSpells t x) same found;
  only = IfSome-known known text (λ t. (image : Graymap) → PgmSpells t image
      → (Ok x ≡ Ok image) ⊎ ⊥) same
      (λ image spelled. elim (only image spelled) [ inl h ↦ inl h | inr h ↦ cc ]);
  fault = tt;
}
reads_known known text (Err e) same found only fault = record {
  found = tt;
  only = IfSome-known known text (λ t. (image : Graymap) → PgmSpells t image
      → (Err e ≡ Ok image) ⊎ (IsOfMemory e ⊎ IsOfDevice e)) same
      (λ image spelled. elim (only image spelled) [ inl h ↦ inl h | inr h ↦ inr (inl (cc)) ]);
  fault = elim fault [
    | inl memory ↦ inl memory
    | inr first ↦ inr (inr (IfSome-known known text (λ t. PgmFault t e) same first))
  ];
}
