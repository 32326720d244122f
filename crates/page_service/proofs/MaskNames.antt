-- What is written of a name.
use Rattle.std.proofs.Common.{◌≡◌, ℕ, ◌<◌, true, false, not, ◌||◌, List, [], ◌∷◌, ◌++◌, codes, arith, ap, refl, sym}
use Rattle.std.proofs.Common.{◌∙◌, subst, ⊎_elim, All, IsTrue}
use Rattle.std.proofs.lemmas.Bool.{agree_below, agree_below_at, cases_Bool, cond-true, cond-false, not-true, not-false}
use Rattle.std.proofs.lemmas.{Bool.Decides.nat_tests, List.Elements.All-append, List.Elements.All-head}
use Rattle.std.proofs.lemmas.List.Elements.{All-tail}
use Rattle.http_header.specs.{Token.is_value_byte, FieldValue.IsFieldValue}
use Rattle.http_header.proofs.TokenLemmas.{AllPass-from_test}
use Rattle.percent_encoding.specs.AsciiSet.{should_percent_encode}
use Rattle.percent_encoding.specs.Percent.{percent_encode, percent_encode_byte}
use Rattle.percent_encoding.proofs.AsciiSetLemmas.{ascii_from_kept}
use Rattle.percent_encoding.proofs.PercentLemmas.{IsByte, IsEscapeByte, All-percent_encode, percent_encode-nil}
use Rattle.percent_encoding.proofs.PercentLemmas.{percent_encode_escaped, percent_encode_kept}
use Rattle.page_service.specs.MaskName.{is_attr_char, value_chars, naming}
use Rattle.page_service.specs.declared.mask_name.TheConstants.{ESCAPED}

-- exactly the other bytes are escaped
others_checked : agree_below (should_percent_encode ESCAPED) (λ b. not (is_attr_char b)) 256 ≡ true
unfolding should_percent_encode
others_checked = refl

others : (b : ℕ) → b < 256 → should_percent_encode ESCAPED b ≡ not (is_attr_char b)
others b small = agree_below_at (should_percent_encode ESCAPED) (λ b. not (is_attr_char b)) 256 b others_checked small

pub written : (name : List ℕ) → All IsByte name → percent_encode ESCAPED name ≡ value_chars name
written [] small = percent_encode-nil ESCAPED
written (b ∷ bs) small =
    let rest = written bs (All-tail IsByte b bs small) in
    let other = others b (All-head IsByte b bs small) in
    ⊎_elim
    (λ escaped. percent_encode_escaped ESCAPED b bs escaped ∙ ap (λ x. percent_encode_byte b ++ x) rest ∙
    ap (λ x. x ++ value_chars bs)
    (sym (cond-false (is_attr_char b) (b ∷ []) (percent_encode_byte b)
    (not-true (is_attr_char b) (sym other ∙ escaped)))))
    (λ kept. percent_encode_kept ESCAPED b bs kept ∙ ap (λ x. b ∷ x) rest ∙
    ap (λ x. x ++ value_chars bs)
    (sym (cond-true (is_attr_char b) (b ∷ []) (percent_encode_byte b)
    (not-false (is_attr_char b) (sym other ∙ kept)))))
    (cases_Bool (should_percent_encode ESCAPED b))

-- what is kept may stand in a field
kept_checked : agree_below (λ b. should_percent_encode ESCAPED b || is_value_byte b) (λ _. true) 128 ≡ true
unfolding should_percent_encode
kept_checked = refl

kept_may : (b : ℕ) → should_percent_encode ESCAPED b ≡ false → IsTrue (is_value_byte b)
kept_may b kept =
    sym (ap (λ x. x || is_value_byte b) kept) ∙
    agree_below_at (λ b. should_percent_encode ESCAPED b || is_value_byte b) (λ _. true) 128 b kept_checked
    (ascii_from_kept ESCAPED b kept)

escape_may : (b : ℕ) → IsEscapeByte b → IsTrue (is_value_byte b)
escape_may b escape = grind (arith, nat_tests)

-- and so may all that is written
pub may_stand : (name : List ℕ) → All IsByte name → IsFieldValue (naming name)
may_stand name small =
    All-append (λ b. IsTrue (is_value_byte b)) (codes "inline; filename*=UTF-8''") (value_chars name)
    (AllPass-from_test is_value_byte (codes "inline; filename*=UTF-8''") refl)
    (subst IsFieldValue (written name small)
    (All-percent_encode (λ b. IsTrue (is_value_byte b)) ESCAPED name kept_may escape_may))
