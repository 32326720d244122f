use Rattle.std.proofs.Common.{◌≡◌, List, ℕ, ◌++◌, OnOk, ap, subst, ◌∙◌, rules}
use Rattle.std.specs.Int.{w128, to_be_bytes}
use Rattle.uuid.specs.Text.{lower, hyphenated_text}
use Rattle.stroke_core.specs.Tag.{text_of}
use Rattle.edit_lang.proofs.writing.put_tag.Goals as goal

pub returns-clause-text : goal.returns-clause-text
returns-clause-text c =
    let text : c.as_bytes.result.now ≡ text_of c.args.tag =
    c.as_bytes.ensures.value ∙ c.encode_lower-text.ensures.text
    ∙ ap (hyphenated_text lower) (c.hyphenated.ensures ∙ c.from_u128.ensures ∙ ap (to_be_bytes w128) c.tag.view_is) in
    subst
    (λ (t : List ℕ). OnOk c.extend_from_slice.result (c.extend_from_slice.new.self.items ≡ c.args.out.now.items ++ t))
    text (search rules)
