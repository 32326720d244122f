use Rattle.std.proofs.Common.{◌≡◌, List, ℕ, ◌++◌, ap, subst, ◌∙◌, codes}
use Rattle.std.specs.Int.{w128, to_be_bytes}
use Rattle.uuid.specs.Text.{lower, hyphenated_text}
use Rattle.stroke_core.specs.Tag.{text_of}
use Rattle.byte_devices.specs.Transfer.{PutsAll}
use Rattle.run_faults.proofs.detail.put_tag.Goals as goal

pub returns : goal.returns
returns g c =
    let text : c.encode_lower-name.result.now ≡ text_of c.args.tag =
    c.encode_lower-name.ensures.text
    ∙ ap (hyphenated_text lower) (c.hyphenated.ensures ∙ c.from_u128.ensures ∙ ap (to_be_bytes w128) c.tag.view_is) in
    subst (λ (word : List ℕ). PutsAll c.put_word.result (g.K.Sink.seen c.args.sink.now)
    (g.K.Sink.seen c.put_word.new.sink) (codes " " ++ word)) text c.put_word.ensures
