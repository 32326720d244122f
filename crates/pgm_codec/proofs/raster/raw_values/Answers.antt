use Rattle.std.proofs.Common.{List, ℕ, sym, subst, ap, ◌∙◌, take, map, w16}
use Rattle.std.proofs.lemmas.Result.{IfOk-weaker}
use Rattle.std.specs.Int.{from_be_bytes}
use Rattle.pgm_codec.specs.Reading.{AreRawValues}
use Rattle.pgm_codec.proofs.RawSamples.{pairs_are_values}
use Rattle.pgm_codec.proofs.raster.raw_values.Goals as goal

pub returns-clause-values : goal.returns-clause-values
returns-clause-values c =
    let count = c.args.count in
    let text = c.args.text.now in
    let values = pairs_are_values c.args.wide count text c.if-not-wide.false c.requires in
    IfOk-weaker c.joined.result _ _ (λ v joined. subst (AreRawValues c.args.wide count text)
    (sym (joined
    ∙ ap (λ (pairs : List (List ℕ)). map (from_be_bytes w16) (take count pairs)) c.as_chunks.ensures.front))
    values) c.joined.ensures
