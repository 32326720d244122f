use Rattle.std.proofs.Common.{◌≡◌, ℕ, List, ◌++◌, ◌<◌, ◌^◌, length, ap, subst, ◌∙◌, arith, flat_map}
use Rattle.std.proofs.lemmas.Result.{IfOk-from_err}
use Rattle.std.specs.List.{AllByRecursion}
use Rattle.stroke_lattice.specs.Pieces.{tombstones_of}
use Rattle.spd_codec.specs.{Spelling.tag_text, Putting.TagFits}
use Rattle.spd_codec.proofs.Putting.{text_more, fit_more, text_done, fit_done}
use Rattle.spd_codec.proofs.writing.put_tombstones.Goals as goal

pub loop-tag-init : goal.loop-tag-init
loop-tag-init c =
    let all : c.into_iter-tag-iterator.result ≡ tombstones_of c.args.delta.now =
    c.into_iter-tag-iterator.ensures.into_iter_gives
    ∙ c.walks_give_one_list.ensures.tombstones c.args.delta.now c.tombstones-tag-items.result
    c.tombstones-tag-items.ensures.tombstones in
    record {
      text = ap (λ (tags : List ℕ). c.args.out.now.items ++ flat_map tag_text tags) all;
      fit = λ each. subst (AllByRecursion (λ tag. tag < 2 ^ 128)) all each;
    }

pub loop-tag-smaller : goal.loop-tag-smaller
loop-tag-smaller c = omega (arith, ap length c.in-Some.ensures.steps)

pub loop-tag-preserved : goal.loop-tag-preserved
loop-tag-preserved c = record {
  text = text_more tag_text _ _ _ _ _ _ c.in-Some.ensures.steps c.in_ok-put_tag.ensures.text c.loop-tag.invariant.text;
  fit = fit_more TagFits _ _ _ c.in-Some.ensures.steps c.in_ok-put_tag.ensures.fits c.loop-tag.invariant.fit;
}

pub returns-in_err-put_tag : goal.returns-in_err-put_tag
returns-in_err-put_tag c = IfOk-from_err _ _ c.from_residual.ensures.0

pub returns : goal.returns
returns c = record {
  text = text_done tag_text _ _ _ c.in-None.ensures.steps.0 c.loop-tag.invariant.text;
  fits = fit_done TagFits _ c.in-None.ensures.steps.0 c.loop-tag.invariant.fit;
}
