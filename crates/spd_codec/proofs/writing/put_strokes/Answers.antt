use Rattle.std.proofs.Common.{◌≡◌, ◌++◌, length, ap, subst, ◌∙◌, arith, flat_map}
use Rattle.std.proofs.lemmas.Result.{IfOk-from_err}
use Rattle.std.specs.List.{AllByRecursion}
use Rattle.stroke_lattice.specs.Pieces.{strokes_of}
use Rattle.spd_codec.specs.{declared.version.Version.TheVariants.Second, Spelling.stroke_text, Spelling.StrokeFits}
use Rattle.spd_codec.proofs.Putting.{text_more, fit_more, text_done, fit_done}
use Rattle.spd_codec.proofs.writing.put_strokes.Goals as goal

pub loop-tag-init : goal.loop-tag-init
loop-tag-init c =
    let all : c.into_iter-tag-iterator.result ≡ strokes_of c.args.delta.now =
    c.into_iter-tag-iterator.ensures.into_iter_gives
    ∙ c.walks_give_one_list.ensures.strokes c.args.delta.now c.strokes-tag-items.result
    c.strokes-tag-items.ensures.strokes in
    record {
      text = ap (λ es. c.args.out.now.items ++ flat_map (stroke_text Second) es) all;
      fit = λ each. subst (AllByRecursion (StrokeFits Second)) all each;
    }

pub loop-tag-smaller : goal.loop-tag-smaller
loop-tag-smaller c = omega (arith, ap length c.in-Some.ensures.steps)

pub loop-tag-preserved : goal.loop-tag-preserved
loop-tag-preserved c = record {
  text = text_more (stroke_text Second) _ _ _ _ _ _ c.in-Some.ensures.steps c.in_ok-put_stroke.ensures.text
      c.loop-tag.invariant.text;
  fit = fit_more (StrokeFits Second) _ _ _ c.in-Some.ensures.steps c.in_ok-put_stroke.ensures.fits
      c.loop-tag.invariant.fit;
}

pub returns-in_err-put_stroke : goal.returns-in_err-put_stroke
returns-in_err-put_stroke c = IfOk-from_err _ _ c.from_residual.ensures.0

pub returns : goal.returns
returns c = record {
  text = text_done (stroke_text Second) _ _ _ c.in-None.ensures.steps.0 c.loop-tag.invariant.text;
  fits = fit_done (StrokeFits Second) _ c.in-None.ensures.steps.0 c.loop-tag.invariant.fit;
}
