use Rattle.std.proofs.Common.{◌≡◌, ◌∙◌, ap, [], ◌∷◌, length, take, arith, inl, inr}
use Rattle.std.proofs.Math.Seq.{take-length}
use Rattle.std.proofs.lemmas.List.{length-append}
use Rattle.marker_tiles.specs.UnderTags.{covers_if, some_covers}
use Rattle.marker_tiles.proofs.Enclosing.{any_of_more, one_more_fits, of_earlier, of_last}
use Rattle.std.specs.FinMap as map
use Rattle.marker_tiles.proofs.strokes.windows_round.Goals as goal

pub push-requires : goal.push-requires
push-requires c = rw c.none-windows.ensures (omega arith)

pub returns-then-tags-gt-MOST_WINDOWS-clause-fit : goal.returns-then-tags-gt-MOST_WINDOWS-clause-fit
returns-then-tags-gt-MOST_WINDOWS-clause-fit c =
    rw (c.push.ensures, c.none-windows.ensures) (c.cut_to.ensures.fits, tt)

pub returns-then-tags-gt-MOST_WINDOWS-clause-covered : goal.returns-then-tags-gt-MOST_WINDOWS-clause-covered
returns-then-tags-gt-MOST_WINDOWS-clause-covered c p inside has =
    rw c.push.ensures (of_last c.none-windows.result c.cut_to.result p
    (c.cut_to.ensures.kept p inside (c.window_round_all.ensures p has)))

pub loop-tag-init : goal.loop-tag-init
loop-tag-init c = (
  ap length c.none-windows.ensures,
  rw c.none-windows.ensures tt,
  λ p inside none. absurd (cc none),
)

pub push-requires-in-loop-tag : goal.push-requires-in-loop-tag
push-requires-in-loop-tag c =
    omega (arith, c.loop-tag.invariant.0, c.loop-tag-test.true, c.if-tags-gt-MOST_WINDOWS.false)

pub loop-tag-preserved : goal.loop-tag-preserved
loop-tag-preserved c =
    let state = c.args.state.now in
    let tags = c.args.tags.now in
    let i = c.loop-tag.tag-index in
    let before = c.loop-tag.windows in
    let window = c.cut_to-in-loop-tag.result in
    let cut = c.cut_to-in-loop-tag.ensures in
    let (count, fit, covered) = c.loop-tag.invariant in
    rw c.push-in-loop-tag.ensures (
      omega (arith, count, length-append before (window ∷ [])),
      one_more_fits c.args.mask.now.width c.args.mask.now.height before window fit cut.fits,
      λ p inside has.
          elim (any_of_more (λ t. covers_if (map.get state.strokes t) p) tags i c.tag-item.result
          c.loop-tag-test.true c.tag-item.is has) [
            | inl earlier ↦ of_earlier before window p (covered p inside earlier)
            | inr here ↦ of_last before window p (cut.kept p inside (c.window_round.ensures p here))
          ],
    )

pub returns-clause-fit : goal.returns-clause-fit
returns-clause-fit c = c.loop-tag.invariant.1

pub returns-clause-covered : goal.returns-clause-covered
returns-clause-covered c p inside has =
    let state = c.args.state.now in
    let tags = c.args.tags.now in
    let all : c.loop-tag.tag-index ≡ length tags =
    omega (arith, c.loop-tag-test.false, c.loop-tag.auto.tag-index-end) in
    c.loop-tag.invariant.2 p inside
    (ap (λ ts. some_covers state ts p) (ap (λ n. take n tags) all ∙ take-length tags) ∙ has)
