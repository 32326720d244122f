-- What the tactics leave open of `raise_across`.
use Rattle.std.proofs.Common.{◌+◌, ◌*◌, ◌/◌, ◌<◌, ◌≤◌, ◌∙◌, arith, inl, inr, refl, rules, subst}
use Rattle.tile_work.proofs.RenewingBounds.{none_rises, rises_also}
use Rattle.tile_work.proofs.RenewingRises.{still_on, raised_also, raised_nothing, raised_alike, next_tile}
use Rattle.tile_work.proofs.RenewingStrokes.{empty_part, part_more, whole_part}
use Rattle.tile_work.proofs.renewing.raise.raise_across.Goals as goal

pub loop-first-init : goal.loop-first-init
loop-first-init c = (
  omega arith,
  inr refl,
  raised_nothing c.requires.at_hand.size.filled (λ p _. empty_part c.args.span p),
  none_rises,
)

pub raise_piece-requires-clause-piece : goal.raise_piece-requires-clause-piece
raise_piece-requires-clause-piece c =
    let s = c.args.span in
    let at = c.loop-first.first in
    let next = c.min-end.result in
    record {
      row = c.requires.row;
      side = search rules;
      some =
          next_tile c.args.tiling.now at s.end c.side-side.result next c.side-side.ensures.tiled
          c.side-side.ensures.value c.loop-first-test.true c.min-end.ensures;
      columns = omega (arith, c.min-end.ensures, c.requires.columns);
      tile =
          subst (λ w. next ≤ (at / w + 1) * w) c.side-side.ensures.value (omega (arith, c.min-end.ensures));
    }

pub loop-first-preserved : goal.loop-first-preserved
loop-first-preserved c =
    let s = c.args.span in
    let at = c.loop-first.first in
    let next = c.min-end.result in
    let further : at < next =
    next_tile c.args.tiling.now at s.end c.side-side.result next c.side-side.ensures.tiled c.side-side.ensures.value
    c.loop-first-test.true c.min-end.ensures in
    let within : next ≤ s.end = omega (arith, c.min-end.ensures) in (
      omega (arith, c.loop-first.invariant.0),
      inl within,
      raised_also (still_on c.requires.at_hand.marker_is c.requires.at_hand.size) c.loop-first.invariant.2
          c.raise_piece.ensures.raised (λ p _. part_more s at next p c.loop-first.invariant.0 (omega arith)),
      rises_also c.loop-first.invariant.3 c.raise_piece.ensures.bounds,
    )

pub raise_piece-requires-clause-bounds : goal.raise_piece-requires-clause-bounds
raise_piece-requires-clause-bounds c = c.loop-first.invariant.3.widened.count ∙ c.requires.bounds

pub returns-clause-raised : goal.returns-clause-raised
returns-clause-raised c =
    let (after, past, raised, bounds) = c.loop-first.invariant in
    raised_alike raised (λ p _. whole_part c.args.span c.loop-first.first p after c.loop-first-test.false past)
