-- What the tactics leave open of `mark_span`.
use Rattle.std.proofs.Common.{◌≡◌, ℕ, ◌+◌, ◌*◌, ◌/◌, ◌<◌, ◌≤◌, sym, subst, arith, min}
use Rattle.tile_work.specs.Marks.{Adds}
use Rattle.tile_work.proofs.HittingSpans.{HoldsUpto, column_past, upto_next, upto_end}
use Rattle.tile_work.proofs.hits.losses.mark_span.Goals as goal

pub loop-x-preserved : goal.loop-x-preserved
loop-x-preserved c =
    let tiles = c.args.tiling.now in
    let span = c.args.span in
    let x = c.loop-x.x in
    let some : 0 < tiles.side = omega (arith, c.side-side.ensures.tiled.tile_side.at_least) in
    let inside_x : x < tiles.width = omega (arith, c.loop-x-test.true, c.min-end.ensures, c.width.ensures.value) in
    let inside_y : span.y < tiles.height = omega (arith, c.if-span-height.false, c.height.ensures.value) in
    let within : x < span.end = omega (arith, c.loop-x-test.true, c.min-end.ensures) in
    let marked =
    subst (λ (tile : ℕ). Adds (λ t. t ≡ tile) c.loop-x.marks c.loop-x.queue c.mark.new.marks c.mark.new.queue)
    c.tile_of.ensures.value c.mark.ensures in
    let is = sym c.side-side.ensures.value in
    record {
      from =
          subst (λ (s : ℕ). span.first ≤ (x / s + 1) * s) is
          (omega (arith, column_past x tiles.side some, c.loop-x.invariant.from));
      adds =
          subst (λ (s : ℕ). Adds (HoldsUpto tiles span ((x / s + 1) * s)) c.args.marks.now c.args.queue.now
          c.mark.new.marks c.mark.new.queue) is
          (upto_next tiles span some x inside_x inside_y c.loop-x.invariant.from within c.loop-x.invariant.adds marked);
    }

pub returns : goal.returns
returns c =
    let tiles = c.args.tiling.now in
    let span = c.args.span in
    let some : 0 < tiles.side = omega (arith, c.side-side.ensures.tiled.tile_side.at_least) in
    let past : min span.end tiles.width ≤ c.loop-x.x =
    omega (arith, c.loop-x-test.false, c.min-end.ensures, c.width.ensures.value) in
    upto_end tiles span some c.loop-x.x past c.loop-x.invariant.adds
