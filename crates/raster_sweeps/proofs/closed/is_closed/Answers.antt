use Rattle.std.proofs.Common.{◌<◌, ◌≤◌, min, refl, subst, arith}
use Rattle.grid_core.specs.{Path.Inside, Raster.value_at, Rects.domain_in, Rects.part}
use Rattle.raster_sweeps.proofs.Whole.{whole, whole_part}
use Rattle.raster_sweeps.proofs.closed.is_closed.Goals as goal

pub returns : goal.returns
returns c =
    let w = c.width.result in
    let h = c.height.result in
    let mask = value_at c.args.mask.now in
    let image = value_at c.args.image.now in (
      λ yes p q inside_p inside_q beside.
          let at_p : Inside (domain_in (whole w h) c.args.conn) p =
          (omega (arith, inside_p.0, c.width.ensures.value), omega (arith, inside_p.1, c.height.ensures.value)) in
          let at_q : Inside (domain_in (whole w h) c.args.conn) q =
          (omega (arith, inside_q.0, c.width.ensures.value), omega (arith, inside_q.1, c.height.ensures.value)) in
          let before : min p.y q.y < c.loop-y.y = omega (arith, at_p.1, c.loop-y-test.false) in
          let closed : min (part (whole w h) image p) (part (whole w h) mask q) ≤ part (whole w h) image q =
          c.loop-y.invariant (min p.y q.y) before p q at_p at_q beside refl in
          subst (λ m. min (image p) (m q) ≤ image q) (whole_part w h mask)
          (subst (λ j. min (j p) (part (whole w h) mask q) ≤ j q) (whole_part w h image) closed),
      λ closed. refl,
    )
