use Rattle.std.proofs.Common.{◌∷◌, ◌∙◌, ap, arith, inl, refl}
use Rattle.grid_core.specs.{Raster.index_of, Rects.IsInRect}
use Rattle.raster_sweeps.specs.Growth.{CanClose, IsPixelOf, cell_of, rows_of}
use Rattle.row_scans.{specs.Waiting.AreOneMore, proofs.Bags.behind_one}
use Rattle.raster_sweeps.proofs.{Grown.grown_twice, Trails.first_taken, Trails.pixel_of_its_cell}
use Rattle.raster_sweeps.proofs.Growing.{can_close_on, grown_nowhere}
use Rattle.raster_sweeps.proofs.OpenBounds.{including_lies, none_open_closed, none_rise, none_waits, nothing_waits}
use Rattle.raster_sweeps.proofs.OpenBounds.{popped_lies, spread_rises}
use Rattle.raster_sweeps.proofs.raising.drain_within.Goals.{In-Some}
use Rattle.raster_sweeps.proofs.raising.drain_within.Goals as goal

pub loop-pixel-init : goal.loop-pixel-init
loop-pixel-init c =
    let image = rows_of c.args.size c.args.image.now in
    record {
      grown = grown_nowhere c.requires.close;
      width = c.requires.width;
      inside = c.requires.inside;
      waits = c.requires.all;
      rises = none_rise c.args.rect image c.args.bounds c.args.trail.now.cells;
      lie = c.requires.lie;
    }

-- the image may still grow
close : (c : In-Some)
    → CanClose c.args.rect (rows_of c.args.size c.args.mask.now) (rows_of c.args.size c.loop-pixel.image)
close c = can_close_on c.requires.close c.loop-pixel.invariant.grown

-- the cell of the pixel has been taken from the trail
taken : (c : In-Some)
    → AreOneMore (index_of c.args.size.w c.in-Some.pixel) c.pop.new.self.cells c.loop-pixel.trail.cells
taken c =
    first_taken (c.in-Some.ensures.first
    ∙ ap (λ w. index_of w c.in-Some.pixel ∷ c.pop.new.self.cells) c.loop-pixel.invariant.width)

-- and is the cell of no other
own : (c : In-Some)
    → IsPixelOf c.args.size.w (index_of c.args.size.w c.in-Some.pixel) c.in-Some.pixel
own c =
    pixel_of_its_cell c.args.size.w c.in-Some.pixel
    (omega (arith, c.in-Some.ensures.column, c.loop-pixel.invariant.width))

-- the pixel lies in the rectangle
lies : (c : In-Some) → IsInRect c.args.rect c.in-Some.pixel
lies c = popped_lies (close c) c.loop-pixel.invariant.inside (taken c) (own c)

pub including-risen-requires-clause-column : goal.including-risen-requires-clause-column
including-risen-requires-clause-column c =
    omega (arith, (lies c).1, c.requires.close.fits.columns, c.requires.close.size.width_within)

pub including-risen-requires-clause-row : goal.including-risen-requires-clause-row
including-risen-requires-clause-row c =
    omega (arith, (lies c).3, c.requires.close.fits.rows, c.requires.close.size.height_within)

pub returns-then-not-has_room : goal.returns-then-not-has_room
returns-then-not-has_room c = record {
  grown = c.loop-pixel.invariant.grown;
  closed = tt;
  rises = tt;
  lie = tt;
}

pub spread_on-requires-clause-close : goal.spread_on-requires-clause-close
spread_on-requires-clause-close c = close (goal.at.spread_on-requires-clause-close c).In-Some

pub spread_on-requires-clause-width : goal.spread_on-requires-clause-width
spread_on-requires-clause-width c = c.pop.ensures.kept.0 ∙ c.loop-pixel.invariant.width

pub spread_on-requires-clause-pixel : goal.spread_on-requires-clause-pixel
spread_on-requires-clause-pixel c = lies (goal.at.spread_on-requires-clause-pixel c).In-Some

pub spread_on-requires-clause-inside : goal.spread_on-requires-clause-inside
spread_on-requires-clause-inside c i waits =
    let one = taken (goal.at.spread_on-requires-clause-inside c).In-Some in
    c.loop-pixel.invariant.inside i ((one.each i).1 (inl waits))

pub loop-pixel-smaller : goal.loop-pixel-smaller
loop-pixel-smaller c =
    let one = taken (goal.at.loop-pixel-smaller c).In-Some in
    omega (arith, one.count, c.spread_on.ensures.spread.effort refl)

pub loop-pixel-preserved : goal.loop-pixel-preserved
loop-pixel-preserved c =
    let rect = c.args.rect in
    let before = rows_of c.args.size c.args.image.now in
    let risen = c.loop-pixel.risen in
    let here = (goal.at.loop-pixel-preserved c).In-Some in
    record {
      grown = grown_twice c.loop-pixel.invariant.grown c.spread_on.ensures.spread.grown;
      width = c.spread_on.ensures.width ∙ c.pop.ensures.kept.0 ∙ c.loop-pixel.invariant.width;
      inside = c.spread_on.ensures.spread.inside;
      waits =
          c.spread_on.ensures.spread.waits refl
          (λ p q raises.
          behind_one (taken here) (cell_of rect c.args.size.w p) (c.loop-pixel.invariant.waits p q raises));
      rises =
          rw c.including-risen.ensures (spread_rises before c.args.bounds risen (close here) (taken here) (own here)
          c.spread_on.ensures.spread c.loop-pixel.invariant.rises);
      lie =
          rw c.including-risen.ensures (including_lies rect risen c.in-Some.pixel c.loop-pixel.invariant.lie
          (lies here));
    }

pub returns : goal.returns
returns c =
    let size = c.args.size in
    let mask = rows_of size c.args.mask.now in
    let before = rows_of size c.args.image.now in
    let after = rows_of size c.loop-pixel.image in
    record {
      grown = c.loop-pixel.invariant.grown;
      closed =
          none_open_closed c.args.conn c.args.rect mask after (λ p q raises.
          nothing_waits c.loop-pixel.trail.cells (cell_of c.args.rect size.w p) c.in_default.ensures.first
          (c.loop-pixel.invariant.waits p q raises));
      rises =
          none_waits c.args.rect before after c.args.bounds c.loop-pixel.risen c.loop-pixel.trail.cells
          c.in_default.ensures.first c.loop-pixel.invariant.rises;
      lie = c.loop-pixel.invariant.lie;
    }
