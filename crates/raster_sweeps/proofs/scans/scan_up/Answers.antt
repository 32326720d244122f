use Rattle.std.proofs.Common.{◌≡◌, ◌+◌, ◌-◌, sym, ◌∙◌, subst, arith}
use Rattle.std.proofs.lemmas.Bool.{false≢true}
use Rattle.raster_sweeps.specs.{Growth.WaitFrom, Growth.rows_of, RowPairs.IsDark}
use Rattle.raster_sweeps.proofs.Grown.{fits_below, grown_twice}
use Rattle.raster_sweeps.proofs.Scanning.{joined_inside, row_waits, all_wait, dark_waits, last_row_waits, none_inside}
use Rattle.raster_sweeps.proofs.scans.scan_up.Goals as goal

pub queue_downward-all-requires : goal.queue_downward-all-requires
queue_downward-all-requires c = record {
  grow =
      record {
        size = c.requires.close.size;
        filled = c.raise_row.ensures.grown.grown.filled ∙ c.loop-y.invariant.grown.filled ∙ c.requires.close.filled;
        mask_filled = c.requires.close.mask_filled;
        below = c.raise_row.ensures.grown.grown.below;
        fits = c.requires.close.fits;
        row = omega arith;
      };
  scanned = record { along = c.raise_row.ensures.along; up = c.raise_row.ensures.across };
}

pub loop-y-init : goal.loop-y-init
loop-y-init c =
    let size = c.args.size in
    let mask = rows_of size c.args.mask.now in
    let conn = c.args.conn in
    let rect = c.args.rect in
    record {
      grown = (c.raise_row_along.ensures.grown conn).grown;
      inside = none_inside rect size.w c.args.waiting.now c.requires.empty;
      waits = λ all.
          last_row_waits conn rect mask (rows_of size c.raise_row_along.new.image) c.args.waiting.now (rect.h - 1)
          (omega arith) (c.raise_row_along.ensures.closed conn);
      dark = λ dark. c.is_dark-dark.ensures.0 dark;
    }

pub loop-y-preserved-then-all : goal.loop-y-preserved-then-all
loop-y-preserved-then-all c =
    let grown = c.raise_row.ensures.grown in
    let next : c.loop-y.y ≡ c.loop-y.y - 1 + 1 = omega arith in
    record {
      grown = grown_twice c.loop-y.invariant.grown grown.grown;
      inside = joined_inside c.loop-y.invariant.inside c.queue_downward-all.ensures;
      waits = λ all.
          row_waits grown c.queue_downward-all.ensures all (rw next at (c.loop-y.invariant.waits c.if-all.true));
      dark = λ dark. c.is_dark-dark-in-loop-y.ensures.0 dark;
    }

pub loop-y-preserved : goal.loop-y-preserved
loop-y-preserved c = record {
  grown = grown_twice c.loop-y.invariant.grown c.raise_row.ensures.grown.grown;
  inside = c.loop-y.invariant.inside;
  waits = λ all. absurd (false≢true (sym c.if-all.false ∙ all));
  dark = λ dark. c.is_dark-dark-in-loop-y.ensures.0 dark;
}

pub is_dark-dark-requires-clause-fits : goal.is_dark-dark-requires-clause-fits
is_dark-dark-requires-clause-fits c =
    fits_below (c.raise_row_along.ensures.grown c.args.conn).grown.below c.requires.close.fits

pub is_dark-dark-requires-in-loop-y-clause-fits : goal.is_dark-dark-requires-in-loop-y-clause-fits
is_dark-dark-requires-in-loop-y-clause-fits c = fits_below c.raise_row.ensures.grown.grown.below c.requires.close.fits

pub loop-y-preserved-then-is_dark : goal.loop-y-preserved-then-is_dark
loop-y-preserved-then-is_dark c =
    let size = c.args.size in
    let mask = rows_of size c.args.mask.now in
    let image = rows_of size c.loop-y.image in
    let conn = c.args.conn in
    let rect = c.args.rect in
    let y = c.loop-y.y - 1 in
    let next : c.loop-y.y ≡ y + 1 = omega arith in
    let upper : IsDark rect image y = c.is_dark.ensures.0 c.if-is_dark.true in
    let lower : IsDark rect image (y + 1) = subst (IsDark rect image) next (c.loop-y.invariant.dark c.if-dark.true) in
    record {
      grown = c.loop-y.invariant.grown;
      inside = c.loop-y.invariant.inside;
      waits = λ all.
          dark_waits conn rect mask image c.loop-y.waiting y upper lower
          (subst (λ n. WaitFrom conn rect mask image n c.loop-y.waiting) next (c.loop-y.invariant.waits all));
      dark = λ dark. upper;
    }

pub returns : goal.returns
returns c =
    let size = c.args.size in
    let mask = rows_of size c.args.mask.now in
    record {
      grown = c.loop-y.invariant.grown;
      inside = c.loop-y.invariant.inside;
      waits = λ all.
          all_wait c.args.conn c.args.rect mask (rows_of size c.loop-y.image) c.loop-y.waiting c.loop-y.y
          (omega (arith, c.loop-y-test.false)) (c.loop-y.invariant.waits all);
    }
