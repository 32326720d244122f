use Rattle.std.proofs.Common.{◌≡◌, ◌+◌, ◌-◌, sym, ◌∙◌, subst, arith}
use Rattle.std.proofs.lemmas.Bool.{false≢true}
use Rattle.raster_sweeps.specs.{Growth.WaitFrom, Growth.rows_of, RowPairs.NoneOpen}
use Rattle.raster_sweeps.proofs.{Grown.grown_twice, Growing.grown_nowhere}
use Rattle.raster_sweeps.proofs.Scanning.{IsNotUpFrom, all_wait, joined_inside, last_waits, none_inside, none_up_above}
use Rattle.raster_sweeps.proofs.Scanning.{none_up_from, none_up_grown, passed_waits, row_waits}
use Rattle.raster_sweeps.proofs.scans.scan_back.Goals as goal

pub queue_downward-all-requires : goal.queue_downward-all-requires
queue_downward-all-requires c = record {
  grow =
      record {
        size = c.requires.close.size;
        filled = c.raise_row.ensures.grown.grown.filled ∙ c.loop-y.invariant.grown.filled ∙ c.requires.close.filled;
        mask_filled = c.requires.close.mask_filled;
        below = c.raise_row.ensures.grown.grown.below;
        fits = c.requires.close.fits;
        row = omega arith;
      };
  scanned = record { along = c.raise_row.ensures.along; up = c.raise_row.ensures.across };
}

pub loop-y-init : goal.loop-y-init
loop-y-init c =
    let size = c.args.size in
    let rect = c.args.rect in
    let mask = rows_of size c.args.mask.now in
    let image = rows_of size c.args.image.now in
    let waiting = c.args.waiting.now in
    record {
      grown = grown_nowhere c.requires.close;
      inside = none_inside rect size.w waiting c.requires.empty;
      closed = none_up_from c.args.conn rect mask image (rect.h - 1) c.requires.scanned;
      waits = λ all.
          last_waits c.args.conn rect mask image (rect.h - 1) waiting (omega arith) c.requires.scanned;
    }

pub loop-y-preserved-then-is_closed_from : goal.loop-y-preserved-then-is_closed_from
loop-y-preserved-then-is_closed_from c =
    let size = c.args.size in
    let mask = rows_of size c.args.mask.now in
    let image = rows_of size c.loop-y.image in
    let conn = c.args.conn in
    let rect = c.args.rect in
    let next : c.loop-y.y ≡ c.loop-y.y - 1 + 1 = omega arith in
    let closed : NoneOpen conn rect mask image (IsNotUpFrom (c.loop-y.y - 1 + 1)) =
    subst (λ n. NoneOpen conn rect mask image (IsNotUpFrom n)) next c.loop-y.invariant.closed in
    record {
      grown = c.loop-y.invariant.grown;
      inside = c.loop-y.invariant.inside;
      closed = none_up_above conn rect mask image (c.loop-y.y - 1) closed;
      waits = λ all.
          passed_waits conn rect mask image (c.loop-y.y - 1) c.loop-y.waiting
          (c.is_closed_from.ensures c.if-is_closed_from.true) closed
          (subst (λ n. WaitFrom conn rect mask image n c.loop-y.waiting) next (c.loop-y.invariant.waits all));
    }

pub loop-y-preserved-then-all : goal.loop-y-preserved-then-all
loop-y-preserved-then-all c =
    let grown = c.raise_row.ensures.grown in
    let next : c.loop-y.y ≡ c.loop-y.y - 1 + 1 = omega arith in
    record {
      grown = grown_twice c.loop-y.invariant.grown grown.grown;
      inside = joined_inside c.loop-y.invariant.inside c.queue_downward-all.ensures;
      closed = none_up_grown grown (rw next at c.loop-y.invariant.closed);
      waits = λ all.
          row_waits grown c.queue_downward-all.ensures all (rw next at (c.loop-y.invariant.waits c.if-all.true));
    }

pub loop-y-preserved : goal.loop-y-preserved
loop-y-preserved c =
    let grown = c.raise_row.ensures.grown in
    let next : c.loop-y.y ≡ c.loop-y.y - 1 + 1 = omega arith in
    record {
      grown = grown_twice c.loop-y.invariant.grown grown.grown;
      inside = c.loop-y.invariant.inside;
      closed = none_up_grown grown (rw next at c.loop-y.invariant.closed);
      waits = λ all. absurd (false≢true (sym c.if-all.false ∙ all));
    }

pub returns : goal.returns
returns c =
    let size = c.args.size in
    let mask = rows_of size c.args.mask.now in
    record {
      grown = c.loop-y.invariant.grown;
      inside = c.loop-y.invariant.inside;
      waits = λ all.
          all_wait c.args.conn c.args.rect mask (rows_of size c.loop-y.image) c.loop-y.waiting c.loop-y.y
          (omega (arith, c.loop-y-test.false)) (c.loop-y.invariant.waits all);
    }
