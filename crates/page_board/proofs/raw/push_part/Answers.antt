use Rattle.std.proofs.Common.{◌≡◌, arith, subst}
use Rattle.pgm_codec.specs.Graymap.{Graymap}
use Rattle.page_board.proofs.Samples.{PutsRows, all_rows, no_row, row_more, row_within}
use Rattle.page_board.proofs.raw.push_part.Goals as goal

pub loop-y-init : goal.loop-y-init
loop-y-init c =
    no_row (record { raster = c.args.image.now; maxval = c.args.maxval }) c.args.rect c.args.out.now.items

pub push_samples-requires : goal.push_samples-requires
push_samples-requires c =
    row_within (record { raster = c.args.image.now; maxval = c.args.maxval }) c.args.rect c.loop-y.y c.row_in.result.now
    c.requires.graymap c.requires.fits c.loop-y-test.true c.row_in.ensures

pub loop-y-preserved : goal.loop-y-preserved
loop-y-preserved c =
    row_more (record { raster = c.args.image.now; maxval = c.args.maxval }) c.args.rect c.loop-y.y c.row_in.result.now
    c.args.out.now.items c.loop-y.out.items c.push_samples.new.out.items c.loop-y.invariant c.row_in.ensures
    c.in_ok-push_samples.ensures

pub returns : goal.returns
returns c =
    let g : Graymap = record { raster = c.args.image.now; maxval = c.args.maxval } in
    let end : c.loop-y.y ≡ c.args.rect.h = omega (arith, c.loop-y-test.false, c.loop-y.auto.y-end) in
    all_rows g c.args.rect c.args.out.now.items c.loop-y.out.items
    (subst (λ rows. PutsRows g c.args.rect rows c.args.out.now.items c.loop-y.out.items) end c.loop-y.invariant)
