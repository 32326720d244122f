use Rattle.std.proofs.Common.{◌+◌, ◌<◌, refl, sym, subst, arith, length}
use Rattle.grid_core.specs.Tiles.{Tiles}
use Rattle.reset_core.specs.declared.replica.bands.Band.{Band}
use Rattle.reset_core.specs.Bands.{IsInner, IsSweptInBand}
use Rattle.reset_core.specs.Telling.{both_on}
use Rattle.reset_core.specs.BandParts.{strip_of}
use Rattle.reset_core.proofs.Bands.Inside.{band_below, band_bounded, still_somewhere}
use Rattle.reset_core.proofs.Bands.InPlace.{swept_in_band}
use Rattle.reset_core.proofs.Bands.Parts.{none_swept, one_swept_more, still_ready, swept_to_the_end}
use Rattle.reset_core.proofs.replica.bands.Band.sweep.Goals as goal

pub loop-self-init : goal.loop-self-init
loop-self-init c = record {
  swept = none_swept c.args.whole.now c.args.above c.args.mask.now c.args.self.now c.args.image.now;
  somewhere = c.requires.somewhere;
}

pub sweep_one-requires-clause-below : goal.sweep_one-requires-clause-below
sweep_one-requires-clause-below c =
    band_below c.args.whole.now c.args.above (strip_of c.loop-self.self c.args.mask.now c.loop-self.image)
    c.loop-self.invariant.somewhere

pub sweep_one-requires-clause-bounded : goal.sweep_one-requires-clause-bounded
sweep_one-requires-clause-bounded c =
    band_bounded c.args.whole.now c.args.above (strip_of c.loop-self.self c.args.mask.now c.loop-self.image)
    c.loop-self.invariant.somewhere

pub loop-self-preserved : goal.loop-self-preserved
loop-self-preserved c =
    let whole = c.args.whole.now in
    let above = c.args.above in
    let mask = c.args.mask.now in
    let before = c.args.self.now in
    let now = c.loop-self.self in
    let image = c.loop-self.image in
    let new = c.sweep_one.new.image in
    let tile = c.in-Some.tile in
    let after : Band = record {
      conn = now.conn;
      tiling = now.tiling;
      work = c.sweep_one.new.work;
      bounds = c.sweep_one.new.bounds;
      swept = c.insert.new.self;
      jobs = now.jobs + 1;
      limit = now.limit;
      least = now.least;
      room = c.sweep_one.new.room;
      told = c.sweep_one.new.told;
    } in
    let so_far = c.loop-self.invariant.swept in
    let somewhere = c.loop-self.invariant.somewhere in
    let ready = still_ready before so_far.ts now c.requires.ready so_far.counted in
    let least = c.in-Some.ensures.0 in
    let inner : IsInner whole above now.tiling tile =
    subst (λ (tiles : Tiles). IsInner whole above tiles tile) (sym so_far.counted.tiling)
    ((c.inner_tiles-first.ensures.inner tile).0 (least.0, c.if-tile-end.false)) in
    let step : IsSweptInBand whole above (strip_of now mask image).core now.bounds tile
    (strip_of after mask new).core after.bounds =
    swept_in_band whole above (strip_of now mask image).core now.bounds tile (both_on now.tiling new after.work)
    after.bounds inner least.1.0 c.sweep_one.ensures.swept in
    let within : tile < length now.swept = omega (arith, least.1.0.0, ready.count, somewhere.is.fits.works) in
    record {
      swept =
          one_swept_more whole above mask before c.args.image.now now image tile after new so_far step
          c.sweep_one.auto.image within c.insert.ensures refl c.loop-self-test.true refl refl refl
          refl c.sweep_one.ensures.enough;
      somewhere =
          still_somewhere whole above (strip_of now mask image) somewhere c.edges_are_open.ensures tile
          (strip_of after mask new).core after.bounds step;
    }

pub returns-in_default : goal.returns-in_default
returns-in_default c =
    swept_to_the_end c.args.whole.now c.args.above c.args.mask.now c.args.self.now c.args.image.now c.loop-self.self
    c.loop-self.image c.inner_tiles-first.result.0 c.inner_tiles-first.result.1 c.loop-self.invariant.swept
    c.loop-self.invariant.somewhere c.inner_tiles-first.ensures.inner
    (λ more few t from before can. c.in_default.ensures t from can)

pub returns-then-tile-end : goal.returns-then-tile-end
returns-then-tile-end c =
    swept_to_the_end c.args.whole.now c.args.above c.args.mask.now c.args.self.now c.args.image.now c.loop-self.self
    c.loop-self.image c.inner_tiles-first.result.0 c.inner_tiles-first.result.1 c.loop-self.invariant.swept
    c.loop-self.invariant.somewhere c.inner_tiles-first.ensures.inner
    (λ more few t from before can.
    absurd (omega (arith, before, c.if-tile-end.true, c.in-Some.ensures.1 t (from, can))))

pub returns : goal.returns
returns c =
    swept_to_the_end c.args.whole.now c.args.above c.args.mask.now c.args.self.now c.args.image.now c.loop-self.self
    c.loop-self.image c.inner_tiles-first.result.0 c.inner_tiles-first.result.1 c.loop-self.invariant.swept
    c.loop-self.invariant.somewhere c.inner_tiles-first.ensures.inner
    (λ more few t from before can. absurd (omega (arith, more, c.loop-self-test.false)))
