use Rattle.std.proofs.Common.{◌≡◌, ◌+◌, ◌-◌, ◌*◌, replicate, subst, arith, rules}
use Rattle.grid_core.specs.{Raster.value_at, Path.domain_of}
use Rattle.raster_sweeps.specs.Flood.{IsLevelDone}
use Rattle.raster_sweeps.proofs.Flood.Flooding.{zeros_sized, zeros_flooded, flood_is_reconstruction, flooded_below}
use Rattle.raster_sweeps.proofs.{Flood.Cells.filled_on, Flood.Seeding.marker_at_most}
use Rattle.raster_sweeps.proofs.thresholds.slow.Goals as goal

pub loop-done-init : goal.loop-done-init
loop-done-init c =
    let d = domain_of c.args.mask.now c.args.conn in
    let cells = c.in_ok-cells.cells.items in
    let wide = c.width-width.ensures.value in
    let high = c.height-height.ensures.value in
    let zeros : cells ≡ replicate (c.width-width.result * c.height-height.result) 0 =
    c.in_ok-cells.ensures.items_if_clones_equal (λ y. search rules) in
    rw c.from_cells-image.ensures (record {
      sized = zeros_sized d c.width-width.result c.height-height.result cells wide high zeros;
      done =
          zeros_flooded d (value_at c.args.mask.now) (value_at c.args.marker.now) c.width-width.result
          c.height-height.result cells wide high zeros;
    })

pub flood_level-requires-clause-before : goal.flood_level-requires-clause-before
flood_level-requires-clause-before c =
    let before : c.loop-done.done ≡ c.loop-done.done + 1 - 1 = omega arith in
    record {
      below = c.requires;
      sized = c.loop-done.invariant.sized;
      done =
          subst (λ n. IsLevelDone c.args.conn c.args.mask.now c.args.marker.now n c.loop-done.image) before
          c.loop-done.invariant.done;
    }

pub loop-done-preserved : goal.loop-done-preserved
loop-done-preserved c = record { sized = c.in_ok-flood_level.ensures.sized; done = c.in_ok-flood_level.ensures.done }

pub returns : goal.returns
returns c =
    let mask = c.args.mask.now in
    let marker = c.args.marker.now in
    let d = domain_of mask c.args.conn in
    let top = c.greatest-done-end.result in
    let sized = c.loop-done.invariant.sized in
    let all : c.loop-done.done ≡ top = omega (arith, c.loop-done-test.false, c.loop-done.auto.done-end) in
    record {
      filled = filled_on d c.loop-done.image sized;
      width = sized.width;
      height = sized.height;
      below =
          flooded_below c.args.conn mask (value_at marker) c.loop-done.done c.loop-done.image sized
          c.loop-done.invariant.done;
      reconstruction =
          flood_is_reconstruction d (value_at mask) (value_at marker) (value_at c.loop-done.image) top
          (marker_at_most c.args.conn mask marker c.cells.result.now top c.requires c.cells.ensures.sized.filled
          c.cells.ensures.values c.greatest-done-end.ensures.each)
          (subst (λ n. IsLevelDone c.args.conn mask marker n c.loop-done.image) all c.loop-done.invariant.done);
    }
