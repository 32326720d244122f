use Rattle.std.proofs.Common.{◌≡◌, ◌*◌, [], ◌∷◌, ◌++◌, length, subst, arith}
use Rattle.grid_core.specs.{Raster.value_at, Path.domain_of}
use Rattle.raster_sweeps.specs.Flood.{IsSeeded}
use Rattle.raster_sweeps.proofs.Flood.Flooding.{flood_pops, flood_ends}
use Rattle.raster_sweeps.proofs.thresholds.flood_level.Goals as goal

pub spread-requires : goal.spread-requires
spread-requires c =
    let mask = c.args.source.now.mask.now in
    let marker = c.args.source.now.marker.now in
    let conn = c.args.source.now.conn in
    let same : c.loop-pixel.waiting.items ≡ c.pop.new.self.items ++ c.in-Some.pixel ∷ [] = c.in-Some.ensures.items in
    record {
      below = c.loop-pixel.invariant.below;
      sized = c.loop-pixel.invariant.sized;
      flooding =
          flood_pops (domain_of mask conn) (value_at mask) (value_at marker) (value_at c.loop-pixel.image) c.args.level
          (mask.width * mask.height) c.pop.new.self.items c.in-Some.pixel
          (subst (λ xs. IsSeeded conn mask marker c.args.level c.loop-pixel.image xs) same
          c.loop-pixel.invariant.flooding);
    }

pub returns : goal.returns
returns c =
    let mask = c.args.source.now.mask.now in
    let none : length c.loop-pixel.waiting.items ≡ 0 =
    omega (arith, c.in_default.ensures.cases, c.loop-pixel.waiting.ok.0) in
    record {
      below = c.loop-pixel.invariant.below;
      sized = c.loop-pixel.invariant.sized;
      done =
          flood_ends (domain_of mask c.args.source.now.conn) (value_at mask) (value_at c.args.source.now.marker.now)
          (value_at c.loop-pixel.image) c.args.level c.loop-pixel.waiting.items none c.loop-pixel.invariant.flooding;
    }
