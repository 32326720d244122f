-- What the tactics leave open of `renew`.
use Rattle.std.proofs.Common.{◌≡◌, length, ap, ◌∙◌, rules, sym, subst, arith}
use Rattle.grid_core.specs.{Raster.Raster, Tiles.Tiles, Tiles.count_of, Tiles.tile_of}
use Rattle.grid_core.proofs.Tilings.{each_pixel_in_one_tile}
use Rattle.marker_tiles.specs.Kept.{IsMarkerOf}
use Rattle.tile_work.specs.Renewing.{IsLowBeyond}
use Rattle.reset_core.specs.Bounding.{FollowChange, FollowResets}
use Rattle.reset_core.proofs.Bounding.{births_rise, follow_resets, follow_rises, follow_twice, low_after_resets}
use Rattle.reset_core.proofs.MergeSteps.{marked_are_reset, births_are_raised}
use Rattle.std.proofs.lemmas.Grind.{common_steps}
use Rattle.reset_core.proofs.replica.merging.renew.Goals as goal

pub raise_to_marker-requires-clause-fits : goal.raise_to_marker-requires-clause-fits
raise_to_marker-requires-clause-fits c =
    let known = c.tiling-tiling.ensures in
    let width = ap (λ (t : Tiles). t.width) known.value ∙ known.width in
    let height = ap (λ (t : Tiles). t.height) known.value ∙ known.height in
    rw (height, width) c.requires.renew.fits

pub raise_to_marker-requires-clause-low : goal.raise_to_marker-requires-clause-low
raise_to_marker-requires-clause-low c =
    let tiles = c.tiling-tiling.result in
    let state = c.args.state.now in
    let image = c.args.image.now in
    let made = c.apply.new.self in
    let same = c.tiling-tiling.ensures.value in
    let count : length c.args.work.now ≡ count_of tiles = c.requires.renew.unspent.works ∙ ap count_of (sym same) in
    let width : image.width ≡ tiles.width = c.requires.renew.on_tiling.width ∙ ap (λ (t : Tiles). t.width) (sym same) in
    let height : image.height ≡ tiles.height =
    c.requires.renew.on_tiling.height ∙ ap (λ (t : Tiles). t.height) (sym same) in
    let of_births : IsLowBeyond state c.args.change.now.born made.marker image =
    c.requires.renew.low made.marker
    (subst (λ (mask : Raster). IsMarkerOf mask state made.marker) c.apply.ensures.mask c.apply.ensures.marks) in
    low_after_resets tiles c.args.marks.now state c.born.result.now c.marker-marker.result.now image
    c.reset_marked.new.image c.args.work.now c.reset_marked.new.work c.side.ensures.tiled width height count
    c.reset_marked.ensures.reset (rw (c.marker-marker.ensures.value, c.born.ensures) of_births)

pub returns-clause-renewed : goal.returns-clause-renewed
returns-clause-renewed c =
    let tiles = c.tiling-tiling.ensures.value in
    let marker = c.marker-marker.ensures.value in
    record {
      marker = record { mask = c.apply.ensures.mask; tiling = c.apply.ensures.tiling; marker = c.apply.ensures.marks };
      marks_are = search rules;
      image_is = record {
        middle = c.reset_marked.new.image;
        between = c.reset_marked.new.work;
        reset =
            marked_are_reset c.tiling-tiling.result c.args.markers.now.tiling tiles c.marker-marker.result.now
            c.apply.new.self.marker marker c.args.marks.now c.args.image.now c.reset_marked.new.image c.args.work.now
            c.reset_marked.new.work c.reset_marked.ensures.reset;
        raised =
            births_are_raised c.tiling-tiling.result c.args.markers.now.tiling tiles c.marker-marker.result.now
            c.apply.new.self.marker marker c.args.change.now c.args.state.now c.reset_marked.new.image
            c.raise_to_marker.new.image c.reset_marked.new.work c.raise_to_marker.new.work c.born.result.now
            c.born.ensures c.raise_to_marker.ensures.raised;
      };
    }

pub returns-clause-bounds : goal.returns-clause-bounds
returns-clause-bounds c conn =
    let tiles = c.tiling-tiling.result in
    let old = c.args.image.now in
    let middle = c.reset_marked.new.image in
    let new = c.raise_to_marker.new.image in
    let tiled = c.side.ensures.tiled in
    let same = c.tiling-tiling.ensures.value in
    let count : length c.args.bounds.now ≡ count_of tiles = c.requires.bounds ∙ ap count_of (sym same) in
    let works : length c.args.work.now ≡ count_of tiles = c.requires.renew.unspent.works ∙ ap count_of (sym same) in
    let resets = c.reset_marked.ensures in
    let first : FollowChange tiles conn old middle c.args.bounds.now c.reset_marked.new.bounds =
    follow_resets tiles conn c.args.marks.now c.marker-marker.result.now old middle c.args.work.now
    c.reset_marked.new.work c.args.bounds.now c.reset_marked.new.bounds tiled works resets.reset resets.bounds in
    let width : middle.width ≡ tiles.width =
    resets.reset.size.width ∙ c.requires.renew.on_tiling.width ∙ ap (λ (t : Tiles). t.width) (sym same) in
    let height : middle.height ≡ tiles.height =
    resets.reset.size.height ∙ c.requires.renew.on_tiling.height ∙ ap (λ (t : Tiles). t.height) (sym same) in
    let second : FollowChange tiles conn middle new c.reset_marked.new.bounds c.raise_to_marker.new.bounds =
    follow_rises tiles conn middle new c.reset_marked.new.bounds c.raise_to_marker.new.bounds
    (births_rise tiles c.born.result.now c.args.state.now c.marker-marker.result.now middle new
    c.reset_marked.new.work c.raise_to_marker.new.work width height c.raise_to_marker.ensures.raised)
    c.raise_to_marker.ensures.bounds in
    let done : FollowResets tiles conn c.args.marks.now old new c.args.bounds.now c.raise_to_marker.new.bounds =
    record {
      follow =
          follow_twice tiles conn old middle new c.args.bounds.now c.reset_marked.new.bounds
          c.raise_to_marker.new.bounds tiled count first second;
      own = λ p inside marked.
          second.widened.kept (tile_of tiles p) p
          (omega (arith, (each_pixel_in_one_tile tiles p tiled inside).0, first.widened.count, count))
          (resets.bounds.own p inside marked);
    } in
    rw same at done

pub reset_marked-requires-clause-marks : goal.reset_marked-requires-clause-marks
reset_marked-requires-clause-marks c = grind (arith, common_steps)

pub raise_to_marker-requires-clause-parts : goal.raise_to_marker-requires-clause-parts
raise_to_marker-requires-clause-parts c = grind (arith, common_steps)
