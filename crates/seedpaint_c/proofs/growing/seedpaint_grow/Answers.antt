use Rattle.std.proofs.Common.{◌≡◌, ◌*◌, length, rules}
use Rattle.grid_core.specs.{Raster.value_at, Rects.domain_in, Rects.part}
use Rattle.grid_core.proofs.Images.{closed_is_reconstruction}
use Rattle.raster_sweeps.proofs.{Grown.grown_filled, Whole.whole, Whole.whole_reconstruction}
use Rattle.seedpaint_c.specs.Cells.{image_of}
use Rattle.seedpaint_c.proofs.growing.seedpaint_grow.Goals as goal

pub returns-clause-grown : goal.returns-clause-grown
returns-clause-grown c =
    let w = c.args.w in
    let h = c.args.h in
    let conn = c.in-Some.connectivity in
    let rect = whole w h in
    let mask = image_of w h c.args.mask.now in
    let before = image_of w h c.args.image.now in
    let after = image_of w h c.close.new.image in
    let grown = c.close.ensures.grown in
    let filled : length c.args.image.now ≡ w * h = search rules in
    λ _. record {
      conn = conn;
      named = c.in-Some.ensures;
      holds = record {
        filled = grown_filled filled grown;
        width = grown.below.width;
        height = grown.below.height;
        below = grown.below;
        reconstruction =
            whole_reconstruction w h conn (value_at mask) (value_at before) (value_at after)
            (closed_is_reconstruction (domain_in rect conn) (part rect (value_at mask)) (part rect (value_at before))
            (part rect (value_at after)) grown.lawful c.close.ensures.closed);
      };
    }
