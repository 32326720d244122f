-- What the tactics leave open of `rows`.
use Rattle.std.proofs.Common.{ap, ◌∙◌, refl}
use Rattle.tile_work.specs.TileSet.{Has}
use Rattle.tiled_image.specs.{RaisedTiles.whole_of, TiledImage.TiledRaster}
use Rattle.tiled_image.proofs.{AllKept.seen, AllKept.with_all, LaidRims.plainly_shown}
use Rattle.tiled_image.proofs.image.TiledImage.rows.Goals as goal

pub invariant_of-self : goal.invariant_of-self
invariant_of-self c =
    let i = c.self.inside in
    let whole = whole_of i.tiling i.rows i.parts i.newer i.rims in
    let done = c.write_all.ensures in
    with_all {below = whole} c.write_all.new.raised done.kept
    (plainly_shown (Has c.write_all.new.raised) i.tiling whole i.rims c.self.invariant.shown.of_tiling
    c.self.invariant.shown.rims_are) (done.count ∙ c.self.invariant.count) c.self.invariant.copies_are

pub returns : goal.returns
returns c =
    let i = c.self.inside in
    let whole = whole_of i.tiling i.rows i.parts i.newer i.rims in (
      (
        refl,
        λ w. tt,
        seen {below = whole} c.write_all.new.raised c.write_all.ensures.kept
            (plainly_shown (Has c.write_all.new.raised) i.tiling whole i.rims c.self.invariant.shown.of_tiling
            c.self.invariant.shown.rims_are)
            ∙ c.self.view_is,
      ),
      record {
        same = tt;
        rows = c.write_all.ensures.rows ∙ ap (λ (r : TiledRaster). r.image) c.self.view_is;
      },
    )
