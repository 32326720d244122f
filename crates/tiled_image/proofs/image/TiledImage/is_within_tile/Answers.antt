-- What the tactics leave open of `is_within_tile`.
use Rattle.std.proofs.Common.{refl}
use Rattle.tiled_image.proofs.ByPixels.{one_more_row}
use Rattle.tiled_image.proofs.image.TiledImage.is_within_tile.Goals as goal

pub loop-y-preserved : goal.loop-y-preserved
loop-y-preserved c =
    one_more_row c.args.is_equal c.rect-rect.result c.args.self.now.image c.args.piece.now c.loop-y.y
    c.loop-y.invariant (c.if-not-is_row_within.ensures.0 refl)
