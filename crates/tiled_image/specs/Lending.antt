-- What a tiled image is once its rows, lent to be read, are given back.
use Rattle.std.specs.Prelude.{◌≡◌, ⊤}
use Rattle.std.specs.Borrow.{follows_so, MutBor, Fml}
use mathlib.Core.Option.{none}
use Rattle.tiled_image.specs.{TiledImage.TiledRaster, contracts.image.TiledImage.the_row}

-- once the borrow of the rows ends, the image is what it was
abbrev pub StaysSame : MutBor TiledRaster → Fml
StaysSame image = follows_so the_row the_row image.ghost_name none (λ _ _. ⊤) (λ last. last ≡ image.now)
