-- What the tactics leave open of `are_linked`.
use Rattle.tile_work.proofs.HittingTouching.{rects_to_tiles, tiles_to_rects}
use Rattle.tile_work.proofs.hits.links.Links.are_linked.Goals as goal

pub returns : goal.returns
returns c =
    let tiles = c.args.self.now.tiling in
    let image = c.args.self.now.image.now in
    let conn = c.args.self.now.conn in
    let tiled = c.side.ensures.tiled in
    let one = c.each_pixel_in_one_tile.ensures in (
      λ linked. rects_to_tiles tiles image conn tiled one c.args.tile c.args.other c.requires.tile c.requires.other
          c.rect.result c.rect-2.result c.rect.ensures.value c.rect-2.ensures.value c.rect.ensures.fits
          c.rect-2.ensures.fits (c.are_rects_linked.ensures.0 linked),
      λ linked. c.are_rects_linked.ensures.1 (tiles_to_rects tiles image conn tiled one c.args.tile c.args.other
          c.requires.tile c.requires.other c.rect.result c.rect-2.result c.rect.ensures.value c.rect-2.ensures.value
          linked),
    )
