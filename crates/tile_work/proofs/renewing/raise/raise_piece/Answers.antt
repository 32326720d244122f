-- What the tactics leave open of `raise_piece`.
use Rattle.std.proofs.Common.{◌∙◌, ap, arith, slice_set}
use Rattle.std.proofs.lemmas.Bool.{iff_false}
use Rattle.grid_core.specs.Bounds.{joined}
use Rattle.tile_work.specs.OpenBounds.{bounds_for}
use Rattle.tile_work.proofs.RenewingBounds.{piece_rises_within, piece_stays_within}
use Rattle.tile_work.proofs.RenewingRises.{still_on, piece_made_dirty, piece_made_nowhere}
use Rattle.tile_work.proofs.renewing.raise.raise_piece.Goals as goal

pub raise_span-requires-clause-size : goal.raise_span-requires-clause-size
raise_span-requires-clause-size c = c.requires.at_hand.size

pub raise_span-requires-clause-span : goal.raise_span-requires-clause-span
raise_span-requires-clause-span c = record {
  row = omega (arith, c.requires.piece.row, c.requires.at_hand.marker_is.height);
  order = omega (arith, c.requires.piece.some);
  columns = omega (arith, c.requires.piece.columns, c.requires.at_hand.marker_is.width);
}

pub tile_of-tile-requires : goal.tile_of-tile-requires
tile_of-tile-requires c = (omega (arith, c.requires.piece.some, c.requires.piece.columns), c.requires.piece.row)

pub mark_dirty-requires : goal.mark_dirty-requires
mark_dirty-requires c = omega (arith, c.tile_of-tile.ensures.within, c.requires.at_hand.count)

pub widen-requires : goal.widen-requires
widen-requires c = omega (arith, c.tile_of-tile.ensures.within, c.requires.bounds)

pub bounds_of_span-requires : goal.bounds_of_span-requires
bounds_of_span-requires c = omega (arith, c.requires.tiled.size.height_within, c.requires.piece.row)

pub returns-then-raise_span-clause-raised : goal.returns-then-raise_span-clause-raised
returns-then-raise_span-clause-raised c =
    let given = c.requires.at_hand in
    piece_made_dirty c.args.piece (still_on given.marker_is given.size) c.requires.piece.side c.requires.piece.tile
    c.tile_of-tile.ensures.value
    (omega (arith, c.tile_of-tile.ensures.within, c.tile_of-tile.ensures.value, given.count)) c.mark_dirty.ensures
    c.raise_span.ensures.values (c.raise_span.ensures.rose.0 c.if-raise_span.true)

pub returns-then-raise_span-clause-bounds : goal.returns-then-raise_span-clause-bounds
returns-then-raise_span-clause-bounds c =
    piece_rises_within c.args.piece c.args.bounds.now
    (still_on c.requires.at_hand.marker_is c.requires.at_hand.size) c.requires.tiled c.requires.piece
    c.each_pixel_in_one_tile.ensures c.tile_of-tile.ensures.value c.requires.bounds
    (c.widen.ensures ∙ ap (λ b. slice_set c.args.bounds.now c.tile_of-tile.result
    (joined (bounds_for c.args.bounds.now c.tile_of-tile.result) b)) c.bounds_of_span.ensures)
    c.raise_span.ensures.values

pub returns-else-raise_span-clause-raised : goal.returns-else-raise_span-clause-raised
returns-else-raise_span-clause-raised c =
    piece_made_nowhere c.args.piece (still_on c.requires.at_hand.marker_is c.requires.at_hand.size)
    c.raise_span.ensures.values (iff_false c.raise_span.ensures.rose c.if-raise_span.false)

pub returns-else-raise_span-clause-bounds : goal.returns-else-raise_span-clause-bounds
returns-else-raise_span-clause-bounds c =
    piece_stays_within c.args.piece (still_on c.requires.at_hand.marker_is c.requires.at_hand.size)
    c.raise_span.ensures.values (iff_false c.raise_span.ensures.rose c.if-raise_span.false)
