use Rattle.std.proofs.Common.{◌≡◌, subst, sym}
use Rattle.core.specs.Mem.Slots.{slots_items}
use Rattle.grid_core.specs.Raster.{IsFilled}
use Rattle.pgm_codec.specs.Graymap.{Graymap}
use Rattle.live_board.proofs.Endings.{IsLast, image_of, last_is, within_mask}
use Rattle.live_board.specs.{Closing.IsImageOf, Seats.keeper_view}
use Rattle.live_board.proofs.closing.finish.Goals.{After-read_off}
use Rattle.live_board.proofs.closing.finish.Goals as goal

-- what was read off the words
last : (c : After-read_off) → IsLast c.args.board.base (keeper_view c.args.keeper) c.read_off.new.image
last c =
    let values = c.close_with-closed.ensures.values.2 in
    last_is c.args.board.table.shared.key c.args.board.base c.args.keeper.seat.id c.args.keeper.generation
    (keeper_view c.args.keeper) (slots_items c.close_with-closed.result.words) c.read_off.new.image values.0
    c.args.board.about c.args.keeper.first c.args.keeper.same values.1 values.2 c.read_off.ensures

pub ending-requires : goal.ending-requires
ending-requires c = (
  c.read_off.ensures.filled,
  within_mask c.args.board.base (keeper_view c.args.keeper) c.read_off.new.image
      (last (goal.at.ending-requires c).After-read_off),
)

pub returns : goal.returns
returns c =
    let base = c.args.board.base in
    let v = keeper_view c.args.keeper in
    let ends = c.ending.ensures in
    let made : c.ending.result.0 ≡ record { raster = c.read_off.new.image; maxval = base.mask.maxval } =
    λ i. record { raster = ends.raster i; maxval = ends.maxval i } in
    subst (λ (g : Graymap). IsImageOf base v g c.ending.result.1) (sym made)
    (image_of base v c.read_off.new.image (last (goal.at.returns c).After-read_off) c.ending.result.1
    c.requires.keeper.below (subst IsFilled (sym c.args.keeper.marked) c.width.ensures.sized.filled) ends.closed_is)
