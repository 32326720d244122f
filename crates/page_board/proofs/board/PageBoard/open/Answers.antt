-- What the tactics leave open of `open`.
use Rattle.std.proofs.Common.{◌≡◌, sym, ap, ◌∙◌, false, replicate}
use Rattle.grid_core.specs.{Raster.Raster, Tiles.count_of}
use Rattle.core_rules.specs.{Opening.opened, Work.tiling}
use Rattle.page_board.proofs.Opened.{opened_is, opened_is_stored}
use Rattle.page_board.proofs.board.PageBoard.open.Goals as goal

pub invariant_of-result : goal.invariant_of-result
invariant_of-result c =
    let tiles : c.count-tiles.result ≡ count_of (tiling c.in-Ok.core) =
    c.count-tiles.ensures.value ∙ ap count_of c.tiling.ensures.value in
    opened_is_stored _ c.args.mask c.args.conn c.args.side c.args.run
    (opened_is c.args.mask c.args.conn c.args.side c.args.run c.in-Ok.core c.maxval-maxval.result
    c.count-tiles.result c.in-Ok-first_steps.shown.items c.new.result.items
    (c.in-Ok.ensures.opened.0 ∙ ap (λ (r : Raster). opened r c.args.conn c.args.side 0) c.into_grid.ensures)
    c.maxval-maxval.ensures.value tiles c.tiling.ensures.count c.in-Ok-first_steps.ensures.shown c.new.ensures.items)
    c.maxval-maxval.ensures.is_graymap c.in-Ok.ensures.opened.1 c.print_of-print.ensures
    (c.in-Ok-first_steps.ensures.marks ∙ ap (λ n. replicate n false) (tiles ∙ sym c.tiling.ensures.count))
