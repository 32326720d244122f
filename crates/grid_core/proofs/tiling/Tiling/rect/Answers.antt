use Rattle.std.proofs.Common.{◌≡◌, ◌-◌, ◌*◌, ap, subst, ◌∙◌, min}
use Rattle.grid_core.specs.Tiles.{Tiles, IsTiled, column_of, row_of, rect_of}
use Rattle.grid_core.proofs.Tilings.{tiles_lie_inside}
use Rattle.grid_core.proofs.tiling.Tiling.rect.Goals as goal

pub returns-clause-fits : goal.returns-clause-fits
returns-clause-fits c =
    let t = c.args.self.now in
    let tile = c.args.tile in
    let same = c.self.view_is in
    let width = ap (λ (t : Tiles). t.width) same in
    let height = ap (λ (t : Tiles). t.height) same in
    let side = ap (λ (t : Tiles). t.side) same in
    let x : c.column.result * c.self.inside.side ≡ column_of t tile * t.side = λ i. c.column.ensures.value i * side i in
    let y : c.row.result * c.self.inside.side ≡ row_of t tile * t.side = λ i. c.row.ensures.value i * side i in
    let w : c.min.result ≡ (rect_of t tile).w = c.min.ensures ∙ (λ i. min (side i) (width i - x i)) in
    let h : c.min-2.result ≡ (rect_of t tile).h = c.min-2.ensures ∙ (λ i. min (side i) (height i - y i)) in
    let fits = tiles_lie_inside t tile (subst (λ (t : Tiles). IsTiled t) same c.self.invariant) c.requires in
    record {
      some_width = rw w fits.some_width;
      some_height = rw h fits.some_height;
      columns = rw (x, w) fits.columns;
      rows = rw (y, h) fits.rows;
    }
