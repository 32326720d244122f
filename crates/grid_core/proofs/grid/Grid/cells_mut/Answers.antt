use Rattle.std.proofs.Common.{refl, ap, subst, ◌∙◌}
use Rattle.std.specs.List.{refill}
use Rattle.grid_core.specs.{Raster.Raster, Raster.IsSized, Lending.with_cells}
use Rattle.grid_core.proofs.grid.Grid.cells_mut.Goals as goal

pub returns : goal.returns
returns c =
    let same = c.self.view_is in
    let cells = c.self.inside.cells in (
      (
        refl,
        λ w. (λ i. record {
          width = c.self.inside.w;
          height = c.self.inside.h;
          cells = refill (cells.ok.0 i) cells.items w;
        })
            ∙ ap (λ (r : Raster). with_cells r w) same,
      ),
      record {
        writes_back = tt;
        values = c.as_mut_slice.ensures.value ∙ ap (λ (r : Raster). r.cells) same;
        sized = subst (λ (r : Raster). IsSized r) same c.self.invariant;
      },
    )
