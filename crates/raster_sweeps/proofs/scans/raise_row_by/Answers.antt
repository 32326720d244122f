use Rattle.std.proofs.Common.{◌≡◌, ◌+◌, ◌*◌, ◌≤◌, arith, inl, inr}
use Rattle.std.proofs.{Math.Nat.mul-le-mul_right, lemmas.Bool.cases_lt}
use Rattle.grid_core.specs.Neighbours.{apart}
use Rattle.raster_sweeps.proofs.RowGrowth.{fits, from_can_grow, grown_by, none_open_by, row_within, to_can_grow}
use Rattle.raster_sweeps.proofs.scans.raise_row_by.Goals as goal

pub raise_cells_by-requires : goal.raise_cells_by-requires
raise_cells_by-requires c =
    let w = c.args.size.w in
    let rect = c.args.rect in
    let y = c.args.to in
    let z = c.args.from in
    let long = c.row_in-limits.ensures.long in
    let rect_fits = fits (to_can_grow c.requires) in
    record {
      some = omega (arith, long, rect_fits.some_width);
      source_within = omega (arith, long, row_within (from_can_grow c.requires));
      target_within = omega (arith, long, row_within (to_can_grow c.requires));
      apart =
          elim (cases_lt z y) [
            | inl before ↦
                let rows : (rect.y + z + 1) * w ≤ (rect.y + y) * w = mul-le-mul_right w (omega (arith, before)) in
                inl (omega (arith, rows, long, rect_fits.columns))
            | inr behind ↦
                let rows : (rect.y + y + 1) * w ≤ (rect.y + z) * w =
                mul-le-mul_right w (omega (arith, behind, c.requires.touch)) in
                inr (omega (arith, rows, long, rect_fits.columns))
          ];
    }

pub returns : goal.returns
returns c =
    let touch : apart c.args.to c.args.from ≡ 1 = omega (arith, c.requires.touch) in
    let from = from_can_grow c.requires in
    let to = to_can_grow c.requires in
    record {
      grown = grown_by to c.row_in-limits.ensures from touch c.raise_cells_by.ensures;
      closed = none_open_by to c.row_in-limits.ensures from touch c.raise_cells_by.ensures;
    }
