-- Cells that were lent to be changed are given back.
use Rattle.std.proofs.Common.{◌≡◌, ℕ, List, ◌++◌, length, take, drop, sym, ap, ◌∙◌}
use Rattle.std.proofs.Math.Seq.{take-append_seam}
use Rattle.std.specs.List.{refill}
use Rattle.grid_core.specs.{Raster.Raster, Lending.with_cells}

pub cells_given_back : (r : Raster) (cells : List ℕ) → length cells ≡ length r.cells
    → with_cells r cells ≡ record { width = r.width; height = r.height; cells = cells }
cells_given_back r cells same =
    let all : refill (length r.cells) r.cells cells ≡ cells =
    ap (λ n. take n (cells ++ drop (length cells) r.cells)) (sym same)
    ∙ take-append_seam cells (drop (length cells) r.cells)
    in
    λ i. record { width = r.width; height = r.height; cells = all i }
