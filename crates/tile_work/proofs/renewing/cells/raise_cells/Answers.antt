-- What the tactics leave open of `raise_cells`.
use Rattle.std.proofs.Common.{◌≡◌, ◌*◌, ◌∙◌, length, sym, ap}
use Rattle.tile_work.specs.Renewing.{greater_value}
use Rattle.tile_work.proofs.RenewingSpans.{made_in_part, parts_alike, rose_in_part}
use Rattle.tile_work.proofs.renewing.cells.raise_cells.Goals as goal

pub returns-clause-rose : goal.returns-clause-rose
returns-clause-rose c =
    rose_in_part c.raise_row.result c.cells_mut-cells.result.now c.cells.result.now c.args.image.now.cells
    c.args.marker.now.cells c.args.from c.args.to c.cells_mut-cells.ensures.values c.cells.ensures.values
    c.requires.order c.requires.within c.raise_row.ensures.rose

pub raise_row-requires : goal.raise_row-requires
raise_row-requires c =
    let marker = c.args.marker.now in
    let image = c.args.image.now in
    let same : length marker.cells ≡ length image.cells =
    c.cells.ensures.sized.filled ∙ ap (λ w. w * marker.height) (sym c.requires.size.width)
    ∙ ap (λ h. image.width * h) (sym c.requires.size.height) ∙ sym c.requires.size.filled in
    parts_alike c.cells.result.now c.cells_mut-cells.result.now c.args.from c.args.to
    (ap length c.cells.ensures.values ∙ same ∙ sym (ap length c.cells_mut-cells.ensures.values))

pub returns-clause-values : goal.returns-clause-values
returns-clause-values c =
    made_in_part greater_value c.cells.result.now c.cells_mut-cells.result.now c.raise_row.new.row c.requires
    c.cells_given_back.ensures c.cells.ensures.values c.cells_mut-cells.ensures.values c.raise_row.auto.row
    c.raise_row.ensures.values
