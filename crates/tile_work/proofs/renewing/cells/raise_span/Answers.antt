-- What the tactics leave open of `raise_span`.
use Rattle.std.proofs.Common.{◌≡◌, ◌+◌, ◌*◌, ap, rules}
use Rattle.stroke_core.specs.Spans.{span_has}
use Rattle.tile_work.specs.Renewing.{greater_value, IsMadeWhere}
use Rattle.tile_work.proofs.RenewingSpans.{cells_are_span, rises_by_cells}
use Rattle.tile_work.proofs.renewing.cells.raise_span.Goals as goal

from_is : (c : goal.After-raise_cells) → c.args.span.y * c.width.result + c.args.span.first
    ≡ c.args.span.y * c.args.marker.now.width + c.args.span.first
from_is c = ap (λ w. c.args.span.y * w + c.args.span.first) c.width.ensures.value

to_is : (c : goal.After-raise_cells) → c.args.span.y * c.width.result + c.args.span.end
    ≡ c.args.span.y * c.args.marker.now.width + c.args.span.end
to_is c = ap (λ w. c.args.span.y * w + c.args.span.end) c.width.ensures.value

made : (c : goal.After-raise_cells)
    → IsMadeWhere (span_has c.args.span) greater_value c.args.marker.now c.args.image.now c.raise_cells.new.image
made c =
    cells_are_span c.args.span (c.args.span.y * c.width.result + c.args.span.first)
    (c.args.span.y * c.width.result + c.args.span.end) c.requires.size c.requires.span.columns (from_is c) (to_is c)
    c.raise_cells.ensures.values

pub raise_cells-requires : goal.raise_cells-requires
raise_cells-requires c =
    record { size = c.requires.size; order = search rules; within = search rules }

pub returns-clause-values : goal.returns-clause-values
returns-clause-values c = made c

pub returns-clause-rose : goal.returns-clause-rose
returns-clause-rose c =
    let cells = rises_by_cells c.args.span (c.args.span.y * c.width.result + c.args.span.first)
    (c.args.span.y * c.width.result + c.args.span.end) c.requires.size c.requires.span.row c.requires.span.columns
    (from_is c) (to_is c) (made c) in
    (λ yes. cells.0 (c.raise_cells.ensures.rose.0 yes), λ r. c.raise_cells.ensures.rose.1 (cells.1 r))
