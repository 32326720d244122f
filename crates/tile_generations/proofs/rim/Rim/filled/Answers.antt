-- What the tactics leave open of `filled`.
use Rattle.std.proofs.Common.{◌++◌, ap, ◌∙◌}
use Rattle.tile_generations.proofs.Rims.{rim_of_parts}
use Rattle.tile_generations.proofs.rim.Rim.filled.Goals as goal

pub invariant_of-result : goal.invariant_of-result
invariant_of-result c =
    (rim_of_parts c.args.image.now c.width-w.result c.height-h.result c.row.result.now c.row-2.result.now
    c.extend_from_slice.new.self.items c.extend_from_slice-2.new.self.items c.push_column.new.values.items
    c.push_column-2.new.values.items c.width-w.ensures.value c.height-h.ensures.value c.row.ensures c.row-2.ensures
    (c.in_ok-extend_from_slice.ensures.items ∙ ap (λ vs. vs ++ c.row.result.now) c.clear.ensures.items)
    c.in_ok-extend_from_slice-2.ensures.items c.in_ok-push_column.ensures c.in_ok-push_column-2.ensures).0

pub returns : goal.returns
returns c =
    (rim_of_parts c.args.image.now c.width-w.result c.height-h.result c.row.result.now c.row-2.result.now
    c.extend_from_slice.new.self.items c.extend_from_slice-2.new.self.items c.push_column.new.values.items
    c.push_column-2.new.values.items c.width-w.ensures.value c.height-h.ensures.value c.row.ensures c.row-2.ensures
    (c.in_ok-extend_from_slice.ensures.items ∙ ap (λ vs. vs ++ c.row.result.now) c.clear.ensures.items)
    c.in_ok-extend_from_slice-2.ensures.items c.in_ok-push_column.ensures c.in_ok-push_column-2.ensures).1
