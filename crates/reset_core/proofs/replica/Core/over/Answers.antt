-- What the tactics leave open of `over`.
use Rattle.std.proofs.Common.{refl, ◌∙◌, ap, subst, replicate, false, None, arith}
use Rattle.grid_core.specs.{Tiles.Tiles, Tiles.IsTiled, Tiles.count_of, Bounds.no_bounds}
use Rattle.border_queues.specs.TileWork.{fresh}
use Rattle.reset_core.specs.{declared.replica.Beginning.Beginning, Replica.begun}
use Rattle.reset_core.proofs.Storing.{is_opened, opened_is_stored}
use Rattle.std.proofs.lemmas.Grind.{common_steps}
use Rattle.reset_core.proofs.replica.Core.over.Goals as goal

pub with_markers-requires : goal.with_markers-requires
with_markers-requires c =
    let parts = begun c.in-Ok.beginning c.args.conn c.in-Ok-over.markers in
    let made = c.in-Ok-over.ensures in
    let begun = c.in-Ok.ensures.value in
    let side = ap (λ (t : Tiles). t.side) (made.tiling ∙ c.tiling_of-tiling.ensures) in
    let tiled = subst IsTiled c.tiling_of-tiling.ensures c.count.ensures.tiled in
    let count = c.count.ensures.value ∙ ap count_of c.tiling_of-tiling.ensures in
    opened_is_stored parts c.args.mask c.args.side c.args.first c.in-Ok.ensures.filled tiled c.requires
    (is_opened parts c.args.mask c.args.side c.args.first made.mask side (ap (λ (b : Beginning). b.state) begun)
    (ap (λ (b : Beginning). b.image) begun)
    (ap (λ (b : Beginning). b.work) begun ∙ ap (λ n. replicate n (fresh c.args.first)) count) refl)
    made.marks (ap (λ (b : Beginning). b.marks) begun ∙ ap (λ n. replicate n false) count)
    (ap (λ (b : Beginning). b.queue) begun ∙ ap (λ n. replicate n false) count)
    (ap (λ (b : Beginning). b.bounds) begun ∙ ap (λ n. replicate n no_bounds) count)
    (ap (λ (b : Beginning). b.masks) begun ∙ ap (λ n. replicate n None) count)
    made.mask (made.tiling ∙ c.tiling_of-tiling.ensures)

pub returns-in-Err-over-clause-refused : goal.returns-in-Err-over-clause-refused
returns-in-Err-over-clause-refused c = grind (arith, common_steps)

pub over-requires-clause-height : goal.over-requires-clause-height
over-requires-clause-height c = grind (arith, common_steps)
