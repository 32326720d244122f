-- What the tactics leave open of `rows_from`.
use Rattle.std.proofs.Common.{◌≡◌, List, [], ◌∷◌, ◌++◌, replicate, ap, ◌∙◌, arith}
use Rattle.std.proofs.lemmas.{List.map_push, List.replicate-append-replicate, Result.IfOk-from_err}
use Rattle.border_queues.specs.TileWork.{TileWork, fresh}
use Rattle.tile_work.specs.WorkTable.{as_work, works_of}
use Rattle.tile_work.proofs.work_table.row.rows_from.Goals as goal

pub returns-in_err-rows : goal.returns-in_err-rows
returns-in_err-rows c = IfOk-from_err _ _ c.from_residual.ensures.0

pub loop-tile-init : goal.loop-tile-init
loop-tile-init c = ap works_of c.in_ok-rows.ensures.items

pub returns-in_err-push : goal.returns-in_err-push
returns-in_err-push c = IfOk-from_err _ _ c.from_residual-in_err-push.ensures.0

pub loop-tile-preserved : goal.loop-tile-preserved
loop-tile-preserved c =
    ap works_of c.in_ok-push.ensures.items ∙ map_push as_work c.loop-tile.rows.items _
    ∙ ap (λ hints. works_of c.loop-tile.rows.items ++ record (fresh c.args.first) { inbox = hints } ∷ []) c.new.ensures
    ∙ ap (λ (works : List TileWork). works ++ fresh c.args.first ∷ []) c.loop-tile.invariant
    ∙ replicate-append-replicate c.loop-tile._tile 1 (fresh c.args.first)

pub returns : goal.returns
returns c =
    let all : c.loop-tile._tile ≡ c.args.count = omega arith in
    c.loop-tile.invariant ∙ ap (λ n. replicate n (fresh c.args.first)) all
