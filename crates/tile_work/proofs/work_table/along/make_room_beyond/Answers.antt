-- What the tactics leave open of `make_room_beyond`.
use Rattle.std.proofs.Common.{◌∙◌, arith}
use Rattle.std.proofs.lemmas.Result.{IfOk-from_err, on_ok_weaker}
use Rattle.tile_work.proofs.Along.{room_grown}
use Rattle.tile_work.proofs.work_table.along.make_room_beyond.Goals as goal

pub make_room_at-requires : goal.make_room_at-requires
make_room_at-requires c = c.requires.above

pub make_room_at-requires-2 : goal.make_room_at-requires-2
make_room_at-requires-2 c = omega (arith, c.requires.left, c.make_room_at.auto.rows)

pub make_room_at-requires-3 : goal.make_room_at-requires-3
make_room_at-requires-3 c =
    omega (arith, c.requires.right, c.make_room_at.auto.rows, c.make_room_at-2.auto.rows)

pub make_room_at-requires-4 : goal.make_room_at-requires-4
make_room_at-requires-4 c =
    omega (arith, c.requires.below, c.make_room_at.auto.rows, c.make_room_at-2.auto.rows, c.make_room_at-3.auto.rows)

pub returns-in_err-make_room_at-clause-works : goal.returns-in_err-make_room_at-clause-works
returns-in_err-make_room_at-clause-works c = c.make_room_at.ensures.works

pub returns-in_err-make_room_at-clause-room : goal.returns-in_err-make_room_at-clause-room
returns-in_err-make_room_at-clause-room c = IfOk-from_err _ _ c.from_residual.ensures.0

pub returns-in_err-make_room_at-2-clause-works : goal.returns-in_err-make_room_at-2-clause-works
returns-in_err-make_room_at-2-clause-works c = c.make_room_at-2.ensures.works ∙ c.make_room_at.ensures.works

pub returns-in_err-make_room_at-2-clause-room : goal.returns-in_err-make_room_at-2-clause-room
returns-in_err-make_room_at-2-clause-room c =
    IfOk-from_err _ _ c.from_residual-in_err-make_room_at-2.ensures.0

pub returns-in_err-make_room_at-3-clause-works : goal.returns-in_err-make_room_at-3-clause-works
returns-in_err-make_room_at-3-clause-works c =
    c.make_room_at-3.ensures.works ∙ c.make_room_at-2.ensures.works
    ∙ c.make_room_at.ensures.works

pub returns-in_err-make_room_at-3-clause-room : goal.returns-in_err-make_room_at-3-clause-room
returns-in_err-make_room_at-3-clause-room c =
    IfOk-from_err _ _ c.from_residual-in_err-make_room_at-3.ensures.0

pub returns-clause-works : goal.returns-clause-works
returns-clause-works c =
    c.make_room_at-4.ensures.works ∙ c.make_room_at-3.ensures.works ∙ c.make_room_at-2.ensures.works
    ∙ c.make_room_at.ensures.works

pub returns-clause-room : goal.returns-clause-room
returns-clause-room c =
    on_ok_weaker c.make_room_at-4.result
    (λ last. record {
      above =
          room_grown c.make_room_at-4.ensures.grown
          (room_grown c.make_room_at-3.ensures.grown
          (room_grown c.make_room_at-2.ensures.grown c.in_ok-make_room_at.ensures.room));
      left =
          room_grown c.make_room_at-4.ensures.grown
          (room_grown c.make_room_at-3.ensures.grown c.in_ok-make_room_at-2.ensures.room);
      right = room_grown c.make_room_at-4.ensures.grown c.in_ok-make_room_at-3.ensures.room;
      below = last;
    }) c.make_room_at-4.ensures.room
