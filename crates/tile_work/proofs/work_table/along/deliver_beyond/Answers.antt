-- What the tactics leave open of `deliver_beyond`.
use Rattle.tile_work.proofs.Along.{more_came, more_other_inboxes, room_stays}
use Rattle.tile_work.proofs.work_table.along.deliver_beyond.Goals as goal

pub tell-requires-2-clause-room : goal.tell-requires-2-clause-room
tell-requires-2-clause-room c = room_stays c.tell.ensures c.requires.apart.above_left c.requires.room.left

pub tell-requires-3-clause-room : goal.tell-requires-3-clause-room
tell-requires-3-clause-room c =
    room_stays c.tell-2.ensures c.requires.apart.left_right
    (room_stays c.tell.ensures c.requires.apart.above_right c.requires.room.right)

pub tell-requires-4-clause-room : goal.tell-requires-4-clause-room
tell-requires-4-clause-room c =
    room_stays c.tell-3.ensures c.requires.apart.right_below
    (room_stays c.tell-2.ensures c.requires.apart.left_below
    (room_stays c.tell.ensures c.requires.apart.above_below c.requires.room.below))

pub returns : goal.returns
returns c = record {
  others =
      more_other_inboxes
      (more_other_inboxes (more_other_inboxes c.tell.ensures.others c.tell-2.ensures.others) c.tell-3.ensures.others)
      c.tell-4.ensures.others;
  waiting = c.tell-4.ensures.waiting;
  came = λ s pairs telling.
      more_came
      (more_came
      (more_came (c.tell.ensures.came s pairs.above.inner pairs.above.outer telling.above)
      (c.tell-2.ensures.came s pairs.left.inner pairs.left.outer telling.left))
      (c.tell-3.ensures.came s pairs.right.inner pairs.right.outer telling.right))
      (c.tell-4.ensures.came s pairs.below.inner pairs.below.outer telling.below);
}
