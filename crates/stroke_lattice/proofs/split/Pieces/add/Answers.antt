use Rattle.std.proofs.Common.{◌≡◌, ◌+◌, arith, ap, ◌∙◌}
use Rattle.stroke_lattice.specs.{State.State, Places.item_of, Filling.filling, Filling.with_room, Pieces.item_length}
use Rattle.stroke_lattice.specs.{Pieces.frame_length, Pieces.with_item}
use Rattle.stroke_lattice.proofs.{Items.frame_length_of_longer, Adding.room_is_there, Adding.before_in_room}
use Rattle.stroke_lattice.proofs.{Adding.added_in_room}
use Rattle.stroke_lattice.proofs.split.Pieces.add.Goals as goal

pub returns-clause-small : goal.returns-clause-small
returns-clause-small c =
    omega (arith, c.byte_len-bytes.ensures.bytes, c.byte_len-bytes.ensures.small, c.requires.least)

pub overflow_add-self : goal.overflow_add-self
overflow_add-self c =
    let room = room_is_there c.args.max_bytes (filling c.args.self.now) (filling c.make_room.new.self)
    c.byte_len-bytes.result c.in_ok-make_room.ensures.room
    (omega (arith, c.byte_len-bytes.ensures.small, c.requires.least)) in
    omega (arith, room, c.in_ok-make_room.ensures.measured)

pub put_last-requires : goal.put_last-requires
put_last-requires c = before_in_room c.args.max_bytes (filling c.args.self.now) (filling c.make_room.new.self)
    c.byte_len-bytes.result (item_of c.args.entry.now) c.in_ok-make_room.ensures.room c.requires.before

pub returns-clause-taken : goal.returns-clause-taken
returns-clause-taken c =
    let item = item_of c.args.entry.now in
    let last = c.make_room.new.self.last in
    let is : c.put_last.new.self ≡ with_item last item = c.in_ok-put_last.ensures in
    let before = before_in_room c.args.max_bytes (filling c.args.self.now) (filling c.make_room.new.self)
    c.byte_len-bytes.result item c.in_ok-make_room.ensures.room c.requires.before in
    let longer : frame_length c.put_last.new.self ≡ frame_length last + item_length item =
    ap frame_length is ∙ frame_length_of_longer last item before in
    record {
      measured = omega (arith, longer, c.in_ok-make_room.ensures.measured, c.byte_len-bytes.ensures.bytes);
      added = ap (λ (s : State). record { full = c.make_room.new.self.full.items; last = s }) is
          ∙ added_in_room c.args.max_bytes (filling c.args.self.now) (filling c.make_room.new.self) item
          (c.in_ok-make_room.ensures.room
          ∙ ap (with_room c.args.max_bytes (filling c.args.self.now)) c.byte_len-bytes.ensures.bytes)
          c.requires.before;
    }
