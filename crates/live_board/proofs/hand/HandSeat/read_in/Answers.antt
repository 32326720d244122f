use Rattle.std.proofs.Common.{arith, subst}
use Rattle.live_board.proofs.Following.{read_is_known, read_is_on, read_none, trail_after, trail_noted}
use Rattle.live_board.specs.{Following.IsLeft, Seats.ground_of, Seats.hand_view}
use Rattle.live_board.specs.declared.fact.Seen.TheVariants.{Newer, Older}
use Rattle.live_board.proofs.hand.HandSeat.read_in.Goals as goal

pub returns-in-Value-clause-trail : goal.returns-in-Value-clause-trail
returns-in-Value-clause-trail c =
    let base = ground_of c.args.board.now in
    let v = hand_view c.args.self.now in
    let w = hand_view c.read.new.self in
    let read = c.in-Value.ensures.read in
    trail_noted base c.in-Value.fact w c.args.trail.now c.note.new.self
    (trail_after base read.loaded v w c.args.trail.now read.adds c.requires.trail)
    (read_is_known base c.args.pixel c.in-Value.fact v w read)
    (read_is_on base c.args.pixel c.in-Value.fact v w c.requires.pixel read) c.note.ensures.only c.note.ensures.within

pub returns-in-Value-clause-read : goal.returns-in-Value-clause-read
returns-in-Value-clause-read c =
    let read = c.in-Value.ensures.read in record {
      loaded = read.loaded;
      of = read.of;
      adds = read.adds;
      is_loaded = read.is_loaded;
      left = λ _. subst (IsLeft c.note.new.self) read.seen_is.0 c.note.ensures.left;
      keeps = c.note.ensures.kept;
    }

pub returns-in-Older-clause-trail : goal.returns-in-Older-clause-trail
returns-in-Older-clause-trail c =
    let read = c.in-Older.ensures.read in
    trail_after (ground_of c.args.board.now) read.loaded (hand_view c.args.self.now) (hand_view c.read.new.self)
    c.args.trail.now read.adds c.requires.trail

pub returns-in-Older-clause-read : goal.returns-in-Older-clause-read
returns-in-Older-clause-read c =
    let read = c.in-Older.ensures.read in
    read_none (ground_of c.args.board.now) c.args.pixel Older (hand_view c.args.self.now)
    (hand_view c.read.new.self) c.args.trail.now read (λ same. let less = read.seen_is in omega (arith, less))

pub returns-in-Newer-clause-trail : goal.returns-in-Newer-clause-trail
returns-in-Newer-clause-trail c =
    let read = c.in-Newer.ensures.read in
    trail_after (ground_of c.args.board.now) read.loaded (hand_view c.args.self.now) (hand_view c.read.new.self)
    c.args.trail.now read.adds c.requires.trail

pub returns-in-Newer-clause-read : goal.returns-in-Newer-clause-read
returns-in-Newer-clause-read c =
    let read = c.in-Newer.ensures.read in
    read_none (ground_of c.args.board.now) c.args.pixel Newer (hand_view c.args.self.now)
    (hand_view c.read.new.self) c.args.trail.now read (λ same. let less = read.seen_is in omega (arith, less))
