use Rattle.std.proofs.Common.{◌≡◌, ℕ, ◌+◌, ◌<◌, ◌≤◌, List, ◌∷◌, ◌++◌, arith, sym, subst, ap, ◌∙◌}
use Rattle.stroke_lattice.specs.{declared.split.TheConstants.HEAD_BYTES, State.State, Pieces.Item, Pieces.items_of}
use Rattle.stroke_lattice.specs.{Pieces.item_length, Pieces.frame_length, Places.item_of, Places.pieces_from}
use Rattle.stroke_lattice.proofs.{Items.before_next, Placing.items_before, Placing.before_and_from, Placing.walk_step}
use Rattle.stroke_lattice.proofs.Opening.{IsOpen, open_starts, open_takes, open_stops, open_is_last, more_pieces}
use Rattle.stroke_lattice.proofs.state.State.piece_at.Goals as goal

pub loop-entry-init : goal.loop-entry-init
loop-entry-init c =
    let s = c.args.self.now in
    let is = c.into_iter-entry-iterator.ensures.into_iter_gives ∙ c.items_from-entry-items.ensures in
    record {
      measured = c.new-piece.ensures.measured;
      filled = open_starts c.args.max_bytes s c.args.place c.new-piece.result.state c.into_iter-entry-iterator.result
          c.new-piece.ensures.state is (omega (arith, c.requires.least));
      walked = (
        items_before s c.args.place,
        ap (λ (l : List Item). items_before s c.args.place ++ l) is ∙ before_and_from s c.args.place,
      );
    }

pub overflow_sub-max_bytes : goal.overflow_sub-max_bytes
overflow_sub-max_bytes c = omega (arith, c.loop-entry.invariant.measured, c.loop-entry.invariant.filled.fits)

-- the piece with the next item before the others that are left
next_item : (max : ℕ) (pieces : List State) (piece : State) (now left : List Item) (x : Item) → now ≡ x ∷ left
    → IsOpen max pieces piece now → IsOpen max pieces piece (x ∷ left)
next_item max pieces piece now left x is filled = subst (IsOpen max pieces piece) is filled

walked_to : (s : State) (now left : List Item) (x : Item) (before : List Item) → now ≡ x ∷ left
    → before ++ now ≡ items_of s → before ++ x ∷ left ≡ items_of s
walked_to s now left x before is walked = ap (λ (l : List Item). before ++ l) (sym is) ∙ walked

pub returns-then-byte_len-max_bytes-clause-pieces : goal.returns-then-byte_len-max_bytes-clause-pieces
returns-then-byte_len-max_bytes-clause-pieces c =
    let s = c.args.self.now in
    let x = item_of c.in-Some.entry in
    let now = next_item c.args.max_bytes (pieces_from c.args.max_bytes s c.args.place) c.loop-entry.piece.state
    c.loop-entry.entry-iterator c.next.new.self x c.in-Some.ensures.steps c.loop-entry.invariant.filled in
    let full : c.args.max_bytes < frame_length c.loop-entry.piece.state + item_length x =
    omega (arith, c.loop-entry.invariant.measured, c.byte_len.ensures.bytes) in
    let small : HEAD_BYTES + item_length x ≤ c.args.max_bytes =
    omega (arith, c.byte_len.ensures.bytes, c.byte_len.ensures.small, c.requires.least) in
    open_stops c.args.max_bytes s c.args.place c.place.result c.loop-entry.piece.state c.loop-entry.invariant.walked.0 x
    c.next.new.self now full small
    (walked_to s c.loop-entry.entry-iterator c.next.new.self x c.loop-entry.invariant.walked.0
    c.in-Some.ensures.steps c.loop-entry.invariant.walked.1)
    c.place.ensures

pub returns-then-byte_len-max_bytes-clause-fits : goal.returns-then-byte_len-max_bytes-clause-fits
returns-then-byte_len-max_bytes-clause-fits c = c.loop-entry.invariant.filled.fits

pub returns-then-byte_len-max_bytes-clause-more : goal.returns-then-byte_len-max_bytes-clause-more
returns-then-byte_len-max_bytes-clause-more c =
    let s = c.args.self.now in
    let x = item_of c.in-Some.entry in
    more_pieces c.args.max_bytes s c.place.result c.loop-entry.invariant.walked.0 x c.next.new.self
    (walked_to s c.loop-entry.entry-iterator c.next.new.self x c.loop-entry.invariant.walked.0
    c.in-Some.ensures.steps c.loop-entry.invariant.walked.1)
    c.place.ensures

pub add-requires-clause-before : goal.add-requires-clause-before
add-requires-clause-before c =
    let x = item_of c.in-Some.entry in
    before_next (items_of c.loop-entry.piece.state) x c.next.new.self
    (next_item c.args.max_bytes (pieces_from c.args.max_bytes c.args.self.now c.args.place) c.loop-entry.piece.state
    c.loop-entry.entry-iterator c.next.new.self x c.in-Some.ensures.steps c.loop-entry.invariant.filled).order

pub add-requires-clause-measured : goal.add-requires-clause-measured
add-requires-clause-measured c = c.loop-entry.invariant.measured

pub add-requires-clause-room : goal.add-requires-clause-room
add-requires-clause-room c = omega (
  arith,
  c.loop-entry.invariant.measured,
  c.loop-entry.invariant.filled.fits,
  c.byte_len.ensures.bytes,
)

pub loop-entry-preserved : goal.loop-entry-preserved
loop-entry-preserved c =
    let s = c.args.self.now in
    let pieces = pieces_from c.args.max_bytes s c.args.place in
    let x = item_of c.in-Some.entry in
    let piece = c.loop-entry.piece.state in
    let now = next_item c.args.max_bytes pieces piece c.loop-entry.entry-iterator c.next.new.self x
    c.in-Some.ensures.steps c.loop-entry.invariant.filled in
    let room : frame_length piece + item_length x ≤ c.args.max_bytes =
    omega (arith, c.loop-entry.invariant.measured, now.fits, c.byte_len.ensures.bytes) in
    record {
      measured = c.in_ok-add.ensures.measured;
      filled = subst (λ (p : State). IsOpen c.args.max_bytes pieces p c.next.new.self) (sym c.in_ok-add.ensures.added)
          (open_takes c.args.max_bytes pieces piece x c.next.new.self now room);
      walked = walk_step s c.loop-entry.entry-iterator c.next.new.self x c.in-Some.ensures.steps
          c.loop-entry.invariant.walked;
    }

pub returns-clause-pieces : goal.returns-clause-pieces
returns-clause-pieces c =
    let pieces = pieces_from c.args.max_bytes c.args.self.now c.args.place in
    open_is_last c.args.max_bytes pieces c.loop-entry.piece.state
    (subst (IsOpen c.args.max_bytes pieces c.loop-entry.piece.state) c.in-None.ensures.steps.0
    c.loop-entry.invariant.filled)
    c.requires.some

pub returns-clause-fits : goal.returns-clause-fits
returns-clause-fits c = c.loop-entry.invariant.filled.fits
