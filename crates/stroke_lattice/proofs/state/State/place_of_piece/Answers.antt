use Rattle.std.proofs.Common.{◌≡◌, ℕ, ◌+◌, ◌-◌, ◌<◌, ◌≤◌, ◌^◌, List, [], ◌∷◌, ◌++◌, drop, length, arith, sym, subst, ap}
use Rattle.std.proofs.Common.{◌∙◌, inl, refl}
use Rattle.stroke_lattice.specs.{declared.split.TheConstants.HEAD_BYTES, State.State, Pieces.Item, Pieces.items_of}
use Rattle.stroke_lattice.specs.{Pieces.item_length, Pieces.pieces_of, Places.item_of, Places.pieces_from}
use Rattle.stroke_lattice.proofs.Placing.{walk_step}
use Rattle.stroke_lattice.proofs.Opening.{AreCounted, IsTurned, counted_takes, counted_turns, turned_takes}
use Rattle.stroke_lattice.proofs.Opening.{turned_place, turned_within, counted_all, bytes_at_most, count_pieces}
use Rattle.stroke_lattice.proofs.state.State.place_of_piece.Goals as goal

pub loop-entry-init : goal.loop-entry-init
loop-entry-init c =
    let is = c.into_iter-entry-iterator.ensures.into_iter_gives ∙ c.items-entry-items.ensures.items in
    record {
      counted = inl (record { begun_is = refl; bytes_is = refl; left_is = is });
      within = omega arith;
      walked = ([], is);
    }

-- the pieces with the next item before the others that are left
next_item : (max : ℕ) (s : State) (begun bytes : ℕ) (now left : List Item) (x : Item) → now ≡ x ∷ left
    → AreCounted max s begun bytes now → AreCounted max s begun bytes (x ∷ left)
next_item max s begun bytes now left x is counted = subst (AreCounted max s begun bytes) is counted

pub overflow_sub-max_bytes : goal.overflow_sub-max_bytes
overflow_sub-max_bytes c = bytes_at_most c.args.max_bytes c.args.self.now c.loop-entry.begun c.loop-entry.length
    c.loop-entry.entry-iterator c.loop-entry.invariant.counted

pub loop-entry-preserved-then-bytes-max_bytes : goal.loop-entry-preserved-then-bytes-max_bytes
loop-entry-preserved-then-bytes-max_bytes c =
    let s = c.args.self.now in
    let x = item_of c.in-Some.entry in
    let most = bytes_at_most c.args.max_bytes s c.loop-entry.begun c.loop-entry.length c.loop-entry.entry-iterator
    c.loop-entry.invariant.counted in
    let now = next_item c.args.max_bytes s c.loop-entry.begun c.loop-entry.length c.loop-entry.entry-iterator
    c.next.new.self x c.in-Some.ensures.steps c.loop-entry.invariant.counted in
    let room : c.loop-entry.length + item_length x ≤ c.args.max_bytes =
    omega (arith, most, c.byte_len-bytes.ensures.bytes) in
    let small : HEAD_BYTES + item_length x ≤ c.args.max_bytes =
    omega (arith, c.byte_len-bytes.ensures.bytes, c.byte_len-bytes.ensures.small, c.requires) in
    record {
      counted = subst (λ (n : ℕ). AreCounted c.args.max_bytes s c.loop-entry.begun (c.loop-entry.length + n)
          c.next.new.self) (sym c.byte_len-bytes.ensures.bytes)
          (counted_takes c.args.max_bytes s c.loop-entry.begun c.loop-entry.length x c.next.new.self now room small);
      within = c.loop-entry.invariant.within;
      walked = walk_step s c.loop-entry.entry-iterator c.next.new.self x c.in-Some.ensures.steps
          c.loop-entry.invariant.walked;
    }

-- the next item begins a piece
turned_at : (max : ℕ) (s : State) (begun bytes long : ℕ) (now left : List Item) (x : Item) → now ≡ x ∷ left
    → AreCounted max s begun bytes now → long ≡ item_length x → max - bytes < long → HEAD_BYTES + long ≤ max
    → IsTurned max s begun (x ∷ left)
turned_at max s begun bytes long now left x is counted same full small =
    let most = bytes_at_most max s begun bytes now counted in
    counted_turns max s begun bytes x left (next_item max s begun bytes now left x is counted) (omega (arith, most))
    (omega arith)

pub returns-then-begun-number-clause-place : goal.returns-then-begun-number-clause-place
returns-then-begun-number-clause-place c =
    let s = c.args.self.now in
    let max = c.args.max_bytes in
    let x = item_of c.in-Some.entry in
    let turned = turned_at max s c.loop-entry.begun c.loop-entry.length c.byte_len-bytes.result
    c.loop-entry.entry-iterator c.next.new.self x c.in-Some.ensures.steps c.loop-entry.invariant.counted
    c.byte_len-bytes.ensures.bytes (omega arith) (omega (arith, c.byte_len-bytes.ensures.small, c.requires)) in
    let walked = ap (λ (l : List Item). c.loop-entry.invariant.walked.0 ++ l) (sym c.in-Some.ensures.steps)
    ∙ c.loop-entry.invariant.walked.1 in
    ap (pieces_from max s) c.place.ensures
    ∙ turned_place max s c.loop-entry.begun c.loop-entry.invariant.walked.0 x c.next.new.self turned walked
    ∙ ap (λ (n : ℕ). drop n (pieces_of max s)) c.if-begun-number.true

pub returns-then-begun-number-clause-within : goal.returns-then-begun-number-clause-within
returns-then-begun-number-clause-within c =
    let s = c.args.self.now in
    let max = c.args.max_bytes in
    let x = item_of c.in-Some.entry in
    let turned = turned_at max s c.loop-entry.begun c.loop-entry.length c.byte_len-bytes.result
    c.loop-entry.entry-iterator c.next.new.self x c.in-Some.ensures.steps c.loop-entry.invariant.counted
    c.byte_len-bytes.ensures.bytes (omega arith) (omega (arith, c.byte_len-bytes.ensures.small, c.requires)) in
    subst (λ (n : ℕ). n < length (pieces_of max s)) c.if-begun-number.true
    (turned_within max s c.loop-entry.begun x c.next.new.self turned)

few_pieces : (max : ℕ) (s : State) (items : List Item) → items ≡ items_of s → length items + 1 < 2 ^ 64
    → length (pieces_of max s) < 2 ^ 64
few_pieces max s items is few =
    let same : length items ≡ length (items_of s) = ap length is in
    omega (arith, count_pieces max s)

pub returns-then-begun-number-clause-counted : goal.returns-then-begun-number-clause-counted
returns-then-begun-number-clause-counted c = few_pieces c.args.max_bytes c.args.self.now c.items-entry-items.result
    c.items-entry-items.ensures.items c.items-entry-items.ensures.counted

pub returns-clause-counted : goal.returns-clause-counted
returns-clause-counted c = few_pieces c.args.max_bytes c.args.self.now c.items-entry-items.result
    c.items-entry-items.ensures.items c.items-entry-items.ensures.counted

pub loop-entry-preserved : goal.loop-entry-preserved
loop-entry-preserved c =
    let s = c.args.self.now in
    let max = c.args.max_bytes in
    let x = item_of c.in-Some.entry in
    let turned = turned_at max s c.loop-entry.begun c.loop-entry.length c.byte_len-bytes.result
    c.loop-entry.entry-iterator c.next.new.self x c.in-Some.ensures.steps c.loop-entry.invariant.counted
    c.byte_len-bytes.ensures.bytes (omega arith) (omega (arith, c.byte_len-bytes.ensures.small, c.requires)) in
    let small : HEAD_BYTES + item_length x ≤ max =
    omega (arith, c.byte_len-bytes.ensures.bytes, c.byte_len-bytes.ensures.small, c.requires) in
    record {
      counted = subst (λ (n : ℕ). AreCounted max s (c.loop-entry.begun + 1) (HEAD_BYTES + n) c.next.new.self)
          (sym c.byte_len-bytes.ensures.bytes)
          (turned_takes max s c.loop-entry.begun x c.next.new.self turned small);
      within = omega (arith, c.loop-entry.invariant.within, c.if-begun-number.false);
      walked = walk_step s c.loop-entry.entry-iterator c.next.new.self x c.in-Some.ensures.steps
          c.loop-entry.invariant.walked;
    }

pub returns-clause-none : goal.returns-clause-none
returns-clause-none c =
    let all = counted_all c.args.max_bytes c.args.self.now c.loop-entry.begun c.loop-entry.length
    (subst (AreCounted c.args.max_bytes c.args.self.now c.loop-entry.begun c.loop-entry.length)
    c.in-None.ensures.steps.0 c.loop-entry.invariant.counted) in
    omega (arith, all, c.loop-entry.invariant.within)
