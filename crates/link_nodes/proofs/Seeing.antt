-- The cursor that is kept, as the eye goes on.
use Rattle.std.proofs.Common.{◌≡◌, ℕ, ◌<◌, List, [], length, Option, Some, None, MatchOption, IfSome, refl, sym, ap}
use Rattle.std.proofs.Common.{subst, inr, Result, Ok, Err, IfErr}
use Rattle.std.specs.Option.{option_map_or}
use Rattle.grid_core.specs.declared.conn.Conn.{Conn}
use Rattle.spd_codec.specs.{declared.version.Version.TheVariants.Second, Spelling.frame_text}
use Rattle.studio.specs.{Shots.Shot, Chains.IsChain, Chains.Begins, Chains.last_of}
use Rattle.studio.proofs.Chains.{later_leads_on}
use Rattle.stroke_lattice.specs.State.{State, IsBelow, nothing}
use Rattle.stroke_lattice.proofs.Shared.{nothing_has_no_stroke, nothing_has_no_tombstone}
use Rattle.link_nodes.specs.{declared.cursor.Cursor.Cursor, declared.sight.Next.Next}
use Rattle.link_nodes.specs.Cursors.{IsCursorOf, IsOfLast, IsOfLower, last_state, frame_pieces, IsNextPiece}
use Rattle.link_nodes.specs.Sending.{HasPiece, IsNextFrame, IsNext}

-- the strokes of what was seen before are below those of a later shot
below_later : (before : Option Shot) (shot : Shot)
    → ((other : Shot) → before ≡ Some other → IsBelow other.state shot.state)
    → IsBelow (option_map_or (λ s. s.state) before nothing) shot.state
below_later None shot leads = record {
  strokes = λ tag seed has. absurd (nothing_has_no_stroke tag seed has);
  tombstones = λ tag has. absurd (nothing_has_no_tombstone tag has);
}
below_later (Some other) shot leads = leads other refl

-- a cursor of the last shot that was seen is of a state below that of a later one
pub of_lower : (seen chain : List Shot) (shot : Shot) (kept : Option Cursor) → IsChain chain
    → last_of chain ≡ Some shot → Begins chain seen → IsOfLast seen kept → IsOfLower shot.state kept
of_lower seen chain shot kept is_chain last begins of cursor is = (
  last_state seen,
  of cursor is,
  below_later (last_of seen) shot
      (λ other e. (later_leads_on chain seen shot other is_chain last begins e).state),
)

some_cursor : (kept : Option Cursor) (cursor : Cursor) (P : Cursor → Type 0) → IfSome kept P → kept ≡ Some cursor
    → P cursor
some_cursor None cursor P of is = absurd cc
some_cursor (Some other) cursor P of is =
    subst P (ap (λ (o : Option Cursor). option_map_or (λ c. c) o other) is) of

-- a cursor of the last shot's state is of the last shot
pub of_last : (chain : List Shot) (shot : Shot) (kept : Option Cursor) → last_of chain ≡ Some shot
    → IfSome kept (λ cursor. IsCursorOf shot.state cursor) → IsOfLast chain kept
of_last chain shot kept last of cursor is =
    subst (λ (s : State). IsCursorOf s cursor)
    (sym (ap (λ (o : Option Shot). option_map_or (λ s. s.state) o nothing) last))
    (some_cursor kept cursor (IsCursorOf shot.state) of is)

-- ---- what is sent

-- the frame of the next piece
pub next_framed : (conn : Conn) (print : List ℕ) (s : State) (last : Option ℕ) (number : ℕ) (piece : State)
    → IsNextPiece s last number piece → (next : Option Next)
    → MatchOption next ⊥ (λ n. (n.piece ≡ number) × (n.frame.items ≡ frame_text Second conn print piece))
    → MatchOption next (frame_pieces s ≡ []) (λ n. IsNextFrame conn print s last n.piece n.frame.items)
next_framed conn print s last number piece is None framed = absurd framed
next_framed conn print s last number piece is (Some n) framed = record {
  piece = piece;
  next = subst (λ (i : ℕ). IsNextPiece s last i piece) (sym framed.0) is;
  text = framed.1;
}

-- the next frame of what is seen
pub next_seen : (conn : Conn) (print : List ℕ) (learnt : List Shot) (vain vain' : ℕ) (before chain : List Shot)
    (last : Option ℕ) (shot : Shot) (s : State) → last_of chain ≡ Some shot → s ≡ shot.state → Begins chain learnt
    → (next : Option Next)
    → MatchOption next (frame_pieces s ≡ []) (λ n. IsNextFrame conn print s last n.piece n.frame.items)
    → IsNext conn print learnt vain vain' before chain last next
next_seen conn print learnt vain vain' before chain last shot s is_last is told None none =
    inr (shot, is_last, subst (λ (t : State). frame_pieces t ≡ []) is none)
next_seen conn print learnt vain vain' before chain last shot s is_last is told (Some n) next = record {
  shot = shot;
  is_last = is_last;
  told = told;
  next = subst (λ (t : State). IsNextFrame conn print t last n.piece n.frame.items) is next;
}

-- ---- where memory is wanting

-- the shot that was seen last has a piece where its state has
pub piece_seen : (chain : List Shot) (shot : Shot) (s : State) → last_of chain ≡ Some shot → s ≡ shot.state
    → 0 < length (frame_pieces s) → HasPiece chain
piece_seen chain shot s is_last is some =
    (shot, is_last, subst (λ (t : State). 0 < length (frame_pieces t)) is some)

-- what holds anyhow holds of an error
pub of_error : {T E : Type 0} (result : Result T E) (P : Type 0) → P → IfErr result (λ _. P)
of_error (Ok value) P holds = tt
of_error (Err error) P holds = holds
