-- What becomes of a datagram that a node hears.
use Rattle.std.specs.Prelude.{◌≡◌, ◌⊎◌, ℕ, ◌<◌, ◌≤◌, List, [], ◌∷◌, ◌++◌, length}
use Rattle.grid_core.specs.declared.conn.Conn.{Conn}
use Rattle.stroke_lattice.specs.State.{State}
use Rattle.spd_codec.specs.{declared.frame.Frame.Frame, Spelling.Spells, Spelling.SpellsFrame, Spelling.max_bytes}
use Rattle.spd_codec.specs.{Faults.IsFault, declared.error.SpdError.TheVariants.TooLong}
use Rattle.core_dispatch.specs.Rings.{ring_room}
use Rattle.link_nodes.specs.{declared.error.NodeError.NodeError, declared.ticked.Heard.Heard}
use Rattle.link_nodes.specs.{Links.LinkSeen, Links.Gives, Links.GivesNone, Links.FailsToGive, MemoryLinks.front_of}
use Rattle.link_nodes.specs.declared.error.NodeError.TheVariants as errors
use Rattle.link_nodes.specs.declared.ticked.Heard.TheVariants as heards

-- the frame is meant for the image of this fingerprint, with these neighbours
abbrev pub IsFor : Conn → List ℕ → Frame → Type 0
IsFor conn print frame = (frame.conn ≡ conn) × (frame.print ≡ print)

-- why a datagram is refused: it spells a frame for another image; or it spells none, with the first fault of its bytes;
-- or there was no memory to read one that is not too long
abbrev pub IsRefusal : Conn → List ℕ → List ℕ → NodeError → Type 0
IsRefusal conn print datagram errors.OtherMask =
    (frame : Frame) × SpellsFrame datagram frame × (IsFor conn print frame → ⊥)
IsRefusal conn print datagram (errors.Spd fault) = IsFault datagram fault
IsRefusal conn print datagram errors.Device = ⊥
IsRefusal conn print datagram errors.Memory = length datagram ≤ max_bytes

-- the answer to a datagram, where these edits were submitted before, and these afterwards: the strokes and tombstones
-- that it spells for this image are submitted; or they are dropped, as none of a pen's first 64 is; or it is refused
abbrev pub IsAnswer : Conn → List ℕ → List State → List State → List ℕ → Heard → Type 0
IsAnswer conn print before after datagram heards.Nothing = ⊥
IsAnswer conn print before after datagram heards.Submitted =
    (delta : State) × Spells datagram conn print delta × (after ≡ before ++ delta ∷ [])
IsAnswer conn print before after datagram heards.Full =
    (delta : State) × Spells datagram conn print delta × (ring_room ≤ length before) × (after ≡ before)
IsAnswer conn print before after datagram (heards.Refused why) =
    IsRefusal conn print datagram why × (after ≡ before)

-- a poll gave a datagram, and this is the answer to it
abbrev pub Answers : Conn → List ℕ → List State → List State → LinkSeen → LinkSeen → Heard → Type 0
Answers conn print before after link link' heard =
    (datagram : List ℕ) × Gives link link' datagram × IsAnswer conn print before after datagram heard

-- what one poll comes to: no datagram came, or the link failed, and nothing is submitted; or a datagram is answered
abbrev pub Hears : Conn → List ℕ → List State → List State → LinkSeen → LinkSeen → Heard → Type 0
Hears conn print before after link link' heard =
    ((heard ≡ heards.Nothing) × GivesNone link link' × (after ≡ before))
    ⊎ ((heard ≡ heards.Refused errors.Device) × FailsToGive link link' × (after ≡ before))
    ⊎ Answers conn print before after link link' heard

-- whatever a datagram begins with: where it has more bytes than a frame may have, what a poll gives of it is refused as
-- too long
abbrev pub TooLongIsRefused : Type 0
TooLongIsRefused =
    (conn : Conn) (print : List ℕ) (before after : List State) (datagram : List ℕ) (heard : Heard)
    → max_bytes < length datagram → IsAnswer conn print before after (front_of datagram) heard
    → heard ≡ heards.Refused (errors.Spd TooLong)
