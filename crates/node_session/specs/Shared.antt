-- A view that is shared by a node: what it shows, and what it keeps.
use Rattle.std.specs.Prelude.{◌≡◌, ◌⊎◌, ◌↔◌, ℕ, List}
use Rattle.byte_devices.specs.Device.{HasRisenBy}
use Rattle.grid_core.specs.declared.conn.Conn.{Conn}
use Rattle.pgm_codec.specs.{Graymap.Graymap, Writing.raw_text}
use Rattle.stroke_lattice.specs.{State.State, Pieces.pieces_of}
use Rattle.derived_views.specs.Shown.{IsShown}
use Rattle.view_session.specs.{Joining.AreFor, declared.joining.Strokes.Strokes}
use Rattle.view_session.specs.Kept.{print_of, kept_text, FileSpells, IsGathered, KeptStops}
use Rattle.run_faults.specs.{declared.run_error.RunError.RunError, declared.run_error.RunError.TheVariants.Studio}
use Rattle.run_faults.specs.{declared.run_error.StudioFault.StudioFault}
use Rattle.core_dispatch.specs.declared.error.CloseError.{CloseError}
use Rattle.studio.specs.{Opening.IsCount, declared.refused.OpenError.OpenError}
use Rattle.link_nodes.specs.Links.{LinkSeen}
use Rattle.node_session.specs.Given.{HasGiven, ComesFrom}
use Rattle.run_faults.specs.declared.run_error.StudioFault.TheVariants as studio
use Rattle.core_dispatch.specs.declared.error.CloseError.TheVariants as closing
use Rattle.studio.specs.declared.refused.OpenError.TheVariants as opening

-- the image shows a state on the input's mask, which the new bytes spell; it comes from the join of the deltas of the
-- old bytes and of the input, and from frames for this mask among the datagrams
pub record IsImageShared (conn : Conn) (old input : List ℕ) (given : List (List ℕ)) (state : State) (image : Graymap)
    (new : List ℕ) : Type 0 where
  pub mask : Graymap
  pub first : State
  pub gathered : IsGathered conn old input mask first
  pub comes : ComesFrom conn (print_of mask) given first state
  pub shown : IsShown conn mask state image
  pub new_is : new ≡ kept_text conn mask state
  pub new_spelled : FileSpells conn (print_of mask) new (pieces_of 1400 state)

-- the image shows strokes on the input's mask, which come from the join of the deltas of old bytes and of the input,
-- and from frames for this mask among the datagrams
pub record IsStrokesShared (conn : Conn) (old input : List ℕ) (given : List (List ℕ)) (image : Graymap)
    (strokes : Strokes) : Type 0 where
  pub mask : Graymap
  pub are_for : AreFor strokes conn mask
  pub first : State
  pub gathered : IsGathered conn old input mask first
  pub comes : ComesFrom conn (print_of mask) given first strokes.state
  pub shown : IsShown conn mask strokes.state image

-- the text is the raw spelling of such an image
abbrev pub IsSharedView : Conn → List ℕ → List (List ℕ) → List ℕ → List ℕ → List ℕ → Type 0
IsSharedView conn old given input text new =
    (state : State) × (image : Graymap) × IsImageShared conn old input given state image new × (text ≡ raw_text image)

-- the same with so many hands, of what the link gave from the first of these moments to the second, between which it
-- was polled at each of so many ticks
abbrev pub IsNodeView : Conn → ℕ → ℕ → List ℕ → LinkSeen → LinkSeen → List ℕ → List ℕ → List ℕ → Type 0
IsNodeView conn hands ticks old link link' input text new = IsCount hands × HasRisenBy ticks link.polls link'.polls
    × ((given : List (List ℕ)) × HasGiven link link' given × IsSharedView conn old given input text new)

-- the same where the strokes are answered, and not the new bytes
abbrev pub IsStrokesNode : Conn → ℕ → ℕ → List ℕ → LinkSeen → LinkSeen → List ℕ → List ℕ → Strokes → Type 0
IsStrokesNode conn hands ticks old link link' input text strokes =
    IsCount hands × HasRisenBy ticks link.polls link'.polls
    × ((given : List (List ℕ)) × HasGiven link link' given
    × ((image : Graymap) × IsStrokesShared conn old input given image strokes × (text ≡ raw_text image)))

-- what a studio that was not opened is to a run: U1 to U3
abbrev pub opening_fault : OpenError → StudioFault
opening_fault opening.BadCounts = studio.BadCounts
opening_fault opening.Memory = studio.OpenMemory
opening_fault opening.NoPlace = studio.NoPlace

-- what one that was not closed is: B1 to B3
abbrev pub closing_fault : CloseError → StudioFault
closing_fault closing.EndMissing = studio.EndMissing
closing_fault closing.Memory = studio.CloseMemory
closing_fault closing.CountSpent = studio.CountSpent

-- a studio with so many hands was not opened or not closed: U1 where there may not be so many, and else another fault
abbrev pub StudioFails : ℕ → RunError → Type 0
StudioFails hands e = (why : StudioFault) × (e ≡ Studio why) × ((why ≡ studio.BadCounts) ↔ (IsCount hands → ⊥))

-- where a run stops on the input and the old bytes: where a view over them does; or behind all that is refused there,
-- since there is no studio
abbrev pub NodeStops : Conn → ℕ → List ℕ → List ℕ → RunError → Type 0
NodeStops conn hands old input e =
    KeptStops conn old input e
    ⊎ ((mask : Graymap) × (first : State) × IsGathered conn old input mask first × StudioFails hands e)
