-- A view that is shared by a node, over a state file or over none.
use Rattle.std.specs.Prelude.{◌≡◌, ◌⊎◌, ℕ, List, [], Option, Some, None, Result, IsOk, IsOkAnd}
use Rattle.grid_core.specs.declared.conn.Conn.{Conn}
use Rattle.run_faults.specs.{RunError.IsReadingFault, declared.run_error.RunError.RunError}
use Rattle.run_faults.specs.{declared.run_error.RunError.TheVariants.Link}
use Rattle.view_session.specs.{Serving.IsStoreFault, Serving.ToKeep, declared.joining.Strokes.Strokes}
use Rattle.view_session.specs.Store.{Held, IsHeldIn, Loads, Saves, StoreSeen}
use Rattle.view_session.specs.Joining.{IsJoinedOver, IsNotJoinedOver, Makes, Refuses}
use Rattle.link_nodes.specs.Links.{LinkSeen}
use Rattle.node_session.specs.Shared.{IsStrokesNode, NodeStops}

-- the bytes are those of the file of this name; without a name there are none
abbrev pub IsHeldFor : Held → Option (List ℕ) → List ℕ → Type 0
IsHeldFor held None bytes = bytes ≡ []
IsHeldFor held (Some name) bytes = IsHeldIn held name bytes

-- what is to be kept: for the file of this name the join of the strokes and of what is found there; without a name
-- nothing
abbrev pub IsToKeep : Option (List ℕ) → Held → Strokes → ToKeep → Type 0
IsToKeep None held strokes kept = kept ≡ None
IsToKeep (Some name) held strokes kept =
    (found made : List ℕ) × IsHeldIn held name found × IsJoinedOver strokes found made × (kept ≡ Some (name, made))

-- the strokes are not joined over what is found in the file of this name
abbrev pub IsNotToKeep : Option (List ℕ) → Held → Strokes → RunError → Type 0
IsNotToKeep None held strokes e = ⊥
IsNotToKeep (Some name) held strokes e =
    (found : List ℕ) × IsHeldIn held name found × IsNotJoinedOver strokes found e

-- the text is a view of the input that was shared in a studio with so many hands for so many ticks, over the bytes of
-- that file: beside the strokes of the file and of the input it shows only some that stood in datagrams that a link
-- gave, which was polled at each tick; what is seen of a link is given first
abbrev pub IsStrokesOver : {L : Type 0} → (L → LinkSeen) → Conn → ℕ → ℕ → Option (List ℕ) → Held → List ℕ → List ℕ
    → Strokes → Type 0
IsStrokesOver {L} seen conn hands ticks file held input text strokes =
    (old : List ℕ) × IsHeldFor held file old
    × ((link link' : L) × IsStrokesNode conn hands ticks old (seen link) (seen link') input text strokes)

abbrev pub IsShownNode : {L : Type 0} → (L → LinkSeen) → Conn → ℕ → ℕ → Option (List ℕ) → Held → List ℕ → List ℕ
    → Type 0
IsShownNode seen conn hands ticks file held input text =
    (strokes : Strokes) × IsStrokesOver seen conn hands ticks file held input text strokes

-- and the file is to keep the strokes that it shows
abbrev pub IsStoredNode : {L : Type 0} → (L → LinkSeen) → Conn → ℕ → ℕ → Option (List ℕ) → Held → List ℕ → List ℕ
    → ToKeep → Type 0
IsStoredNode seen conn hands ticks file held input text kept =
    (strokes : Strokes) × IsStrokesOver seen conn hands ticks file held input text strokes
    × IsToKeep file held strokes kept

-- the run stops on the input over the bytes of that file, or what it shows is not joined over what is found there then
abbrev pub StoredNodeStops : {L : Type 0} → (L → LinkSeen) → Conn → ℕ → ℕ → Option (List ℕ) → Held → List ℕ
    → RunError → Type 0
StoredNodeStops seen conn hands ticks file held input e =
    ((old : List ℕ) × IsHeldFor held file old × NodeStops conn hands old input e)
    ⊎ ((text : List ℕ) × (strokes : Strokes) × IsStrokesOver seen conn hands ticks file held input text strokes
    × IsNotToKeep file held strokes e)

-- the errors that may come whatever the input is: D3, and those of a view with that state file or without one
abbrev pub IsNodeFault : Option (List ℕ) → RunError → Type 0
IsNodeFault None e = IsReadingFault e ⊎ (e ≡ Link)
IsNodeFault (Some name) e = IsStoreFault e ⊎ (e ≡ Link)

-- a load of the file of this name; without a name the store is not asked, and there are no bytes
abbrev pub LoadsFor : {V : Type 0} → (V → List ℕ) → StoreSeen → StoreSeen → Result V RunError → Option (List ℕ)
    → Type 0
LoadsFor bytes_of old new result None = (new ≡ old) × IsOkAnd result (λ v. bytes_of v ≡ [])
LoadsFor bytes_of old new result (Some name) = Loads bytes_of old new result name

-- a save of strokes in that file; without a name the store is not asked
abbrev pub SavesFor : {V : Type 0} → (V → List ℕ) → StoreSeen → StoreSeen → Strokes → Strokes → Result V RunError
    → Option (List ℕ) → Type 0
SavesFor bytes_of old new strokes strokes' result None = (new ≡ old) × IsOk result
SavesFor bytes_of old new strokes strokes' result (Some name) =
    Saves Makes Refuses bytes_of old new strokes strokes' result name
