-- What one tick of a node does.
use Rattle.std.specs.Prelude.{◌≡◌, ℕ, List, Some}
use Rattle.studio.specs.Chains.{Begins}
use Rattle.link_nodes.specs.{declared.node.Node.Node, declared.ticked.Ticked.Ticked, declared.ticked.Sent.Sent}
use Rattle.link_nodes.specs.{Hearing.Hears, Sending.IsNextSeen, Sending.HasNothing, Sending.HasPiece}
use Rattle.link_nodes.specs.Links.{LinkSeen, Takes, FailsToTake}
use Rattle.link_nodes.specs.Nodes.{conn_of, print_of, submitted_by, last_sent, vain_looks, chain_seen, chain_learnt}
use Rattle.link_nodes.specs.Nodes.{IsSameNode}
use Rattle.link_nodes.specs.declared.error.NodeError.TheVariants as errors
use Rattle.link_nodes.specs.declared.ticked.Sent.TheVariants as sents

-- the link is not called, and the piece that was sent last is the same
abbrev pub IsIdle : Node → Node → LinkSeen → LinkSeen → Type 0
IsIdle old new link link' = (link' ≡ link) × (last_sent new ≡ last_sent old)

-- what is sent: nothing, where there is nothing to send; or the frame of the next piece, which is then the one sent
-- last; or the link failed, or there was no memory for the piece that there is
abbrev pub SendsNext : Node → Node → LinkSeen → LinkSeen → Sent → Type 0
SendsNext old new link link' sents.Nothing =
    IsIdle old new link link' × HasNothing (vain_looks old) (vain_looks new) (chain_seen old) (chain_seen new)
SendsNext old new link link' (sents.Piece i) =
    (frame : List ℕ)
    × IsNextSeen (conn_of old) (print_of old) (chain_learnt old) (chain_seen new) (last_sent old) i frame
    × Takes link link' frame × (last_sent new ≡ Some i)
SendsNext old new link link' (sents.Refused errors.Device) =
    FailsToTake link link' × (last_sent new ≡ last_sent old)
SendsNext old new link link' (sents.Refused errors.Memory) = IsIdle old new link link' × HasPiece (chain_seen new)
SendsNext old new link link' (sents.Refused errors.OtherMask) = ⊥
SendsNext old new link link' (sents.Refused (errors.Spd fault)) = ⊥

-- one poll is made and answered, and then, of what is seen, the next piece is sent; between the two the link is seen so
pub record Ticks (old new : Node) (link link' : LinkSeen) (ticked : Ticked) : Type 0 where
  pub between : LinkSeen
  pub heard : Hears (conn_of old) (print_of old) (submitted_by old) (submitted_by new) link between ticked.heard
  pub sent : SendsNext old new between link' ticked.sent

-- what the node has seen begins with what it had seen; it learnt nothing, and is the same otherwise
pub record HasLooked (old new : Node) : Type 0 where
  pub seen : Begins (chain_seen new) (chain_seen old)
  pub learnt : chain_learnt new ≡ chain_learnt old
  pub same : IsSameNode old new
