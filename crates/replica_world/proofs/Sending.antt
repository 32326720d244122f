-- A world with one packet more.
use Rattle.std.proofs.Common.{◌∷◌, ◌++◌, [], ℕ, List}
use Rattle.std.proofs.lemmas.List.Elements.{All-push}
use Rattle.grid_core.specs.declared.conn.Conn.{Conn}
use Rattle.replica_world.specs.{World.Replica, Stored.IsStored, Stored.IsFrame}

-- the world stays one that can be stored, where the packet is a frame
pub stored_packet : (conn : Conn) (print : List ℕ) (rs : List Replica) (ps : List (List ℕ)) (packet : List ℕ)
    → IsStored conn print rs ps → IsFrame conn print packet → IsStored conn print rs (ps ++ packet ∷ [])
stored_packet conn print rs ps packet stored is_frame = record {
  some = stored.some;
  few = stored.few;
  one_mask = stored.one_mask;
  frames = All-push (IsFrame conn print) ps packet stored.frames is_frame;
}
