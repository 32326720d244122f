use Rattle.std.proofs.Common.{◌∷◌, ◌++◌, ◌∙◌, [], ℕ, List, sym, subst, ap}
use Rattle.spd_codec.specs.Spelling.{Spells}
use Rattle.replica_world.specs.Stored.{IsStored}
use Rattle.replica_world.proofs.Sending.{stored_packet}
use Rattle.replica_world.proofs.world.World.keep_frame.Goals as goal

pub invariant_of-self-in-Ok : goal.invariant_of-self-in-Ok
invariant_of-self-in-Ok c =
    let held = c.self.inside in
    let packet = c.new.result in
    let items =
    c.push_reserved.ensures.items ∙ ap (λ (ps : List (List ℕ)). ps ++ packet ∷ []) c.reserve.ensures.items in
    let spelled =
    subst (λ (bytes : List ℕ). Spells bytes held.conn held.print c.args.delta.now) (sym c.new.ensures)
    c.in-Ok.ensures.spells in
    subst (IsStored held.conn held.print held.replicas.items) (sym items)
    (stored_packet held.conn held.print held.replicas.items held.packets.items packet c.self.invariant
    (c.args.delta.now, spelled))
