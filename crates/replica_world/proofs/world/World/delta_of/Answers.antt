use Rattle.std.proofs.Common.{◌∙◌, ◌<◌, [], List, ℕ, length, refl, sym, subst, ap}
use Rattle.std.proofs.lemmas.Option.{slice_get_read}
use Rattle.stroke_lattice.specs.State.{State}
use Rattle.spd_codec.specs.{declared.frame.Frame.Frame, Spelling.Spells}
use Rattle.replica_world.specs.{World.World, Events.Carries}
use Rattle.replica_world.proofs.{Reading.read_right, Worlds.read_at}
use Rattle.replica_world.proofs.world.World.delta_of.Goals as goal

pub returns-in-Ok-clause-spelled : goal.returns-in-Ok-clause-spelled
returns-in-Ok-clause-spelled c =
    let held = c.self.inside in
    let ps = held.packets.items in
    let k = c.args.packet in
    let within : k < length ps = subst (λ (w : World). k < length w.packets) (sym c.self.view_is) c.requires in
    let packet = c.index.result.now in
    let there = read_at ps k packet [] within c.index.ensures in
    let spelled = c.self.invariant.frames k [] within in
    let here =
    subst (λ (bytes : List ℕ). Spells bytes held.conn held.print spelled.0) (there ∙ sym c.bytes.ensures) spelled.1 in
    let frame : Frame = record { conn = held.conn; print = held.print; delta = spelled.0 } in
    let same = read_right c.decode.result c.in-Ok.frame frame c.in-Ok.is (c.decode.ensures.only frame here) in
    let read =
    subst (λ (delta : State). Spells packet held.conn held.print delta) (sym (ap (λ (f : Frame). f.delta) same))
    (subst (λ (bytes : List ℕ). Spells bytes held.conn held.print spelled.0) there spelled.1) in
    subst (λ (w : World). Carries w k c.in-Ok.frame.delta) c.self.view_is
    (packet, slice_get_read ps (length ps) k packet refl within c.index.ensures, read)
