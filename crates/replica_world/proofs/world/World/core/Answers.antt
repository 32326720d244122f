use Rattle.std.proofs.Common.{◌≡◌, ◌∙◌, sym, subst, ap}
use Rattle.grid_core.specs.Raster.{IsSized, IsBelow}
use Rattle.stroke_lattice.specs.State.{IsJoinOf}
use Rattle.core_rules.specs.{Work.Core, Work.IsQuiet, Invariant.HasLawfulImage, Invariant.HasReconstruction}
use Rattle.replica_world.specs.World.{World, Replica, IsReplica, nobody, core_at, replica_at}
use Rattle.replica_world.proofs.Worlds.{read_at}
use Rattle.replica_world.proofs.world.World.core.Goals as goal

pub returns-clause-faithful : goal.returns-clause-faithful
returns-clause-faithful c =
    let r = c.args.replica in
    let within = subst (λ (w : World). IsReplica w r) (sym c.self.view_is) c.requires in
    let stored = c.self.invariant.one_mask r nobody within in
    let here : c.index.result.now ≡ replica_at c.args.self.now r =
    sym (read_at c.self.inside.replicas.items r c.index.result.now nobody within c.index.ensures)
    ∙ ap (λ (w : World). replica_at w r) c.self.view_is in
    let core : c.core-core.result.now ≡ core_at c.args.self.now r =
    c.core-core.ensures.value ∙ ap (λ (replica : Replica). replica.core) here in
    record {
      mask = subst (λ (w : World). (core_at w r).mask ≡ w.mask) c.self.view_is stored.mask_is;
      conn = subst (λ (w : World). (core_at w r).conn ≡ w.conn) c.self.view_is stored.conn_is;
      joined = subst (λ (k : Replica). IsJoinOf k.took k.core.state) here c.core-core.ensures.joined;
      sized = subst (λ (k : Core). IsSized k.image) core c.image.ensures.sized;
      below = subst (λ (k : Core). IsBelow k.image k.mask) core c.image.ensures.below;
      lawful = subst HasLawfulImage core c.image.ensures.lawful;
      quiet = subst (λ (k : Core). IsQuiet k → HasReconstruction k) core c.image.ensures.quiet;
    }
