use Rattle.replica_world.specs.World.{replica_at}
use Rattle.replica_world.proofs.world.World.replicas_agree.Goals as goal

pub returns : goal.returns
returns c =
    let world = c.args.self.now in
    let first = replica_at world c.args.replica in
    let second = replica_at world c.args.other in
    record {
      states = c.same_content_gives_equal_states.ensures world first second c.replica_is_faithful.ensures
          c.replica_is_faithful-2.ensures;
      images = c.equal_images_where_quiet.ensures world first second c.replica_is_faithful.ensures
          c.replica_is_faithful-2.ensures;
    }
