use Rattle.studio.specs.Keeping.{books_of}
use Rattle.thread_tests.proofs.scene.closes_before_eye.Goals as goal

pub close_keeper-core-requires : goal.close_keeper-core-requires
close_keeper-core-requires g c = c.ends_of.ensures (books_of c.args.scene.keeper) c.requires.pen
