use Rattle.studio.specs.Keeping.{books_of}
use Rattle.thread_tests.proofs.scene.leave.Goals as goal

pub returns : goal.returns
returns c = c.ends_of.ensures (books_of c.args.scene.keeper) c.requires.pen
