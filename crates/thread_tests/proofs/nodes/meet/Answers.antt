use Rattle.studio.specs.Keeping.{books_of}
use Rattle.thread_tests.proofs.nodes.meet.Goals as goal

pub close-one-requires : goal.close-one-requires
close-one-requires g c = c.tell-is_told.ensures.one.desk.books (books_of c.args.one.0) c.requires.one

pub close-two-requires : goal.close-two-requires
close-two-requires g c = c.tell-is_told.ensures.two.desk.books (books_of c.args.two.0) c.requires.two
