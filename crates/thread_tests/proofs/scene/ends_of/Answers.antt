use Rattle.std.proofs.Common.{sym, subst}
use Rattle.thread_tests.proofs.Companies.{no_ends, one_end, EndFrom}
use Rattle.thread_tests.proofs.scene.ends_of.Goals as goal

pub returns-in-Some : goal.returns-in-Some
returns-in-Some c = one_end _ c.in-Some.end _ _ _ c.in-Some.ensures.desk c.new-ends.ensures.items c.push.ensures.items

pub returns-in_default : goal.returns-in_default
returns-in_default c = subst (EndFrom c.args.pen) (sym c.new-ends.ensures.items) (no_ends c.args.pen)
