use Rattle.std.proofs.Common.{sym, subst}
use Rattle.node_session.proofs.Endings.{no_ends, one_end, AreOfPen}
use Rattle.node_session.proofs.ending.ends_of.Goals as goal

-- both clauses of one end, or of none
pub returns-in-Some-clause-submitted : goal.returns-in-Some-clause-submitted
returns-in-Some-clause-submitted c = (one_end _ c.in-Some.end _ _ _ c.in-Some.ensures.sent c.in-Some.ensures.desk
    c.new-ends.ensures.items c.push.ensures.items).0

pub returns-in-Some-clause-books : goal.returns-in-Some-clause-books
returns-in-Some-clause-books c = (one_end _ c.in-Some.end _ _ _ c.in-Some.ensures.sent c.in-Some.ensures.desk
    c.new-ends.ensures.items c.push.ensures.items).1

pub returns-in_default-clause-submitted : goal.returns-in_default-clause-submitted
returns-in_default-clause-submitted c =
    (subst (AreOfPen c.args.pen) (sym c.new-ends.ensures.items) (no_ends c.args.pen)).0

pub returns-in_default-clause-books : goal.returns-in_default-clause-books
returns-in_default-clause-books c =
    (subst (AreOfPen c.args.pen) (sym c.new-ends.ensures.items) (no_ends c.args.pen)).1
