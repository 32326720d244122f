use Rattle.node_session.proofs.Openings.{new_desk}
use Rattle.node_session.proofs.sharing.desk_of.Goals as goal

pub returns-in-Some-Some-clause-desk : goal.returns-in-Some-Some-clause-desk
returns-in-Some-Some-clause-desk g c = new_desk c.requires.0 c.args.sharing.shift.hands c.args.studio c.requires.1
    c.args.sharing.conn c.args.sharing.print c.node_of-node.result c.pop.new.self.items c.pop.result
    c.in-Some-Some.pen c.pop-2.new.self.items c.pop-2.result c.in-Some-Some.eye c.pop.ensures.items
    c.in-Some-Some.is-0 c.pop-2.ensures.items c.in-Some-Some.is-1 c.node_of-node.ensures.pen
    c.node_of-node.ensures.eye c.node_of-node.ensures.image
