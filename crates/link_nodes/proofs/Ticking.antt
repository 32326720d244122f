-- A tick in two parts.
use Rattle.core_dispatch.specs.declared.pen.Pen.{Pen}
use Rattle.link_nodes.specs.{declared.node.Node.Node, declared.ticked.Sent.Sent, Links.LinkSeen, Ticking.SendsNext}
use Rattle.link_nodes.specs.declared.error.NodeError.TheVariants as errors
use Rattle.link_nodes.specs.declared.ticked.Sent.TheVariants as sents

-- what is sent does not hang on what the pen has submitted
pub past_pen : (old new : Node) (pen : Pen) (link link' : LinkSeen) (sent : Sent)
    → SendsNext (record old { pen = pen }) new link link' sent → SendsNext old new link link' sent
past_pen old new pen link link' (sents.Refused errors.Memory) sends = sends
past_pen old new pen link link' _ sends = sends
