use Rattle.std.proofs.{Common.◌<◌, Common.arith, Common.length, lemmas.Result.IfOk-weaker}
use Rattle.link_nodes.specs.Cursors.{frame_pieces}
use Rattle.link_nodes.proofs.Seeing.{next_framed, of_error}
use Rattle.link_nodes.proofs.sight.next_frame.Goals as goal

pub returns-in-Ok-Some-clause-next : goal.returns-in-Ok-Some-clause-next
returns-in-Ok-Some-clause-next c =
    let piece = rw c.in-Ok-Some.field-0-is at c.in-Ok-Some.ensures.piece in
    IfOk-weaker c.frame_of-next.result _ _
    (next_framed c.args.request.conn c.args.request.print c.args.state.now c.args.request.last
    c.in-Ok-Some.cursor.number c.in-Ok-Some.piece piece)
    c.frame_of-next.ensures

pub returns-in-Ok-Some-clause-wanted : goal.returns-in-Ok-Some-clause-wanted
returns-in-Ok-Some-clause-wanted c =
    let cursor = rw c.in-Ok-Some.field-0-is at c.in-Ok-Some.ensures.cursor in
    let within = cursor.within in
    let some : 0 < length (frame_pieces c.args.state.now) = omega (arith, within) in
    of_error c.frame_of-next.result _ some
