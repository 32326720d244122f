use Rattle.core_dispatch.proofs.Ends.{one_more_has, has_found}
use Rattle.core_dispatch.proofs.dispatcher.closing.have_each.Goals as goal

pub loop-number-preserved : goal.loop-number-preserved
loop-number-preserved c =
    one_more_has c.args.ends.now.items c.loop-number.number c.loop-number.invariant
    (has_found c.args.ends.now.items c.loop-number.number c.place_of.result c.place_of.ensures c.if-is_none.ensures)
