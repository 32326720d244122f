use Rattle.node_session.proofs.{Comings.shared, Desks.pen_stays}
use Rattle.std.proofs.lemmas.Result.{err_from_is_err_and, IfOk-weaker}
use Rattle.node_session.proofs.sharing.share_in.Goals as goal

pub work-requires-clause-studio : goal.work-requires-clause-studio
work-requires-clause-studio g c κs within = c.in_ok-desk.ensures.desk.studio

-- the pen is the keeper's still
pub close-requires : goal.close-requires
close-requires g c = pen_stays _ _ c.work.ensures.stays c.in_ok-desk.ensures.desk.pen

pub returns-in_err-desk-clause-refused : goal.returns-in_err-desk-clause-refused
returns-in_err-desk-clause-refused g c =
    let p = err_from_is_err_and c.from_residual.result c.from_residual.ensures.1 in
    rw (p.1, p.2) c.in_err-desk.ensures.refused

pub returns-clause-shared : goal.returns-clause-shared
returns-clause-shared g c = IfOk-weaker c.close.result _ _
    (λ core left. shared _ c.args.sharing.conn c.args.sharing.print _ _ _ _ _ core c.in_ok-desk.ensures.desk
    c.work.ensures left) c.close.ensures.left
