use Rattle.std.proofs.{Common.IfOk, Common.sym, Common.subst, lemmas.Result.IfOk-weaker, lemmas.Result.IfErr-weaker}
use Rattle.core_rules.specs.Work.{Core}
use Rattle.node_session.specs.{Shared.StudioFails, Working.IsShared}
use Rattle.node_session.proofs.Failing.{opening_fails}
use Rattle.node_session.proofs.sharing.share.Goals as goal

pub share_in-requires-clause-opened : goal.share_in-requires-clause-opened
share_in-requires-clause-opened g c κs within = (c.args.core, c.in-Ok.ensures.opened)

pub returns-in-Ok-clause-hands : goal.returns-in-Ok-clause-hands
returns-in-Ok-clause-hands g c =
    IfOk-weaker c.share_in.result _ _ (λ core shared. c.in-Ok.ensures.counted.1) c.share_in.ensures.shared

pub returns-in-Ok-clause-shared : goal.returns-in-Ok-clause-shared
returns-in-Ok-clause-shared g c =
    let sharing = c.args.sharing in
    subst (λ (core : Core). IfOk c.share_in.result (IsShared sharing.conn sharing.print sharing.shift.ticks
    (g.L.Link.seen c.args.link.now) (g.L.Link.seen c.share_in.new.link) core))
    c.in-Ok.ensures.opened.core_is c.share_in.ensures.shared

-- no U1 behind the opening
pub returns-in-Ok-clause-refused : goal.returns-in-Ok-clause-refused
returns-in-Ok-clause-refused g c = IfErr-weaker c.share_in.result _ _
    (λ e fails. (fails.0, fails.1, (λ is count. fails.2 is, λ none. absurd (none c.in-Ok.ensures.counted.1))))
    c.share_in.ensures.refused

-- U1 comes of the counts alone
pub returns-in-Err-clause-refused : goal.returns-in-Err-clause-refused
returns-in-Err-clause-refused g c =
    subst (StudioFails c.args.sharing.shift.hands) (sym c.refusal_of.ensures)
    (opening_fails c.args.sharing.shift.hands _ c.in-Err.ensures.counts)
