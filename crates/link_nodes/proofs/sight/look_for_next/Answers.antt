use Rattle.std.proofs.{Common.◌≡◌, Common.Some, Common.sym, Common.subst}
use Rattle.std.proofs.lemmas.Result.{IfOk-weaker, IfErr-weaker}
use Rattle.stroke_lattice.specs.State.{State}
use Rattle.studio.specs.{Chains.last_of, Chains.Begins}
use Rattle.studio.specs.Words.{seen_by, learnt_by, glimpsed_by, shot_by}
use Rattle.link_nodes.specs.Cursors.{IsOfLower}
use Rattle.link_nodes.proofs.Seeing.{of_lower, next_seen, piece_seen}
use Rattle.link_nodes.proofs.sight.look_for_next.Goals as goal

pub invariant_of-result : goal.invariant_of-result
invariant_of-result c = record { of_last = λ cursor is. rw c.in-Err.ensures.seen (c.args.sight.of_last cursor is) }

pub next_frame-cursor-requires : goal.next_frame-cursor-requires
next_frame-cursor-requires c =
    let g = c.in-Ok.glimpse in
    subst (λ (s : State). IsOfLower s c.args.sight.cursor) (sym c.state.ensures)
    (of_lower (seen_by c.args.sight.eye) (glimpsed_by g) (shot_by g) c.args.sight.cursor c.in-Ok.ensures.chain
    c.in-Ok.ensures.last c.in-Ok.ensures.seen c.args.sight.of_last)

pub returns-clause-next : goal.returns-clause-next
returns-clause-next c =
    let g = c.in-Ok.glimpse in
    let chain = seen_by c.leave-eye.result in
    let learnt = learnt_by c.args.sight.eye in
    let last : last_of chain ≡ Some (shot_by g) = rw c.leave-eye.ensures.seen c.in-Ok.ensures.last in
    let told : Begins chain learnt = rw c.leave-eye.ensures.seen c.in-Ok.ensures.learnt in
    IfOk-weaker c.next_frame-cursor.result.1 _ _
    (next_seen c.args.request.conn c.args.request.print learnt c.args.sight.vain c.args.sight.vain
    (seen_by c.args.sight.eye) chain c.args.request.last (shot_by g) c.state.result.now last c.state.ensures told)
    c.next_frame-cursor.ensures.next

pub returns-clause-wanted : goal.returns-clause-wanted
returns-clause-wanted c =
    let g = c.in-Ok.glimpse in
    let chain = seen_by c.leave-eye.result in
    let last : last_of chain ≡ Some (shot_by g) = rw c.leave-eye.ensures.seen c.in-Ok.ensures.last in
    IfErr-weaker c.next_frame-cursor.result.1 _ _
    (λ e some. piece_seen chain (shot_by g) c.state.result.now last c.state.ensures some)
    c.next_frame-cursor.ensures.wanted
