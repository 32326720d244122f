use Rattle.std.proofs.Common.{◌≡◌, ◌<◌, ◌∙◌, List, length, refl, subst, ap, arith, Some, slice_get}
use Rattle.std.proofs.lemmas.Option.{slice_get_read}
use Rattle.stroke_lattice.specs.{State.State, Pieces.pieces_of}
use Rattle.spd_codec.specs.Spelling.{max_bytes}
use Rattle.core_rules.specs.Work.{Core}
use Rattle.replica_world.proofs.world.World.send.Goals as goal

pub returns-clause-done : goal.returns-clause-done
returns-clause-done c =
    let items = c.in_ok-pieces.pieces.items in
    let piece = c.index.result.now in
    let within = subst (λ n. c.args.replica < n) c.replicas.ensures.value c.if-replica-replicas.false in
    let there : c.args.part < length items = omega (arith, c.if-part-len.false, c.len.ensures) in
    let state = c.state.ensures ∙ ap (λ (k : Core). k.state) c.core.ensures.value in
    let pieces = c.in_ok-pieces.ensures.pieces ∙ ap (pieces_of max_bytes) state in
    let read = slice_get_read items (length items) c.args.part piece refl there c.index.ensures in (
      within,
      (
        piece,
        subst (λ (pieces : List State). slice_get pieces c.args.part ≡ Some piece) pieces read,
        c.in_ok-keep_frame.ensures.kept,
      ),
    )
