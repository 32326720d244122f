use Rattle.std.proofs.Common.{◌≡◌, ◌⊎◌, List, Err, IfErr, All, ap, inr, subst}
use Rattle.std.proofs.lemmas.Result.{err_from_is_err_and, IfErr-weaker}
use Rattle.spd_codec.specs.declared.frame.Frame.{Frame}
use Rattle.run_faults.specs.declared.run_error.RunError.{RunError}
use Rattle.run_faults.specs.declared.run_error.RunError.TheVariants.{OtherMask, Spd}
use Rattle.view_session.specs.Kept.{IsFrameFor, FileSpells, deltas_of}
use Rattle.view_session.proofs.Results.{ok_both}
use Rattle.spd_codec.specs.declared.error.SpdError.TheVariants as spd
use Rattle.view_session.proofs.kept.frames_for.Goals as goal

pub returns-in_err-frames-clause-some : goal.returns-in_err-frames-clause-some
returns-in_err-frames-clause-some c = λ is.
    let p = err_from_is_err_and c.from_residual.result c.from_residual.ensures.1 in
    let memory : c.in_err-frames.field-0.0 ≡ spd.Memory = cc in
    c.in_err-frames.ensures.some (ap Err memory)

pub returns-clause-spelled : goal.returns-clause-spelled
returns-clause-spelled c =
    let frames = c.in_ok-frames.frames.items in
    let conn = c.args.conn in
    let print = c.args.print.now in
    ok_both c.own_frames.result (λ own. own.items ≡ frames) (λ _. All (IsFrameFor conn print) frames)
    (λ own. FileSpells conn print c.args.old.now (deltas_of own.items))
    (λ own same all. record {
      frames = frames;
      spelled = c.in_ok-frames.ensures.found;
      all_for = all;
      deltas = ap deltas_of same;
    })
    c.own_frames.ensures.same c.own_frames.ensures.all

pub returns-clause-refused : goal.returns-clause-refused
returns-clause-refused c =
    IfErr-weaker c.own_frames.result _ _ (λ e other. inr (inr (
      other.0,
      record {
        frames = c.in_ok-frames.frames.items;
        spelled = c.in_ok-frames.ensures.found;
        not_all_for = other.1;
      },
    ))) c.own_frames.ensures.another

pub returns-clause-some : goal.returns-clause-some
returns-clause-some c = λ is.
    let frames = c.in_ok-frames.frames.items in
    let other = subst (λ r. IfErr r (λ (e : RunError). (e ≡ OtherMask)
    × (All (IsFrameFor c.args.conn c.args.print.now) frames → ⊥))) is c.own_frames.ensures.another in
    let same : Spd spd.Memory ≡ OtherMask = other.0 in cc
