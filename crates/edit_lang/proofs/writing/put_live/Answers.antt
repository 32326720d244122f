use Rattle.std.proofs.Common.{◌≡◌, ◌++◌, ap, subst, ◌∙◌, flat_map}
use Rattle.std.specs.List.{AllByRecursion}
use Rattle.edit_lang.specs.Writing.{placement_text, live_of, IsHeld}
use Rattle.edit_lang.proofs.LiveStrokes.{live_are}
use Rattle.edit_lang.proofs.writing.put_live.Goals as goal

pub loop-tag-init : goal.loop-tag-init
loop-tag-init c =
    let all : c.into_iter-tag-iterator.result ≡ live_of c.args.state.now =
    c.into_iter-tag-iterator.ensures.into_iter_gives
    ∙ live_are c.args.state.now c.live-tag-items.result c.live-tag-items.ensures.strokes in
    record {
      text = ap (λ es. c.args.out.now.items ++ flat_map (λ entry. placement_text entry.0 entry.1) es) all;
      held = λ each. subst (AllByRecursion IsHeld) all each;
    }
