use Rattle.std.proofs.Common.{◌≡◌, ℕ, List, ◌++◌, ap, subst, sym, ◌∙◌}
use Rattle.edit_lang.specs.Writing.{live_text, SpellsLive}
use Rattle.edit_lang.proofs.LiveStrokes.{live_read}
use Rattle.edit_lang.proofs.writing.live_lines.Goals as goal

pub returns-clause-spells : goal.returns-clause-spells
returns-clause-spells c =
    let s = c.args.state.now in
    let text : c.put_live.new.out.items ≡ live_text s =
    c.in_ok-put_live.ensures.text ∙ ap (λ (t : List ℕ). t ++ live_text s) c.in_ok-out.ensures.items in
    subst (λ (t : List ℕ). SpellsLive t s) (sym text) (live_read s c.in_ok-put_live.ensures.held)
