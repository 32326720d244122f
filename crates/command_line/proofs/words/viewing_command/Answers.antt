use Rattle.std.proofs.{Common.codes, lemmas.Result.IfOk-weaker}
use Rattle.clap.specs.Words.{App, new_app, with_rule}
use Rattle.command_line.specs.Words.{option_of}
use Rattle.command_line.proofs.words.viewing_command.Goals as goal

pub returns : goal.returns
returns c =
    let bare : App = new_app c.args.name.now in
    let joined : App = with_rule bare (option_of (codes "conn")) in
    let tiled : App = with_rule joined (option_of (codes "tile")) in
    IfOk-weaker c.with_option-3.result _ _ (λ view adds. adds tiled (c.in_ok-view-2.ensures joined
    (c.in_ok-view.ensures bare (c.new.ensures.app, c.new.ensures.local)))) c.with_option-3.ensures
