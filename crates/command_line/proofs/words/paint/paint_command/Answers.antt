use Rattle.std.proofs.{Common.ap₂, Common.◌∙◌, Common.◌||◌, lemmas.Result.IfOk-weaker}
use Rattle.clap.specs.Words.{with_rule}
use Rattle.command_line.proofs.words.paint.paint_command.Goals as goal

pub returns : goal.returns
returns c =
    let plain = c.new.ensures.optional.1 in
    let is = c.in_ok-paint-3.ensures _ (c.in_ok-paint-2.ensures _ c.in_ok-paint.ensures) in
    IfOk-weaker c.arg.result _ _ (λ paint adds. (
      adds.shape plain ∙ ap₂ with_rule is.0 c.new.ensures.rule,
      adds.globals ∙ ap₂ (λ a b. a || b) is.1 plain,
    )) c.arg.ensures
