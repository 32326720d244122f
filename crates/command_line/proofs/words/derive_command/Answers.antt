use Rattle.std.proofs.{Common.ap₂, Common.◌∙◌, Common.◌||◌, lemmas.Result.IfOk-weaker}
use Rattle.clap.specs.Words.{with_rule}
use Rattle.command_line.proofs.words.derive_command.Goals as goal

pub returns : goal.returns
returns c =
    let plain = c.new-2.ensures.optional.1 in
    IfOk-weaker c.with_option-2.result _ _ (λ derive adds. adds _ (c.in_ok-derive-2.ensures _ (
      c.in_ok-derive.ensures.shape plain ∙ ap₂ with_rule c.new.ensures.app c.new-2.ensures.rule,
      c.in_ok-derive.ensures.globals ∙ ap₂ (λ a b. a || b) c.new.ensures.local plain,
    ))) c.with_option-2.ensures
