use Rattle.std.proofs.Common.{ap, ap₂, ◌∙◌, ◌≡◌, ◌||◌, false, codes, Some}
use Rattle.std.proofs.lemmas.Result.{IfOk-weaker}
use Rattle.clap.specs.Words.{Rule, rule_of, with_rule}
use Rattle.clap.specs.{declared.builder.action.ArgAction.TheVariants.Append, declared.builder.arg.Arg.Arg}
use Rattle.command_line.specs.Words.{words_of}
use Rattle.command_line.proofs.words.node.node_command.Goals as goal

pub returns : goal.returns
returns c =
    let several : Arg = record c.new.result { action = Some Append } in
    let local : c.action.result.global ≡ false =
    ap (λ (a : Arg). a.global) {y = several} c.action.ensures ∙ c.new.ensures.optional.1 in
    let rule : rule_of c.action.result ≡ words_of (codes "peer") =
    ap rule_of {y = several} c.action.ensures ∙ ap (λ (r : Rule). record r { action = Some Append })
    c.new.ensures.rule in
    let is = c.in_ok-node-4.ensures _ (c.in_ok-node-3.ensures _ (c.in_ok-node-2.ensures _ c.in_ok-node.ensures)) in
    IfOk-weaker c.arg.result _ _ (λ node adds. (
      adds.shape local ∙ ap₂ with_rule is.0 rule,
      adds.globals ∙ ap₂ (λ a b. a || b) is.1 local,
    )) c.arg.ensures
