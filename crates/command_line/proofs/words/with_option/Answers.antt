use Rattle.std.proofs.Common.{ap, ap₂, ◌∙◌, ◌≡◌, ◌||◌, false, Some}
use Rattle.std.proofs.lemmas.Result.{IfOk-weaker}
use Rattle.clap.specs.{Words.Rule, Words.rule_of, Words.with_rule, declared.builder.arg.Arg.Arg}
use Rattle.command_line.specs.Words.{option_of}
use Rattle.command_line.proofs.words.with_option.Goals as goal

pub returns : goal.returns
returns c =
    let name = c.args.name.now in
    let long : Arg = record c.new.result { long = Some c.args.name } in
    let local : c.long.result.global ≡ false =
    ap (λ (a : Arg). a.global) {y = long} c.long.ensures ∙ c.new.ensures.optional.1 in
    let rule : rule_of c.long.result ≡ option_of name =
    ap rule_of {y = long} c.long.ensures ∙ ap (λ (r : Rule). record r { long = Some name }) c.new.ensures.rule in
    IfOk-weaker c.arg.result _ _ (λ added adds app is. (
      adds.shape local ∙ ap₂ with_rule is.0 rule,
      adds.globals ∙ ap₂ (λ a b. a || b) is.1 local,
    )) c.arg.ensures
