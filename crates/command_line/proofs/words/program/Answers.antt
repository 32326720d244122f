use Rattle.std.proofs.Common.{ap, ap₂, ◌∙◌, ◌≡◌, codes, true}
use Rattle.std.proofs.lemmas.Result.{IfOk-weaker}
use Rattle.clap.specs.Words.{App, app_of, new_app, with_subcommand}
use Rattle.clap.specs.Simple.{app_of_fields, on_top}
use Rattle.command_line.specs.Words.{view_command, derive_command, node_command, paint_command}
use Rattle.command_line.proofs.words.program.Goals as goal

abbrev unnamed : App → App
unnamed = on_top (λ top. record top { no_binary_name = true })

abbrev without_flag : App → App
without_flag = on_top (λ top. record top { disable_help_flag = true })

abbrev without_help : App → App
without_help = on_top (λ top. record top { disable_help_subcommand = true })

abbrev required : App → App
required = on_top (λ top. record top { subcommand_required = true })

pub returns : goal.returns
returns c =
    let unnamed_is : app_of c.no_binary_name.result ≡ unnamed (new_app (codes "seedpaint")) =
    ap app_of_fields c.no_binary_name.ensures ∙ ap unnamed c.new.ensures.app in
    let flag_is : app_of c.disable_help_flag.result ≡ without_flag (unnamed (new_app (codes "seedpaint"))) =
    ap app_of_fields c.disable_help_flag.ensures ∙ ap without_flag unnamed_is in
    let bare = unnamed (new_app (codes "seedpaint")) in
    let help_is : app_of c.disable_help_subcommand.result ≡ without_help (without_flag bare) =
    ap app_of_fields c.disable_help_subcommand.ensures ∙ ap without_help flag_is in
    let top_is : app_of c.subcommand_required.result ≡ required (without_help (without_flag bare)) =
    ap app_of_fields c.subcommand_required.ensures ∙ ap required help_is in
    let with_view = c.in_ok-seedpaint.ensures.shape c.in_ok-view.ensures.1
    ∙ ap₂ with_subcommand top_is (ap (λ (a : App). a.top) {y = view_command} c.in_ok-view.ensures.0) in
    let with_derive = c.in_ok-seedpaint-2.ensures.shape c.in_ok-derive.ensures.1
    ∙ ap₂ with_subcommand with_view (ap (λ (a : App). a.top) {y = derive_command} c.in_ok-derive.ensures.0) in
    let with_node = c.in_ok-seedpaint-3.ensures.shape c.in_ok-node.ensures.1
    ∙ ap₂ with_subcommand with_derive (ap (λ (a : App). a.top) {y = node_command} c.in_ok-node.ensures.0) in
    IfOk-weaker c.subcommand-4.result _ _ (λ command adds. adds.shape c.in_ok-paint.ensures.1
    ∙ ap₂ with_subcommand with_node (ap (λ (a : App). a.top) {y = paint_command} c.in_ok-paint.ensures.0))
    c.subcommand-4.ensures
