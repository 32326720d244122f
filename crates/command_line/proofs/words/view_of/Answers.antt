use Rattle.std.proofs.Common.{subst, ◌∙◌, ◌≡◌, Option, codes, option_map, inl, refl}
use Rattle.std.proofs.lemmas.Result.{err_from_is_err_and}
use Rattle.clap.specs.Words.{Text, first_of, found_of, rows_of}
use Rattle.clap.proofs.WalkLemmas.{first_value-rows}
use Rattle.command_line.specs.Words.{ConnIs, NamesNoConn, SideIs, NamesNoSide}
use Rattle.command_line.proofs.Calls.{reads_no_more, reads_none, reads_value}
use Rattle.command_line.proofs.Subcommands.{no_call, no_sided_call}
use Rattle.command_line.proofs.words.view_of.Goals as goal

pub returns-in_err-conn : goal.returns-in_err-conn
returns-in_err-conn c =
    let rows = rows_of (found_of c.args.view.now) in
    let value : option_map (λ text. text.now) c.get_str.result ≡ first_of (codes "conn") rows =
    c.get_str.ensures ∙ first_value-rows (found_of c.args.view.now) (codes "conn") in
    let none = subst NamesNoConn value c.in_err-conn.ensures.err.1 in
    let p = err_from_is_err_and c.from_residual.result c.from_residual.ensures.1 in
    rw (p.1, p.2) (reads_none _ c.in_err-conn.field-0.0 (inl c.in_err-conn.ensures.err.0)
    (λ usage. no_call rows _ refl none))

pub returns-in_err-side : goal.returns-in_err-side
returns-in_err-side c =
    let rows = rows_of (found_of c.args.view.now) in
    let value : option_map (λ text. text.now) c.get_str-2.result ≡ first_of (codes "tile") rows =
    c.get_str-2.ensures ∙ first_value-rows (found_of c.args.view.now) (codes "tile") in
    let p = err_from_is_err_and c.from_residual-in_err-side.result c.from_residual-in_err-side.ensures.1 in
    rw (p.1, p.2) (reads_no_more _ _ c.in_err-side.field-0.0 c.in_err-side.ensures
    (λ none. no_sided_call rows _ refl (subst NamesNoSide value none)))

pub returns : goal.returns
returns c =
    let rows = rows_of (found_of c.args.view.now) in
    let value : option_map (λ text. text.now) c.get_str.result ≡ first_of (codes "conn") rows =
    c.get_str.ensures ∙ first_value-rows (found_of c.args.view.now) (codes "conn") in
    let side : option_map (λ text. text.now) c.get_str-2.result ≡ first_of (codes "tile") rows =
    c.get_str-2.ensures ∙ first_value-rows (found_of c.args.view.now) (codes "tile") in
    let file : option_map (λ text. text.now) c.get_str-3.result ≡ first_of (codes "state") rows =
    c.get_str-3.ensures ∙ first_value-rows (found_of c.args.view.now) (codes "state") in reads_value _ _ (
      rows,
      refl,
      subst (λ (v : Option Text). ConnIs v c.in_ok-conn.conn) value c.in_ok-conn.ensures.ok,
      subst (λ (v : Option Text). SideIs v c.in_ok-side.side) side c.in_ok-side.ensures.said,
      c.in_ok-file.ensures ∙ file,
    )
