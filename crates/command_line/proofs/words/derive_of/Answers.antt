use Rattle.std.proofs.Common.{subst, ◌∙◌, ◌≡◌, Option, codes, option_map, inl, refl}
use Rattle.std.proofs.lemmas.Result.{err_from_is_err_and}
use Rattle.clap.specs.Words.{Text, first_of, found_of, rows_of}
use Rattle.clap.proofs.WalkLemmas.{first_value-rows}
use Rattle.command_line.specs.Words.{ConnIs, NamesNoConn, KindIs, NamesNoKind, HIs, NamesNoH}
use Rattle.command_line.proofs.Calls.{reads_no_more, reads_none, reads_value}
use Rattle.command_line.proofs.Subcommands.{no_kind_call, no_h_call, no_joined_call}
use Rattle.command_line.proofs.words.derive_of.Goals as goal

pub returns-in_err-kind : goal.returns-in_err-kind
returns-in_err-kind c =
    let rows = rows_of (found_of c.args.derive.now) in
    let word : option_map (λ text. text.now) c.get_str.result ≡ first_of (codes "kind") rows =
    c.get_str.ensures ∙ first_value-rows (found_of c.args.derive.now) (codes "kind") in
    let none = subst NamesNoKind word c.in_err-kind.ensures.err.1 in
    let p = err_from_is_err_and c.from_residual.result c.from_residual.ensures.1 in
    rw (p.1, p.2) (reads_none _ c.in_err-kind.field-0.0 (inl c.in_err-kind.ensures.err.0)
    (λ usage. no_kind_call rows _ refl none))

pub returns-in_err-h : goal.returns-in_err-h
returns-in_err-h c =
    let rows = rows_of (found_of c.args.derive.now) in
    let value : option_map (λ text. text.now) c.get_str-2.result ≡ first_of (codes "h") rows =
    c.get_str-2.ensures ∙ first_value-rows (found_of c.args.derive.now) (codes "h") in
    let p = err_from_is_err_and c.from_residual-in_err-h.result c.from_residual-in_err-h.ensures.1 in
    rw (p.1, p.2) (reads_no_more _ _ c.in_err-h.field-0.0 c.in_err-h.ensures
    (λ none. no_h_call rows _ refl (subst NamesNoH value none)))

pub returns-in_err-conn : goal.returns-in_err-conn
returns-in_err-conn c =
    let rows = rows_of (found_of c.args.derive.now) in
    let value : option_map (λ text. text.now) c.get_str-3.result ≡ first_of (codes "conn") rows =
    c.get_str-3.ensures ∙ first_value-rows (found_of c.args.derive.now) (codes "conn") in
    let none = subst NamesNoConn value c.in_err-conn.ensures.err.1 in
    let p = err_from_is_err_and c.from_residual-in_err-conn.result c.from_residual-in_err-conn.ensures.1 in
    rw (p.1, p.2) (reads_none _ c.in_err-conn.field-0.0 (inl c.in_err-conn.ensures.err.0)
    (λ usage. no_joined_call rows _ refl none))

pub returns : goal.returns
returns c =
    let rows = rows_of (found_of c.args.derive.now) in
    let word : option_map (λ text. text.now) c.get_str.result ≡ first_of (codes "kind") rows =
    c.get_str.ensures ∙ first_value-rows (found_of c.args.derive.now) (codes "kind") in
    let h : option_map (λ text. text.now) c.get_str-2.result ≡ first_of (codes "h") rows =
    c.get_str-2.ensures ∙ first_value-rows (found_of c.args.derive.now) (codes "h") in
    let conn : option_map (λ text. text.now) c.get_str-3.result ≡ first_of (codes "conn") rows =
    c.get_str-3.ensures ∙ first_value-rows (found_of c.args.derive.now) (codes "conn") in reads_value _ _ (
      rows,
      refl,
      subst (λ (v : Option Text). KindIs v c.in_ok-kind.kind) word c.in_ok-kind.ensures.ok,
      subst (λ (v : Option Text). HIs v c.in_ok-h.h) h c.in_ok-h.ensures.said,
      subst (λ (v : Option Text). ConnIs v c.in_ok-conn.conn) conn c.in_ok-conn.ensures.ok,
    )
