use Rattle.std.proofs.Common.{subst, sym, ap, ◌∙◌, ◌≡◌, Option, Some, codes, option_map, inl, refl}
use Rattle.std.proofs.lemmas.Result.{err_from_is_err_and}
use Rattle.clap.specs.Words.{Text, first_of, found_of, rows_of}
use Rattle.clap.proofs.WalkLemmas.{first_value-rows}
use Rattle.command_line.specs.Words.{ConnIs, NamesNoConn, SideIs, PagePortIs, KeptFileIs}
use Rattle.command_line.proofs.Calls.{reads_no_more, reads_none, reads_value}
use Rattle.command_line.proofs.Subcommands.{names_none, no_paint_call}
use Rattle.command_line.proofs.words.paint.paint_of.Goals as goal

pub returns-in_default : goal.returns-in_default
returns-in_default c =
    let rows = rows_of (found_of c.args.paint.now) in
    let mask : option_map (λ text. text.now) c.get_str.result ≡ first_of (codes "mask") rows =
    c.get_str.ensures ∙ first_value-rows (found_of c.args.paint.now) (codes "mask") in
    reads_none _ _ (inl refl) (λ usage call. no_paint_call rows (λ painting paint.
    names_none _ c.get_str.result painting.mask c.in_default.not-Some (mask ∙ paint.mask_is)) call)

pub returns-in_err-conn : goal.returns-in_err-conn
returns-in_err-conn c =
    let rows = rows_of (found_of c.args.paint.now) in
    let value : option_map (λ text. text.now) c.get_str-2.result ≡ first_of (codes "conn") rows =
    c.get_str-2.ensures ∙ first_value-rows (found_of c.args.paint.now) (codes "conn") in
    let none = subst NamesNoConn value c.in_err-conn.ensures.err.1 in
    let p = err_from_is_err_and c.from_residual.result c.from_residual.ensures.1 in
    rw (p.1, p.2) (reads_none _ c.in_err-conn.field-0.0 (inl c.in_err-conn.ensures.err.0)
    (λ usage call. no_paint_call rows (λ painting paint. none painting.conn paint.conn_is) call))

pub returns-in_err-side : goal.returns-in_err-side
returns-in_err-side c =
    let rows = rows_of (found_of c.args.paint.now) in
    let value : option_map (λ text. text.now) c.get_str-3.result ≡ first_of (codes "tile") rows =
    c.get_str-3.ensures ∙ first_value-rows (found_of c.args.paint.now) (codes "tile") in
    let p = err_from_is_err_and c.from_residual-in_err-side.result c.from_residual-in_err-side.ensures.1 in
    rw (p.1, p.2) (reads_no_more _ _ c.in_err-side.field-0.0 c.in_err-side.ensures
    (λ none call. no_paint_call rows (λ painting paint.
    none painting.side (subst (λ (v : Option Text). SideIs v painting.side) (sym value) paint.side_is)) call))

pub returns-in_err-port : goal.returns-in_err-port
returns-in_err-port c =
    let rows = rows_of (found_of c.args.paint.now) in
    let value : option_map (λ text. text.now) c.get_str-4.result ≡ first_of (codes "port") rows =
    c.get_str-4.ensures ∙ first_value-rows (found_of c.args.paint.now) (codes "port") in
    let p = err_from_is_err_and c.from_residual-in_err-port.result c.from_residual-in_err-port.ensures.1 in
    rw (p.1, p.2) (reads_no_more _ _ c.in_err-port.field-0.0 c.in_err-port.ensures
    (λ none call. no_paint_call rows (λ painting paint.
    none painting.port (subst (λ (v : Option Text). PagePortIs v painting.port) (sym value) paint.port_is)) call))

pub returns : goal.returns
returns c =
    let found = found_of c.args.paint.now in
    let rows = rows_of found in
    let mask : option_map (λ text. text.now) c.get_str.result ≡ first_of (codes "mask") rows =
    c.get_str.ensures ∙ first_value-rows found (codes "mask") in
    let conn : option_map (λ text. text.now) c.get_str-2.result ≡ first_of (codes "conn") rows =
    c.get_str-2.ensures ∙ first_value-rows found (codes "conn") in
    let side : option_map (λ text. text.now) c.get_str-3.result ≡ first_of (codes "tile") rows =
    c.get_str-3.ensures ∙ first_value-rows found (codes "tile") in
    let port : option_map (λ text. text.now) c.get_str-4.result ≡ first_of (codes "port") rows =
    c.get_str-4.ensures ∙ first_value-rows found (codes "port") in
    let file : option_map (λ text. text.now) c.get_str-5.result ≡ first_of (codes "state") rows =
    c.get_str-5.ensures ∙ first_value-rows found (codes "state") in
    let forward : option_map (λ text. text.now) c.get_str-6.result ≡ first_of (codes "forward") rows =
    c.get_str-6.ensures ∙ first_value-rows found (codes "forward") in
    let named : option_map (λ text. text.now) c.get_str.result ≡ Some c.in-Some.name.now = rw c.in-Some.is refl in
    let same : c.in_ok-mask.mask ≡ c.in-Some.name.now = c.in_ok-mask.ensures in
    reads_value _ _ (
      rows,
      refl,
      record {
        mask_is = sym mask ∙ named ∙ ap (λ (t : Text). Some t) (sym same);
        file_is = subst (λ (m : Text). KeptFileIs m (first_of (codes "state") rows) c.in_ok-file.file) (sym same)
            (subst (λ (v : Option Text). KeptFileIs c.in-Some.name.now v c.in_ok-file.file) file c.in_ok-file.ensures);
        conn_is = subst (λ (v : Option Text). ConnIs v c.in_ok-conn.conn) conn c.in_ok-conn.ensures.ok;
        side_is = subst (λ (v : Option Text). SideIs v c.in_ok-side.side) side c.in_ok-side.ensures.said;
        port_is = subst (λ (v : Option Text). PagePortIs v c.in_ok-port.port) port c.in_ok-port.ensures.said;
        forward_is = c.in_ok-forward.ensures ∙ forward;
      },
    )
