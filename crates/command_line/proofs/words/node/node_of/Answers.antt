use Rattle.std.proofs.Common.{subst, sym, ◌∙◌, ◌≡◌, List, Option, codes, option_map, map, inl, refl}
use Rattle.std.proofs.lemmas.Result.{err_from_is_err_and}
use Rattle.clap.specs.Words.{Text, all_of, first_of, found_of, rows_of}
use Rattle.clap.proofs.WalkLemmas.{first_value-rows, raw_values-rows}
use Rattle.command_line.specs.Words.{ConnIs, NamesNoConn, SideIs, PortIs, TicksIs, HandsIs, PeersAre}
use Rattle.command_line.proofs.{Calls.reads_no_more, Calls.reads_none, Calls.reads_value, Subcommands.no_node_call}
use Rattle.command_line.proofs.words.node.node_of.Goals as goal

pub returns-in_err-conn : goal.returns-in_err-conn
returns-in_err-conn c =
    let rows = rows_of (found_of c.args.node.now) in
    let value : option_map (λ text. text.now) c.get_str.result ≡ first_of (codes "conn") rows =
    c.get_str.ensures ∙ first_value-rows (found_of c.args.node.now) (codes "conn") in
    let none = subst NamesNoConn value c.in_err-conn.ensures.err.1 in
    let p = err_from_is_err_and c.from_residual.result c.from_residual.ensures.1 in
    rw (p.1, p.2) (reads_none _ c.in_err-conn.field-0.0 (inl c.in_err-conn.ensures.err.0)
    (λ usage call. no_node_call rows (λ conn side port ticks hands peers file node. none conn node.conn_is) call))

pub returns-in_err-side : goal.returns-in_err-side
returns-in_err-side c =
    let rows = rows_of (found_of c.args.node.now) in
    let value : option_map (λ text. text.now) c.get_str-2.result ≡ first_of (codes "tile") rows =
    c.get_str-2.ensures ∙ first_value-rows (found_of c.args.node.now) (codes "tile") in
    let p = err_from_is_err_and c.from_residual-in_err-side.result c.from_residual-in_err-side.ensures.1 in
    rw (p.1, p.2) (reads_no_more _ _ c.in_err-side.field-0.0 c.in_err-side.ensures
    (λ none call. no_node_call rows (λ conn side port ticks hands peers file node.
    none side (subst (λ (v : Option Text). SideIs v side) (sym value) node.side_is)) call))

pub returns-in_err-port : goal.returns-in_err-port
returns-in_err-port c =
    let rows = rows_of (found_of c.args.node.now) in
    let value : option_map (λ text. text.now) c.get_str-3.result ≡ first_of (codes "port") rows =
    c.get_str-3.ensures ∙ first_value-rows (found_of c.args.node.now) (codes "port") in
    let p = err_from_is_err_and c.from_residual-in_err-port.result c.from_residual-in_err-port.ensures.1 in
    rw (p.1, p.2) (reads_no_more _ _ c.in_err-port.field-0.0 c.in_err-port.ensures
    (λ none call. no_node_call rows (λ conn side port ticks hands peers file node.
    none port (subst (λ (v : Option Text). PortIs v port) (sym value) node.port_is)) call))

pub returns-in_err-ticks : goal.returns-in_err-ticks
returns-in_err-ticks c =
    let rows = rows_of (found_of c.args.node.now) in
    let value : option_map (λ text. text.now) c.get_str-4.result ≡ first_of (codes "ticks") rows =
    c.get_str-4.ensures ∙ first_value-rows (found_of c.args.node.now) (codes "ticks") in
    let p = err_from_is_err_and c.from_residual-in_err-ticks.result c.from_residual-in_err-ticks.ensures.1 in
    rw (p.1, p.2) (reads_no_more _ _ c.in_err-ticks.field-0.0 c.in_err-ticks.ensures
    (λ none call. no_node_call rows (λ conn side port ticks hands peers file node.
    none ticks (subst (λ (v : Option Text). TicksIs v ticks) (sym value) node.ticks_is)) call))

pub returns-in_err-hands : goal.returns-in_err-hands
returns-in_err-hands c =
    let rows = rows_of (found_of c.args.node.now) in
    let value : option_map (λ text. text.now) c.get_str-5.result ≡ first_of (codes "hands") rows =
    c.get_str-5.ensures ∙ first_value-rows (found_of c.args.node.now) (codes "hands") in
    let p = err_from_is_err_and c.from_residual-in_err-hands.result c.from_residual-in_err-hands.ensures.1 in
    rw (p.1, p.2) (reads_no_more _ _ c.in_err-hands.field-0.0 c.in_err-hands.ensures
    (λ none call. no_node_call rows (λ conn side port ticks hands peers file node.
    none hands (subst (λ (v : Option Text). HandsIs v hands) (sym value) node.hands_is)) call))

pub returns-in_err-peers : goal.returns-in_err-peers
returns-in_err-peers c =
    let rows = rows_of (found_of c.args.node.now) in
    let values : option_map (λ texts. map (λ text. text.now) texts.now) c.get_strs.result ≡ all_of (codes "peer") rows =
    c.get_strs.ensures ∙ raw_values-rows (found_of c.args.node.now) (codes "peer") in
    let p = err_from_is_err_and c.from_residual-in_err-peers.result c.from_residual-in_err-peers.ensures.1 in
    rw (p.1, p.2) (reads_no_more _ _ c.in_err-peers.field-0.0 c.in_err-peers.ensures
    (λ none call. no_node_call rows (λ conn side port ticks hands peers file node.
    none peers (subst (λ (v : Option (List Text)). PeersAre v peers) (sym values) node.peers_are)) call))

pub returns : goal.returns
returns c =
    let found = found_of c.args.node.now in
    let rows = rows_of found in
    let conn : option_map (λ text. text.now) c.get_str.result ≡ first_of (codes "conn") rows =
    c.get_str.ensures ∙ first_value-rows found (codes "conn") in
    let side : option_map (λ text. text.now) c.get_str-2.result ≡ first_of (codes "tile") rows =
    c.get_str-2.ensures ∙ first_value-rows found (codes "tile") in
    let port : option_map (λ text. text.now) c.get_str-3.result ≡ first_of (codes "port") rows =
    c.get_str-3.ensures ∙ first_value-rows found (codes "port") in
    let ticks : option_map (λ text. text.now) c.get_str-4.result ≡ first_of (codes "ticks") rows =
    c.get_str-4.ensures ∙ first_value-rows found (codes "ticks") in
    let hands : option_map (λ text. text.now) c.get_str-5.result ≡ first_of (codes "hands") rows =
    c.get_str-5.ensures ∙ first_value-rows found (codes "hands") in
    let peers : option_map (λ texts. map (λ text. text.now) texts.now) c.get_strs.result ≡ all_of (codes "peer") rows =
    c.get_strs.ensures ∙ raw_values-rows found (codes "peer") in
    let file : option_map (λ text. text.now) c.get_str-6.result ≡ first_of (codes "state") rows =
    c.get_str-6.ensures ∙ first_value-rows found (codes "state") in
    reads_value _ _ (
      rows,
      refl,
      record {
        conn_is = subst (λ (v : Option Text). ConnIs v c.in_ok-conn.conn) conn c.in_ok-conn.ensures.ok;
        side_is = subst (λ (v : Option Text). SideIs v c.in_ok-side.side) side c.in_ok-side.ensures.said;
        file_is = c.in_ok-file.ensures ∙ file;
        port_is = subst (λ (v : Option Text). PortIs v c.in_ok-port.port) port c.in_ok-port.ensures.said;
        ticks_is = subst (λ (v : Option Text). TicksIs v c.in_ok-ticks.ticks) ticks c.in_ok-ticks.ensures.said;
        hands_is = subst (λ (v : Option Text). HandsIs v c.in_ok-hands.hands) hands c.in_ok-hands.ensures.said;
        peers_are = subst (λ (v : Option (List Text)). PeersAre v c.in_ok-peers.peers) peers c.in_ok-peers.ensures.said;
      },
    )
