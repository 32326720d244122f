use Rattle.std.proofs.Common.{◌≡◌, ℕ, List, ap, ◌∙◌, refl, Option, Some, None}
use Rattle.grid_core.specs.declared.conn.Conn.{Conn}
use Rattle.view_session.proofs.Shared.{alone_is_no_usage, derivation_stops_of_input, input_stops_of_input}
use Rattle.view_session.proofs.Shared.{stored_is_no_usage}
use Rattle.node_session.specs.Network.{NetworkSeen}
use Rattle.command_line.specs.{Run.Leaves, declared.words.Call.Call, declared.words.Call.TheVariants.View}
use Rattle.command_line.proofs.Calls.{derivation_runs, stored_view_runs, view_runs}
use Rattle.command_line.proofs.Networks.{alone_is_no_link, network_unasked, node_runs, stored_is_no_link}
use Rattle.command_line.proofs.process.make.Goals as goal

-- the call, with what is known of its state file
with_file : (call : Call) (conn : Conn) (side : ℕ) (file other : Option (List ℕ)) → call ≡ View conn side file
    → file ≡ other → call ≡ View conn side other
with_file call conn side file other is file_is = is ∙ ap (λ (f : Option (List ℕ)). View conn side f) file_is

-- views and derivations leave the network as it is
view_leaves : (call : Call) (conn : Conn) (side : ℕ) (file : Option (List ℕ)) (seen : NetworkSeen)
    → call ≡ View conn side file → Leaves call seen seen
view_leaves call conn side file seen is = rw is refl

pub returns-in-None-clause-runs : goal.returns-in-None-clause-runs
returns-in-None-clause-runs g c =
    view_runs g.N.Link.Link.seen c.args.call c.in-View.conn c.in-View.side
    (with_file c.args.call c.in-View.conn c.in-View.side c.in-View.file None c.in-View.is c.in-None.is)
    c.view_run_by.ensures

pub returns-in-None-clause-network : goal.returns-in-None-clause-network
returns-in-None-clause-network g c =
    network_unasked _ c.view_run_by.result _
    (view_leaves c.args.call c.in-View.conn c.in-View.side c.in-View.file _ c.in-View.is)
    (alone_is_no_link _ _ c.view_run_by.result (input_stops_of_input _) c.view_run_by.ensures.responds.refused)

pub returns-in-None-clause-no_usage : goal.returns-in-None-clause-no_usage
returns-in-None-clause-no_usage g c =
    alone_is_no_usage _ _ c.view_run_by.result (input_stops_of_input _) c.view_run_by.ensures.responds.refused

pub returns-in-None-clause-unbound : goal.returns-in-None-clause-unbound
returns-in-None-clause-unbound g c =
    λ link. absurd (alone_is_no_link _ _ c.view_run_by.result (input_stops_of_input _)
    c.view_run_by.ensures.responds.refused link)

pub returns-in-Some-clause-runs : goal.returns-in-Some-clause-runs
returns-in-Some-clause-runs g c =
    let path = c.in-Some.path in
    stored_view_runs g.N.Link.Link.seen c.args.call c.in-View.conn c.in-View.side path
    (with_file c.args.call c.in-View.conn c.in-View.side c.in-View.file (Some path) c.in-View.is c.in-Some.is)
    c.view_stored_by.ensures

pub returns-in-Some-clause-network : goal.returns-in-Some-clause-network
returns-in-Some-clause-network g c =
    network_unasked _ c.view_stored_by.result _
    (view_leaves c.args.call c.in-View.conn c.in-View.side c.in-View.file _ c.in-View.is)
    (stored_is_no_link (g.S.Source.seen c.args.source.now).remaining c.in-View.conn
    (g.T.StateStore.seen c.args.store.now).held c.in-Some.path c.view_stored_by.result
    c.view_stored_by.ensures.serves.refused)

pub returns-in-Some-clause-no_usage : goal.returns-in-Some-clause-no_usage
returns-in-Some-clause-no_usage g c =
    stored_is_no_usage (g.S.Source.seen c.args.source.now).remaining c.in-View.conn
    (g.T.StateStore.seen c.args.store.now).held c.in-Some.path c.view_stored_by.result
    c.view_stored_by.ensures.serves.refused

pub returns-in-Some-clause-unbound : goal.returns-in-Some-clause-unbound
returns-in-Some-clause-unbound g c =
    λ link. absurd (stored_is_no_link (g.S.Source.seen c.args.source.now).remaining c.in-View.conn
    (g.T.StateStore.seen c.args.store.now).held c.in-Some.path c.view_stored_by.result
    c.view_stored_by.ensures.serves.refused link)

pub returns-in-Node-clause-runs : goal.returns-in-Node-clause-runs
returns-in-Node-clause-runs g c =
    node_runs g.N.Link.Link.seen c.args.call c.in-Node.conn c.in-Node.side c.in-Node.port c.in-Node.ticks
    c.in-Node.hands c.in-Node.peers c.in-Node.file _ c.in-Node.is c.as_ref.ensures.value c.node_stored.ensures.runs

pub returns-in-Derive-clause-runs : goal.returns-in-Derive-clause-runs
returns-in-Derive-clause-runs g c =
    derivation_runs g.N.Link.Link.seen c.args.call c.in-Derive.kind c.in-Derive.h c.in-Derive.conn c.in-Derive.is
    c.derive_run_by.ensures

pub returns-in-Derive-clause-network : goal.returns-in-Derive-clause-network
returns-in-Derive-clause-network g c =
    network_unasked _ c.derive_run_by.result _ (rw c.in-Derive.is refl)
    (alone_is_no_link _ _ c.derive_run_by.result derivation_stops_of_input c.derive_run_by.ensures.responds.refused)

pub returns-in-Derive-clause-no_usage : goal.returns-in-Derive-clause-no_usage
returns-in-Derive-clause-no_usage g c =
    alone_is_no_usage _ _ c.derive_run_by.result derivation_stops_of_input c.derive_run_by.ensures.responds.refused

pub returns-in-Derive-clause-unbound : goal.returns-in-Derive-clause-unbound
returns-in-Derive-clause-unbound g c =
    λ link. absurd (alone_is_no_link _ _ c.derive_run_by.result derivation_stops_of_input
    c.derive_run_by.ensures.responds.refused link)
