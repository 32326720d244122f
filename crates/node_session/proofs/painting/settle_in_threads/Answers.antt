use Rattle.node_session.proofs.Settled.{in_bands_keeps}
use Rattle.node_session.proofs.painting.settle_in_threads.Goals as goal

pub returns : goal.returns
returns g c =
    let slice = c.settle_in_bands in
    let keeps = in_bands_keeps _ _ _ _ _ slice.result slice.ensures.slice slice.ensures.cut_short in
    record { mask_is = keeps.mask; conn_is = keeps.conn; state_is = keeps.state }
