use Rattle.std.proofs.Common.{refl}
use Rattle.node_session.proofs.Desks.{stays_over}
use Rattle.node_session.proofs.Meanwhile.{polled, polled_once, heard_before, sends_in_silence}
use Rattle.node_session.proofs.desk.Desk.exchange.Goals as goal

pub returns-clause-works : goal.returns-clause-works
returns-clause-works g c =
    let did = c.tick-ticked.ensures in
    let old = c.args.self.now.node in
    let new = c.tick-ticked.new.self in
    let ticks = did.ticks in
    record {
      stays = stays_over _ _ refl refl did.looked.same;
      hears = heard_before old new _ ticks.between _ (polled old new _ ticks.between _ ticks.heard)
          (sends_in_silence old new ticks.between _ _ ticks.sent).0;
      polls = polled_once old new _ ticks.between _ _ _ ticks.heard ticks.sent;
    }
