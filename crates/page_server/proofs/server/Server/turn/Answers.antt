use Rattle.std.proofs.Common.{◌≡◌, ap, ◌∙◌, subst, IsTrue}
use Rattle.mio.specs.declared.net.stream.TcpStream.{TcpStream}
use Rattle.page_service.specs.{Keeper.keeping}
use Rattle.page_server.specs.{declared.hall.Hall.Hall, Page.HasPageWork, declared.server.Server.Server}
use Rattle.page_server.specs.Turning.{scene, Scene, AreRounds}
use Rattle.page_server.proofs.Turnings.{busy_with, rounds_tracked}
use Rattle.page_server.proofs.server.Server.turn.Goals as goal

pub returns : goal.returns
returns g c =
    let seen = g.T.StateStore.seen in
    let let_in = c.let_in-is_crowded in
    let came = let_in.ensures in
    let made = c.make_rounds-is_moving in
    let worked = c.work-is_working in
    let new = keeping seen worked.new.self in
    let first : Scene = record (scene seen c.args.self.now) { peers = (scene seen let_in.new.self).peers } in
    let begun : scene seen let_in.new.self ≡ first
    = ap (λ (s : Server g.row.T.Denot). record first { keeping = keeping seen s.keeper }) came.rest in
    let rounds : AreRounds c.args.now 16 made.result first (scene seen made.new.self)
    = subst (λ (s : Scene). AreRounds c.args.now 16 made.result s (scene seen made.new.self)) begun
    made.ensures.rounds in
    record {
      fresh = came.fresh;
      newcomers = came.newcomers;
      moved = made.result;
      between = scene seen made.new.self;
      rounds = subst
          (λ ps. AreRounds c.args.now 16 made.result (record (scene seen c.args.self.now) { peers = ps })
          (scene seen made.new.self)) came.peers rounds;
      peers = c.sweep.ensures.swept;
      most = c.sweep.ensures.most ∙ made.ensures.most ∙ came.most;
      key = c.sweep-2.ensures.key ∙ ap (λ (h : Hall TcpStream). h.key) made.ensures.hall ∙ came.key;
      waiting = c.sweep-2.ensures.waiting;
      settles = worked.ensures.works;
      kept = worked.ensures.rest;
      tracked = λ old.
          worked.ensures.tracked (rounds_tracked c.args.now 16 made.result first (scene seen made.new.self) rounds old);
      crowded = let_in.result;
      busy = busy_with _ (IsTrue made.result) (IsTrue worked.result) (IsTrue let_in.result)
          (HasPageWork new.service) c.is_any-self.ensures worked.ensures.left;
    }
