-- Turns of a server, by their parts.
use Rattle.std.proofs.Common.{◌≡◌, ◌⊎◌, ℕ, zero, suc, List, ◌+◌, Bool, true, false, [], ◌∷◌, ◌++◌, refl, sym, ap, ◌∙◌}
use Rattle.std.proofs.Common.{subst, inl, inr, append-nil, append_assoc, add-one, All, ◌↔◌, not, IsTrue, IsFalse}
use Rattle.std.proofs.lemmas.List.Elements.{All-nil, All-push, All-append}
use Rattle.http_server.specs.Connection.{config_of, history}
use Rattle.http_server.specs.{History.new_history, declared.connection.Connection.Connection}
use Rattle.mio.specs.declared.net.stream.TcpStream.{TcpStream}
use Rattle.page_service.specs.Showing.{ShowsKey}
use Rattle.page_service.specs.{Keeping.IsInFile}
use Rattle.page_server.specs.{declared.hall.Hall.Hall, Peer.IsFresh, Peers.peers_of, Peers.most_of}
use Rattle.page_server.specs.{Round.IsRound, declared.peer.Peer.Peer, declared.peers.PeerList.PeerList, Caller.front_of}
use Rattle.page_server.specs.{declared.caller.Caller.Caller, declared.door.Door.Door, declared.server.Server.Server}
use Rattle.page_server.specs.Page.{PageAnswers, PageHas, PageNotes, PageSpells, PageTakes, page_version}
use Rattle.page_server.specs.Turning.{Scene, IsKeptTrack, IsRoundOf, AreMoving, AreRounds, IsPageConfig, IsNewcomer}
use Rattle.page_server.specs.Turning.{LetsIn, TakesTurn, AreTurns}
use Rattle.view_session.specs.Store.{StoreSeen}

same_flag : (a b : Bool) → not a ≡ not b → a ≡ b
same_flag true true is = refl
same_flag false false is = refl
same_flag a b is = absurd cc

-- a round that told whether bytes moved
pub round_told : (now : ℕ) (told kept : Bool) (a b : Scene) (moved : Bool) → not told ≡ not moved
    → IsRound PageAnswers page_version PageSpells PageHas PageTakes PageNotes now kept told a.keeping b.keeping a.peers
    b.peers
    → (IsKeptTrack a.keeping → IsKeptTrack b.keeping)
    → (IsKeptTrack a.keeping → IsTrue kept → IsInFile PageSpells b.keeping) → IsRoundOf now moved a b
round_told now told kept a b moved is round tracked in_file =
    subst (λ (m : Bool). IsRoundOf now m a b) (same_flag told moved is)
    (record { is_kept = kept; round = round; tracked = tracked; in_file = in_file })

pub one_more : (now n : ℕ) (a b d : Scene) → AreMoving now n a b → IsRoundOf now true b d → AreMoving now (n + 1) a d
one_more now n a b d so_far round = subst (λ m. AreMoving now m a d) (sym (add-one n)) (b, so_far, round)

-- rounds keep track of the file
moving_tracked : (now n : ℕ) (a b : Scene) → AreMoving now n a b → IsKeptTrack a.keeping → IsKeptTrack b.keeping
moving_tracked now zero a b same tracked = subst (λ (s : Scene). IsKeptTrack s.keeping) (sym same) tracked
moving_tracked now (suc n) a b (mid, so_far, round) tracked =
    round.tracked (moving_tracked now n a mid so_far tracked)

pub rounds_tracked : (now most : ℕ) (moved : Bool) (a b : Scene) → AreRounds now most moved a b
    → IsKeptTrack a.keeping → IsKeptTrack b.keeping
rounds_tracked now most true a b (n, all, moving) tracked = moving_tracked now n a b moving tracked
rounds_tracked now most false a b (n, mid, few, moving, round) tracked =
    round.tracked (moving_tracked now n a mid moving tracked)

-- ---- who is let in

newcomer : (key : List ℕ) (now : ℕ) (caller : Caller TcpStream) (connection : Connection)
    (peer : Peer (Caller TcpStream)) → IsFresh now caller connection peer → ShowsKey key (front_of caller)
    → IsPageConfig (config_of connection) → history connection ≡ new_history → IsNewcomer key now peer
newcomer key now caller connection peer fresh shown limits new = record {
  shown = subst (λ (c : Caller TcpStream). ShowsKey key (front_of c)) (sym fresh.with) shown;
  is_open = fresh.is_open;
  moved = fresh.moved;
  config = subst (λ (c : Connection). IsPageConfig (config_of c)) (sym fresh.over) limits;
  history = ap history fresh.over ∙ new;
}

module _ {T : Type 0} (now : ℕ) where
  -- nobody, where only the hall changes
  pub lets_none_in : (old : Server T) (hall : Hall TcpStream) → hall.key ≡ old.hall.key
      → LetsIn now old (record old { hall = hall })
  lets_none_in old hall key = record {
    fresh = [];
    newcomers = All-nil (IsNewcomer old.hall.key now);
    peers = sym (append-nil _);
    most = refl;
    key = key;
    rest = refl;
  }

  -- one more, or nobody
  pub lets_one_in : (old : Server T) (caller : Caller TcpStream) (connection : Connection)
      (peers : PeerList (Caller TcpStream)) (admitted : Bool)
      → ShowsKey old.hall.key (front_of caller) → IsPageConfig (config_of connection)
      → history connection ≡ new_history → most_of peers ≡ most_of old.peers
      → (IsTrue admitted → (peer : Peer (Caller TcpStream)) × IsFresh now caller connection peer
      × (peers_of peers ≡ peers_of old.peers ++ peer ∷ [])) → (IsFalse admitted → peers_of peers ≡ peers_of old.peers)
      → LetsIn now old (record old { peers = peers })
  lets_one_in old caller connection peers true shown limits new most admits refused =
      let x = admits refl in
      record {
        fresh = x.0 ∷ [];
        newcomers = All-push (IsNewcomer old.hall.key now) [] x.0 (All-nil (IsNewcomer old.hall.key now))
            (newcomer old.hall.key now caller connection x.0 x.1 shown limits new);
        peers = x.2;
        most = most;
        key = refl;
        rest = refl;
      }
  lets_one_in old caller connection peers false shown limits new most admits refused = record {
    fresh = [];
    newcomers = All-nil (IsNewcomer old.hall.key now);
    peers = refused refl ∙ sym (append-nil _);
    most = most;
    key = refl;
    rest = refl;
  }

  -- one after another
  pub lets_then : (a b d : Server T) → LetsIn now a b → LetsIn now b d → LetsIn now a d
  lets_then a b d first next = record {
    fresh = first.fresh ++ next.fresh;
    newcomers = All-append (IsNewcomer a.hall.key now) first.fresh next.fresh first.newcomers
        (subst (λ (key : List ℕ). All (IsNewcomer key now) next.fresh) first.key next.newcomers);
    peers = next.peers ∙ ap (λ ps. ps ++ next.fresh) first.peers ∙ append_assoc _ first.fresh next.fresh;
    most = next.most ∙ first.most;
    key = next.key ∙ first.key;
    rest = next.rest ∙ ap (λ (s : Server T). record s { peers = d.peers; hall = d.hall }) first.rest;
  }

-- the same things are there to do, where work is told by what is left
pub busy_with : (Busy Moved Working Crowded Left : Type 0)
    → (Busy ↔ (Moved ⊎ Working ⊎ Crowded)) → (Working ↔ Left) → (Busy ↔ (Moved ⊎ Left ⊎ Crowded))
busy_with Busy Moved Working Crowded Left any left = (
  λ busy. elim (any.0 busy) [
    | inl moves ↦ inl moves
    | inr (inl works) ↦ inr (inl (left.0 works))
    | inr (inr crowd) ↦ inr (inr crowd)
  ],
  λ one. any.1 (elim one [
    | inl moves ↦ inl moves
    | inr (inl rest) ↦ inr (inl (left.1 rest))
    | inr (inr crowd) ↦ inr (inr crowd)
  ]),
)

-- one turn more, behind a wait at the door
pub one_turn_more : {T : Type 0} (seen : T → StoreSeen) (n : ℕ) (first mid new : Server T) (door : Door) (now : ℕ)
    → AreTurns seen n first mid → TakesTurn seen now (record mid { door = door }) new → AreTurns seen (n + 1) first new
one_turn_more seen n first mid new door now so_far turn =
    subst (λ m. AreTurns seen m first new) (sym (add-one n)) (mid, door, now, so_far, turn)
