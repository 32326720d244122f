-- A server as it begins, and what a turn does to it.
use Rattle.std.specs.Prelude.{◌≡◌, ◌⊎◌, ◌↔◌, ℕ, zero, suc, ◌<◌, ◌-◌, ◌*◌, ◌^◌, Bool, true, false, List, [], ◌++◌}
use Rattle.std.specs.Prelude.{filter, All, IsTrue}
use Rattle.http_server.specs.{Connection.config_of, History.new_history, declared.state.Config.Config}
use Rattle.mio.specs.declared.net.stream.TcpStream.{TcpStream}
use Rattle.page_board.specs.Board.{PageBoard}
use Rattle.page_server.specs.{declared.html.TheConstants.PAGE, declared.html.TheConstants.POLICY, Hall.guests_of}
use Rattle.page_service.specs.{Keeping.Keeping, Keeping.IsInFile, Keeping.IsTracked, Keeper.keeping}
use Rattle.page_server.specs.{Hall.IsWaiting}
use Rattle.page_server.specs.{Peer.past, Peers.peers_of, Peers.most_of, Peers.stays, Round.IsRound}
use Rattle.page_server.specs.{declared.peer.Peer.Peer, Caller.front_of, Page.PageAnswers, Page.PageGrows, Page.PageHas}
use Rattle.page_server.specs.{Page.PageNotes, Page.PageSpells, Page.PageTakes, Page.HasPageWork, Page.page_version}
use Rattle.page_server.specs.{Slices.AreFewThreads, Slices.IsSliceOf, declared.caller.Caller.Caller}
use Rattle.page_server.specs.declared.door.Door.{Door}
use Rattle.page_server.specs.{declared.page.Page.Page, declared.server.Server.Server, declared.site.Site.Site}
use Rattle.page_service.specs.Showing.{ShowsKey}
use Rattle.view_session.specs.Store.{StoreSeen}

-- the page with its file, and who is served
pub record Scene : Type 0 where
  pub keeping : Keeping Page
  pub peers : List (Peer (Caller TcpStream))

abbrev pub scene : {T : Type 0} → (T → StoreSeen) → Server T → Scene
scene seen server = record { keeping = keeping seen server.keeper; peers = peers_of server.peers }

-- the page of a board at a site, which is the one that is embedded with its policy, settling by slices
pub record IsPageAt (site : Site) (board : PageBoard) (side : ℕ) (page : Page) : Type 0 where
  pub shows : page.painting.board ≡ board
  pub port : page.painting.port ≡ site.hosts
  pub key : page.painting.key ≡ site.key
  pub name : page.painting.name ≡ site.name
  pub html : page.painting.page ≡ PAGE.now
  pub policy : page.painting.policy ≡ POLICY.now
  pub threads : AreFewThreads page.threads
  pub jobs : IsSliceOf side page.threads page.jobs

-- what the file has is what the page has, unless the version tells that the page may have more
abbrev pub IsKeptTrack : Keeping Page → Type 0
IsKeptTrack k = IsTracked page_version PageSpells PageHas k

-- a server as it begins: it has the page, the store and the name of the file, whose bytes these are and keep what the
-- page has; nobody came yet, and 64 may have places at a time; the hall is empty, where the key of the site is to be
-- shown; and there is something to do at once
pub record IsNewServer {T : Type 0} (seen : T → StoreSeen) (site : Site) (board : PageBoard) (kept : List ℕ) (side : ℕ)
    (store : T) (name : List ℕ) (server : Server T) : Type 0 where
  pub page : Page
  pub is_page : IsPageAt site board side page
  pub keeps : keeping seen server.keeper
      ≡ record { service = page; files = (seen store).held; name = name; last = kept; saved = page_version page }
  pub tracked : IsKeptTrack (keeping seen server.keeper)
  pub nobody : peers_of server.peers ≡ []
  pub most : most_of server.peers ≡ 64
  pub key : server.hall.key ≡ site.key
  pub empty : guests_of server.hall ≡ []
  pub busy : IsTrue server.is_busy

-- A round at this moment, in which bytes moved or not. It keeps track of the file; and where it was kept, the bytes
-- that the store answered last keep what the page has, which are those of the file where it is known.
pub record IsRoundOf (now : ℕ) (moved : Bool) (old new : Scene) : Type 0 where
  pub is_kept : Bool
  pub round : IsRound PageAnswers page_version PageSpells PageHas PageTakes PageNotes now is_kept moved old.keeping
      new.keeping old.peers new.peers
  pub tracked : IsKeptTrack old.keeping → IsKeptTrack new.keeping
  pub in_file : IsKeptTrack old.keeping → IsTrue is_kept → IsInFile PageSpells new.keeping

-- so many rounds, in each of which bytes moved
abbrev pub AreMoving : ℕ → ℕ → Scene → Scene → Type 0
AreMoving now zero old new = new ≡ old
AreMoving now (suc n) old new = (mid : Scene) × AreMoving now n old mid × IsRoundOf now true mid new

-- rounds while bytes move, at most so many: they moved in all of these, or not in the last one
abbrev pub AreRounds : ℕ → ℕ → Bool → Scene → Scene → Type 0
AreRounds now most true old new = (n : ℕ) × (n ≡ most) × AreMoving now n old new
AreRounds now most false old new =
    (n : ℕ) × (mid : Scene) × (n < most) × AreMoving now n old mid × IsRoundOf now false mid new

-- the limits are those of each connection to a page
pub record IsPageConfig (config : Config) : Type 0 where
  pub body : config.max_body_len ≡ 4 * 1024 * 1024
  pub head : config.limits.max_head_len ≡ 16 * 1024
  pub waiting : config.max_pending ≡ 64 * 1024

-- its first bytes show the key, it got its place at this moment, under the limits of a page, and nothing has moved over
-- it
pub record IsNewcomer (key : List ℕ) (now : ℕ) (peer : Peer (Caller TcpStream)) : Type 0 where
  pub shown : ShowsKey key (front_of peer.stream)
  pub is_open : IsTrue peer.is_open
  pub moved : peer.moved ≡ now
  pub config : IsPageConfig (config_of peer.connection)
  pub history : past peer ≡ new_history

-- newcomers stand behind those who were there, and nothing else changes but who waits in the hall
pub record LetsIn {T : Type 0} (now : ℕ) (old new : Server T) : Type 0 where
  pub fresh : List (Peer (Caller TcpStream))
  pub newcomers : All (IsNewcomer old.hall.key now) fresh
  pub peers : peers_of new.peers ≡ peers_of old.peers ++ fresh
  pub most : most_of new.peers ≡ most_of old.peers
  pub key : new.hall.key ≡ old.hall.key
  pub rest : new ≡ record old { peers = new.peers; hall = new.hall }

-- A turn: newcomers are let in; at most 16 rounds; those are dropped who are closed, have been still for half a minute
-- or take longer than a minute for a request, and in the hall those who came ten seconds ago; and the page settles.
-- There is more to do at once where bytes moved to the last, work is left, or there is a crowd at the door: each try
-- let somebody in, so that more may stand there. (Who comes to a door, no contract sees.)
pub record TakesTurn {T : Type 0} (seen : T → StoreSeen) (now : ℕ) (old new : Server T) : Type 0 where
  pub fresh : List (Peer (Caller TcpStream))
  pub newcomers : All (IsNewcomer old.hall.key now) fresh
  pub moved : Bool
  pub between : Scene
  pub rounds : AreRounds now 16 moved (record (scene seen old) { peers = peers_of old.peers ++ fresh }) between
  pub peers : peers_of new.peers ≡ filter (stays now 30_000 60_000) between.peers
  pub most : most_of new.peers ≡ most_of old.peers
  pub key : new.hall.key ≡ old.hall.key
  pub waiting : All (IsWaiting now) (guests_of new.hall)
  pub settles : PageGrows between.keeping.service (keeping seen new.keeper).service
  pub kept : keeping seen new.keeper ≡ record between.keeping { service = (keeping seen new.keeper).service }
  pub tracked : IsKeptTrack (keeping seen old.keeper) → IsKeptTrack (keeping seen new.keeper)
  pub crowded : Bool
  pub busy : IsTrue new.is_busy ↔ (IsTrue moved ⊎ HasPageWork (keeping seen new.keeper).service ⊎ IsTrue crowded)

-- so many turns, before each of which it waited at the door
abbrev pub AreTurns : {T : Type 0} → (T → StoreSeen) → ℕ → Server T → Server T → Type 0
AreTurns seen zero old new = new ≡ old
AreTurns {T} seen (suc n) old new =
    (mid : Server T) × (door : Door) × (now : ℕ)
    × AreTurns seen n old mid × TakesTurn seen now (record mid { door = door }) new

-- as many turns as can be counted
abbrev pub TakesAllTurns : {T : Type 0} → (T → StoreSeen) → Server T → Server T → Type 0
TakesAllTurns seen old new = (n : ℕ) × (n ≡ 2 ^ 64 - 1) × AreTurns seen n old new

-- a board was served at a site, from a server as it begins to one that has taken as many turns as can be counted
pub record WasServed {T : Type 0} (seen : T → StoreSeen) (site : Site) (board : PageBoard) (kept : List ℕ) (side : ℕ)
    (store : T) (name : List ℕ) : Type 0 where
  pub first : Server T
  pub last : Server T
  pub begins : IsNewServer seen site board kept side store name first
  pub turns : TakesAllTurns seen first last
