-- A round of all peers.
use Rattle.std.specs.Prelude.{ℕ, Bool, ◌||◌, not, List, Option, IsTrue}
use Rattle.http.specs.declared.request.Request.{Request}
use Rattle.http_server.specs.{declared.response.Response.Response, Exchange.Call}
use Rattle.run_faults.specs.declared.run_error.RunError.{RunError}
use Rattle.page_service.specs.{Kept.may_differ, Keeping.Keeping, Keeping.Answers, Keeping.Settles}
use Rattle.page_server.specs.{Pairs.InTurn}
use Rattle.page_server.specs.{Pairs.InSomePair, Peer.TakesPart, Peer.HasMoved, declared.peer.Peer.Peer}

-- the answers to calls that led from the old state to the new one stand: the file keeps the state of the service, or
-- they changed nothing of what is kept
abbrev pub stands : {S : Type 0} → (S → ℕ) → Bool → Keeping S → Keeping S → Bool
stands version kept old new = kept || not (may_differ (version old.service) (version new.service))

-- The peers take part one after another, each by calls of its own that the service answers, and then the file is saved
-- or not. Answers of calls that changed what is kept stand only where it was. The round tells of bytes only where some
-- moved.
pub record IsRound {S C : Type 0} (answers : S → Request (List ℕ) → Response → S → Type 0) (version : S → ℕ)
    (spells has : S → List ℕ → Type 0) (takes : S → List ℕ → S → Type 0) (notes : S → Option RunError → S → Type 0)
    (now : ℕ) (kept moved : Bool) (old new : Keeping S) (olds news : List (Peer C)) : Type 0 where
  pub calls : List Call
  pub called : Keeping S
  pub parts : InTurn (Answers answers) (λ before after. TakesPart (stands version kept before after) moved now)
      old olds news calls called
  pub settles : Settles version spells has takes notes called kept new
  pub told : IsTrue moved → InSomePair HasMoved olds news
