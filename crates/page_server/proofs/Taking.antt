-- What a peer takes in, from what its connection did.
use Rattle.std.proofs.Common.{◌≡◌, ℕ, Bool, true, false, List, [], ◌++◌, Result, Ok, Err, refl, sym, ap, ◌∙◌, subst}
use Rattle.std.proofs.Common.{length, append-nil, inl, inr, arith, ◌↔◌, IfOk, IsTrue, IsFalse}
use Rattle.http.specs.declared.request.Request.{Request}
use Rattle.http_server.specs.{declared.response.Response.Response, Connection.config_of, Connection.history}
use Rattle.http_server.specs.{Exchange.Call, Exchange.Calls, Exchange.Chain, History.History, History.Rests}
use Rattle.view_session.specs.Store.{StoreSeen}
use Rattle.page_service.specs.{declared.keeper.StateKeeper.StateKeeper, Keeping.Answers}
use Rattle.page_server.specs.{declared.peer.Peer.Peer}
use Rattle.page_service.specs.Keeper.{keeping, KeeperAnswers}
use Rattle.page_server.specs.Peer.{past, begun_after, NotesMoment, NotesRequest, HasReceived, HasGrown, after_transfer}
use Rattle.page_server.specs.Peer.{Lingers, TakesIn}
use Rattle.page_service.proofs.Keepers.{Chain-keeping, none_answered, some_answered}
use Rattle.page_server.proofs.Transfers.{stays_unless_grown}

-- a peer that is closed takes nothing in
pub TakesIn-closed : {C : Type 0} (changed came : Bool) (now : ℕ) (old new : Peer C) → old.is_open ≡ false
    → Lingers old new → TakesIn changed came now old new []
TakesIn-closed changed came now old new closed still =
    let same : past new ≡ past old = ap (λ (p : Peer _). past p) still.0 in
    let shut : new.is_open ≡ false = ap (λ (p : Peer _). p.is_open) still.0 ∙ closed in
    record {
      config = ap (λ (p : Peer _). config_of p.connection) still.0;
      received = ([], ap (λ (h : History). h.received) same ∙ sym (append-nil _));
      calls = ap (λ (h : History). h.calls) same ∙ sym (append-nil _);
      unsent = ap (λ (h : History). h.sent) same;
      noted = λ was_open. absurd (cc);
      rests = λ is_open. absurd (cc);
      still = λ none is_open. absurd (cc);
      moment = λ is_open. absurd (cc);
      request = λ is_open. absurd (cc);
      was_open = λ is_open. absurd (cc);
      ended = λ was_open. absurd (cc);
      closed = λ was_closed. (still, refl);
    }

true_or_false : (A : Type 0) (b : Bool) → b ≡ true → b ≡ false → A
true_or_false A b is_true is_false = absurd (cc)

-- bytes that came have come
came_if : (came : Bool) (a b : List ℕ) → (IsFalse came → b ≡ a) → HasGrown a b → came ≡ true
came_if true a b still grown = refl
came_if false a b still grown = absurd (omega (arith, grown, ap length (still refl)))

none_if : (came : Bool) (a b : List ℕ) → (IsTrue came → HasGrown a b) → b ≡ a → came ≡ false
none_if true a b grew same = absurd (omega (arith, grew refl, ap length same))
none_if false a b grew same = refl

-- what is taken in, by how the transfer ended
module _ {S T C : Type 0} (answers : S → Request (List ℕ) → Response → S → Type 0) (seen : T → StoreSeen)
    (now : ℕ) (keeper forgot after : StateKeeper S T) (old mid : Peer C)
    (forgets : forgot ≡ record keeper { has_answered = false })
    (calls : Calls (KeeperAnswers answers) forgot after (past old).calls (past mid).calls)
    (received : (more : List ℕ) × ((past mid).received ≡ (past old).received ++ more))
    (unsent : (past mid).sent ≡ (past old).sent)
    (config : config_of mid.connection ≡ config_of old.connection)
    (was_open : old.is_open ≡ true)
    (rests : Rests (config_of mid.connection) (past mid))
    (changed called : Bool) (said : called ≡ after.has_answered) (noted : mid.has_changed ≡ changed) where
  -- since when a request is unfinished
  begins : (came : Bool) (new : Peer C) → past new ≡ past mid → new.begun ≡ begun_after now called came old.begun
      → (IsTrue came → HasReceived old mid) → (IsFalse came → (past mid).received ≡ (past old).received)
      → NotesRequest now old new calls.0
  begins came new same begun grew still =
      let forgotten : forgot.has_answered ≡ false = ap (λ (k : StateKeeper S T). k.has_answered) forgets in
      record {
        called = λ some.
            begun ∙ ap (λ c. begun_after now c came old.begun)
            (said ∙ some_answered answers calls.0 forgot after calls.2 some);
        received = λ none grown.
            let is = came_if came (past old).received (past mid).received still
            (subst (λ (h : History). HasGrown (past old).received h.received) same grown) in
            begun ∙ ap (λ c. begun_after now c came old.begun)
            (said ∙ none_answered answers calls.0 forgot after calls.2 forgotten none)
            ∙ ap (λ c. begun_after now false c old.begun) is;
        still = λ none stays.
            let is = none_if came (past old).received (past mid).received grew
            (sym (ap (λ (h : History). h.received) same) ∙ stays) in
            begun ∙ ap (λ c. begun_after now c came old.begun)
            (said ∙ none_answered answers calls.0 forgot after calls.2 forgotten none)
            ∙ ap (λ c. begun_after now false c old.begun) is;
      }

  taken : (came : Bool) (new : Peer C) → past new ≡ past mid → new.connection ≡ mid.connection
      → new.has_changed ≡ mid.has_changed → new.begun ≡ begun_after now called came old.begun → new.ended ≡ old.ended
      → (IsTrue came → HasReceived old mid)
      → (IsTrue new.is_open → IsFalse came → (past mid).received ≡ (past old).received) → NotesMoment now old new
      → (mine : List Call) × TakesIn changed came now old new mine
      × Chain (Answers answers) (keeping seen keeper) mine (keeping seen after)
  taken came new same connection kept begun ended grew still moment = (
    calls.0,
    record {
      config = ap config_of connection ∙ config;
      received = (received.0, ap (λ (h : History). h.received) same ∙ received.1);
      calls = ap (λ (h : History). h.calls) same ∙ calls.1;
      unsent = ap (λ (h : History). h.sent) same ∙ unsent;
      noted = λ is_open. kept ∙ noted;
      rests = λ is_open. subst (λ c. Rests (config_of c) (history c)) (sym connection) rests;
      still = λ none is_open. ap (λ (h : History). h.received) same ∙ still is_open none;
      moment = moment;
      request = λ is_open. begins came new same begun grew (still is_open);
      was_open = λ is_open. was_open;
      ended = λ is_open. ended;
      closed = λ closed. true_or_false _ old.is_open was_open closed;
    },
    subst (λ k. Chain (Answers answers) k calls.0 (keeping seen after))
        (ap (λ (k : StateKeeper S T). keeping seen k) forgets)
        (Chain-keeping answers seen calls.0 forgot after calls.2),
  )

  -- with what is noted of the calls and of the bytes that came
  abbrev pub noted_after : Bool → Peer C → Peer C
  noted_after came p = record p { begun = begun_after now called came p.begun }

  pub taken_after : {E : Type 0} (came : Bool) (m : Result Bool E) → (IsTrue came ↔ (m ≡ Ok true))
      → mid.moved ≡ old.moved → mid.begun ≡ old.begun → mid.ended ≡ old.ended
      → IfOk m (λ moved. IsTrue moved ↔ HasReceived old mid)
      → (mine : List Call) × TakesIn changed came now old (noted_after came (after_transfer m now mid)) mine
      × Chain (Answers answers) (keeping seen keeper) mine (keeping seen after)
  taken_after came (Ok true) says moved begun ended grown =
      taken came (noted_after came (record mid { moved = now })) refl refl refl
      (ap (λ b. begun_after now called came b) begun) ended
      (λ is. grown.0 refl) (λ is_open none. true_or_false _ came (says.1 refl) none)
      (λ is_open. inl (inl (grown.0 refl), refl))
  taken_after came (Ok false) says moved begun ended grown =
      let same = stays_unless_grown _ _ received (λ grew. true_or_false _ false (grown.1 grew) refl) in
      taken came (noted_after came mid) refl refl refl
      (ap (λ b. begun_after now called came b) begun) ended
      (λ is. absurd (let e = says.0 is in cc)) (λ is_open none. same) (λ is_open. inr ((same, unsent), moved))
  taken_after came (Err e) says moved begun ended grown =
      taken came (noted_after came (record mid { is_open = false })) refl refl refl
      (ap (λ b. begun_after now called came b) begun) ended
      (λ is. absurd (let e = says.0 is in cc))
      (λ is_open none. true_or_false _ false is_open refl) (λ is_open. true_or_false _ false is_open refl)
