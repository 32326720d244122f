-- The parts that peers take in a round.
use Rattle.std.proofs.Common.{◌≡◌, ◌⊎◌, ℕ, ◌+◌, ◌<◌, Bool, true, false, List, [], ◌∷◌, ◌++◌, length, take, drop, set}
use Rattle.std.proofs.Common.{get_or, refl, sym, ap, ◌∙◌, subst, subst₂, arith, inl, inr, if◌then◌else◌, ◌||◌, not}
use Rattle.std.proofs.Common.{IsTrue, IsFalse}
use Rattle.std.proofs.lemmas.List.{append_assoc, append-nil, length-drop, length-take, drop_more, take_more}
use Rattle.std.proofs.lemmas.List.{take_more_set, drop-set-lt}
use Rattle.std.proofs.lemmas.List.Elements.{AllZip-push}
use Rattle.std.specs.List.{AllZip}
use Rattle.http.specs.declared.request.Request.{Request}
use Rattle.http_server.specs.{declared.response.Response.Response, Exchange.Call, Exchange.Chain, History.History}
use Rattle.http_server.specs.{History.Rests, Rounds.IsCleared}
use Rattle.http_server.proofs.{RoundLemmas.IsCleared-itself, StreamLemmas.Chain-append}
use Rattle.page_server.proofs.{Flags.never_quiet, Transfers.grown_at_last}
use Rattle.page_server.specs.{declared.peer.Peer.Peer, Pairs.InTurn, Pairs.InSomePair}
use Rattle.page_server.specs.Peer.{past, HasGrown, HasReceived, HasSent, HasMoved, IsStill}
use Rattle.page_server.specs.Peer.{Lingers, TakesIn, Finishes, TakesPart}

module _ {K X : Type 0} (answers : K → Request (List ℕ) → Response → K → Type 0)
    (R : K → K → X → X → List Call → Type 0) where
  -- one more pair
  pub InTurn-push : (first mid last : K) (olds news : List X) (calls mine : List Call) (p q : X)
      → InTurn answers R first olds news calls mid → Chain answers mid mine last → R mid last p q mine
      → InTurn answers R first (olds ++ p ∷ []) (news ++ q ∷ []) (calls ++ mine) last
  InTurn-push first mid last [] [] calls mine p q along chain here = (
    mine,
    [],
    last,
    ap (λ (t : List Call). t ++ mine) along.0 ∙ sym (append-nil mine),
    subst (λ k. Chain answers k mine last) along.1 chain,
    subst (λ k. R k last p q mine) along.1 here,
    (refl, refl),
  )
  InTurn-push first mid last (x ∷ olds) (y ∷ news) calls mine p q along chain here = (
    along.0,
    along.1 ++ mine,
    along.2,
    ap (λ (t : List Call). t ++ mine) along.3 ∙ append_assoc along.0 along.1 mine,
    along.4,
    along.5,
    InTurn-push along.2 mid last olds news along.1 mine p q along.6 chain here,
  )
  InTurn-push first mid last olds news calls mine p q along chain here = absurd along

  -- all calls together
  pub chain_of : (first last : K) (olds news : List X) (calls : List Call)
      → InTurn answers R first olds news calls last → Chain answers first calls last
  chain_of first last [] [] calls along = subst (λ cs. Chain answers first cs last) (sym along.0) along.1
  chain_of first last (x ∷ olds) (y ∷ news) calls along =
      subst (λ cs. Chain answers first cs last) (sym along.3)
      (Chain-append answers along.0 along.1 _ _ _ along.4 (chain_of along.2 last olds news along.1 along.6))
  chain_of first last olds news calls along = absurd along

  module _ (Q : K → K → X → X → List Call → Type 0) where
    -- what follows for each pair
    pub InTurn-map : ((a b : K) (x y : X) (mine : List Call) → R a b x y mine → Q a b x y mine) → (first last : K)
        (olds news : List X) (calls : List Call) → InTurn answers R first olds news calls last
        → InTurn answers Q first olds news calls last
    InTurn-map leads first last [] [] calls along = along
    InTurn-map leads first last (x ∷ olds) (y ∷ news) calls along = (
      along.0,
      along.1,
      along.2,
      along.3,
      along.4,
      leads first along.2 x y along.0 along.5,
      InTurn-map leads along.2 last olds news along.1 along.6,
    )
    InTurn-map leads first last olds news calls along = absurd along

    -- and what follows with a step of each behind it
    pub InTurn-then : (F : X → X → Type 0)
        → ((a b : K) (x y z : X) (mine : List Call) → R a b x y mine → F y z → Q a b x z mine) → (first last : K)
        (olds mids news : List X) (calls : List Call) → InTurn answers R first olds mids calls last
        → AllZip F mids news → InTurn answers Q first olds news calls last
    InTurn-then F leads first last [] [] [] calls along done = along
    InTurn-then F leads first last (x ∷ olds) (y ∷ mids) (z ∷ news) calls along done = (
      along.0,
      along.1,
      along.2,
      along.3,
      along.4,
      leads first along.2 x y z along.0 along.5 done.0,
      InTurn-then F leads along.2 last olds mids news along.1 along.6 done.1,
    )
    InTurn-then F leads first last olds mids news calls along done = absurd assumption

module _ {X : Type 0} (R : X → X → Type 0) where
  -- some pair, and one more
  pub InSomePair-push : (olds news : List X) (p q : X) → InSomePair R olds news
      → InSomePair R (olds ++ p ∷ []) (news ++ q ∷ [])
  InSomePair-push (x ∷ olds) (y ∷ news) p q (inl here) = inl here
  InSomePair-push (x ∷ olds) (y ∷ news) p q (inr later) = inr (InSomePair-push olds news p q later)
  InSomePair-push olds news p q some = absurd some

  -- the pair that is new
  pub InSomePair-last : (olds news : List X) (p q : X) → length olds ≡ length news → R p q
      → InSomePair R (olds ++ p ∷ []) (news ++ q ∷ [])
  InSomePair-last [] [] p q same here = inl here
  InSomePair-last [] (y ∷ news) p q same here = absurd (omega (arith, same))
  InSomePair-last (x ∷ olds) [] p q same here = absurd (omega (arith, same))
  InSomePair-last (x ∷ olds) (y ∷ news) p q same here = inr (InSomePair-last olds news p q (omega (arith, same)) here)

-- a loop over the items of a list has come to i, and puts q in the place of x
module _ {X : Type 0} (olds items : List X) (i : ℕ) (x q : X) (within : i < length items) (here : x ≡ get_or items i x)
    (rest : drop i items ≡ drop i olds) where
  one_more : drop i olds ≡ x ∷ drop (i + 1) items
  one_more = sym rest ∙ drop_more items i x within ∙ ap (λ y. y ∷ drop (i + 1) items) (sym here)

  within_olds : i < length olds
  within_olds = omega (arith, ap length one_more, length-drop i olds)

  next_old : get_or olds i x ∷ drop (i + 1) olds ≡ x ∷ drop (i + 1) items
  next_old = sym (drop_more olds i x within_olds) ∙ one_more

  pub take_next_old : take (i + 1) olds ≡ take i olds ++ x ∷ []
  take_next_old =
      let same : get_or olds i x ≡ x = let e = next_old in cc in
      take_more olds i x within_olds ∙ ap (λ y. take i olds ++ y ∷ []) same

  pub drop_next : drop (i + 1) (set items i q) ≡ drop (i + 1) olds
  drop_next =
      let same : drop (i + 1) items ≡ drop (i + 1) olds = let e = next_old in cc in
      drop-set-lt (i + 1) items i q (omega arith) ∙ same

  pub InTurn-next : {K : Type 0} (answers : K → Request (List ℕ) → Response → K → Type 0)
      (R : K → K → X → X → List Call → Type 0) (first mid last : K) (calls mine : List Call)
      → InTurn answers R first (take i olds) (take i items) calls mid → Chain answers mid mine last
      → R mid last x q mine
      → InTurn answers R first (take (i + 1) olds) (take (i + 1) (set items i q)) (calls ++ mine) last
  InTurn-next answers R first mid last calls mine along chain step =
      rw (take_next_old, take_more_set items i q within)
      (InTurn-push answers R first mid last (take i olds) (take i items) calls mine x q along chain step)

  pub AllZip-next : (R : X → X → Type 0) → AllZip R (take i olds) (take i items) → R x q
      → AllZip R (take (i + 1) olds) (take (i + 1) (set items i q))
  AllZip-next R along step =
      rw (take_next_old, take_more_set items i q within) (AllZip-push R (take i olds) (take i items) x q along step)

  pub InSomePair-next : (R : X → X → Type 0) → InSomePair R (take i olds) (take i items)
      → InSomePair R (take (i + 1) olds) (take (i + 1) (set items i q))
  InSomePair-next R some =
      rw (take_next_old, take_more_set items i q within) (InSomePair-push R (take i olds) (take i items) x q some)

  pub InSomePair-here : (R : X → X → Type 0) → R x q → InSomePair R (take (i + 1) olds) (take (i + 1) (set items i q))
  InSomePair-here R here =
      let same : length (take i olds) ≡ length (take i items)
      = omega (arith, within, within_olds, length-take i olds, length-take i items) in
      rw (take_next_old, take_more_set items i q within) (InSomePair-last R (take i olds) (take i items) x q same here)

-- a flag is set or not
set_or_not : (b : Bool) → IsTrue b ⊎ IsFalse b
set_or_not true = inl refl
set_or_not false = inr refl

-- where answers do not stand, they changed what is not kept
lost_parts : (kept changed : Bool) → IsFalse (kept || not changed) → IsFalse kept × IsTrue changed
lost_parts false true lost = (refl, refl)
lost_parts kept changed lost = absurd cc

-- a peer takes something in, and then something is sent to it
module _ {C : Type 0} (came changed kept went : Bool) (now : ℕ) (old mid new : Peer C) (mine : List Call)
    (taken : TakesIn changed came now old mid mine) (done : Finishes kept went now mid new) where
  -- one that is closed stays as it is but for what is dropped
  lingered : IsFalse old.is_open → Lingers old new × (mine ≡ [])
  lingered closed =
      let still = taken.closed closed in
      let mid_closed : IsFalse mid.is_open = ap (λ (p : Peer C). p.is_open) still.0.0 ∙ closed in
      (subst (λ (p : Peer C). Lingers old p) (sym (done.closed mid_closed)) still.0, still.1)

  -- where the answers do not stand it is closed, and nothing was sent
  lost : IsFalse (kept || not changed) → IsFalse new.is_open × ((past new).sent ≡ (past old).sent)
  lost unkept =
      let parts = lost_parts kept changed unkept in
      elim (set_or_not old.is_open) [
        | inl was_open ↦
            let ends = done.lost parts.0 (taken.noted was_open ∙ parts.1) in (ends.0, ends.1 ∙ taken.unsent)
        | inr closed ↦
            let still = (lingered closed).0.0 in
            (ap (λ (p : Peer C). p.is_open) still ∙ closed, ap (λ (p : Peer C). (past p).sent) still)
      ]

  cleared : (stands : Bool) → (IsFalse stands → (past new).sent ≡ (past old).sent)
      → IsCleared ((past old).calls ++ (if stands then mine else [])) new.connection
  cleared true unsent = IsCleared-itself _ new.connection (done.calls ∙ taken.calls)
  cleared false unsent = record {
    earlier = old.connection;
    config = sym (done.config ∙ taken.config);
    calls = sym (append-nil _);
    received = (taken.received.0, done.received ∙ taken.received.1);
    sent = unsent refl;
  }

  moved_before : IsStill mid new → HasMoved old mid → HasMoved old new
  moved_before still (inl grown) = inl (subst (HasGrown (past old).received) (sym still.0) grown)
  moved_before still (inr grown) = inr (subst (HasGrown (past old).sent) (sym still.1) grown)

  moved_after : HasMoved mid new → HasMoved old new
  moved_after (inl grown) = inl (grown_at_last _ (past mid).received _ taken.received grown)
  moved_after (inr grown) = inr (subst (λ (sent : List ℕ). HasGrown sent (past new).sent) taken.unsent grown)

  -- what was taken in, and then what was sent
  pub TakesPart-from : (moved : Bool) → (IsFalse moved → IsFalse came × IsFalse went)
      → TakesPart (kept || not changed) moved now old new mine
  TakesPart-from moved quiet = record {
    config = done.config ∙ taken.config;
    received = (taken.received.0, done.received ∙ taken.received.1);
    calls = done.calls ∙ taken.calls;
    sent = (done.sent.0, done.sent.1 ∙ ap (λ (t : List ℕ). t ++ done.sent.0) taken.unsent);
    cleared = cleared (kept || not changed) (λ unkept. (lost unkept).1);
    lost = lost;
    done = done.done;
    still = λ none is_open. (
      done.received ∙ taken.still (quiet none).0 (done.was_open is_open),
      ap (λ (h : History). h.sent) (done.still (quiet none).1 is_open) ∙ taken.unsent,
    );
    rests = λ none is_open. subst₂ Rests (sym done.config) (sym (done.still (quiet none).1 is_open))
        (taken.rests (done.was_open is_open));
    moment = λ is_open. elim (done.moment is_open) [
      | inl at_once ↦ inl (moved_after at_once.0, at_once.1)
      | inr later ↦ elim (taken.moment (done.was_open is_open)) [
        | inl earlier ↦ inl (moved_before later.0 earlier.0, later.1 ∙ earlier.1)
        | inr before ↦ inr ((later.0.0 ∙ before.0.0, later.0.1 ∙ before.0.1), later.1 ∙ before.1)
      ]
    ];
    request = λ is_open.
        let was = taken.request (done.was_open is_open) in
        record {
          called = λ some. done.request ∙ was.called some;
          received = λ none grown.
              done.request ∙ was.received none (subst (HasGrown (past old).received) done.received grown);
          still = λ none same. done.request ∙ was.still none (sym done.received ∙ same);
        };
    was_open = λ is_open. taken.was_open (done.was_open is_open);
    ends = λ was_open. elim (set_or_not mid.is_open) [
      | inl is ↦ elim (done.ends is) [ inl same ↦ inl (same ∙ taken.ended was_open) | inr ended ↦ inr ended ]
      | inr is ↦ inl (ap (λ (p : Peer C). p.ended) (done.closed is) ∙ taken.ended was_open)
    ];
    closed = lingered;
  }

module _ {C : Type 0} where
  -- bytes came, and then what waited was sent
  pub some_received : (kept went : Bool) (now : ℕ) (olds mids news : List (Peer C))
      → InSomePair HasReceived olds mids → AllZip (Finishes kept went now) mids news → InSomePair HasMoved olds news
  some_received kept went now (x ∷ olds) (y ∷ mids) (z ∷ news) (inl came) done =
      inl (inl (subst (HasGrown (past x).received) (sym done.0.received) came))
  some_received kept went now (x ∷ olds) (y ∷ mids) (z ∷ news) (inr later) done =
      inr (some_received kept went now olds mids news later done.1)
  some_received kept went now olds mids news some done = absurd assumption

  -- bytes went, behind what was taken in
  pub some_sent : {K : Type 0} (answers : K → Request (List ℕ) → Response → K → Type 0)
      (R : K → K → Peer C → Peer C → List Call → Type 0)
      → ((a b : K) (x y : Peer C) (mine : List Call) → R a b x y mine → (past y).sent ≡ (past x).sent)
      → (first last : K) (olds mids news : List (Peer C)) (calls : List Call)
      → InTurn answers R first olds mids calls last → InSomePair HasSent mids news → InSomePair HasMoved olds news
  some_sent answers R unsent first last [] [] news calls taken some = absurd some
  some_sent answers R unsent first last [] (y ∷ mids) news calls taken some = absurd taken
  some_sent answers R unsent first last (x ∷ olds) [] news calls taken some = absurd some
  some_sent answers R unsent first last (x ∷ olds) (y ∷ mids) [] calls taken some = absurd some
  some_sent answers R unsent first last (x ∷ olds) (y ∷ mids) (z ∷ news) calls taken (inl went) =
      inl (inr (subst (λ (sent : List ℕ). HasGrown sent (past z).sent) (unsent first taken.2 x y taken.0 taken.5) went))
  some_sent answers R unsent first last (x ∷ olds) (y ∷ mids) (z ∷ news) calls taken (inr later) =
      inr (some_sent answers R unsent taken.2 last olds mids news taken.1 taken.6 later)

  -- something went, or nothing to this peer
  Finishes-more : (kept some went : Bool) (now : ℕ) (old new : Peer C) → (IsFalse went → IsFalse some)
      → Finishes kept some now old new → Finishes kept went now old new
  Finishes-more kept some went now old new quiet done =
      let still : IsFalse went → IsTrue new.is_open → past new ≡ past old = λ nothing. done.still (quiet nothing) in
      assumption still

  -- nothing went to this peer, whatever went to others
  pub Finishes-still : (kept went : Bool) (now : ℕ) (old new : Peer C) → Finishes kept false now old new
      → Finishes kept went now old new
  Finishes-still kept went now old new done = Finishes-more kept false went now old new (λ nothing. refl) done

  -- something went to another peer
  pub all_went : (kept went : Bool) (now : ℕ) (olds news : List (Peer C)) → AllZip (Finishes kept went now) olds news
      → AllZip (Finishes kept true now) olds news
  all_went kept went now [] [] all = all
  all_went kept went now (x ∷ olds) (y ∷ news) all = (
    Finishes-more kept went true now x y (never_quiet true went refl) all.0,
    all_went kept went now olds news all.1,
  )
  all_went kept went now olds news all = absurd all

  -- bytes came, or none from this peer
  pub TakesIn-more : (changed some came : Bool) (now : ℕ) → (IsFalse came → IsFalse some)
      → (old new : Peer C) (mine : List Call) → TakesIn changed some now old new mine
      → TakesIn changed came now old new mine
  TakesIn-more changed some came now quiet old new mine taken =
      let still : IsFalse came → IsTrue new.is_open → (past new).received ≡ (past old).received
      = λ nothing. taken.still (quiet nothing) in
      assumption still
