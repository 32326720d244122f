-- What a link gave in one tick, and in ticks one after another.
use Rattle.std.proofs.Common.{arith, ◌≡◌, ℕ, List, [], ◌∷◌, ◌++◌, refl, sym, ap, ◌∙◌, inl, inr, Option, Some}
use Rattle.std.proofs.Common.{None, All, option_map}
use Rattle.std.proofs.lemmas.List.{append-nil, append_assoc}
use Rattle.std.proofs.lemmas.List.Elements.{All-nil, All-push, All-weaker, All-append, Contains-append_left}
use Rattle.std.proofs.lemmas.List.Elements.{Contains-append_right, Contains-push}
use Rattle.byte_devices.specs.Device.{HasRisenBy, count_after}
use Rattle.grid_core.specs.declared.conn.Conn.{Conn}
use Rattle.stroke_lattice.specs.State.{State}
use Rattle.link_nodes.specs.{declared.node.Node.Node, declared.ticked.Heard.Heard, declared.ticked.Sent.Sent}
use Rattle.link_nodes.specs.{Links.LinkSeen, Hearing.IsAnswer, Hearing.Hears as Polled, Ticking.SendsNext}
use Rattle.link_nodes.specs.Nodes.{conn_of, print_of, submitted_by}
use Rattle.node_session.specs.{Given.HasGiven, Given.SomeSpells, Working.Hears}
use Rattle.link_nodes.specs.declared.error.NodeError.TheVariants as errors
use Rattle.link_nodes.specs.declared.ticked.Heard.TheVariants as heards
use Rattle.link_nodes.specs.declared.ticked.Sent.TheVariants as sents

-- ---- what was given

none_added : (known : Option (List (List ℕ))) → known ≡ option_map (λ datagrams. datagrams ++ []) known
none_added None = refl
none_added (Some datagrams) = ap Some (sym (append-nil datagrams))

added_twice : (known : Option (List (List ℕ))) (g h : List (List ℕ))
    → option_map (λ datagrams. datagrams ++ h) (option_map (λ datagrams. datagrams ++ g) known)
    ≡ option_map (λ datagrams. datagrams ++ (g ++ h)) known
added_twice None g h = refl
added_twice (Some datagrams) g h = ap Some (append_assoc datagrams g h)

-- where nothing was heard, nothing was given
gives_nothing : (old new : LinkSeen) → new.heard ≡ old.heard → HasGiven old new []
gives_nothing old new same = same ∙ none_added old.heard

gives_through : (a b c : LinkSeen) (g h : List (List ℕ)) → HasGiven a b g → HasGiven b c h → HasGiven a c (g ++ h)
gives_through a b c g h first second =
    second ∙ (ap (λ (known : Option (List (List ℕ))). option_map (λ datagrams. datagrams ++ h) known) first
    ∙ added_twice a.heard g h)

-- what is sent is not heard, and no poll
pub sends_in_silence : (old new : Node) (link link' : LinkSeen) (sent : Sent) → SendsNext old new link link' sent
    → (link'.heard ≡ link.heard) × (link'.polls ≡ link.polls)
sends_in_silence old new link link' sents.Nothing ((same, last), none) =
    (ap (λ (l : LinkSeen). l.heard) same, ap (λ (l : LinkSeen). l.polls) same)
sends_in_silence old new link link' (sents.Piece i) (frame, next, (is_sent, adds, failures), last) =
    (is_sent.heard, is_sent.polls)
sends_in_silence old new link link' (sents.Refused errors.Device) ((is_sent, same, failures), last) =
    (is_sent.heard, is_sent.polls)
sends_in_silence old new link link' (sents.Refused errors.Memory) ((same, last), wanted) =
    (ap (λ (l : LinkSeen). l.heard) same, ap (λ (l : LinkSeen). l.polls) same)
sends_in_silence old new link link' _ none = absurd none

-- ---- what was submitted

-- a delta that one of some datagrams spells
spelled_left : (conn : Conn) (print : List ℕ) (g h : List (List ℕ)) (delta : State) → SomeSpells conn print g delta
    → SomeSpells conn print (g ++ h) delta
spelled_left conn print g h delta (datagram, stands, spells) =
    (datagram, Contains-append_left g h datagram stands, spells)

spelled_right : (conn : Conn) (print : List ℕ) (g h : List (List ℕ)) (delta : State) → SomeSpells conn print h delta
    → SomeSpells conn print (g ++ h) delta
spelled_right conn print g h delta (datagram, stands, spells) =
    (datagram, Contains-append_right g h datagram stands, spells)

-- nothing was submitted, whatever was given
silent : (old new : Node) (link link' : LinkSeen) (given : List (List ℕ)) → HasGiven link link' given
    → submitted_by new ≡ submitted_by old → Hears old new link link'
silent old new link link' given gives same = record {
  given = given;
  gives = gives;
  more = [];
  submits = same ∙ sym (append-nil (submitted_by old));
  each = All-nil (SomeSpells (conn_of old) (print_of old) given);
}

-- the answer to a datagram that was given
answered : (old new : Node) (link link' : LinkSeen) (datagram : List ℕ) (heard : Heard)
    → HasGiven link link' (datagram ∷ [])
    → IsAnswer (conn_of old) (print_of old) (submitted_by old) (submitted_by new) datagram heard
    → Hears old new link link'
answered old new link link' datagram heards.Nothing gives none = absurd none
answered old new link link' datagram heards.Submitted gives (delta, spells, adds) = record {
  given = datagram ∷ [];
  gives = gives;
  more = delta ∷ [];
  submits = adds;
  each = All-push (SomeSpells (conn_of old) (print_of old) (datagram ∷ [])) [] delta
      (All-nil (SomeSpells (conn_of old) (print_of old) (datagram ∷ [])))
      (datagram, Contains-push [] datagram, spells);
}
answered old new link link' datagram heards.Full gives (delta, spells, full, same) =
    silent old new link link' (datagram ∷ []) gives same
answered old new link link' datagram (heards.Refused why) gives (is_refusal, same) =
    silent old new link link' (datagram ∷ []) gives same

-- what a poll comes to
pub polled : (old new : Node) (link link' : LinkSeen) (heard : Heard)
    → Polled (conn_of old) (print_of old) (submitted_by old) (submitted_by new) link link' heard
    → Hears old new link link'
polled old new link link' heard (inl (is, (poll, same_heard, failures), same)) =
    silent old new link link' [] (gives_nothing link link' same_heard) same
polled old new link link' heard (inr (inl (is, (poll, same_heard, failures), same))) =
    silent old new link link' [] (gives_nothing link link' same_heard) same
polled old new link link' heard (inr (inr (datagram, (poll, adds, failures), answer))) =
    answered old new link link' datagram heard adds answer

counts_poll : (old new : Node) (link link' : LinkSeen) (heard : Heard)
    → Polled (conn_of old) (print_of old) (submitted_by old) (submitted_by new) link link' heard
    → link'.polls ≡ count_after link.polls 1
counts_poll old new link link' heard (inl (is, (poll, same_heard, failures), same)) = poll.polls
counts_poll old new link link' heard (inr (inl (is, (poll, same_heard, failures), same))) = poll.polls
counts_poll old new link link' heard (inr (inr (datagram, (poll, adds, failures), answer))) = poll.polls

-- one tick polls once
pub polled_once : (old new : Node) (a b c : LinkSeen) (heard : Heard) (sent : Sent)
    → Polled (conn_of old) (print_of old) (submitted_by old) (submitted_by new) a b heard → SendsNext old new b c sent
    → HasRisenBy 1 a.polls c.polls
polled_once old new a b c heard sent polls sends =
    omega (arith, counts_poll old new a b heard polls, (sends_in_silence old new b c sent sends).1)

-- what is heard before something is sent
pub heard_before : (old new : Node) (a b c : LinkSeen) → Hears old new a b → c.heard ≡ b.heard → Hears old new a c
heard_before old new a b c hears same = record {
  given = hears.given;
  gives = same ∙ hears.gives;
  more = hears.more;
  submits = hears.submits;
  each = hears.each;
}

-- what is heard behind what was heard, by a node of the same image
pub hears_through : (a b c : Node) (x y z : LinkSeen) → conn_of b ≡ conn_of a → print_of b ≡ print_of a
    → Hears a b x y → Hears b c y z → Hears a c x z
hears_through a b c x y z same_conn same_print first second =
    let both = first.given ++ second.given in
    let later : All (SomeSpells (conn_of a) (print_of a) second.given) second.more =
    rw (← same_conn, ← same_print) second.each in
    record {
      given = both;
      gives = gives_through x y z first.given second.given first.gives second.gives;
      more = first.more ++ second.more;
      submits =
          second.submits ∙ (ap (λ (s : List State). s ++ second.more) first.submits
          ∙ append_assoc (submitted_by a) first.more second.more);
      each = All-append (SomeSpells (conn_of a) (print_of a) both) first.more second.more
          (All-weaker (SomeSpells (conn_of a) (print_of a) first.given) (SomeSpells (conn_of a) (print_of a) both)
          (spelled_left (conn_of a) (print_of a) first.given second.given) first.more first.each)
          (All-weaker (SomeSpells (conn_of a) (print_of a) second.given) (SomeSpells (conn_of a) (print_of a) both)
          (spelled_right (conn_of a) (print_of a) first.given second.given) second.more later);
    }

-- nothing is heard where nothing happens
pub hears_nothing : (node : Node) (link : LinkSeen) → Hears node node link link
hears_nothing node link = silent node node link link [] (gives_nothing link link refl) refl

-- nodes that submitted the same, for the same image, hear the same
pub hears_from : (a b c : Node) (x y : LinkSeen) → conn_of b ≡ conn_of a → print_of b ≡ print_of a
    → submitted_by b ≡ submitted_by a → Hears b c x y → Hears a c x y
hears_from a b c x y same_conn same_print same hears = hears_through a b c x x y same_conn same_print
    (silent a b x x [] (gives_nothing x x refl) same) hears
