-- What the tactics leave open of `round`.
use Rattle.std.proofs.Common.{inl, inr}
use Rattle.page_service.specs.{Kept.may_differ, Keeping.Answers}
use Rattle.page_server.specs.{Round.stands}
use Rattle.page_server.specs.Peer.{TakesIn, TakesPart, Finishes}
use Rattle.page_service.proofs.{Tracking.held_after, Tracking.in_file_after, Tracking.tracked_after}
use Rattle.page_server.proofs.{Flags.neither}
use Rattle.page_server.proofs.Turns.{InTurn-then, TakesPart-from, chain_of, some_received, some_sent}
use Rattle.page_server.proofs.rounds.round.Goals as goal

pub returns-clause-round : goal.returns-clause-round
returns-clause-round g c =
    let taken = c.take_in-came.ensures.parts in
    let done = c.finish-went.ensures.parts in
    let kept = c.keep-kept.result in
    let came = c.take_in-came.result in
    let went = c.finish-went.result in
    let moved = c.has_moved.result in
    let now = c.args.now in
    let version = g.S.Kept.version in
    record {
      calls = taken.0;
      called = _;
      parts = InTurn-then (Answers g.S.Service.answers)
          (λ before after. TakesIn (may_differ (version before.service) (version after.service)) came now)
          (λ before after. TakesPart (stands version kept before after) moved now) (Finishes kept went now)
          (λ a b x y z mine took sent.
          TakesPart-from came (may_differ (version a.service) (version b.service)) kept went now x y z mine took sent
          moved (neither came went moved c.has_moved.ensures)) _ _ _ _ _ taken.0 taken.1 done;
      settles = c.keep-kept.ensures.settles;
      told = λ is_moved. elim (c.has_moved.ensures.0 is_moved) [
        | inl did ↦ some_received kept went now _ _ _ (c.take_in-came.ensures.came did) done
        | inr did ↦ some_sent (Answers g.S.Service.answers)
            (λ before after. TakesIn (may_differ (version before.service) (version after.service)) came now)
            (λ a b x y mine part. part.unsent) _ _ _ _ _ taken.0 taken.1 (c.finish-went.ensures.went did)
      ];
    }

pub returns-clause-tracked : goal.returns-clause-tracked
returns-clause-tracked g c =
    let s = g.S.Kept in
    let law = g.met.S.Kept in
    let taken = c.take_in-came.ensures.parts in
    tracked_after s.version s.spells s.has s.takes s.notes law.takes_count law.notes_count g.S.Service.answers
    law.calls_count taken.0 c.keep-kept.result _ _ _ (chain_of _ _ _ _ _ _ taken.0 taken.1)
    c.keep-kept.ensures.settles

pub returns-clause-in_file : goal.returns-clause-in_file
returns-clause-in_file g c =
    let s = g.S.Kept in
    let law = g.met.S.Kept in
    let taken = c.take_in-came.ensures.parts in
    in_file_after s.version s.spells s.has s.takes s.notes law.takes_count law.notes_count g.S.Service.answers
    law.calls_count taken.0 c.keep-kept.result _ _ _ (chain_of _ _ _ _ _ _ taken.0 taken.1)
    c.keep-kept.ensures.settles

pub returns-clause-held : goal.returns-clause-held
returns-clause-held g c =
    let s = g.S.Kept in
    let law = g.met.S.Kept in
    let taken = c.take_in-came.ensures.parts in
    held_after s.version s.spells s.has s.takes s.notes law.takes_count law.notes_count g.S.Service.answers taken.0
    c.keep-kept.result _ _ _ (chain_of _ _ _ _ _ _ taken.0 taken.1) c.keep-kept.ensures.settles
