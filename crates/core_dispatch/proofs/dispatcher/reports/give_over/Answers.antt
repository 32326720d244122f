use Rattle.std.proofs.Common.{refl}
use Rattle.core_dispatch.proofs.Collecting.{given_over, given_over_and_dropped, dropped}
use Rattle.core_dispatch.proofs.dispatcher.reports.give_over.Goals.{in-Ok-Stranger, in-Ok-Joined, in-Ok-Again}
use Rattle.core_dispatch.proofs.dispatcher.reports.give_over.Goals.{in-Ok-Stale, in-Err}
use Rattle.core_rules.specs.declared.answers.Back.TheVariants as back
use Rattle.core_dispatch.proofs.dispatcher.reports.give_over.Goals as goal

pub returns : goal.returns
returns c =
    let old = c.args.books.now in
    let swept = c.args.swept in
    let new = c.give_back.new.self in
    let is_swept = c.pixels.ensures.swept in
    elim c.match-give_back.branch [
      | in-Ok-Stranger w ↦
          rw (w.result-is, w.books-is)
          (given_over_and_dropped old new w.abandon-was_out.new.self swept w.abandon-was_out.result is_swept
          (rw w.in-Ok-Stranger.field-0-is at w.in-Ok-Stranger.ensures.given) w.in-Ok-Stranger.ensures.rest
          (rw c.ticket-ticket.ensures at w.abandon-was_out.ensures.abandoned) w.abandon-was_out.ensures.rest)
      | in-Ok-Joined w ↦
          rw (w.result-is, w.books-is)
          (given_over old new swept back.Joined is_swept refl
          (rw w.in-Ok-Joined.field-0-is at w.in-Ok-Joined.ensures.given) w.in-Ok-Joined.ensures.rest)
      | in-Ok-Again w ↦
          rw (w.result-is, w.books-is)
          (given_over old new swept back.Again is_swept refl
          (rw w.in-Ok-Again.field-0-is at w.in-Ok-Again.ensures.given) w.in-Ok-Again.ensures.rest)
      | in-Ok-Stale w ↦
          rw (w.result-is, w.books-is)
          (given_over old new swept back.Stale is_swept refl
          (rw w.in-Ok-Stale.field-0-is at w.in-Ok-Stale.ensures.given) w.in-Ok-Stale.ensures.rest)
      | in-Err w ↦
          rw (w.result-is, w.books-is)
          (dropped old new w.abandon-was_out-in-Err.new.self swept w.abandon-was_out-in-Err.result
          w.in-Err.ensures.memory w.in-Err.ensures.err
          (rw c.ticket-ticket.ensures at w.abandon-was_out-in-Err.ensures.abandoned)
          w.abandon-was_out-in-Err.ensures.rest)
    ]
