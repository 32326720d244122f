use Rattle.std.proofs.Common.{◌≡◌, ◌+◌, ◌<◌, true, false, length, arith, subst, sym, inl, inr}
use Rattle.row_scans.specs.Waiting.{AreOneMore}
use Rattle.row_scans.proofs.Joining.{none_checked, closed_joined, checked_joins, checked_passes, checked_all}
use Rattle.row_scans.proofs.Joining.{checked_some}
use Rattle.row_scans.proofs.row_queues.queue_strip.Goals.{else-to-i-via-then-to-i+else-not-push}
use Rattle.row_scans.proofs.row_queues.queue_strip.Goals.{else-to-i-via-else-to-i}
use Rattle.row_scans.proofs.row_queues.queue_strip.Goals as goal

pub returns-then-is_closed_straight : goal.returns-then-is_closed_straight
returns-then-is_closed_straight c = closed_joined (c.is_closed_straight.ensures.0 c.if-is_closed_straight.true)

pub loop-i-init : goal.loop-i-init
loop-i-init c = none_checked

pub loop-i-preserved : goal.loop-i-preserved
loop-i-preserved c =
    let first = c.args.first in
    let i = c.loop-i.i in
    let now = c.loop-i.waiting in
    elim c.else-to-i.branch [
      | else-to-i-via-then-to-i+else-not-push w ↦
          let one : AreOneMore (first + i) now c.else-to-i.waiting =
          subst (AreOneMore (first + i) now) (sym w.waiting-is) w.if-not-push.ensures.added in
          checked_joins c.loop-i.invariant c.else-to-i.waiting one c.loop-i-test.true
          (omega (arith, w.if-to-i.true, c.min.ensures))
      | else-to-i-via-else-to-i w ↦
          let same : c.else-to-i.waiting ≡ now = w.waiting-is in
          rw same (checked_passes c.loop-i.invariant (λ lower. omega (arith, w.if-to-i.false, c.min.ensures)))
    ]

pub returns-then-not-push : goal.returns-then-not-push
returns-then-not-push c =
    let same : c.push.new.self ≡ c.loop-i.waiting = c.if-not-push.ensures.added in
    let some : 0 < length c.loop-i.waiting = elim c.if-not-push.ensures.full [
      | inl room ↦ absurd (let no : false ≡ true = room in cc)
      | inr some ↦ some
    ] in
    rw same (checked_some c.loop-i.invariant some)

pub returns : goal.returns
returns c = checked_all c.loop-i.invariant c.loop-i-test.false
