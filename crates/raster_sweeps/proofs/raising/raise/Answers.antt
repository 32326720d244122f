use Rattle.std.proofs.Common.{◌≡◌, ◌+◌, ◌<◌, ◌≤◌, ◌⊎◌, ℕ, List, length, min, set, get_or, subst, sym, ◌∙◌, ap, arith}
use Rattle.std.proofs.Common.{inl, inr, Contains, IsTrue}
use Rattle.std.proofs.lemmas.Bool.{false≢true}
use Rattle.grid_core.specs.Raster.{headroom, max_level}
use Rattle.raster_sweeps.specs.Spans.{InSpan, IsRaised}
use Rattle.row_scans.specs.Waiting.{AreOneMore}
use Rattle.grid_core.proofs.Headroom.{headroom_less, headroom_set}
use Rattle.raster_sweeps.proofs.Raised.{span_to, next_raised, next_not_raised, next_queued, next_not_queued, queued_at}
use Rattle.raster_sweeps.proofs.Raised.{raised_at, raised_rises}
use Rattle.raster_sweeps.proofs.raising.raise.Goals.{then-cells-at+then-push, then-cells-at+else-push, else-cells-at}
use Rattle.raster_sweeps.proofs.raising.raise.Goals as goal

-- what was queued before, or is of the span, is so up to the next cell
inside_more : (old : List ℕ) (first j i : ℕ) → Contains old i ⊎ InSpan (span_to first j) i
    → Contains old i ⊎ InSpan (span_to first (j + 1)) i
inside_more old first j i here =
    elim here [ inl earlier ↦ inl earlier | inr spanned ↦ inr (spanned.0, omega (arith, spanned.1)) ]

pub loop-cell-preserved : goal.loop-cell-preserved
loop-cell-preserved c =
    let mask = c.args.mask.now in
    let level = c.args.level in
    let cells = c.loop-cell.cells in
    let old = c.args.waiting.now in
    let waiting = c.loop-cell.waiting in
    let first = c.args.span.first in
    let j = c.loop-cell.cell in
    let held = c.loop-cell.invariant in
    let from : first ≤ j = c.loop-cell.auto.cell in
    let within : j < length cells =
    omega (arith, c.requires.within j (from, c.loop-cell-test.true), held.raised.filled) in
    let v : c.min-raised.result ≡ min level (get_or mask j 0) = c.min-raised.ensures in
    let top : c.min-raised.result ≤ max_level = omega (arith, c.min-raised.type_inv) in
    elim c.if-cells-at.branch [
      | then-cells-at+then-push w ↦
          let drawn : c.if-cells-at.cells ≡ set cells j (min level (get_or mask j 0)) =
          w.cells-is ∙ ap (λ x. set cells j x) v in
          let one : AreOneMore j waiting c.if-cells-at.waiting =
          subst (AreOneMore j waiting) (sym w.waiting-is) w.if-push.ensures.added in
          let lower : get_or cells j 0 < min level (get_or mask j 0) = omega (arith, w.if-cells-at.true, v) in
          let less : headroom c.if-cells-at.cells < headroom cells =
          rw drawn (headroom_set cells j (min level (get_or mask j 0)) within lower (omega (arith, v, top))) in
          record {
            raised = rw drawn (next_raised first j from within held.raised lower);
            inside = λ i waits.
                elim ((one.each i).0 waits) [
                  | inl earlier ↦ inside_more old first j i (held.inside i earlier)
                  | inr same ↦ inr (omega (arith, from, same), omega (arith, same))
                ];
            queued = λ room.
                next_queued first j from within held.raised (held.queued (subst IsTrue w.room-is room)) one;
            count = λ room. omega (arith, one.count, held.count (subst IsTrue w.room-is room));
            effort = λ room. omega (arith, one.count, less, held.effort (subst IsTrue w.room-is room));
            fell = inr (omega (arith, less, held.kept));
            ends = inr (omega (arith, c.loop-cell-test.true));
            kept = omega (arith, less, held.kept);
          }
      | then-cells-at+else-push w ↦
          let drawn : c.if-cells-at.cells ≡ set cells j (min level (get_or mask j 0)) =
          w.cells-is ∙ ap (λ x. set cells j x) v in
          let listed : c.if-cells-at.waiting ≡ waiting = w.waiting-is ∙ w.if-push.ensures.added in
          let lower : get_or cells j 0 < min level (get_or mask j 0) = omega (arith, w.if-cells-at.true, v) in
          let less : headroom c.if-cells-at.cells < headroom cells =
          rw drawn (headroom_set cells j (min level (get_or mask j 0)) within lower (omega (arith, v, top))) in
          let none : IsTrue c.if-cells-at.room → ⊥ = λ room. false≢true (sym (w.room-is ∙ w.if-push.false) ∙ room) in
          record {
            raised = rw drawn (next_raised first j from within held.raised lower);
            inside = λ i waits. inside_more old first j i (held.inside i (subst (λ xs. Contains xs i) listed waits));
            queued = λ room. absurd (none room);
            count = λ room. absurd (none room);
            effort = λ room. absurd (none room);
            fell = inr (omega (arith, less, held.kept));
            ends = inr (omega (arith, c.loop-cell-test.true));
            kept = omega (arith, less, held.kept);
          }
      | else-cells-at w ↦
          let high : min level (get_or mask j 0) ≤ get_or cells j 0 = omega (arith, w.if-cells-at.false, v) in
          record {
            raised = rw w.cells-is (next_not_raised first j from within held.raised high);
            inside = λ i waits.
                inside_more old first j i (held.inside i (subst (λ xs. Contains xs i) w.waiting-is waits));
            queued = λ room.
                rw w.waiting-is (next_not_queued first j from within held.raised
                (held.queued (subst IsTrue w.room-is room)) high);
            count = λ room. rw w.waiting-is (held.count (subst IsTrue w.room-is room));
            effort = λ room. rw (w.waiting-is, w.cells-is) (held.effort (subst IsTrue w.room-is room));
            fell = rw (w.room-is, w.cells-is) held.fell;
            ends = inr (omega (arith, c.loop-cell-test.true));
            kept = rw w.cells-is held.kept;
          }
    ]

pub returns : goal.returns
returns c =
    let mask = c.args.mask.now in
    let level = c.args.level in
    let before = c.args.cells.now in
    let after = c.loop-cell.cells in
    let held = c.loop-cell.invariant in
    let test : c.args.span.end ≤ c.loop-cell.cell = c.loop-cell-test.false in
    let raised : IsRaised (InSpan c.args.span) mask level before after =
    raised_at held.raised (λ k here. (here.0, omega (arith, here.1, here.0, held.ends)))
    (λ k here. (here.0, omega (arith, here.1, test))) in
    record {
      raised = raised;
      inside = λ i waits.
          elim (held.inside i waits) [
            | inl earlier ↦ inl earlier
            | inr here ↦ inr (here.0, omega (arith, here.1, here.0, held.ends))
          ];
      queued = λ room. queued_at (held.queued room) (λ k here. (here.0, omega (arith, here.1, test)));
      count = held.count;
      effort = held.effort;
      fell = held.fell;
      kept = held.kept;
      less = λ k here lower.
          headroom_less before after k raised.filled (λ i within. raised_rises raised i) (c.requires.within k here)
          (omega (arith, raised.raised k here, lower))
          (omega (arith, raised.raised k here, lower, c.ranges.level.fits));
    }
