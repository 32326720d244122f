use Rattle.std.proofs.Common.{◌≡◌, ℕ, ◌<◌, List, drop, take, length, get_or, true, false, refl, subst, sym, arith}
use Rattle.std.proofs.Common.{length-drop}
use Rattle.view_session.specs.Input.{IsImageLine}
use Rattle.view_session.proofs.ImageLines.{HasNoBreakBefore, splits_here, none_at_start, one_more_line, begins_within}
use Rattle.view_session.proofs.input.split.Goals.{else-loop-start-test, then-loop-start-test+then-length-rest}
use Rattle.view_session.proofs.input.split.Goals as goal

pub returns-then-is_image_line-clause-split : goal.returns-then-is_image_line-clause-split
returns-then-is_image_line-clause-split c =
    let n = c.line_length-length.result in
    let short : n < length c.split_at.result.1.now = omega (
      arith,
      c.if-length-rest.false,
      c.line_length-length.ensures.within,
    ) in
    splits_here c.args.input.now c.split_at.result.0.now c.split_at.result.1.now c.split_at-in-loop-start.result.0.now
    c.split_at-in-loop-start-2.result.1.now
    c.loop-start.start n c.split_at.ensures.front c.split_at.ensures.back c.split_at-in-loop-start.ensures.front
    c.split_at-in-loop-start-2.ensures.back
    c.loop-start.invariant.within short (c.line_length-length.ensures.at_end short) (c.if-is_image_line.ensures.0 refl)
    c.loop-start.invariant.whole_lines c.loop-start.invariant.none_before

pub loop-start-preserved : goal.loop-start-preserved
loop-start-preserved c =
    let input = c.args.input.now in
    let start = c.loop-start.start in
    let n = c.line_length-length.result in
    let rest-is = c.split_at.ensures.back in
    let short : n < length c.split_at.result.1.now = omega (
      arith,
      c.if-length-rest.false,
      c.line_length-length.ensures.within,
    ) in
    let short_drop : n < length (drop start input) = subst (λ (r : List ℕ). n < length r) rest-is short in
    let at_end : get_or (drop start input) n 0 ≡ 10 = subst (λ (r : List ℕ). get_or r n 0 ≡ 10) rest-is
    (c.line_length-length.ensures.at_end short) in
    let before : HasNoBreakBefore (drop start input) n = subst (λ (r : List ℕ). HasNoBreakBefore r n) rest-is
    c.line_length-length.ensures.before in
    let line-is : c.split_at-in-loop-start.result.0.now ≡ take n (drop start input) = subst
    (λ (r : List ℕ). c.split_at-in-loop-start.result.0.now ≡ take n r) rest-is
    c.split_at-in-loop-start.ensures.front in
    let not_image : IsImageLine (take n (drop start input)) → ⊥ = λ image. let no : false ≡ true =
    c.if-is_image_line.ensures.1 (subst IsImageLine (sym line-is) image) in absurd cc in
    record {
      within = omega (arith, short_drop, length-drop start input);
      whole_lines = one_more_line input start n c.loop-start.invariant.within short_drop at_end;
      none_before = λ edits file line.
          let found = none_at_start input start n c.loop-start.invariant.within (omega arith) before (λ _. at_end)
          (λ _ image. not_image image) edits file line (c.loop-start.invariant.none_before edits file line) in
          omega (arith, found);
    }

pub returns-clause-none : goal.returns-clause-none
returns-clause-none c = λ edits file line. elim c.loop-start-test.branch [
  | else-loop-start-test w ↦ omega (
    arith,
    begins_within c.args.input.now edits file line,
    c.loop-start.invariant.none_before edits file line,
    w.loop-start-test.false,
  )
  | then-loop-start-test+then-length-rest w ↦
      let input = c.args.input.now in
      let start = c.loop-start.start in
      let n = w.line_length-length.result in
      let rest-is = w.split_at.ensures.back in
      let whole : n ≡ length (drop start input) = subst (λ (r : List ℕ). n ≡ length r) rest-is w.if-length-rest.true in
      let before : HasNoBreakBefore (drop start input) n = subst (λ (r : List ℕ). HasNoBreakBefore r n) rest-is
      w.line_length-length.ensures.before in
      let found = none_at_start input start n c.loop-start.invariant.within (omega arith) before
      (λ short. absurd (omega (arith, short, whole))) (λ short _. omega (arith, short, whole))
      edits file line (c.loop-start.invariant.none_before edits file line) in
      omega (
        arith,
        found,
        whole,
        length-drop start input,
        begins_within input edits file line,
        c.loop-start.invariant.within,
      )
]
