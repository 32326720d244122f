use Rattle.std.proofs.Common.{◌≡◌, ◌-◌, ◌≤◌, length, take, min, get_or, arith}
use Rattle.std.specs.List.{between}
use Rattle.std.proofs.lemmas.Bool.{ltb-false, le-ltb}
use Rattle.std.proofs.lemmas.List.{length-take-le}
use Rattle.std.proofs.lemmas.List.Edits.{length-between}
use Rattle.row_scans.proofs.RowPairs.{closed_aslant, aslant_right, aslant_left, flag_more_by_two, not_down}
use Rattle.row_scans.proofs.rows.is_section_closed.Goals as goal

pub loop-i-preserved : goal.loop-i-preserved
loop-i-preserved c =
    let row = c.args.row.now in
    let mask = c.args.mask.now in
    let left = take (length row - 1) row in
    let right = between 1 (length row) row in
    let left_mask = take (length row - 1) mask in
    let right_mask = between 1 (length mask) mask in
    flag_more_by_two (λ k. min (get_or left k 0) (get_or right_mask k 0) ≤ get_or right k 0)
    (λ k. min (get_or right k 0) (get_or left_mask k 0) ≤ get_or left k 0) c.loop-i.i c.loop-i.open _ _
    c.loop-i.invariant (rw (← c.min.ensures) (ltb-false _ _, le-ltb _ _))
    (rw (← c.min-in-loop-i.ensures) (ltb-false _ _, le-ltb _ _))

pub returns : goal.returns
returns c =
    let row = c.args.row.now in
    let last = length row - 1 in
    let front : length (take last row) ≡ last = length-take-le last row (omega arith) in
    let back = length-between row 1 (length row) (omega arith) in
    let ends : c.loop-i.i ≡ last = omega (arith, c.loop-i-test.false, c.loop-i.auto.i-end) in (
      λ closed.
          let all = c.loop-i.invariant.0 ((not_down c.loop-i.open).0 closed) in
          closed_aslant c.requires.some c.requires.rows
          (λ k less. (all k (omega (arith, ends, back, less, c.requires.some))).0)
          (λ k less. (all k (omega (arith, ends, front, less))).1),
      λ closed.
          (not_down c.loop-i.open).1 (c.loop-i.invariant.1 (λ k less. (
            aslant_right c.requires.some c.requires.rows closed k (omega (arith, ends, back, less)),
            aslant_left c.requires.some c.requires.rows closed k (omega (arith, ends, front, less)),
          ))),
    )
