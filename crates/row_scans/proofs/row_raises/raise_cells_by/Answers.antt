use Rattle.std.proofs.Common.{◌≡◌, ◌+◌, ◌-◌, ◌≤◌, ◌++◌, length, take, drop, arith, ap, sym, ◌∙◌, subst}
use Rattle.std.proofs.lemmas.List.Edits.{length-between}
use Rattle.std.specs.List.{between}
use borrow.Rule.Slice.PartMut.{put_mid}
use Rattle.row_scans.specs.{Rows.AreBeside, Rows.IsClosedTo, RowRaises.IsRaisedBy}
use Rattle.row_scans.proofs.Replacing.{IsReplaced, replaced_mid, replaced_within, between_in_front}
use Rattle.row_scans.proofs.RowRaises.{cells_raised}
use Rattle.row_scans.proofs.row_raises.raise_cells_by.Goals as goal

pub returns-else-source-target : goal.returns-else-source-target
returns-else-source-target c =
    let conn = c.args.conn in
    let mask = c.args.limits.now in
    let cells = c.args.cells.now in
    let source = c.args.source in
    let target = c.args.target in
    let n = length mask in
    let above = c.split_at_mut-above-else-source-target.result.0.now in
    let below = c.split_at_mut-above-else-source-target.result.1.now in
    let new = c.raise_by-else-source-target.new.row in
    let whole : cells ≡ above ++ below = c.split_at_mut-above-else-source-target.ensures.value in
    let front : above ≡ take source cells = c.split_at_mut-above-else-source-target.ensures.front in
    let back : below ≡ drop source cells = c.split_at_mut-above-else-source-target.ensures.back in
    let size : length above ≡ source = c.split_at_mut-above-else-source-target.ensures.front_len in
    let fits : target + n ≤ source = omega (arith, c.requires.apart, c.requires.some, c.if-source-target.false) in
    let step : target + n - target ≡ n = omega arith in
    let long : length new ≡ n =
    omega (
      arith,
      c.raise_by-else-source-target.ensures.raised.long,
      length-between above target (target + n) (omega arith),
    ) in
    let replaced : IsReplaced target new cells (put_mid target (target + n - target) above new ++ below) =
    subst (λ xs. IsReplaced target new xs (put_mid target (target + n - target) above new ++ below)) (sym whole)
    (replaced_within target new above (put_mid target (target + n - target) above new) below
    (replaced_mid target (target + n - target) new above (omega arith) (omega arith))) in
    let by : take n below ≡ between source (source + n) cells =
    let size_by : n ≡ source + n - source = omega arith in
    ap (take n) back ∙ ap (λ m. take m (drop source cells)) size_by in
    let old : between target (target + n) above ≡ between target (target + n) cells =
    ap (between target (target + n)) front ∙ between_in_front cells source target (target + n) fits in
    cells_raised long replaced
    (subst (λ xs. IsRaisedBy (AreBeside conn) mask xs (between target (target + n) cells) new) by
    (subst (λ xs. IsRaisedBy (AreBeside conn) mask (take n below) xs new) old
    c.raise_by-else-source-target.ensures.raised))
    (subst (λ xs. IsClosedTo (AreBeside conn) xs mask new) by c.raise_by-else-source-target.ensures.closed)
