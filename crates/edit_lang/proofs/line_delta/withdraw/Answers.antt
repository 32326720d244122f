use Rattle.std.proofs.Common.{◌≡◌, sym, subst, Result, Ok, Err, OnOk}
use Rattle.stroke_lattice.specs.State.{State, IsJoin, withdrawn}
use Rattle.stroke_lattice.proofs.Growing.{with_tombstone}
use Rattle.edit_lang.proofs.OneDelta.{join_with_tombstone, join_with_buried}
use Rattle.edit_lang.proofs.line_delta.withdraw.Goals as goal

-- where a call returned, what it answers may be replaced
on_ok_with : {A E : Type 0} (r : Result A E) (old new with_more : State) (P : State → Type 0)
    → OnOk r (new ≡ with_more) → P with_more → OnOk r (P new)
on_ok_with (Ok x) old new with_more P is p = subst P (sym is) p
on_ok_with (Err e) old new with_more P is p = tt

pub returns-then-has_tombstone-clause-join : goal.returns-then-has_tombstone-clause-join
returns-then-has_tombstone-clause-join c =
    join_with_buried c.args.state.now c.args.tag (c.has_tombstone.ensures.0 c.if-has_tombstone.true)

pub returns-clause-join : goal.returns-clause-join
returns-clause-join c =
    let s = c.args.state.now in
    on_ok_with c.bury.result s c.bury.new.self (with_tombstone s c.args.tag) (IsJoin s (withdrawn c.args.tag))
    c.bury.ensures.ok (join_with_tombstone s c.args.tag)
