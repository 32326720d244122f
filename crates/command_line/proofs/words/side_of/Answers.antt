use Rattle.std.proofs.Common.{◌≡◌, Bool, false, IsTrue, rules, sym, subst, inl, refl}
use Rattle.std.proofs.lemmas.Result.{err_from_is_err_and}
use Rattle.grid_core.specs.Tiles.{IsTileSide}
use Rattle.command_line.proofs.{Calls.reads_no_more, Calls.reads_none, Numbers.one_number, Subcommands.small_side}
use Rattle.command_line.proofs.words.side_of.Goals as goal

untrue : (b : Bool) → b ≡ false → IsTrue b → ⊥
untrue b is holds = search rules

pub returns-in_err-side : goal.returns-in_err-side
returns-in_err-side c =
    let p = err_from_is_err_and c.from_residual.result c.from_residual.ensures.1 in
    rw (p.1, p.2, c.in-Some.is) (reads_no_more _ _ c.in_err-side.field-0.0 c.in_err-side.ensures
    (λ none side is. none side (small_side side is.1, is.0)))

pub returns : goal.returns
returns c =
    let read = c.in_ok-side.ensures.said in
    rw c.in-Some.is (reads_none _ _ (inl refl) (λ usage side is.
    let same = one_number c.in-Some.text.now c.in_ok-side.side side read.1 read.0 is.0 (small_side side is.1) in
    untrue c.is_tile_side.result c.if-is_tile_side.false (c.is_tile_side.ensures.1 (subst IsTileSide (sym same) is.1))))
