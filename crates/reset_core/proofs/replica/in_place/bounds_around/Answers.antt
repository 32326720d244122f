use Rattle.std.proofs.Common.{◌+◌, ◌≤◌, List, length, get_or, take, sym, subst, arith}
use Rattle.std.proofs.{lemmas.List.take_all, lemmas.List.Elements.Contains-get_or}
use Rattle.grid_core.specs.declared.bounds.Bounds.{Bounds}
use Rattle.border_queues.specs.declared.hint.Hint.{Hint}
use Rattle.reset_core.specs.Telling.{LieWithin}
use Rattle.reset_core.proofs.TellingNear.{one_more_within}
use Rattle.reset_core.proofs.replica.in_place.bounds_around.Goals as goal

abbrev none : Hint
none = record { from = 0; from_generation = 0; to_pixel = record { x = 0; y = 0 }; value = 0 }

pub including-near-requires-clause-column : goal.including-near-requires-clause-column
including-near-requires-clause-column c =
    let hints = c.args.hints.now in
    let i = c.loop-hint.hint-index in
    let inside = c.requires (get_or hints i none) (Contains-get_or hints i none c.loop-hint-test.true) in
    omega (arith, inside.0, c.side.ensures.tiled.size.width_within)

pub including-near-requires-clause-row : goal.including-near-requires-clause-row
including-near-requires-clause-row c =
    let hints = c.args.hints.now in
    let i = c.loop-hint.hint-index in
    let inside = c.requires (get_or hints i none) (Contains-get_or hints i none c.loop-hint-test.true) in
    omega (arith, inside.1, c.side.ensures.tiled.size.height_within)

pub loop-hint-init : goal.loop-hint-init
loop-hint-init c = λ hint there. absurd (omega (arith, there.1))

pub loop-hint-preserved : goal.loop-hint-preserved
loop-hint-preserved c =
    let hints = c.args.hints.now in
    let i = c.loop-hint.hint-index in
    subst (λ (near : Bounds). LieWithin near (take (i + 1) hints)) (sym c.including-near.ensures)
    (one_more_within c.loop-hint.near hints i none c.loop-hint-test.true c.loop-hint.invariant)

pub returns : goal.returns
returns c =
    let hints = c.args.hints.now in
    let all : length hints ≤ c.loop-hint.hint-index = omega (arith, c.loop-hint-test.false) in
    subst (λ (hs : List Hint). LieWithin c.loop-hint.near hs) (take_all c.loop-hint.hint-index hints all)
    c.loop-hint.invariant
