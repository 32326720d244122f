-- What the tactics leave open of `put`.
use Rattle.std.proofs.Common.{◌≡◌, ◌+◌, ◌^◌, ◌<◌, ◌⊎◌, List, length, map, take, set, sym, ap, subst, ◌∙◌, arith}
use Rattle.std.proofs.lemmas.List.{length-map, length-take, map_more, take_all}
use Rattle.grid_core.specs.{declared.bounds.Bounds.Bounds, Bounds.AreEmpty, Bounds.no_bounds}
use Rattle.tile_work.specs.{OpenBounds.bounds_for, Cutting.in_whole, Cutting.with_part}
use Rattle.tile_work.proofs.Parts.{with_no_part, with_one_more, length_with_part}
use Rattle.tile_work.proofs.open_bounds.OpenBounds.put.Goals as goal

pub overflow_add-first : goal.overflow_add-first
overflow_add-first c = omega (arith, c.requires.within)

pub get-requires : goal.get-requires
get-requires c = omega arith

pub in_whole-requires : goal.in_whole-requires
in_whole-requires c =
    let here : c.loop-place.place < length c.args.band.now =
    omega (arith, c.loop-place-test.true, c.len-place-end.ensures) in
    subst (λ (b : Bounds). AreEmpty b ⊎ (c.args.rows + b.bottom < 2 ^ 32)) (sym c.get.ensures)
    (c.requires.rows c.loop-place.place here)

pub set-requires : goal.set-requires
set-requires c =
    let part : List Bounds = map (in_whole c.args.rows) (take c.loop-place.place c.args.band.now) in
    let long : length part ≡ c.loop-place.place = simp (length-map, length-take) (omega arith) in
    let same = ap length c.loop-place.invariant ∙ length_with_part c.args.self.now part c.args.first
    (omega (arith, long, c.requires.within)) in
    omega (arith, same, c.requires.within)

pub loop-place-init : goal.loop-place-init
loop-place-init c = sym (with_no_part c.args.self.now c.args.first)

pub loop-place-preserved : goal.loop-place-preserved
loop-place-preserved c =
    let f = in_whole c.args.rows in
    let band = c.args.band.now in
    let i = c.loop-place.place in
    let here : i < length band = omega (arith, c.loop-place-test.true, c.len-place-end.ensures) in
    let long : length (map f (take i band)) ≡ i = simp (length-map, length-take) (omega arith) in
    c.set.ensures
    ∙ ap (λ b. set c.loop-place.self (c.args.first + i) b) (c.in_whole.ensures ∙ ap f c.get.ensures)
    ∙ ap (λ table. set table (c.args.first + i) (f (bounds_for band i))) c.loop-place.invariant
    ∙ ap (λ n. set (with_part c.args.first (map f (take i band)) c.args.self.now) (c.args.first + n)
    (f (bounds_for band i))) (sym long)
    ∙ with_one_more c.args.self.now (map f (take i band)) c.args.first (f (bounds_for band i))
    (omega (arith, long, here, c.requires.within))
    ∙ ap (λ part. with_part c.args.first part c.args.self.now) (sym (map_more f band i no_bounds here))

pub returns : goal.returns
returns c =
    c.loop-place.invariant
    ∙ ap (λ part. with_part c.args.first (map (in_whole c.args.rows) part) c.args.self.now)
    (take_all c.loop-place.place c.args.band.now (omega (arith, c.loop-place-test.false, c.len-place-end.ensures)))
