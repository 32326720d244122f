use Rattle.std.proofs.Common.{◌<◌, ap, arith, Contains, List, get_or, length, subst, sym, take, ℕ, ◌∙◌}
use Rattle.std.proofs.Common.{◌≡◌, ◌≤◌}
use Rattle.std.proofs.lemmas.{List.take_all, List.Elements.Contains-get_or}
use mathlib.Core.Logic.{⊎_elim}
use Rattle.live_board.proofs.Following.{taken_cases}
use Rattle.live_board.specs.{Following.IsNamed, declared.fact.Fact.Fact}
use Rattle.live_board.proofs.trail.Trail.name_all.Goals as goal

-- the fact at a place waits
waits : (now was : List Fact) (k : ℕ) (x : Fact) → now ≡ was → k < length was → x ≡ get_or now k x
    → Contains was x × (get_or was k x ≡ x)
waits now was k x same less is =
    let at : get_or was k x ≡ x = sym (is ∙ ap (λ (l : List Fact). get_or l k x) same) in
    (subst (Contains was) at (Contains-get_or was k x less), at)

pub name-requires : goal.name-requires
name-requires c =
    let same = ap (λ w. w.items) c.loop-place.invariant.0 in
    let there = waits c.loop-place.self.waiting.items c.args.self.now.waiting.items c.loop-place.place
    c.index.result.now same (omega (arith, c.loop-place-test.true, c.len-place-end.ensures)) c.index.ensures in
    let row = c.requires.on c.index.result.now there.0 in
    let most = c.requires.height in
    omega (arith, row, most)

pub loop-place-preserved : goal.loop-place-preserved
loop-place-preserved c =
    let kept = c.loop-place.invariant in
    let items : List Fact = c.args.self.now.waiting.items in
    let k : ℕ = c.loop-place.place in
    let x : Fact = c.index.result.now in
    let less : k < length items = omega (arith, c.loop-place-test.true, c.len-place-end.ensures) in
    let there = waits c.loop-place.self.waiting.items items k x (ap (λ w. w.items) kept.0) less c.index.ensures in (
      c.name.ensures.waiting ∙ kept.0,
      c.name.ensures.within c.args.height (c.requires.on x there.0) kept.1,
      λ f taken. ⊎_elim (λ (before : Contains (take k items) f). c.name.ensures.kept f.pixel.y (kept.2 f before))
          (λ (is : get_or items k x ≡ f).
          subst (λ (z : Fact). IsNamed c.name.new.self z.pixel.y) (sym there.1 ∙ is) c.name.ensures.named)
          (taken_cases items k x f less taken),
      λ f named. c.name.ensures.kept f.pixel.y (kept.3 f named),
    )

pub returns-clause-named : goal.returns-clause-named
returns-clause-named c f left =
    let kept = c.loop-place.invariant in
    let items : List Fact = c.args.self.now.waiting.items in
    let past : length items ≤ c.loop-place.place = omega (arith, c.loop-place-test.false, c.len-place-end.ensures) in
    ⊎_elim (λ (still : Contains items f).
    kept.2 f (subst (λ (l : List Fact). Contains l f) (sym (take_all c.loop-place.place items past)) still))
    (λ (named : IsNamed c.args.self.now f.pixel.y). kept.3 f named) left
