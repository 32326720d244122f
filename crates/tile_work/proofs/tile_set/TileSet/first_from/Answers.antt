-- What the tactics leave open of `first_from`.
use Rattle.std.proofs.Common.{◌≡◌, ℕ, ◌+◌, ◌*◌, ◌/◌, ◌^◌, ◌<◌, ◌≤◌, length, subst, sym, ap, arith}
use Rattle.tile_work.specs.TileSet.{bit_of, IsLowestFrom}
use Rattle.tile_work.proofs.TileSetWords.{HasNoneFrom-count, IsFirstFrom-here, HasNoneFrom-after, IsFirstFrom-after}
use Rattle.tile_work.proofs.TileSetWords.{tile_after, word_within}
use Rattle.tile_work.proofs.tile_set.TileSet.first_from.Goals as goal

word_there : (start count words len : ℕ) → len ≡ words → words ≡ count / 64 + 1 → start < count → start / 64 < len
word_there start count words len is_len is_words below = omega arith

bit_fits : (start bit : ℕ) → start < 2 ^ 64 → bit < 64 → start / 64 * 64 + bit < 2 ^ 64
bit_fits start bit start_fits below = omega arith

pub index-requires : goal.index-requires
index-requires c =
    word_there c.args.start c.self.inside.count _ _ c.self.inside.words.ok.0 c.self.invariant.word_count
    c.if-start-self.false

pub overflow_add-result : goal.overflow_add-result
overflow_add-result c =
    record { fits = bit_fits c.args.start c.in-Some.bit c.ranges.start.fits c.in-Some.ensures.within }

pub overflow_add-word : goal.overflow_add-word
overflow_add-word c = omega (arith, c.ranges.start.fits)

pub lowest_place-requires : goal.lowest_place-requires
lowest_place-requires c =
    let same = ap length c.deref.ensures.value in
    omega (arith, same, c.self.invariant.summary_count, c.self.inside.words.small)

pub overflow_mul-result-2 : goal.overflow_mul-result-2
overflow_mul-result-2 c =
    let found : IsLowestFrom (bit_of c.self.inside.summary.items) (c.args.start / 64 + 1) c.in_ok-next.next =
    rw (← c.deref.ensures.value) c.in_ok-next.ensures in
    let within = word_within _ _ _ c.self.invariant c.in_ok-next.next found.bit in
    omega (arith, within, c.self.invariant.word_count)

pub index-requires-2 : goal.index-requires-2
index-requires-2 c =
    let found : IsLowestFrom (bit_of c.self.inside.summary.items) (c.args.start / 64 + 1) c.in_ok-next.next =
    rw (← c.deref.ensures.value) c.in_ok-next.ensures in
    subst (λ n. c.in_ok-next.next < n) (sym c.self.inside.words.ok.0)
    (word_within _ _ _ c.self.invariant c.in_ok-next.next found.bit)

pub returns-then-start-self : goal.returns-then-start-self
returns-then-start-self c =
    rw (← c.self.view_is)
    (HasNoneFrom-count c.self.inside.count c.self.inside.words.items c.args.start c.if-start-self.true)

pub returns-in-Some : goal.returns-in-Some
returns-in-Some c =
    rw (← c.self.view_is)
    (IsFirstFrom-here _ _ _ c.self.invariant c.args.start c.index.result.now c.if-start-self.false c.index.ensures
    c.in-Some.bit c.in-Some.ensures.set c.in-Some.ensures.within)

pub returns-in_err-next : goal.returns-in_err-next
returns-in_err-next c =
    let later : (later : ℕ) → c.args.start / 64 + 1 ≤ later → bit_of c.self.inside.summary.items later ≡ 0 =
    λ later le. rw (← c.deref.ensures.value) (c.in_err-next.ensures later le) in
    rw (c.from_residual.ensures, ← c.self.view_is)
    (HasNoneFrom-after _ _ _ c.self.invariant c.args.start c.index.result.now c.if-start-self.false c.index.ensures
    c.in_default.ensures.set later)

pub overflow_add-result-2 : goal.overflow_add-result-2
overflow_add-result-2 c =
    let found : IsLowestFrom (bit_of c.self.inside.summary.items) (c.args.start / 64 + 1) c.in_ok-next.next =
    rw (← c.deref.ensures.value) c.in_ok-next.ensures in
    let fits : c.index-2.result.now < 2 ^ 64 = omega arith in
    let tile = tile_after _ _ _ c.self.invariant c.args.start c.index.result.now c.if-start-self.false c.index.ensures
    c.in_default.ensures.set c.in_ok-next.next c.index-2.result.now found c.index-2.ensures fits in
    omega arith

pub returns : goal.returns
returns c =
    let found : IsLowestFrom (bit_of c.self.inside.summary.items) (c.args.start / 64 + 1) c.in_ok-next.next =
    rw (← c.deref.ensures.value) c.in_ok-next.ensures in
    let fits : c.index-2.result.now < 2 ^ 64 = omega arith in
    rw (← c.self.view_is)
    (IsFirstFrom-after _ _ _ c.self.invariant c.args.start c.index.result.now c.if-start-self.false c.index.ensures
    c.in_default.ensures.set c.in_ok-next.next c.index-2.result.now found c.index-2.ensures fits)
