-- What the rule of a board says to who reads it.
use Rattle.std.proofs.Common.{◌*◌, ◌+◌, ◌/◌, Contains, ap, arith, refl, subst, subst₂, sym, ℕ, ◌∙◌, ◌≡◌}
use Rattle.std.proofs.{lemmas.List.Elements.Contains-push, lemmas.Nat.div-mul-add}
use Rattle.grid_core.specs.Raster.{Raster}
use Rattle.live_board.proofs.Boards.{is_keeper}
use Rattle.live_board.specs.Laws.{FoundIsKept, KnownIsKept, KnownIsReached, LiveIsReached}
use Rattle.live_board.specs.{Words.Supports, declared.fact.Fact.Fact}

pub known_is_kept : KnownIsKept
known_is_kept base s keeper id v f have known = ((have.rule.seats id v have.seat_is).facts f known).kept

pub found_is_kept : FoundIsKept
found_is_kept base s keeper id v have = (have.rule.seats id v have.seat_is).found

pub known_is_reached : KnownIsReached
known_is_reached base s keeper id v f have known same =
    let h = have.rule in
    let mine = is_keeper s.views h.generation h.marker 0 keeper h.keeper have.keeper_is refl in
    subst (λ (m : Raster). Supports base m f.pixel f.value) (sym mine.1)
    (((h.seats id v have.seat_is).facts f known).reached (same ∙ mine.0))

pub live_is_reached : LiveIsReached
live_is_reached base s keeper id old new p value have peeked word_0 =
    let h = have.rule in
    let mine = is_keeper s.views h.generation h.marker 0 keeper h.keeper have.keeper_is refl in
    let f : Fact = peeked.loaded in
    let found : peeked.found ≡ h.generation * 65536 + 0 = omega (arith, word_0, h.head) in
    let present : new.generation ≡ h.generation =
    peeked.generation ∙ ap (λ (n : ℕ). n / 65536) found ∙ div-mul-add h.generation 65536 0 (omega arith) in
    let reached : Supports base keeper.marker f.pixel f.value =
    known_is_reached base s keeper id new f have
    (subst (λ l. Contains l f) (sym peeked.facts) (Contains-push old.facts f))
    (peeked.answer_is.0 ∙ present ∙ sym mine.0) in
    subst₂ (Supports base keeper.marker) peeked.of.pixel peeked.answer_is.1 reached
