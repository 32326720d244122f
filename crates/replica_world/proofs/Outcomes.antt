-- An event comes to pass, or is refused for one reason.
use Rattle.std.proofs.Common.{◌≡◌, ℕ, List, refl, subst, ap}
use Rattle.std.proofs.lemmas.Option.{slice_get_within}
use Rattle.stroke_lattice.specs.{State.State, Pieces.pieces_of}
use Rattle.spd_codec.specs.{declared.frame.Frame.Frame, Spelling.Spells, Spelling.max_bytes}
use Rattle.core_rules.specs.{declared.error.CoreError.CoreError, Merge.IsRefused}
use Rattle.core_rules.specs.Laws.{MergedIsAcceptable, RefusedIsNotAcceptable, OneRefusal}
use Rattle.replica_world.specs.{declared.error.WorldError.WorldError, declared.event.Event.Event}
use Rattle.replica_world.specs.World.{World, core_at}
use Rattle.replica_world.specs.Events.{IsNamed, Carries, IsDone, IsCoreRefusal, IsTurnedDown}
use Rattle.replica_world.specs.declared.error.WorldError.TheVariants as errors
use Rattle.replica_world.specs.declared.event.Event.TheVariants as events

pub done_named : (before after : World) (event : Event) → IsDone before event after → IsNamed before event
done_named before after (events.Edit r delta) (within, taken) = within
done_named before after (events.Send r part) (within, (piece, there, same)) =
    (within, slice_get_within (pieces_of max_bytes (core_at before r).state) part piece there)
done_named before after (events.Deliver r k) (within, (delta, (packet, there, spelled), taken)) =
    (within, slice_get_within before.packets k packet there)
done_named before after (events.Take r t) (within, tile, swept) = (within, tile)
done_named before after (events.Return r j) (within, (swept, there, moves)) =
    (within, slice_get_within before.results j swept there)
done_named before after (events.Abandon r j) (within, (swept, there, moves)) =
    (within, slice_get_within before.results j swept there)
done_named before after (events.Hand r t i) (named, moves) = named

-- a core refuses only what is named
refusal_named : (world : World) (event : Event) (why : CoreError) → IsCoreRefusal world event why → IsNamed world event
refusal_named world (events.Edit r delta) why (within, refused) = within
refusal_named world (events.Deliver r k) why (within, (delta, (packet, there, spelled), refused)) =
    (within, slice_get_within world.packets k packet there)
refusal_named world _ why refused = absurd refused

-- ---- what a packet carries

-- bytes spell one frame
abbrev pub OneFrame : Type 0
OneFrame =
    (bytes : List ℕ) (a b : Frame) → Spells bytes a.conn a.print a.delta → Spells bytes b.conn b.print b.delta → a ≡ b

one_delta : OneFrame → (world : World) (k : ℕ) (a b : State) → Carries world k a → Carries world k b → a ≡ b
one_delta law world k a b (first, there, spells_a) (second, here, spells_b) =
    let same : first ≡ second = cc in
    let from_a =
    subst (λ (bytes : List ℕ). Spells bytes world.conn world.print a) same spells_a in
    ap (λ (f : Frame). f.delta)
    (law second (record { conn = world.conn; print = world.print; delta = a })
    (record { conn = world.conn; print = world.print; delta = b }) from_a spells_b)

-- ---- one outcome

pub done_not_turned_down : OneFrame → MergedIsAcceptable → RefusedIsNotAcceptable → (before after : World)
    (event : Event) (why : WorldError) → IsDone before event after → IsTurnedDown before event why → ⊥
done_not_turned_down one merged unfit before after event errors.NoSuch done unnamed =
    unnamed (done_named before after event done)
done_not_turned_down one merged unfit before after (events.Edit r delta) (errors.Core why)
    (within, (turnover, core, happens, same)) (here, refused) =
    unfit (core_at before r) delta why refused (merged (core_at before r) core delta turnover happens)
done_not_turned_down one merged unfit before after (events.Deliver r k) (errors.Core why)
    (within, (delta, carries, (turnover, core, happens, same))) (here, (other, carried, refused)) =
    let equal = one_delta one before k other delta carried carries in
    unfit (core_at before r) delta why (subst (λ d. IsRefused (core_at before r) d why) equal refused)
    (merged (core_at before r) core delta turnover happens)
done_not_turned_down one merged unfit before after _ (errors.Core why) done refused = refused

one_core_refusal : OneFrame → OneRefusal → (world : World) (event : Event) (why other : CoreError)
    → IsCoreRefusal world event why → IsCoreRefusal world event other → why ≡ other
one_core_refusal one law world (events.Edit r delta) why other (within, refused) (here, again) =
    law (core_at world r) delta why other refused again
one_core_refusal one law world (events.Deliver r k) why other (within, (a, carries, refused))
    (here, (b, carried, again)) =
    let equal = one_delta one world k a b carries carried in
    law (core_at world r) b why other (subst (λ d. IsRefused (core_at world r) d why) equal refused) again
one_core_refusal one law world _ why other refused again = absurd refused

pub one_reason : OneFrame → OneRefusal → (world : World) (event : Event) (why other : WorldError)
    → IsTurnedDown world event why → IsTurnedDown world event other → why ≡ other
one_reason one law world event errors.NoSuch errors.NoSuch first second = refl
one_reason one law world event errors.NoSuch (errors.Core why) unnamed refused =
    absurd (unnamed (refusal_named world event why refused))
one_reason one law world event (errors.Core why) errors.NoSuch refused unnamed =
    absurd (unnamed (refusal_named world event why refused))
one_reason one law world event (errors.Core why) (errors.Core other) refused again =
    ap (λ (e : CoreError). errors.Core e) (one_core_refusal one law world event why other refused again)
