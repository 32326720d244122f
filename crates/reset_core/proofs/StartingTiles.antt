-- The tiles of a core that took strokes first and was settled: no work is left, and they are in the generation in which
-- they were opened.
use Rattle.std.proofs.Common.{◌≡◌, ℕ, ◌<◌, List, [], ◌∷◌, length, refl, sym, ◌∙◌, ap, subst, arith, inl, inr, Some}
use Rattle.std.proofs.Common.{None, true, false, remove}
use Rattle.std.proofs.lemmas.Bool.{cases_eq, cases_lt}
use Rattle.std.proofs.lemmas.List.{ext_get_or, get_or_past, get_or-replicate, length-replicate, length-set, set_past}
use Rattle.grid_core.specs.{declared.conn.Conn.Conn, Raster.Raster, Tiles.Tiles, Tiles.count_of, Tiles.tile_of}
use Rattle.stroke_lattice.specs.{State.State, State.nothing, Change.Turnover}
use Rattle.stroke_lattice.proofs.Joins.{nothing_has_no_stroke}
use Rattle.tile_generations.specs.{declared.ticket.Ticket.Ticket, Jobs.Swept}
use Rattle.border_queues.specs.TileWork.{TileWork, IsIdle, fresh, idle, work_of}
use Rattle.core_rules.specs.declared.answers.Back.TheVariants.{Joined, Again, Stale, Stranger}
use Rattle.core_rules.specs.declared.answers.Handed.TheVariants.{Raised, Same, Stale as Old, Nothing}
use Rattle.core_rules.specs.Events.{Event, Answer, Happens, Merge, Take, GiveBack, Abandon, Hand, OfTake, OfGiveBack}
use Rattle.core_rules.specs.Events.{OfHand}
use Rattle.core_rules.specs.{Hints.raised, Hints.without_hint, Merge.IsMerged, Opening.opened, Sweeps.IsJoined}
use Rattle.core_rules.specs.{Sweeps.taken}
use Rattle.core_rules.specs.Hits.{AreLinked, HoldsOne, LeadFrom, LosesStroke}
use Rattle.core_rules.specs.Runs.{Entry, IsNext, IsRun, IsSettled, IsWorkedOff, abandoned, tickets_out}
use Rattle.core_rules.specs.Work.{Core, tiling, with_work, work_at}
use Rattle.core_rules.proofs.{Cores.field_kept, Resets.others_stay}

-- ---- generations that stay

-- there are as many tiles, each in the same generation
record KeepGenerations (before after : List TileWork) : Type 0 where
  pub count : length after ≡ length before
  pub each : (t : ℕ) → (work_of after t).generation ≡ (work_of before t).generation

kept_as : (before other after : Core) → after ≡ other → KeepGenerations before.tiles other.tiles
    → KeepGenerations before.tiles after.tiles
kept_as before other after same kept = subst (λ (core : Core). KeepGenerations before.tiles core.tiles) (sym same) kept

kept_here : (works : List TileWork) → KeepGenerations works works
kept_here works = record { count = refl; each = λ t. refl }

kept_on : (a b c : List TileWork) → KeepGenerations a b → KeepGenerations b c → KeepGenerations a c
kept_on a b c first second =
    record { count = second.count ∙ first.count; each = λ t. second.each t ∙ first.each t }

-- other work at one tile, in the same generation
kept_work : (core : Core) (t : ℕ) (work : TileWork) → work.generation ≡ (work_at core t).generation
    → KeepGenerations core.tiles (with_work core t work).tiles
kept_work core t work same = record {
  count = length-set core.tiles t work;
  each = λ u. elim (cases_lt t (length core.tiles)) [
    | inl within ↦ field_kept core t work (λ (w : TileWork). w.generation) within same u
    | inr past ↦ ap (λ (works : List TileWork). (work_of works u).generation) (set_past core.tiles t work past)
  ];
}

joined_keeps : (before after : Core) (swept : Swept) → IsJoined before swept after
    → KeepGenerations before.tiles after.tiles
joined_keeps before after swept joined = record {
  count = joined.count;
  each = λ u. elim (cases_lt u (length before.tiles)) [
    | inl within ↦ elim (cases_eq u swept.job.ticket.tile) [
      | inl here ↦
          subst (λ v. (work_at after v).generation ≡ (work_at before v).generation) (sym here)
          (ap (λ (w : TileWork). w.generation) joined.own)
      | inr other ↦ ap (λ (w : TileWork). w.generation) (joined.others u within other)
    ]
    | inr past ↦
        let count = joined.count in
        ap (λ (w : TileWork). w.generation)
        (get_or_past after.tiles u idle (omega (arith, past, count)) ∙ sym (get_or_past before.tiles u idle past))
  ];
}

give_back_keeps : (before after : Core) (swept : Swept) (answer : Answer)
    → Happens before (GiveBack swept) answer after → KeepGenerations before.tiles after.tiles
give_back_keeps before after swept (OfGiveBack Joined) (is_swept, (known, out, unchanged, joined)) =
    joined_keeps before after swept joined
give_back_keeps before after swept (OfGiveBack Again) (is_swept, (known, out, risen, joined)) =
    joined_keeps before after swept joined
give_back_keeps before after swept (OfGiveBack Stale) (is_swept, (known, not_out, same)) =
    kept_as before before after same (kept_here before.tiles)
give_back_keeps before after swept (OfGiveBack Stranger) (is_swept, (why, same)) =
    kept_as before before after same (kept_here before.tiles)
give_back_keeps before after swept _ happens = absurd happens

take_keeps : (before after : Core) (t : ℕ) (answer : Answer) → Happens before (Take t) answer after
    → KeepGenerations before.tiles after.tiles
take_keeps before after t (OfTake (Some job)) (ready, next, same) =
    kept_as before (taken before t) after same
    (kept_work before t (record (work_at before t) { dirty = false; out = Some before.serial }) refl)
take_keeps before after t (OfTake None) (unready, same) = kept_as before before after same (kept_here before.tiles)
take_keeps before after t _ happens = absurd happens

without_keeps : (before : Core) (t place : ℕ)
    → KeepGenerations before.tiles (without_hint before t place).tiles
without_keeps before t place =
    kept_work before t (record (work_at before t) { inbox = remove (work_at before t).inbox place }) refl

hand_keeps : (before after : Core) (t place : ℕ) (answer : Answer) → Happens before (Hand t place) answer after
    → KeepGenerations before.tiles after.tiles
hand_keeps before after t place (OfHand Nothing) (none, same) =
    kept_as before before after same (kept_here before.tiles)
hand_keeps before after t place (OfHand Old) (hint, there, old, same) =
    kept_as before (without_hint before t place) after same (without_keeps before t place)
hand_keeps before after t place (OfHand Raised) (hint, there, present, above, same) =
    let left = without_hint before t place in
    let home = tile_of (tiling left) hint.to_pixel in
    kept_as before (raised left hint) after same
    (kept_on before.tiles left.tiles (raised left hint).tiles (without_keeps before t place)
    (kept_work left home (record (work_at left home) { dirty = true }) refl))
hand_keeps before after t place (OfHand Same) (hint, there, present, enough, same) =
    kept_as before (without_hint before t place) after same (without_keeps before t place)
hand_keeps before after t place _ happens = absurd happens

next_keeps : (before after : Core) (event : Event) (answer : Answer) → IsNext before event
    → Happens before event answer after → KeepGenerations before.tiles after.tiles
next_keeps before after (GiveBack swept) answer next happens = give_back_keeps before after swept answer happens
next_keeps before after (Hand t place) answer next happens = hand_keeps before after t place answer happens
next_keeps before after (Take t) answer next happens = take_keeps before after t answer happens
next_keeps before after (Merge delta) answer next happens = absurd next
next_keeps before after (Abandon ticket) answer next happens = absurd next

work_keeps : (before after : Core) (log : List Entry) → IsWorkedOff before log after
    → KeepGenerations before.tiles after.tiles
work_keeps before after [] same = kept_as before before after same (kept_here before.tiles)
work_keeps before after (entry ∷ log) (is_next, (next, happens, rest)) =
    kept_on before.tiles next.tiles after.tiles (next_keeps before next entry.0 entry.1 is_next happens)
    (work_keeps next after log rest)

abandons_keep : (before after : Core) (tickets : List Ticket) → IsRun before (abandoned tickets) after
    → KeepGenerations before.tiles after.tiles
abandons_keep before after [] same = kept_as before before after same (kept_here before.tiles)
abandons_keep before after (ticket ∷ tickets) (next, (out, same), run) =
    let work : TileWork = record (work_at before ticket.tile) { dirty = true; out = None } in
    kept_on before.tiles next.tiles after.tiles
    (kept_as before (with_work before ticket.tile work) next same (kept_work before ticket.tile work refl))
    (abandons_keep next after tickets run)

settled_keeps : (before after : Core) (log : List Entry) → IsSettled before log after
    → KeepGenerations before.tiles after.tiles
settled_keeps before after log settled =
    let settling = settled.settling in
    kept_on before.tiles settling.cleared.tiles after.tiles
    (abandons_keep before settling.cleared (tickets_out 0 before.tiles) settling.clears)
    (work_keeps settling.cleared after settling.work settling.works)

-- ---- the first strokes

-- where there were no strokes, none dies, so that no list of tiles leads anywhere
none_leads : (tiles : Tiles) (image : Raster) (conn : Conn) (after : State) (list : List ℕ) (t : ℕ)
    → LeadFrom (HoldsOne tiles (LosesStroke nothing after)) (AreLinked tiles image conn) list t → ⊥
none_leads tiles image conn after [] t (p, in_tile, loses) =
    nothing_has_no_stroke loses.tag loses.seed loses.was.0
none_leads tiles image conn after (u ∷ list) t (leads, linked) = none_leads tiles image conn after list u leads

idle_is_fresh : (work : TileWork) (first : ℕ) → IsIdle work → work.generation ≡ first → work ≡ fresh first
idle_is_fresh work first rests is =
    ap (λ n. record work { generation = n }) is
    ∙ ap (λ d. record (fresh first) { dirty = d; out = work.out; inbox = work.inbox }) rests.clean
    ∙ ap (λ o. record (fresh first) { out = o; inbox = work.inbox }) rests.none_out
    ∙ ap (λ hs. record (fresh first) { inbox = hs }) rests.empty

-- a core that was opened, took these strokes and was settled has the tiles that it was opened with
pub settled_tiles : (mask : Raster) (conn : Conn) (side first : ℕ) (state : State) (turnover : Turnover)
    (log : List Entry) (merged settled : Core) → IsMerged (opened mask conn side first) state turnover merged
    → IsSettled merged log settled → settled.tiles ≡ (opened mask conn side first).tiles
settled_tiles mask conn side first state turnover log merged settled merges settles =
    let start = opened mask conn side first in
    let n = count_of (tiling start) in
    let later = settled_keeps merged settled log settles in
    let count : length settled.tiles ≡ length start.tiles = later.count ∙ merges.count in
    ext_get_or idle settled.tiles start.tiles count (λ t within.
    let is_tile : t < length start.tiles = omega (arith, within, count) in
    let long = length-replicate n (fresh first) in
    let opened_so : work_at start t ≡ fresh first =
    get_or-replicate n t (fresh first) idle (omega (arith, is_tile, long)) in
    let same : (work_at settled t).generation ≡ first =
    later.each t
    ∙ others_stay start merged state turnover merges t is_tile
    (λ hit. none_leads (tiling start) start.image conn merged.state hit.0 t hit.1)
    ∙ ap (λ (w : TileWork). w.generation) opened_so in
    idle_is_fresh (work_at settled t) first (settles.quiet t within) same ∙ sym opened_so)
