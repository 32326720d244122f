-- Events that are no merges leave strokes, mask, connectivity and generations, and so keep the books faithful.
use Rattle.std.proofs.Common.{◌≡◌, ℕ, zero, suc, ◌+◌, ◌-◌, ◌<◌, inl, inr, None, true, Bool, List, length, sym, refl}
use Rattle.std.proofs.Common.{ap, ◌∙◌, subst, arith, Option, Some, remove, Result, Ok, Err, IfOk, OnErr}
use Rattle.std.proofs.lemmas.List.{length-set}
use mathlib.Core.Logic.{dite}
use native.Mathlib.Decide.{ℕ_discrete}
use Rattle.grid_core.specs.{Raster.Raster, Tiles.tile_of}
use Rattle.stroke_lattice.specs.State.{State, HasStroke, HasTombstone, IsBelow, ClashAt}
use Rattle.tile_generations.specs.{declared.ticket.Ticket.Ticket, Jobs.Job, Jobs.Swept}
use Rattle.border_queues.specs.TileWork.{TileWork}
use Rattle.core_rules.specs.{declared.answers.Back.Back, declared.answers.Handed.Handed}
use Rattle.core_rules.specs.{declared.error.CoreError.CoreError, Runs.IsRun, Runs.abandoned}
use Rattle.core_rules.specs.declared.answers.Back.TheVariants.{Joined, Again, Stale, Stranger}
use Rattle.core_rules.specs.declared.error.CoreError.TheVariants.{OutOfImage, Conflict, GenerationsSpent, Memory}
use Rattle.core_rules.specs.declared.error.CoreError.TheVariants.{BadSide}
use Rattle.core_rules.specs.Work.{Core, IsTile, tiling, with_work, work_at}
use Rattle.core_rules.specs.Sweeps.{IsTaken, IsGivenBack, IsJoined, IsAbandoned, IsSkipped}
use Rattle.core_rules.specs.Hints.{IsHanded, without_hint, raised}
use Rattle.tiled_core.specs.Handing.{AreHandedOver}
use Rattle.tiled_core.specs.Passing.{ArePassed, ArePassedUntil}
use Rattle.core_dispatch.specs.Books.{BooksView, IsReason, IsFaithful, KeepsRest, ledger}
use Rattle.core_dispatch.proofs.Marking.{IsOnlyMarked, take_marks, abandon_marks, abandons_mark, kept_field}
use Rattle.core_rules.specs.declared.answers.Handed.TheVariants as handed

-- strokes, mask, connectivity and generations are as they were
pub record IsSteady (before after : Core) : Type 0 where
  pub state : after.state ≡ before.state
  pub mask : after.mask ≡ before.mask
  pub conn : after.conn ≡ before.conn
  pub count : length after.tiles ≡ length before.tiles
  pub generations : (t : ℕ) → IsTile before t → (work_at after t).generation ≡ (work_at before t).generation

-- ---- the books

reason : (before after : Core) → IsSteady before after → (d : State) (e : CoreError) → IsReason before d e
    → IsReason after d e
reason before after s d (OutOfImage tag) h =
    subst (λ m. IsReason (record before { mask = m }) d (OutOfImage tag)) (sym s.mask) h
reason before after s d (Conflict tag) h = subst (λ (a : State). ClashAt a d tag) (sym s.state) h
reason before after s d GenerationsSpent (buries, (t, is_tile, spent)) =
    let within : t < length after.tiles =
    let count = s.count in let lt : t < length before.tiles = is_tile in omega arith in
    (buries, (t, within, s.generations t is_tile ∙ spent))
reason before after s d Memory h = h
reason before after s d BadSide h = h

kept_books : (b : BooksView) (after : Core) → IsFaithful (ledger b) → IsSteady b.core after
    → IsFaithful (ledger (record b { core = after }))
kept_books b after f s = record {
  opening = subst (λ (a : State). IsBelow b.opening a) (sym s.state) f.opening;
  kept = λ pen n delta k. subst (λ (a : State). IsBelow delta a) (sym s.state) (f.kept pen n delta k);
  strokes = λ tag seed h. f.strokes tag seed (subst (λ (a : State). HasStroke a tag seed) s.state h);
  tombstones = λ tag h. f.tombstones tag (subst (λ (a : State). HasTombstone a tag) s.state h);
  refused = λ i r e. let o = f.refused i r e in (o.0, reason b.core after s r.delta r.error o.1);
}

-- the core that the box lent became another one
pub steady_books : (b : BooksView) (lent after : Core) → lent ≡ b.core → IsFaithful (ledger b) → IsSteady lent after
    → IsFaithful (ledger (record b { core = after }))
steady_books b lent after same f s = kept_books b after f (subst (λ (k : Core). IsSteady k after) same s)

-- what is kept twice is kept
pub rest_kept : (a b c : BooksView) → KeepsRest a b → KeepsRest b c → KeepsRest a c
rest_kept a b c first second = second ∙ ap (λ (x : BooksView). record x { core = c.core }) first

-- ---- what is steady

itself : (core : Core) → IsSteady core core
itself core = record { state = refl; mask = refl; conn = refl; count = refl; generations = λ t is_tile. refl }

pub as_before : (before after : Core) → after ≡ before → IsSteady before after
as_before before after same = subst (λ (c : Core). IsSteady before c) (sym same) (itself before)

pub through : (a b c : Core) → IsSteady a b → IsSteady b c → IsSteady a c
through a b c first second = record {
  state = second.state ∙ first.state;
  mask = second.mask ∙ first.mask;
  conn = second.conn ∙ first.conn;
  count = second.count ∙ first.count;
  generations = λ t is_tile.
      let within : t < length b.tiles =
      let count = first.count in let lt : t < length a.tiles = is_tile in omega arith in
      second.generations t within ∙ first.generations t is_tile;
}

-- other work at one tile, of the same generation, and another image
of_tile : (before : Core) (t : ℕ) (work : TileWork) (image : Raster) → work.generation ≡ (work_at before t).generation
    → IsSteady before (record (with_work before t work) { image = image })
of_tile before t work image same = record {
  state = refl;
  mask = refl;
  conn = refl;
  count = length-set before.tiles t work;
  generations = λ u is_tile. kept_field (λ (w : TileWork). w.generation) before.tiles t u work same;
}

marked_is_steady : (before after : Core) → IsOnlyMarked before after → IsSteady before after
marked_is_steady before after m = record {
  state = m.shows.state;
  mask = m.shows.mask;
  conn = m.shows.conn;
  count = m.count;
  generations = λ t is_tile. m.generations t;
}

pub taken_is_steady : (before after : Core) (t : ℕ) (job : Option Job) → IsTaken before t job after
    → IsSteady before after
taken_is_steady before after t job taken = marked_is_steady before after (take_marks before after t job taken).marked

pub take_is_steady : {E : Type 0} (before after : Core) (t : ℕ) (r : Result (Option Job) E)
    → IfOk r (λ job. IsTaken before t job after) → OnErr r (after ≡ before) → IsSteady before after
take_is_steady before after t (Ok job) taken same = taken_is_steady before after t job taken
take_is_steady before after t (Err e) taken same = as_before before after same

joined_is_steady : (before after : Core) (swept : Swept) → IsJoined before swept after → IsSteady before after
joined_is_steady before after swept j = record {
  state = ap (λ (c : Core). c.state) j.rest;
  mask = ap (λ (c : Core). c.mask) j.rest;
  conn = ap (λ (c : Core). c.conn) j.rest;
  count = j.count;
  generations = λ t is_tile. dite (ℕ_discrete t swept.job.ticket.tile)
      (λ here.
      subst (λ (u : ℕ). (work_at after u).generation ≡ (work_at before u).generation) (sym here)
      (ap (λ (w : TileWork). w.generation) j.own))
      (λ other. ap (λ (w : TileWork). w.generation) (j.others t is_tile other));
}

pub given_back_is_steady : (before after : Core) (swept : Swept) (back : Back) → IsGivenBack before swept back after
    → IsSteady before after
given_back_is_steady before after swept Joined (known, out, unchanged, joined) =
    joined_is_steady before after swept joined
given_back_is_steady before after swept Again (known, out, risen, joined) = joined_is_steady before after swept joined
given_back_is_steady before after swept Stale (known, gone, same) = as_before before after same
given_back_is_steady before after swept Stranger (why, same) = as_before before after same

pub give_back_is_steady : {E : Type 0} (before after : Core) (swept : Swept) (r : Result Back E)
    → IfOk r (λ back. IsGivenBack before swept back after) → OnErr r (after ≡ before) → IsSteady before after
give_back_is_steady before after swept (Ok back) given same = given_back_is_steady before after swept back given
give_back_is_steady before after swept (Err e) given same = as_before before after same

pub abandoned_is_steady : (before after : Core) (ticket : Ticket) (was_out : Bool)
    → IsAbandoned before ticket was_out after → IsSteady before after
abandoned_is_steady before after ticket was_out is =
    marked_is_steady before after (abandon_marks before after ticket was_out is).marked

pub passed_is_steady : (before after : Core) (t : ℕ) → IsSkipped before t after → IsSteady before after
passed_is_steady before after t passed =
    through before passed.between after (taken_is_steady before passed.between t (Some passed.job) passed.is_taken)
    (abandoned_is_steady passed.between after passed.job.ticket true passed.is_abandoned)

pub passed_are_steady : (n from : ℕ) (before after : Core) → ArePassed from n before after → IsSteady before after
passed_are_steady zero from before after same = as_before before after same
passed_are_steady (suc n) from before after (between, first, rest) = elim first [
  | inl passed ↦
      through before between after (passed_is_steady before between from passed)
      (passed_are_steady n (from + 1) between after rest)
  | inr (none, same) ↦
      through before between after (as_before before between same)
      (passed_are_steady n (from + 1) between after rest)
]

pub passed_until_is_steady : (from : ℕ) (answer : Option ℕ) (before after : Core)
    → ArePassedUntil from answer before after → IsSteady before after
passed_until_is_steady from (Some t) before after (rises, ready, passed) =
    passed_are_steady (t - from) from before after passed
passed_until_is_steady from None before after passed =
    passed_are_steady (length before.tiles - from) from before after passed

pub abandons_are_steady : (before : Core) (tickets : List Ticket) (after : Core)
    → IsRun before (abandoned tickets) after → IsSteady before after
abandons_are_steady before tickets after run = marked_is_steady before after (abandons_mark before tickets after run)

without_is_steady : (before : Core) (t i : ℕ) → IsSteady before (without_hint before t i)
without_is_steady before t i =
    of_tile before t (record (work_at before t) { inbox = remove (work_at before t).inbox i }) before.image refl

pub handed_is_steady : (before after : Core) (t i : ℕ) (answer : Handed) → IsHanded before t i answer after
    → IsSteady before after
handed_is_steady before after t i handed.Nothing (none, same) = as_before before after same
handed_is_steady before after t i handed.Stale (hint, there, absent, same) =
    subst (λ (c : Core). IsSteady before c) (sym same) (without_is_steady before t i)
handed_is_steady before after t i handed.Same (hint, there, present, low, same) =
    subst (λ (c : Core). IsSteady before c) (sym same) (without_is_steady before t i)
handed_is_steady before after t i handed.Raised (hint, there, present, above, same) =
    let lost = without_hint before t i in
    let home = tile_of (tiling lost) hint.to_pixel in
    let once = of_tile lost home (record (work_at lost home) { dirty = true }) (raised lost hint).image refl in
    subst (λ (c : Core). IsSteady before c) (sym same)
    (through before lost (raised lost hint) (without_is_steady before t i) once)

pub handed_over_is_steady : (n t : ℕ) (before after : Core) → AreHandedOver t n before after → IsSteady before after
handed_over_is_steady zero t before after same = as_before before after same
handed_over_is_steady (suc n) t before after (handed, between, happens, rest) =
    through before between after (handed_is_steady before between t n handed happens)
    (handed_over_is_steady n t between after rest)
