-- Taking a tile and abandoning a job keep a core sound, and each hint that waits as good as it was.
use Rattle.std.proofs.Common.{◌≡◌, ℕ, ◌+◌, ◌%◌, ◌^◌, Bool, true, false, refl, sym, subst, arith, inl, inr, ◌⊎◌, ◌≢◌}
use Rattle.std.proofs.Common.{Contains, Option, Some, None, IsTrue}
use Rattle.std.proofs.{lemmas.Bool.cases_eq, lemmas.List.length-set}
use Rattle.grid_core.specs.{declared.pixel.Pixel.Pixel, Tiles.tile_of}
use Rattle.tile_generations.specs.{declared.ticket.Ticket.Ticket, Jobs.Job}
use Rattle.core_rules.specs.Work.{Core, tiling, IsTile, work_at, with_work}
use Rattle.core_rules.specs.{Sweeps.IsTaken, Sweeps.IsAbandoned, Invariant.HasHint, Invariant.HasWork}
use Rattle.core_rules.specs.Invariant.{IsSound}
use Rattle.border_queues.specs.TileWork.{TileWork}
use Rattle.core_rules.proofs.Cores.{work_there, work_elsewhere, field_kept, IsRise, sound_after, told_after, changed}

-- the core with other marks at one tile
abbrev marks : Core → ℕ → Bool → Option ℕ → Core
marks core t dirty out = with_work core t (record (work_at core t) { dirty = dirty; out = out })

module _ (before : Core) (sound : IsSound before) (t : ℕ) (is_tile : IsTile before t) (dirty : Bool) (out : Option ℕ)
    (serial : ℕ) (marked : IsTrue dirty ⊎ (out ≢ None)) where
  marks_rise : IsRise before before.image (marks before t dirty out).tiles
  marks_rise = record {
    rises = λ p inside. omega arith;
    count = length-set before.tiles t (record (work_at before t) { dirty = dirty; out = out });
    generations = λ u.
        field_kept before t (record (work_at before t) { dirty = dirty; out = out }) (λ (w : TileWork). w.generation)
        is_tile refl u;
  }

  same_inbox : (u : ℕ) → (work_at (marks before t dirty out) u).inbox ≡ (work_at before u).inbox
  same_inbox u =
      field_kept before t (record (work_at before t) { dirty = dirty; out = out }) (λ (w : TileWork). w.inbox) is_tile
      refl u

  -- the tile itself has work, by that mark
  works_there : (p q : Pixel) → tile_of (tiling before) p ≡ t → HasWork (marks before t dirty out) p q
  works_there p q here =
      let work = record (work_at before t) { dirty = dirty; out = out } in
      let there = work_there before t work is_tile in
      elim marked [
        | inl is_dirty ↦ inl (rw (here, there) is_dirty)
        | inr is_out ↦ inr (inl (rw (here, there) is_out))
      ]

  works_elsewhere : (p q : Pixel) → tile_of (tiling before) p ≢ t → HasWork before p q
      → HasWork (marks before t dirty out) p q
  works_elsewhere p q other (inl is_dirty) =
      let work = record (work_at before t) { dirty = dirty; out = out } in
      inl (rw (work_elsewhere before t (tile_of (tiling before) p) work other) is_dirty)
  works_elsewhere p q other (inr (inl is_out)) =
      let work = record (work_at before t) { dirty = dirty; out = out } in
      inr (inl (rw (work_elsewhere before t (tile_of (tiling before) p) work other) is_out))
  works_elsewhere p q other (inr (inr told)) =
      let work = record (work_at before t) { dirty = dirty; out = out } in
      inr (inr (told_after before before.image (with_work before t work).tiles before.serial marks_rise p q refl told
      (subst (λ hs. Contains hs told.hint) (sym (same_inbox (tile_of (tiling before) q))) told.waits)))

  -- marks do not ask for the serial
  other_serial : (p q : Pixel) → HasWork (marks before t dirty out) p q
      → HasWork (changed before before.image (marks before t dirty out).tiles serial) p q
  other_serial p q (inl is_dirty) = inl is_dirty
  other_serial p q (inr (inl is_out)) = inr (inl is_out)
  other_serial p q (inr (inr told)) = inr (inr (record {
    hint = told.hint;
    waits = told.waits;
    from = told.from;
    to = told.to;
    present = record { is_tile = told.present.is_tile; generation = told.present.generation };
    enough = told.enough;
  }))

  pub marks_sound : IsSound (changed before before.image (marks before t dirty out).tiles serial)
  marks_sound =
      let tiles = (marks before t dirty out).tiles in
      sound_after before before.image tiles serial marks_rise sound sound.shape.image sound.supported
      (λ u h within waits. inl (subst (λ hs. Contains hs h) (same_inbox u) waits))
      (λ p q pair. other_serial p q (elim (cases_eq (tile_of (tiling before) p) t) [
        | inl here ↦ works_there p q here
        | inr other ↦ works_elsewhere p q other (sound.work p q pair)
      ]))

  -- a hint that waits is as good as it was
  pub marks_told : (p q : Pixel) → HasHint before p q
      → HasHint (changed before before.image (marks before t dirty out).tiles serial) p q
  marks_told p q told =
      told_after before before.image (marks before t dirty out).tiles serial marks_rise p q refl told
      (subst (λ hs. Contains hs told.hint) (sym (same_inbox (tile_of (tiling before) q))) told.waits)

some_is_out : (serial : ℕ) → Some serial ≢ None
some_is_out serial equal = absurd cc

pub take_keeps_sound : (before after : Core) (t : ℕ) (job : Option Job) → IsSound before → IsTaken before t job after
    → IsSound after
take_keeps_sound before after t (Some job) sound (ready, next, same) =
    subst IsSound (sym same) (marks_sound before sound t ready.is_tile false (Some before.serial)
    ((before.serial + 1) % 2 ^ 64) (inr (some_is_out before.serial)))
take_keeps_sound before after t None sound (unready, same) = subst IsSound (sym same) sound

pub abandon_keeps_sound : (before after : Core) (ticket : Ticket) (was_out : Bool) → IsSound before
    → IsAbandoned before ticket was_out after → IsSound after
abandon_keeps_sound before after ticket true sound (out, same) =
    subst IsSound (sym same) (marks_sound before sound ticket.tile out.is_tile true None before.serial (inl refl))
abandon_keeps_sound before after ticket false sound (not_out, same) = subst IsSound (sym same) sound

-- ---- a hint that waits is as good as it was

pub take_keeps_told : (before after : Core) (t : ℕ) (job : Option Job) (p q : Pixel) → IsSound before
    → IsTaken before t job after → HasHint before p q → HasHint after p q
take_keeps_told before after t (Some job) p q sound (ready, next, same) told =
    subst (λ (core : Core). HasHint core p q) (sym same)
    (marks_told before sound t ready.is_tile false (Some before.serial) ((before.serial + 1) % 2 ^ 64)
    (inr (some_is_out before.serial)) p q told)
take_keeps_told before after t None p q sound (unready, same) told =
    subst (λ (core : Core). HasHint core p q) (sym same) told

pub abandon_keeps_told : (before after : Core) (ticket : Ticket) (was_out : Bool) (p q : Pixel) → IsSound before
    → IsAbandoned before ticket was_out after → HasHint before p q → HasHint after p q
abandon_keeps_told before after ticket true p q sound (out, same) told =
    subst (λ (core : Core). HasHint core p q) (sym same)
    (marks_told before sound ticket.tile out.is_tile true None before.serial (inl refl) p q told)
abandon_keeps_told before after ticket false p q sound (not_out, same) told =
    subst (λ (core : Core). HasHint core p q) (sym same) told
