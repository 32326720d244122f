-- Where a view over a state file stops, and that it is one.
use Rattle.std.proofs.Common.{◌≡◌, ℕ, ◌<◌, List, [], ◌∷◌, ◌++◌, length, refl, sym, ap, ◌∙◌, subst, inl, inr, ◌⊎◌}
use Rattle.std.proofs.lemmas.List.{append-nil, map-append}
use Rattle.std.proofs.lemmas.List.Elements.{All-append, All-map}
use Rattle.grid_core.specs.declared.conn.Conn.{Conn}
use Rattle.pgm_codec.specs.{Graymap.Graymap, FirstFault.PgmFault, declared.error.PgmError.TheVariants.Device}
use Rattle.std.specs.List.{AllByRecursion}
use Rattle.spd_codec.specs.StateFile.{SpellsFile, IsFileFault, frames_of}
use Rattle.spd_codec.specs.{declared.frame.Frame.Frame, declared.error.SpdError.SpdError}
use Rattle.stroke_core.specs.Seed.{Seed, Fits}
use Rattle.stroke_lattice.specs.{State.State, State.SomeHasStroke, State.StateFits, State.IsJoinOf, Pieces.pieces_of}
use Rattle.view_session.specs.Kept.{print_of, deltas_of, IsFrameFor, FileSpells, FileIsOfAnother, OldIsRefused}
use Rattle.view_session.specs.Kept.{IsImageKept, IsGathered, KeptStops}
use Rattle.view_session.specs.{Merging.AreMerged, View.InputSpells, View.DeltasAreRefused, View.DeltasHalt}
use Rattle.run_faults.specs.{RunError.IsReadingFault, declared.run_error.RunError.RunError}
use Rattle.run_faults.specs.declared.run_error.RunError.TheVariants.{Pgm, Spd, OtherMask, Memory}
use Rattle.view_session.proofs.Refusals.{refused_behind, refused_at_no_device, no_delta_is_a_device, halts_at_no_device}
use Rattle.spd_codec.specs.declared.error.SpdError.TheVariants as spd

-- ---- frames of pieces

-- the deltas of the frames of pieces are the pieces
deltas_of_frames : (conn : Conn) (print : List ℕ) (pieces : List State)
    → pieces ≡ deltas_of (frames_of conn print pieces)
deltas_of_frames conn print [] = refl
deltas_of_frames conn print (piece ∷ pieces) =
    ap (λ (rest : List State). piece ∷ rest) (deltas_of_frames conn print pieces)

-- bytes that spell the frames of pieces, for this connectivity and fingerprint, spell the pieces
pub spells_pieces : (conn : Conn) (print bytes : List ℕ) (pieces : List State)
    → SpellsFile bytes (frames_of conn print pieces) → FileSpells conn print bytes pieces
spells_pieces conn print bytes pieces spelled = record {
  frames = frames_of conn print pieces;
  spelled = spelled;
  all_for = All-map (IsFrameFor conn print) (λ (piece : State). record { conn = conn; print = print; delta = piece })
      pieces (λ k d within. (refl, refl));
  deltas = deltas_of_frames conn print pieces;
}

-- a file behind another spells what they spell, where bytes one behind another spell the frames of both
pub joined_files : ((a b : List ℕ) (frames others : List Frame) → SpellsFile a frames → SpellsFile b others
    → SpellsFile (a ++ b) (frames ++ others))
    → (conn : Conn) (print a b : List ℕ) (kept others : List State) → FileSpells conn print a kept
    → FileSpells conn print b others → FileSpells conn print (a ++ b) (kept ++ others)
joined_files law conn print a b kept others first second = record {
  frames = first.frames ++ second.frames;
  spelled = law a b first.frames second.frames first.spelled second.spelled;
  all_for = All-append (IsFrameFor conn print) first.frames second.frames first.all_for second.all_for;
  deltas =
      ap (λ (ds : List State). ds ++ others) first.deltas ∙ ap (λ (ds : List State). deltas_of first.frames ++ ds)
      second.deltas
      ∙ sym (map-append (λ (frame : Frame). frame.delta) first.frames second.frames);
}

-- ---- a state that is kept is shown again

-- a stroke of states that all fit, fits
some_fits : (width height : ℕ) (states : List State) (tag : ℕ) (seed : Seed)
    → AllByRecursion (StateFits width height) states → SomeHasStroke states tag seed → Fits width height seed
some_fits width height [] tag seed all some = absurd some
some_fits width height (s ∷ states) tag seed all (inl here) = all.0 tag seed here
some_fits width height (s ∷ states) tag seed all (inr there) = some_fits width height states tag seed all.1 there

-- states fit whose strokes all fit
all_fit : (width height : ℕ) (states : List State) → ((tag : ℕ) (seed : Seed) → SomeHasStroke states tag seed
    → Fits width height seed) → AllByRecursion (StateFits width height) states
all_fit width height [] each = tt
all_fit width height (s ∷ states) each =
    (λ tag seed has. each tag seed (inl has), all_fit width height states (λ tag seed has. each tag seed (inr has)))

-- what is merged into a state, its pieces can be merged into
merged_again : (width height : ℕ) (deltas pieces : List State) (state : State) → IsJoinOf pieces state
    → AreMerged width height deltas state → AreMerged width height pieces state
merged_again width height deltas pieces state join merged = record {
  fit = all_fit width height pieces (λ tag seed has. some_fits width height deltas tag seed merged.fit
      ((merged.join.strokes tag seed).0 ((join.strokes tag seed).1 has)));
  join = join;
}

pub shown_again : ((max : ℕ) (s : State) → IsJoinOf (pieces_of max s) s)
    → (conn : Conn) (old input more : List ℕ) (state : State) (image : Graymap)
    (new : List ℕ) (kept : IsImageKept conn old input state image new) → InputSpells more kept.mask [] → IsImageKept
    conn new more state image new
shown_again law conn old input more state image new kept spelled = record {
  mask = kept.mask;
  deltas = [];
  spelled = spelled;
  kept = pieces_of 1400 state;
  old_spelled = kept.new_spelled;
  merged =
      subst (λ (ds : List State). AreMerged kept.mask.raster.width kept.mask.raster.height ds state)
      (sym (append-nil (pieces_of 1400 state)))
      (merged_again kept.mask.raster.width kept.mask.raster.height (kept.kept ++ kept.deltas) (pieces_of 1400 state)
      state (law 1400 state) kept.merged);
  shown = kept.shown;
  new_is = kept.new_is;
  new_spelled = kept.new_spelled;
}

-- ---- where a run stops

-- what is behind the old bytes is where the run stops
pub kept_stops : (conn : Conn) (old input : List ℕ) (mask : Graymap) (deltas kept : List State) (e : RunError)
    → InputSpells input mask deltas → FileSpells conn (print_of mask) old kept
    → DeltasAreRefused (kept ++ deltas) mask e ⊎ DeltasHalt (kept ++ deltas) mask e → KeptStops conn old input e
kept_stops conn old input mask deltas kept e spells file (inl refused) =
    inl (refused_behind (OldIsRefused conn old) input mask deltas e spells (inr (inr (kept, file, refused))))
kept_stops conn old input mask deltas kept e spells file (inr halts) =
    inr (inr (mask, deltas, spells, inr (kept, file, inl halts)))

-- and so are the old bytes
pub file_stops : (conn : Conn) (print old input : List ℕ) (mask : Graymap) (deltas : List State) (e : RunError)
    → print ≡ print_of mask → InputSpells input mask deltas
    → (e ≡ Spd spd.Memory) ⊎ ((why : SpdError) × (e ≡ Spd why) × IsFileFault old why) ⊎
    ((e ≡ OtherMask) × FileIsOfAnother conn print old)
    → (e ≡ Spd spd.Memory → 0 < length old) → KeptStops conn old input e
file_stops conn print old input mask deltas e is-print spells (inl memory) some =
    inr (inr (mask, deltas, spells, inl (memory, some memory)))
file_stops conn print old input mask deltas e is-print spells (inr (inl fault)) some =
    inl (refused_behind (OldIsRefused conn old) input mask deltas e spells (inl fault))
file_stops conn print old input mask deltas e is-print spells (inr (inr (is, other))) some =
    inl (refused_behind (OldIsRefused conn old) input mask deltas e spells
    (inr (inl (is, subst (λ (p : List ℕ). FileIsOfAnother conn p old) is-print other))))

-- and so is want of memory behind what is gathered
pub memory_behind : (conn : Conn) (old input : List ℕ) (mask : Graymap) (state : State)
    → IsGathered conn old input mask state → KeptStops conn old input Memory
memory_behind conn old input mask state g =
    inr (inr (mask, g.deltas, g.spelled, inr (g.kept, g.old_spelled, inl (inr (refl, state, g.merged)))))

-- and in writing the new bytes
pub writing_stops : (conn : Conn) (old input : List ℕ) (mask : Graymap) (state : State) (e : RunError)
    → IsGathered conn old input mask state → e ≡ Spd spd.Memory → KeptStops conn old input e
writing_stops conn old input mask state e g memory =
    inr (inr (mask, g.deltas, g.spelled, inr (g.kept, g.old_spelled, inr (memory, state, g.merged))))

-- no run stops at a device
no_old_is_a_device : (conn : Conn) (old : List ℕ) (deltas : List State) (mask : Graymap)
    → OldIsRefused conn old deltas mask (Pgm Device) → ⊥
no_old_is_a_device conn old deltas mask (inl (fault, is, first)) = cc
no_old_is_a_device conn old deltas mask (inr (inl (is, other))) = cc
no_old_is_a_device conn old deltas mask (inr (inr (kept, file, refused))) =
    no_delta_is_a_device (kept ++ deltas) mask refused

stops_at_no_device : ((text : List ℕ) → PgmFault text Device → ⊥) → (conn : Conn) (old input : List ℕ)
    → KeptStops conn old input (Pgm Device) → ⊥
stops_at_no_device law conn old input (inl refused) =
    refused_at_no_device law (OldIsRefused conn old) (no_old_is_a_device conn old) input refused
stops_at_no_device law conn old input (inr (inl (is, edits, file, split))) = cc
stops_at_no_device law conn old input (inr (inr (mask, deltas, spells, inl (memory, some)))) = cc
stops_at_no_device law conn old input (inr (inr (mask, deltas, spells, inr (kept, file, inl halts)))) =
    halts_at_no_device (kept ++ deltas) mask halts
stops_at_no_device law conn old input (inr (inr (mask, deltas, spells, inr (kept, file, inr (memory, s, merged))))) = cc

pub no_kept_device : ((text : List ℕ) → PgmFault text Device → ⊥)
    → (conn : Conn) (old input : List ℕ) (e : RunError) → e ≡ Pgm Device
    → IsReadingFault e ⊎ KeptStops conn old input e → ⊥
no_kept_device law conn old input e is (inl memory) = cc
no_kept_device law conn old input e is (inr stops) =
    stops_at_no_device law conn old input (subst (KeptStops conn old input) is stops)
