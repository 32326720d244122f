-- An input is refused for one reason, and then has no view.
use Rattle.std.proofs.Common.{◌≡◌, ℕ, List, ◌∷◌, refl, sym, ap, ◌∙◌, subst, inl, inr, ◌⊎◌}
use Rattle.grid_core.specs.declared.conn.Conn.{Conn}
use Rattle.edit_lang.specs.{Edit.EditSpells, declared.error.EditError.EditError}
use Rattle.pgm_codec.specs.{Graymap.Graymap, Spelling.PgmSpells, FirstFault.PgmFault, declared.error.PgmError.PgmError}
use Rattle.pgm_codec.specs.{declared.error.PgmError.TheVariants.Device}
use Rattle.stroke_lattice.specs.State.{State}
use Rattle.core_rules.specs.declared.error.CoreError.{CoreError}
use Rattle.view_session.specs.{Merging.AreMerged, Merging.IsStop, LowerLaws.ReadingLaws, LowerLaws.JoinLaw}
use Rattle.view_session.specs.View.{InputSpells, IsView, Refusal, FileIsRefusedBy, PartsAreRefusedBy, InputIsRefusedBy}
use Rattle.view_session.specs.View.{no_more, DeltasAreRefused, DeltasHalt, InputIsRefused, InputStops}
use Rattle.run_faults.specs.{RunError.IsReadingFault, declared.run_error.RunError.RunError}
use Rattle.run_faults.specs.declared.run_error.RunError.TheVariants.{Edit, Pgm, Core}
use Rattle.view_session.proofs.{Deltas.none_refused, Deltas.one_first_refusal, Splits.one_split, Splits.splits_or_not}

-- ---- a refusal, stage by stage

-- of deltas on a mask there is one reason
abbrev pub OneReason : Refusal → Type 0
OneReason Rest = (deltas : List State) (mask : Graymap) (d e : RunError) → Rest deltas mask d → Rest deltas mask e → d ≡
    e

module _ (reading : ReadingLaws) (Rest : Refusal) where
  -- ---- one reason

  one_for_file : OneReason Rest → (file : List ℕ) (deltas : List State) (d e : RunError)
      → FileIsRefusedBy Rest file deltas d → FileIsRefusedBy Rest file deltas e → d ≡ e
  one_for_file one file deltas d e (inl (a, is, first)) (inl (b, also, second)) =
      is ∙ ap (λ (c : PgmError). Pgm c) (reading.one_pgm_fault file a b first second) ∙ sym also
  one_for_file one file deltas d e (inl (a, is, fault)) (inr (mask, spelled, refused)) =
      absurd (reading.no_pgm_fault file mask a spelled fault)
  one_for_file one file deltas d e (inr (mask, spelled, refused)) (inl (b, is, fault)) =
      absurd (reading.no_pgm_fault file mask b spelled fault)
  one_for_file one file deltas d e (inr (mask, spelled, refused)) (inr (other, again, later)) =
      one deltas other d e (subst (λ (m : Graymap). Rest deltas m d) (reading.one_image file mask other spelled again)
      refused) later

  one_for_parts : OneReason Rest → (edits file : List ℕ) (d e : RunError) → PartsAreRefusedBy Rest edits file d
      → PartsAreRefusedBy Rest edits file e → d ≡ e
  one_for_parts one edits file d e (inl (a, is, first)) (inl (b, also, second)) =
      is ∙ ap (λ (c : EditError). Edit c) (reading.one_edit_fault edits a b first second) ∙ sym also
  one_for_parts one edits file d e (inl (a, is, fault)) (inr (deltas, spelled, refused)) =
      absurd (reading.no_edit_fault edits deltas a spelled fault)
  one_for_parts one edits file d e (inr (deltas, spelled, refused)) (inl (b, is, fault)) =
      absurd (reading.no_edit_fault edits deltas b spelled fault)
  one_for_parts one edits file d e (inr (deltas, spelled, refused)) (inr (others, again, later)) =
      one_for_file one file others d e (subst (λ (ds : List State). FileIsRefusedBy Rest file ds d)
      (reading.one_list edits deltas others spelled again) refused) later

  pub one_for_input : OneReason Rest → (input : List ℕ) (d e : RunError) → InputIsRefusedBy Rest input d
      → InputIsRefusedBy Rest input e → d ≡ e
  one_for_input one input d e (inl (is, none)) (inl (also, again)) = is ∙ sym also
  one_for_input one input d e (inl (is, none)) (inr (edits, file, split, refused)) =
      absurd (splits_or_not input edits file none split)
  one_for_input one input d e (inr (edits, file, split, refused)) (inl (is, none)) =
      absurd (splits_or_not input edits file none split)
  one_for_input one input d e (inr (edits, file, split, refused)) (inr (others, more, second, later)) =
      let same = one_split input edits file others more split second in
      one_for_parts one others more d e (subst (λ t. PartsAreRefusedBy Rest others t d) same.1
      (subst (λ t. PartsAreRefusedBy Rest t file d) same.0 refused)) later

  -- ---- no view

  -- an input is not both spelled, with a mask and deltas for which the rest is not refused, and refused
  pub spelled_or_refused : (input : List ℕ) (mask : Graymap) (deltas : List State) (e : RunError)
      → InputSpells input mask deltas → (Rest deltas mask e → ⊥) → InputIsRefusedBy Rest input e → ⊥
  spelled_or_refused input mask deltas e spells accepted (inl (is, none)) =
      splits_or_not input spells.edits spells.file none spells.split
  spelled_or_refused input mask deltas e spells accepted (inr (edits, file, split, refused)) =
      let same = one_split input spells.edits spells.file edits file spells.split split in
      let edits_spelled : EditSpells edits deltas = subst (λ t. EditSpells t deltas) same.0 spells.edits_spelled in
      let mask_spelled : PgmSpells file mask = subst (λ t. PgmSpells t mask) same.1 spells.mask_spelled in
      elim refused [
        | inl (c, is, fault) ↦ reading.no_edit_fault edits deltas c edits_spelled fault
        | inr (others, spelled, rest) ↦ elim rest [
          | inl (c, is, fault) ↦ reading.no_pgm_fault file mask c mask_spelled fault
          | inr (other, also, last) ↦
              accepted (subst (λ ds. Rest ds mask e) (sym (reading.one_list edits deltas others edits_spelled spelled))
              (subst (λ m. Rest others m e) (sym (reading.one_image file mask other mask_spelled also)) last))
        ]
      ]

-- what has a fault is refused, whatever is asked of its deltas
faulty_file : (Rest : Refusal) (file : List ℕ) (deltas : List State) (e : RunError)
    → FileIsRefusedBy no_more file deltas e → FileIsRefusedBy Rest file deltas e
faulty_file Rest file deltas e (inl fault) = inl fault
faulty_file Rest file deltas e (inr (mask, spelled, none)) = absurd none

faulty_parts : (Rest : Refusal) (edits file : List ℕ) (e : RunError) → PartsAreRefusedBy no_more edits file e
    → PartsAreRefusedBy Rest edits file e
faulty_parts Rest edits file e (inl fault) = inl fault
faulty_parts Rest edits file e (inr (deltas, spelled, refused)) =
    inr (deltas, spelled, faulty_file Rest file deltas e refused)

pub faulty_input : (Rest : Refusal) (input : List ℕ) (e : RunError) → InputIsRefusedBy no_more input e
    → InputIsRefusedBy Rest input e
faulty_input Rest input e (inl none) = inl none
faulty_input Rest input e (inr (edits, file, split, refused)) =
    inr (edits, file, split, faulty_parts Rest edits file e refused)

-- an input is refused whose deltas are, on its mask
pub refused_behind : (Rest : Refusal) (input : List ℕ) (mask : Graymap) (deltas : List State) (e : RunError)
    → InputSpells input mask deltas → Rest deltas mask e → InputIsRefusedBy Rest input e
refused_behind Rest input mask deltas e spells refused =
    inr (
      spells.edits,
      spells.file,
      spells.split,
      inr (
        deltas,
        spells.edits_spelled,
        inr
            (mask, spells.mask_spelled, refused),
      ),
    )

-- no input is refused for a device, where no deltas are
pub refused_at_no_device : ((text : List ℕ) → PgmFault text Device → ⊥) → (Rest : Refusal)
    → ((deltas : List State) (mask : Graymap) → Rest deltas mask (Pgm Device) → ⊥) → (input : List ℕ)
    → InputIsRefusedBy Rest input (Pgm Device) → ⊥
refused_at_no_device law Rest none input (inl (is, no_line)) = cc
refused_at_no_device law Rest none input (inr (edits, file, split, inl (fault, is, first))) = cc
refused_at_no_device law Rest none input (inr (edits, file, split, inr (deltas, spelled, inl (fault, is, found)))) =
    let same : fault ≡ Device = cc in law file (subst (PgmFault file) same found)
refused_at_no_device law Rest none input (inr (edits, file, split, inr (deltas, spelled, inr (mask, also, refused)))) =
    none deltas mask refused

-- ---- deltas that are merged in order

pub one_for_deltas : JoinLaw → OneReason DeltasAreRefused
one_for_deltas joins deltas mask d e (a, is, first) (b, also, second) =
    is ∙ ap (λ (c : CoreError). Core c) (one_first_refusal joins mask.raster.width mask.raster.height deltas a b first
    second) ∙ sym also

-- deltas that are merged are not refused
pub merged_or_refused : (deltas : List State) (mask : Graymap) (state : State) (e : RunError)
    → AreMerged mask.raster.width mask.raster.height deltas state → DeltasAreRefused deltas mask e → ⊥
merged_or_refused deltas mask state e merged (c, is, first) =
    none_refused mask.raster.width mask.raster.height first.before first.after first.delta first.state state c
    (subst (λ (ds : List State). AreMerged mask.raster.width mask.raster.height ds state) first.parts merged)
    first.merged first.refused

-- where merging stops, the deltas are refused, or halt
pub deltas_stop : (deltas : List State) (mask : Graymap) (e : CoreError)
    → IsStop mask.raster.width mask.raster.height deltas e
    → DeltasAreRefused deltas mask (Core e) ⊎ DeltasHalt deltas mask (Core e)
deltas_stop deltas mask e (inl first) = inl (e, refl, first)
deltas_stop deltas mask e (inr (memory, halted)) = inr (inl (ap (λ (c : CoreError). Core c) memory, halted))

pub no_delta_is_a_device : (deltas : List State) (mask : Graymap) → DeltasAreRefused deltas mask (Pgm Device) → ⊥
no_delta_is_a_device deltas mask (c, is, first) = cc

pub halts_at_no_device : (deltas : List State) (mask : Graymap) → DeltasHalt deltas mask (Pgm Device) → ⊥
halts_at_no_device deltas mask (inl (is, halted)) = cc
halts_at_no_device deltas mask (inr (is, state, merged)) = cc

-- ---- a view over old strokes

-- the deltas are refused behind the old strokes
abbrev pub RefusedBehind : State → Refusal
RefusedBehind old deltas mask e = DeltasAreRefused (old ∷ deltas) mask e

pub one_refusal : ReadingLaws → JoinLaw → (old : State) (input : List ℕ) (d e : RunError)
    → InputIsRefused old input d → InputIsRefused old input e → d ≡ e
one_refusal reading joins old input d e first second =
    one_for_input reading (RefusedBehind old) (λ deltas mask a b. one_for_deltas joins (old ∷ deltas) mask a b) input d
    e first second

pub no_view_of_a_refused_input : ReadingLaws → (conn : Conn) (old state : State) (input text : List ℕ) (e : RunError)
    → IsView conn old input state text → InputIsRefused old input e → ⊥
no_view_of_a_refused_input reading conn old state input text e (image, view, spelled) refused =
    spelled_or_refused reading (RefusedBehind old) input view.mask view.deltas e view.spelled
    (merged_or_refused (old ∷ view.deltas) view.mask state e view.merged) refused

-- ---- where a run stops

-- what is behind an input that spells deltas on a mask is where it stops
pub input_stops : (old : State) (input : List ℕ) (mask : Graymap) (deltas : List State) (e : RunError)
    → InputSpells input mask deltas
    → DeltasAreRefused (old ∷ deltas) mask e ⊎ DeltasHalt (old ∷ deltas) mask e → InputStops old input e
input_stops old input mask deltas e spells (inl refused) =
    inl (refused_behind (RefusedBehind old) input mask deltas e spells refused)
input_stops old input mask deltas e spells (inr halts) = inr (inr (mask, deltas, spells, halts))

-- no input stops at a device
stops_at_no_device : ((text : List ℕ) → PgmFault text Device → ⊥) → (old : State) (input : List ℕ)
    → InputStops old input (Pgm Device) → ⊥
stops_at_no_device law old input (inl refused) =
    refused_at_no_device law (RefusedBehind old) (λ deltas mask. no_delta_is_a_device (old ∷ deltas) mask) input refused
stops_at_no_device law old input (inr (inl (is, edits, file, split))) = cc
stops_at_no_device law old input (inr (inr (mask, deltas, spells, halts))) =
    halts_at_no_device (old ∷ deltas) mask halts

pub no_device : ((text : List ℕ) → PgmFault text Device → ⊥) → (old : State) (input : List ℕ) (e : RunError)
    → e ≡ Pgm Device → IsReadingFault e ⊎ InputStops old input e → ⊥
no_device law old input e is (inl memory) = cc
no_device law old input e is (inr stops) = stops_at_no_device law old input (subst (InputStops old input) is stops)
