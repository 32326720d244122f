-- A state shows one image on a mask, and an input has one view.
use Rattle.std.proofs.Common.{◌≡◌, ℕ, List, ◌∷◌, sym, ap, ◌∙◌, subst, arith}
use Rattle.grid_core.specs.{declared.conn.Conn.Conn, declared.pixel.Pixel.Pixel, Raster.value_at, Path.Domain}
use Rattle.grid_core.specs.{Path.domain_of, Path.Inside, Reconstruction.IsReconstruction}
use Rattle.edit_lang.specs.Edit.{EditSpells}
use Rattle.pgm_codec.specs.{Graymap.Graymap, Spelling.PgmSpells, Writing.raw_text}
use Rattle.stroke_lattice.specs.State.{State, IsJoinOf}
use Rattle.derived_views.specs.Shown.{IsShown}
use Rattle.view_session.specs.View.{InputSpells, IsView}
use Rattle.view_session.specs.LowerLaws.{ImageLaws, ReadingLaws, JoinLaw}
use Rattle.view_session.proofs.Splits.{one_split}

module _ (images : ImageLaws) where
  -- a reconstruction from a marker is one from each marker that agrees with it
  from_agreeing : (d : Domain) (mask f g r : Pixel → ℕ) → ((p : Pixel) → Inside d p → f p ≡ g p)
      → IsReconstruction d mask f r → IsReconstruction d mask g r
  from_agreeing d mask f g r agree recon p inside = (
    images.rises d mask f g (λ q h. omega (arith, agree q h)) p (r p) (recon p inside).0,
    λ k above reach. (recon p inside).1 k above (images.rises d mask g f (λ q h. omega (arith, agree q h)) p k reach),
  )

  -- a state shows one image on a mask
  pub one_shown : (conn : Conn) (mask : Graymap) (state : State) (image other : Graymap)
      → IsShown conn mask state image → IsShown conn mask state other → image ≡ other
  one_shown conn mask state image other a b =
      let d = domain_of mask.raster conn in
      let values = value_at mask.raster in
      let agree = images.one_marker d values state a.marker b.marker a.is_marker b.is_marker in
      let recon = from_agreeing d values a.marker b.marker (value_at image.raster) agree a.is_reconstruction in
      let rasters : image.raster ≡ other.raster = images.equal_images image.raster other.raster a.filled b.filled
      (a.width ∙ sym b.width) (a.height ∙ sym b.height)
      (λ p inside. images.one_reconstruction d values b.marker (value_at image.raster) (value_at other.raster) recon
      b.is_reconstruction p (omega (arith, inside.0, a.width), omega (arith, inside.1, a.height))) in
      let maxvals : image.maxval ≡ other.maxval = a.maxval ∙ sym b.maxval in
      λ i. record { raster = rasters i; maxval = maxvals i }

module _ (images : ImageLaws) (reading : ReadingLaws) (joins : JoinLaw) where
  -- an input spells one mask and one list of deltas
  pub one_spelling : (input : List ℕ) (mask other : Graymap) (deltas others : List State)
      → InputSpells input mask deltas → InputSpells input other others → (mask ≡ other) × (deltas ≡ others)
  one_spelling input mask other deltas others first second =
      let same = one_split input first.edits first.file second.edits second.file first.split second.split in
      let edits : EditSpells second.edits deltas = subst (λ (t : List ℕ). EditSpells t deltas) same.0
      first.edits_spelled in
      let file : PgmSpells second.file mask = subst (λ (t : List ℕ). PgmSpells t mask) same.1 first.mask_spelled in (
        reading.one_image second.file mask other file second.mask_spelled,
        reading.one_list second.edits deltas others
            edits second.edits_spelled,
      )

  pub one_state : (conn : Conn) (old s t : State) (input a b : List ℕ) → IsView conn old input s a
      → IsView conn old input t b → s ≡ t
  one_state conn old s t input a b (image, v, spelled) (other, w, again) =
      let same = one_spelling input v.mask w.mask v.deltas w.deltas v.spelled w.spelled in
      let join : IsJoinOf (old ∷ w.deltas) s = subst (λ (ds : List State). IsJoinOf (old ∷ ds) s) same.1 v.merged.join
      in
      joins (old ∷ w.deltas) s t join w.merged.join

  pub one_view : (conn : Conn) (old s t : State) (input a b : List ℕ) → IsView conn old input s a
      → IsView conn old input t b → a ≡ b
  one_view conn old s t input a b (image, v, spelled) (other, w, again) =
      let same = one_spelling input v.mask w.mask v.deltas w.deltas v.spelled w.spelled in
      let state : s ≡ t = one_state conn old s t input a b (image, v, spelled) (other, w, again) in
      let shown : IsShown conn w.mask t image = subst (λ r. IsShown conn w.mask r image) state
      (subst (λ m. IsShown conn m s image) same.0 v.shown) in
      spelled ∙ ap raw_text (one_shown images conn w.mask t image other shown w.shown) ∙ sym again
