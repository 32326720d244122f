-- What a run derives from one image: from the bytes of its file to the bytes of the derived image's file.
use Rattle.std.specs.Prelude.{◌≡◌, ◌⊎◌, ℕ, List}
use Rattle.grid_core.specs.{declared.conn.Conn.Conn, declared.pixel.Pixel.Pixel, Raster.IsFilled, Raster.value_at}
use Rattle.grid_core.specs.{Path.Domain, Path.domain_of}
use Rattle.pgm_codec.specs.{Graymap.Graymap, Spelling.PgmSpells, FirstFault.PgmFault, Writing.raw_text}
use Rattle.pgm_codec.specs.{declared.error.PgmError.PgmError}
use Rattle.derived_views.specs.{Holes.IsFill, HMaxima.IsHMaxima, Plateaus.IsRegionalMaxima}
use Rattle.view_session.specs.declared.derive.Derivation.{Derivation}
use Rattle.view_session.specs.declared.derive.Derivation.TheVariants.{Fill, HMax, RegMax}
use Rattle.run_faults.specs.declared.run_error.RunError.{RunError}
use Rattle.run_faults.specs.declared.run_error.RunError.TheVariants.{Pgm, Memory}

-- the values of the derived image: the holes filled, the h-maxima, or the regional maxima
abbrev pub AreDerived : Derivation → ℕ → Domain → (Pixel → ℕ) → (Pixel → ℕ) → Type 0
AreDerived Fill h d image derived = IsFill d image derived
AreDerived HMax h d image derived = IsHMaxima d h image derived
AreDerived RegMax h d image derived = IsRegionalMaxima d image derived

-- its maxval: that of the image, and 1 for regional maxima
abbrev pub derived_maxval : Derivation → ℕ → ℕ
derived_maxval Fill maxval = maxval
derived_maxval HMax maxval = maxval
derived_maxval RegMax maxval = 1

-- the second image is derived from the first
pub record IsDerived (kind : Derivation) (h : ℕ) (conn : Conn) (image derived : Graymap) : Type 0 where
  pub width : derived.raster.width ≡ image.raster.width
  pub height : derived.raster.height ≡ image.raster.height
  pub filled : IsFilled derived.raster
  pub maxval : derived.maxval ≡ derived_maxval kind image.maxval
  pub values : AreDerived kind h (domain_of image.raster conn) (value_at image.raster) (value_at derived.raster)

-- the image is derived from the one that the input spells
abbrev pub IsDerivedOf : Derivation → ℕ → Conn → List ℕ → Graymap → Type 0
IsDerivedOf kind h conn input derived = (image : Graymap) × PgmSpells input image × IsDerived kind h conn image derived

-- the text is the raw spelling of that image
abbrev pub IsDerivation : Derivation → ℕ → Conn → List ℕ → List ℕ → Type 0
IsDerivation kind h conn input text =
    (derived : Graymap) × IsDerivedOf kind h conn input derived × (text ≡ raw_text derived)

-- why nothing is derived from an input: the first fault of the file that it should be
abbrev pub FileIsRefused : List ℕ → RunError → Type 0
FileIsRefused input e = (fault : PgmError) × (e ≡ Pgm fault) × PgmFault input fault

-- where a derivation stops: at what refuses its input, or for want of memory behind the image that it spells
abbrev pub DerivationStops : List ℕ → RunError → Type 0
DerivationStops input e = FileIsRefused input e ⊎ ((e ≡ Memory) × (image : Graymap) × PgmSpells input image)
