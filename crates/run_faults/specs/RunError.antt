-- What the program says of a fault: one line, and an exit status.
use Rattle.std.specs.Prelude.{◌≡◌, ◌⊎◌, ℕ, List, [], ◌∷◌, ◌++◌, codes, decimal}
use Rattle.edit_lang.specs.{declared.error.EditError.EditError, Code.code_of as edit_code_of}
use Rattle.pgm_codec.specs.Code.{code_of as pgm_code_of}
use Rattle.stroke_core.specs.{Code.code_of as stroke_code_of, Tag.text_of}
use Rattle.core_rules.specs.{Codes.code_of as core_code_of, declared.error.CoreError.CoreError}
use Rattle.spd_codec.specs.{Code.code_of as spd_code_of, declared.error.SpdError.SpdError}
use Rattle.run_faults.specs.{declared.detail.Detail.Detail, declared.run_error.RunError.RunError}
use Rattle.run_faults.specs.{declared.run_error.StudioFault.StudioFault}
use Rattle.run_faults.specs.declared.detail.Detail.TheVariants.{Nothing, Line, LineAndStroke, Stroke, Named}
use Rattle.run_faults.specs.declared.run_error.RunError.TheVariants.{Usage, NoImage, Edit, Pgm, Core, Spd, OtherMask}
use Rattle.run_faults.specs.declared.run_error.RunError.TheVariants.{StateFile, Memory, Studio, Link}
use Rattle.edit_lang.specs.declared.error.EditError.TheVariants as edit
use Rattle.pgm_codec.specs.declared.error.PgmError.TheVariants as pgm
use Rattle.core_rules.specs.declared.error.CoreError.TheVariants as core
use Rattle.spd_codec.specs.declared.error.SpdError.TheVariants as spd
use Rattle.run_faults.specs.declared.run_error.StudioFault.TheVariants as studio

-- a studio's: U where none was opened, B where it was not closed
abbrev pub studio_code : StudioFault → List ℕ
studio_code studio.BadCounts = codes "U1"
studio_code studio.OpenMemory = codes "U2"
studio_code studio.NoPlace = codes "U3"
studio_code studio.EndMissing = codes "B1"
studio_code studio.CloseMemory = codes "B2"
studio_code studio.CountSpent = codes "B3"

-- the code of a fault, as documents name it; what has no number has a word
abbrev pub code_of : RunError → List ℕ
code_of Usage = codes "usage"
code_of NoImage = codes "V1"
code_of (Edit e) = edit_code_of e
code_of (Pgm e) = pgm_code_of e
code_of (Core e) = core_code_of e
code_of (Spd e) = spd_code_of e
code_of OtherMask = codes "D1"
code_of StateFile = codes "V2"
code_of Memory = codes "memory"
code_of (Studio why) = studio_code why
code_of Link = codes "D3"

-- what is told of a fault in the edit text: the number of the line, and of a stroke its code
abbrev pub edit_detail : EditError → Detail
edit_detail (edit.BadLine n) = Line n
edit_detail (edit.BadTag n) = Line n
edit_detail (edit.BadStroke n why) = LineAndStroke n why
edit_detail edit.Memory = Nothing

-- of a core's refusal: the tag where one is named
abbrev pub core_detail : CoreError → Detail
core_detail (core.OutOfImage tag) = Named tag
core_detail (core.Conflict tag) = Named tag
core_detail core.GenerationsSpent = Nothing
core_detail core.Memory = Nothing
core_detail core.BadSide = Nothing

-- of a fault in a state file: the code of a stroke that is refused
abbrev pub frame_detail : SpdError → Detail
frame_detail spd.BadMagic = Nothing
frame_detail spd.BadConn = Nothing
frame_detail spd.Truncated = Nothing
frame_detail spd.TagOrder = Nothing
frame_detail (spd.BadStroke why) = Stroke why
frame_detail spd.TooLong = Nothing
frame_detail spd.Trailing = Nothing
frame_detail spd.Memory = Nothing

-- and of any fault
abbrev pub detail_of : RunError → Detail
detail_of Usage = Nothing
detail_of NoImage = Nothing
detail_of (Edit e) = edit_detail e
detail_of (Pgm e) = Nothing
detail_of (Core e) = core_detail e
detail_of (Spd e) = frame_detail e
detail_of OtherMask = Nothing
detail_of StateFile = Nothing
detail_of Memory = Nothing
detail_of (Studio why) = Nothing
detail_of Link = Nothing

-- each part of it behind a blank: a number in decimal, a code, the text of a tag
abbrev pub detail_text : Detail → List ℕ
detail_text Nothing = []
detail_text (Line n) = codes " " ++ decimal n
detail_text (LineAndStroke n why) = codes " " ++ decimal n ++ codes " " ++ stroke_code_of why
detail_text (Stroke why) = codes " " ++ stroke_code_of why
detail_text (Named tag) = codes " " ++ text_of tag

-- the line of a fault, without its LF: the code, and what is told beside it
abbrev pub fault_text : RunError → List ℕ
fault_text e = codes "seedpaint: " ++ code_of e ++ detail_text (detail_of e)

-- the same with its LF
abbrev pub error_line : RunError → List ℕ
error_line e = fault_text e ++ 10 ∷ []

-- want of memory, under each of its codes
abbrev pub IsMemory : RunError → Type 0
IsMemory e =
    (e ≡ Memory) ⊎ (e ≡ Edit edit.Memory) ⊎ (e ≡ Pgm pgm.Memory) ⊎ (e ≡ Core core.Memory) ⊎ (e ≡ Spd spd.Memory)

-- want of memory in reading a source or an image file, or in writing an image, which may come whatever the input is
abbrev pub IsReadingFault : RunError → Type 0
IsReadingFault e = e ≡ Pgm pgm.Memory

-- a source or a sink failed
abbrev pub IsTransferFault : RunError → Type 0
IsTransferFault e = e ≡ Pgm pgm.Device

-- a device failed: a source or a sink, a store of files, or a link
abbrev pub IsDeviceFault : RunError → Type 0
IsDeviceFault e = IsTransferFault e ⊎ (e ≡ StateFile) ⊎ (e ≡ Link)

-- a studio was not opened or not closed, and not for its counts
abbrev pub IsStudioFault : RunError → Type 0
IsStudioFault e = (why : StudioFault) × (e ≡ Studio why) × (why ≡ studio.BadCounts → ⊥)

-- the exit status of a fault: 2 for words on the command line, 3 for memory, devices and studios, else 1
pub record HasStatus (e : RunError) (status : ℕ) : Type 0 where
  pub usage : e ≡ Usage → status ≡ 2
  pub memory : IsMemory e → status ≡ 3
  pub device : IsDeviceFault e → status ≡ 3
  pub studio : IsStudioFault e → status ≡ 3
  pub refused : (e ≡ Usage → ⊥) → (IsMemory e → ⊥) → (IsDeviceFault e → ⊥) → (IsStudioFault e → ⊥) → status ≡ 1
