-- A service with its file, what a call does to them, and how a round of calls ends.
use Rattle.std.specs.Prelude.{◌≡◌, ◌⊎◌, ℕ, ◌<◌, ◌≤◌, Bool, true, false, List, Option, Some, None}
use Rattle.http.specs.declared.request.Request.{Request}
use Rattle.http_server.specs.declared.response.Response.{Response}
use Rattle.view_session.specs.Store.{Held, AreSame, IsHeldIn, IsReplaced}
use Rattle.run_faults.specs.declared.run_error.RunError.{RunError}
use Rattle.run_faults.specs.declared.run_error.RunError.TheVariants.{StateFile, Memory}
use Rattle.page_service.specs.Kept.{last_version}

-- the service, what the files hold, the name of its own, the bytes that the store answered last for it, and the version
-- that was saved there
pub record Keeping (S : Type 0) : Type 0 where
  pub service : S
  pub files : Held
  pub name : List ℕ
  pub last : List ℕ
  pub saved : ℕ

-- the service answers, and nothing else changes
abbrev pub Answers : {S : Type 0} → (S → Request (List ℕ) → Response → S → Type 0)
    → Keeping S → Request (List ℕ) → Response → Keeping S → Type 0
Answers answers old request response new =
    answers old.service request response new.service × (new ≡ record old { service = new.service })

-- the bytes that the store answered last keep the state of the service
abbrev pub IsInFile : {S : Type 0} → (S → List ℕ → Type 0) → Keeping S → Type 0
IsInFile spells k = spells k.service k.last

-- its file is known, and has these bytes
abbrev pub IsHeld : {S : Type 0} → Keeping S → Type 0
IsHeld k = k.files k.name ≡ Some k.last

-- what is kept may have changed since it was saved
abbrev pub IsBehind : {S : Type 0} → (S → ℕ) → Keeping S → Type 0
IsBehind version k = (k.saved < version k.service) ⊎ (last_version ≤ version k.service)

-- the service has what the bytes that the store answered last keep, and they keep all of its state, unless its version
-- tells that it may have more
pub record IsTracked {S : Type 0} (version : S → ℕ) (spells has : S → List ℕ → Type 0) (k : Keeping S) : Type 0 where
  pub had : has k.service k.last
  pub earlier : k.saved ≤ version k.service
  pub kept : ¬ (IsBehind version k) → IsInFile spells k

-- over bytes that are found a service takes what they keep, but not where they are those that the file had last
abbrev pub Meets : {S : Type 0} → (S → List ℕ → S → Type 0) → List ℕ → S → List ℕ → S → Type 0
Meets takes last old found new =
    ((found ≡ last) × (new ≡ old)) ⊎ ((found ≡ last → ⊥) × takes old found new)

-- The service was told why it could not be saved: for the store, for want of memory, or for something that was found
-- in the file, written by others. It is as it was, or has taken what was found; no file changes.
pub record IsNotSaved {S : Type 0} (takes : S → List ℕ → S → Type 0) (notes : S → Option RunError → S → Type 0)
    (old new : Keeping S) : Type 0 where
  pub why : RunError
  pub reason : (why ≡ StateFile) ⊎ (why ≡ Memory)
      ⊎ ((found : List ℕ) × IsHeldIn old.files old.name found × (found ≡ old.last → ⊥))
  pub tried : S
  pub tries : (tried ≡ old.service)
      ⊎ ((found : List ℕ) × IsHeldIn old.files old.name found × Meets takes old.last old.service found tried)
  pub told : notes tried (Some why) new.service
  pub files : AreSame old.files new.files
  pub rest : new ≡ record old { service = new.service; files = new.files }

module _ {S : Type 0} (version : S → ℕ) (spells has : S → List ℕ → Type 0) (takes : S → List ℕ → S → Type 0)
    (notes : S → Option RunError → S → Type 0) where
  -- What was found in the file was taken in, and a file that keeps what the service has then took its place. The
  -- service was told that it is kept.
  pub record IsSaved (old new : Keeping S) : Type 0 where
    pub found : List ℕ
    pub was_held : IsHeldIn old.files old.name found
    pub joined : S
    pub joins : Meets takes old.last old.service found joined
    pub told : notes joined None new.service
    pub spelled : spells new.service new.last
    pub has_last : has new.service new.last
    pub replaced : IsReplaced old.files new.files old.name new.last
    pub rest : new
        ≡ record old { service = new.service; files = new.files; last = new.last; saved = version new.service }

  -- How a round ends. Its answers stand: the file was saved, or what is kept has not changed since it was, and nothing
  -- was done. Or not all of them do, since what is kept may have changed and could not be saved.
  abbrev pub Settles : Keeping S → Bool → Keeping S → Type 0
  Settles old true new = IsSaved old new ⊎ (¬ (IsBehind version old) × (new ≡ old))
  Settles old false new = IsBehind version old × IsNotSaved takes notes old new

-- the service has what was found in the file and all that it had, and the file keeps all of that
pub record IsJoined {S : Type 0} (spells has : S → List ℕ → Type 0) (old new : Keeping S) : Type 0 where
  pub found : List ℕ
  pub was_held : IsHeldIn old.files old.name found
  pub has_found : has new.service found
  pub had : (file : List ℕ) → has old.service file → has new.service file
  pub in_file : IsInFile spells new
