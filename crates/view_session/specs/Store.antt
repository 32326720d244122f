-- What is seen of a store of files, and what one call does to it.
use Rattle.std.specs.Prelude.{◌≡◌, ◌⊎◌, ℕ, List, Option, Some, Result, IfOk, IfErr, IfSome, OnErr, MatchResult}
use Rattle.byte_devices.specs.Device.{count_after}
use Rattle.run_faults.specs.declared.run_error.RunError.{RunError}
use Rattle.run_faults.specs.declared.run_error.RunError.TheVariants.{StateFile, Memory}

-- what files hold, by their names, where it is known; a file that is not there holds no bytes. What the files of the
-- system hold is never known, since other programs write them, too
abbrev pub Held : Type 0
Held = List ℕ → Option (List ℕ)

-- of a store: what its files hold, and how many loads and saves failed
pub record StoreSeen : Type 0 where
  pub held : Held
  pub failures : ℕ

-- the bytes are those of the file of this name, where they are known
abbrev pub IsHeldIn : Held → List ℕ → List ℕ → Type 0
IsHeldIn held name bytes = IfSome (held name) (λ known. bytes ≡ known)

-- no file changes
abbrev pub AreSame : Held → Held → Type 0
AreSame before after = (name : List ℕ) → after name ≡ before name

-- the bytes take the place of those of the file of this name, where they were known, and no other file changes
pub record IsReplaced (before after : Held) (name bytes : List ℕ) : Type 0 where
  pub replaced : IfSome (before name) (λ _. after name ≡ Some bytes)
  pub others : (other : List ℕ) → (other ≡ name → ⊥) → after other ≡ before other

-- a load: it answers the bytes of the file, or V2 where the store failed, which is counted, or want of memory; no file
-- changes
pub record Loads {V : Type 0} (bytes_of : V → List ℕ) (old new : StoreSeen) (result : Result V RunError) (name : List ℕ)
    : Type 0 where
  pub bytes : IfOk result (λ v. IsHeldIn old.held name (bytes_of v))
  pub files : AreSame old.held new.held
  pub failures : MatchResult result (λ _. new.failures ≡ old.failures)
      (λ e. ((e ≡ StateFile) × (new.failures ≡ count_after old.failures 1))
      ⊎ ((e ≡ Memory) × (new.failures ≡ old.failures)))

-- these bytes were found in the file of this name, and those that the keeper made over them took their place
pub record IsSavedOver {J : Type 0} (makes : J → List ℕ → List ℕ → J → Type 0) (before after : Held)
    (keeper keeper' : J) (name made : List ℕ) : Type 0 where
  pub found : List ℕ
  pub was_held : IsHeldIn before name found
  pub made_over : makes keeper found made keeper'
  pub replaced : IsReplaced before after name made

-- the keeper was not asked; or over what was found it made something that could not be written; or it refused what was
-- found
abbrev pub IsNotSaved : {J : Type 0} → (J → List ℕ → List ℕ → J → Type 0) → (J → List ℕ → RunError → J → Type 0) → Held
    → J → J → List ℕ → RunError → Type 0
IsNotSaved makes refuses held keeper keeper' name e =
    (((e ≡ StateFile) ⊎ (e ≡ Memory)) × (keeper' ≡ keeper))
    ⊎ ((e ≡ StateFile) × (found made : List ℕ) × IsHeldIn held name found × makes keeper found made keeper')
    ⊎ ((found : List ℕ) × IsHeldIn held name found × refuses keeper found e keeper')

-- A save of what a keeper makes over the bytes that are found. It answers those that the file has then. Or no file
-- changes: V2 where the store failed, which is counted, want of memory, or what the keeper refuses.
pub record Saves {J V : Type 0} (makes : J → List ℕ → List ℕ → J → Type 0)
    (refuses : J → List ℕ → RunError → J → Type 0) (bytes_of : V → List ℕ) (old new : StoreSeen) (keeper keeper' : J)
    (result : Result V RunError) (name : List ℕ) : Type 0 where
  pub saved : IfOk result (λ v. IsSavedOver makes old.held new.held keeper keeper' name (bytes_of v))
  pub not_saved : IfErr result (IsNotSaved makes refuses old.held keeper keeper' name)
  pub files : OnErr result (AreSame old.held new.held)
  pub failures : MatchResult result (λ _. new.failures ≡ old.failures)
      (λ e. ((e ≡ StateFile) × (new.failures ≡ count_after old.failures 1))
      ⊎ ((e ≡ StateFile → ⊥) × (new.failures ≡ old.failures)))
