-- What contracts see of a store of files in memory.
use Rattle.std.specs.Prelude.{◌≡◌, ℕ, List, [], Option, Some, None, Result, String, Vec, IsErrOf}
use Rattle.std.specs.{BTreeMap.BTreeMap, BTreeMap.get_by_text, Option.option_map_or}
use Rattle.byte_devices.specs.Device.{count_after}
use Rattle.view_session.specs.Store.{AreSame, Held, IsReplaced, Loads, Saves, StoreSeen}
use Rattle.run_faults.specs.{declared.run_error.RunError.RunError, declared.run_error.RunError.TheVariants.StateFile}

-- what its files hold, the load or save that fails (counted from 1), and the counts
pub record MemoryFiles : Type 0 where
  pub held : Held
  pub fails_at : Option ℕ
  pub calls : ℕ
  pub failures : ℕ

-- what a map from names to bytes holds
abbrev pub held_by : {Y : Type 0} → BTreeMap (String Y) (Vec ℕ Y) → Held
held_by files = λ name. Some (option_map_or (λ v. v.items) (get_by_text files name) [])

-- what is seen of it as a store
abbrev pub files_seen : MemoryFiles → StoreSeen
files_seen s = record { held = s.held; failures = s.failures }

-- no files, and no call that fails; nothing is counted
abbrev pub no_files : MemoryFiles
no_files = record { held = λ name. Some []; fails_at = None; calls = 0; failures = 0 }

-- the bytes take the place of those of the file of this name, and nothing else changes
abbrev pub IsPut : MemoryFiles → MemoryFiles → List ℕ → List ℕ → Type 0
IsPut old new name bytes = IsReplaced old.held new.held name bytes × (new ≡ record old { held = new.held })

-- nothing changes
abbrev pub IsNotPut : MemoryFiles → MemoryFiles → Type 0
IsNotPut old new = AreSame old.held new.held × (new ≡ record old { held = new.held })

-- a call is counted, and nothing else changes
abbrev pub IsCalled : MemoryFiles → MemoryFiles → Type 0
IsCalled old new = new ≡ record old { calls = count_after old.calls 1 }

-- the call between them is the chosen one
abbrev pub IsChosen : MemoryFiles → MemoryFiles → Type 0
IsChosen old new = old.fails_at ≡ Some new.calls

-- a call is counted, the chosen one fails, and the choice stays
pub record CallsMemory {V : Type 0} (old new : MemoryFiles) (result : Result V RunError) : Type 0 where
  pub counted : new.calls ≡ count_after old.calls 1
  pub chosen : IsChosen old new → IsErrOf result StateFile
  pub same_choice : new.fails_at ≡ old.fails_at

-- a load from memory: no other call fails so
pub record LoadsMemory {V : Type 0} (bytes_of : V → List ℕ) (old new : MemoryFiles) (result : Result V RunError)
    (name : List ℕ) : Type 0 where
  pub loads : Loads bytes_of (files_seen old) (files_seen new) result name
  pub call : CallsMemory old new result
  pub others : IsErrOf result StateFile → IsChosen old new

-- a save in memory: one that finds no memory for the file fails so, too
pub record SavesMemory {J V : Type 0} (makes : J → List ℕ → List ℕ → J → Type 0)
    (refuses : J → List ℕ → RunError → J → Type 0) (bytes_of : V → List ℕ) (old new : MemoryFiles) (keeper keeper' : J)
    (result : Result V RunError) (name : List ℕ) : Type 0 where
  pub saves : Saves makes refuses bytes_of (files_seen old) (files_seen new) keeper keeper' result name
  pub call : CallsMemory old new result
