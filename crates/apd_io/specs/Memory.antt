-- What contracts see of a source, a sink and files that are kept in memory.
use Rattle.std.specs.Prelude.{ℕ, List, [], ◌∷◌, Option, None, Some, is_none, Bool, false, ◌||◌, if◌then◌else◌, nat_eq, Result, Ok, Err, ◌≡◌, ◌<◌, length, take, slice_get, IfSome}
use Rattle.std.specs.List.{list_any}
use Rattle.std.specs.Str.{bytes_eq}
use Rattle.apd_io.specs.Outside.{Left, risen, is_load_fault, late_after, taken_after}
use Rattle.apd_io.specs.declared.fault.LoadFault.{LoadFault}
use Rattle.apd_io.specs.declared.calls.Calls.{Calls}
use Rattle.apd_io.specs.declared.tally.Tally.{Tally}
use Rattle.apd_io.specs.declared.mem_files.MemFile.{MemFile}

-- is the next call one of those that fail?
abbrev pub is_due : Calls → Bool
is_due calls = list_any (λ number. nat_eq number (risen calls.made)) calls.failing

-- the calls with one more, which failed or didn't
abbrev pub called : Calls → Bool → Calls
called calls failed = record { failing = calls.failing; made = risen calls.made; faults = if failed then risen calls.faults else calls.faults }

-- the calls before the first
abbrev pub uncalled : List ℕ → Calls
uncalled failing = record { failing = failing; made = 0; faults = 0 }

-- what was given after a read with this answer
abbrev pub tally_after : {E : Type 0} → Result ℕ E → Tally → Tally
tally_after result tally = record { taken = taken_after result tally.taken; late = late_after result tally.late }

-- before the first read
abbrev pub untaken : Tally
untaken = record { taken = 0; late = 0 }

-- a source of which this is left, and which gave so much
abbrev pub left_with : Option (List ℕ) → Tally → Left
left_with bytes tally = record { bytes = bytes; taken = tally.taken; late = tally.late }

-- a source: the bytes that are left, how many one read gives at most, its calls, and what it gave
pub record Feed : Type 0 where
  pub left : List ℕ
  pub most : ℕ
  pub calls : Calls
  pub tally : Tally

-- a sink: the bytes that it holds, how many it can hold, how many one write takes at most, and its calls
pub record Store : Type 0 where
  pub held : List ℕ
  pub room : ℕ
  pub most : ℕ
  pub calls : Calls

-- files, and the loads of them
pub record Shelf : Type 0 where
  pub files : List MemFile
  pub calls : Calls

-- the content of the file of this name
abbrev pub content_of : List MemFile → List ℕ → Option (List ℕ)
content_of [] name = None
content_of (file ∷ files) name = if bytes_eq file.name name then Some file.content else content_of files name

-- the files after a load of the file of this name: one load more, which failed where it was due to or the file isn't there
abbrev pub loaded_from : Shelf → List ℕ → Shelf
loaded_from shelf name = record { files = shelf.files; calls = called shelf.calls (is_due shelf.calls || is_none (content_of shelf.files name)) }

-- the first file of this name stands at this place
pub record IsPlaceOf (files : List MemFile) (name : List ℕ) (i : ℕ) : Type 0 where
  pub bound : i < length files
  pub first : content_of (take i files) name ≡ None
  pub named : IfSome (slice_get files i) (λ file. file.name ≡ name)

-- did the load fail?
abbrev pub is_failed : {T : Type 0} → Result T LoadFault → Bool
is_failed (Ok content) = false
is_failed (Err fault) = is_load_fault fault
