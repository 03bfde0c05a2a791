-- What is known outside at one moment, and how many calls have failed by then.
use Rattle.std.specs.Prelude.{ℕ, List, Option}
use Rattle.apd_io.specs.Outside.{Left, Rose}
use Rattle.apd_io.specs.declared.files.Files.{Ghosts as FilesGhosts}
use Rattle.apd_io.specs.declared.source.Source.{Ghosts as SourceGhosts}
use Rattle.apd_io.specs.declared.sink.Sink.{Ghosts as SinkGhosts}
use Rattle.apd_talk.specs.Speech.{Spoken}

-- of the input and the output: what is left and was taken, and what is held
pub record Streams : Type 0 where
  pub left : Left
  pub read_faults : ℕ
  pub held : Option (List ℕ)
  pub write_faults : ℕ

-- and of the files: the content of each name
pub record Outside : Type 0 where
  pub content : List ℕ → Option (List ℕ)
  pub load_faults : ℕ
  pub streams : Streams

module _ {S K : Type 0} (source : SourceGhosts S) (sink : SinkGhosts K) where
  abbrev pub streams : S → K → Streams
  streams input out = record { left = source.left input; read_faults = source.faults input; held = sink.held out; write_faults = sink.faults out }

module _ {F S K : Type 0} (disk : FilesGhosts F) (source : SourceGhosts S) (sink : SinkGhosts K) where
  abbrev pub outside : F → S → K → Outside
  outside files input out = record { content = disk.content files; load_faults = disk.faults files; streams = streams source sink input out }

-- the same where a voice has said what was said
module _ {S : Type 0} (source : SourceGhosts S) where
  abbrev pub streams_by : S → Spoken → Streams
  streams_by input said = record { left = source.left input; read_faults = source.faults input; held = said.held; write_faults = said.write_faults }

module _ {F S : Type 0} (disk : FilesGhosts F) (source : SourceGhosts S) where
  abbrev pub outside_by : F → S → Spoken → Outside
  outside_by files input said = record { content = disk.content files; load_faults = disk.faults files; streams = streams_by source input said }

-- a call failed in between
abbrev pub LoadFailed : Outside → Outside → Type 0
LoadFailed p q = Rose p.load_faults q.load_faults

abbrev pub ReadFailed : Streams → Streams → Type 0
ReadFailed p q = Rose p.read_faults q.read_faults

abbrev pub WriteFailed : Streams → Streams → Type 0
WriteFailed p q = Rose p.write_faults q.write_faults
