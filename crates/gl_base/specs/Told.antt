-- What an object outside told before a call and after it (this profile).
use Rattle.std.specs.Prelude.{ℕ, List, Option}
use Rattle.gl_base.specs.Files.{FilesHealth}
use Rattle.gl_base.specs.Sink.{SinkHealth}
use Rattle.gl_base.specs.Source.{SourceHealth}
use Rattle.gl_base.specs.declared.files.Files as files
use Rattle.gl_base.specs.declared.files.MemFile.{MemFile}
use Rattle.gl_base.specs.declared.sink.Sink as sink
use Rattle.gl_base.specs.declared.source.Source as source

-- the bytes that were left of a source
pub record SourceTold : Type 0 where
  pub before : Option (List ℕ)
  pub after : Option (List ℕ)
  pub health : SourceHealth
  pub health_after : SourceHealth

abbrev pub source_told : {R : Type 0} → source.Ghosts R → R → R → SourceTold
source_told members old new = record {
  before = members.left old;
  after = members.left new;
  health = members.health old;
  health_after = members.health new;
}

-- the bytes that a sink had received
pub record SinkTold : Type 0 where
  pub before : Option (List ℕ)
  pub after : Option (List ℕ)
  pub health : SinkHealth
  pub health_after : SinkHealth

abbrev pub sink_told : {W : Type 0} → sink.Ghosts W → W → W → SinkTold
sink_told members old new = record {
  before = members.received old;
  after = members.received new;
  health = members.health old;
  health_after = members.health new;
}

-- the files
pub record FilesTold : Type 0 where
  pub before : Option (List MemFile)
  pub after : Option (List MemFile)
  pub health : FilesHealth
  pub health_after : FilesHealth

abbrev pub files_told : {F : Type 0} → files.Ghosts F → F → F → FilesTold
files_told members old new = record {
  before = members.told old;
  after = members.told new;
  health = members.health old;
  health_after = members.health new;
}
