-- Sections and what was found in them, as contracts see them.
use Rattle.std.specs.Prelude.{option_map}
use Rattle.gem_config.specs.declared.found.Found.{Found}
use Rattle.gem_config.specs.declared.found.Section.{Section}
use Rattle.gem_config.specs.Reading.{FoundView, SectionView, key_of}
use Rattle.toml.specs.View.{table_view, view}

abbrev pub section_view : Section → SectionView
section_view section = record { name = section.name.now; members = table_view section.members.now }

abbrev pub found_view : Found → FoundView
found_view found = record {
  key = key_of found.section.now found.key.now;
  held = option_map (λ value. view value.now) found.value;
}
