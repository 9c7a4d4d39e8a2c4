-- Sections that are arrays of tables: their form, and their elements one after another (this profile).
use Rattle.std.specs.Prelude.{ℕ, suc, nat_le, nat_eq, not, List, [], ◌∷◌, ◌++◌, Option, Some, None, Ok, if◌then◌else◌}
use Rattle.std.specs.List.{list_any}
use Rattle.gem_remote.specs.declared.plan.CommandPlan.{CommandPlan}
use Rattle.toml.specs.Data.{Data, Items, no_items, item, Members, no_members, as_array, as_table, get_member}
use Rattle.toml.specs.Text.{are_tables}
use Rattle.gem_config.specs.declared.fault.ConfigWhat.TheVariants.{Kind, Range, Repeated}
use Rattle.gem_config.specs.Reading.{Read, SectionView, at, key_of, refused, section_named, ◌>>=◌}
use Rattle.gem_config.specs.Sections.{command_of, greatest}
use Rattle.gem_config.specs.Values.{needed, number, of_kind}

-- the section, or the element, that a table is
abbrev pub section_of : List ℕ → Data → Read SectionView
section_of name d = of_kind name (as_table d) >>= (λ members. Ok (section_named name members))

abbrev pub section_in : List ℕ → Option Data → Read SectionView
section_in name None = Ok (section_named name no_members)
section_in name (Some d) = section_of name d

-- a section that is a table, and may be missing
abbrev pub section : List ℕ → Members → Read SectionView
section name document = section_in name (get_member name document)

abbrev pub count_of : Items → ℕ
count_of no_items = 0
count_of (item d ds) = suc (count_of ds)

-- tables alone, and at most so many
abbrev pub elements_of : List ℕ → ℕ → Items → Read Items
elements_of name most ds =
    if not (are_tables ds) then refused name Kind
    else if nat_le (count_of ds) most then Ok ds
    else refused name Range

abbrev pub elements_in : List ℕ → ℕ → Option Data → Read Items
elements_in name most None = Ok no_items
elements_in name most (Some d) = of_kind name (as_array d) >>= elements_of name most

-- the elements of a section that is an array of tables, and may be missing
abbrev pub elements : List ℕ → ℕ → Members → Read Items
elements name most document = elements_in name most (get_member name document)

-- no element before it has its identifier
abbrev pub own : List ℕ → List ℕ → ℕ → Read ℕ
own taken key id = if list_any (nat_eq id) taken then refused key Repeated else Ok id

module _ {A : Type 0} (row_of : ℕ → SectionView → Read A) (name key : List ℕ) (least : ℕ) where
  -- the identifiers with that of one element more, and what the element says
  unfoldable pub row_after : List ℕ → Data → Read (List ℕ × A)
  row_after taken d = do
    element ← section_of name d
    said ← needed (number least greatest) (at element key)
    id ← own taken (key_of name key) said
    row ← row_of id element
    Ok (taken ++ id ∷ [], row)

  -- behind the rows so far, those of the elements that are left
  abbrev pub rows_from : List ℕ → List A → Items → Read (List A)
  rows_from taken rows no_items = Ok rows
  rows_from taken rows (item d ds) = row_after taken d >>= (λ x. rows_from x.0 (rows ++ x.1 ∷ []) ds)

  abbrev pub rows_in : ℕ → Members → Read (List A)
  rows_in most document = elements name most document >>= rows_from [] []

-- the same for commands, which their names tell apart
unfoldable pub command_after : List ℕ → List CommandPlan → Data → Read CommandPlan
command_after name before d = section_of name d >>= command_of before

abbrev pub commands_from : List ℕ → List CommandPlan → Items → Read (List CommandPlan)
commands_from name before no_items = Ok before
commands_from name before (item d ds) =
    command_after name before d >>= (λ command. commands_from name (before ++ command ∷ []) ds)

abbrev pub commands_in : List ℕ → ℕ → Members → Read (List CommandPlan)
commands_in name most document = elements name most document >>= commands_from name []
