-- The bytes that come are those of the list with the primary kept.
use Rattle.std.proofs.Common.{◌≡◌, sym, ap, subst, ◌∙◌, arith, true, List, ℕ, Some}
use Rattle.setup_store.specs.Entries.{Entry, IsEntry, bytes_of, has_room}
use Rattle.setup_store.specs.Kept.{kept}
use Rattle.equipment_tables.specs.Setup.{primary_of}
use Rattle.tool_step.specs.Setup.{list_of}
use Rattle.tool_core.proofs.KeptLists.{kept_bytes, kept_list}
use Rattle.tool_core.proofs.setup.KeptSetup.next.Goals as goal

pub invariant_of-result : goal.invariant_of-result
invariant_of-result c =
    let primary : Entry = primary_of c.args.message.now in
    let is : IsEntry primary =
    record { kept = c.requires.kept; short = let short = c.requires.short in omega (arith, short) } in
    let same : c.in_ok-next.next ≡ bytes_of (kept c.args.self.now primary) =
    c.in_ok-next.ensures c.args.self.now c.bytes.ensures.are
    ∙ ap (λ (body : List ℕ). bytes_of (kept c.args.self.now
    (record { stream = primary.stream; function = primary.function; body = body }))) c.as_slice.ensures in (
      kept_bytes c.args.self.now primary c.in_ok-next.next c.lists_are_read_as_spelled.ensures c.bytes.ensures.are.each
          is same,
      ap has_room (sym c.as_slice-2.ensures) ∙ sym c.has_room.ensures ∙ c.if-not-has_room.false,
    )

pub returns : goal.returns
returns c =
    let primary : Entry = primary_of c.args.message.now in
    let is : IsEntry primary =
    record { kept = c.requires.kept; short = let short = c.requires.short in omega (arith, short) } in
    let same : c.in_ok-next.next ≡ bytes_of (kept c.args.self.now primary) =
    c.in_ok-next.ensures c.args.self.now c.bytes.ensures.are
    ∙ ap (λ (body : List ℕ). bytes_of (kept c.args.self.now
    (record { stream = primary.stream; function = primary.function; body = body }))) c.as_slice.ensures in
    let holds = invariant_of-result c in (
      ap Some
          (sym (kept_list c.args.self.now primary c.in_ok-next.next c.lists_are_read_as_spelled.ensures
          c.bytes.ensures.are.each is same)),
      ap has_room holds.0.spelled ∙ holds.1,
    )
