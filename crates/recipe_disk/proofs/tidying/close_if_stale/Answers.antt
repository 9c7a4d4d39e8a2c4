-- A slot that isn't open, or is the newest of its name, stays; another one is closed.
use Rattle.std.proofs.Common.{◌≡◌, ◌∙◌, ◌≤◌, ap, arith, false, subst, sym, true}
use Rattle.disk_base.specs.declared.disk.DiskAnswer.TheVariants.{Done, Failed}
use Rattle.recipe_disk.specs.Opening.{IsTidyCall}
use Rattle.recipe_disk.specs.Slot.{slot_place}
use Rattle.recipe_disk.specs.declared.head.Head.{Head}
use Rattle.recipe_disk.proofs.Closing.{newer_found, on_newest, on_shut, on_stale, on_unlooked, tidy_looked, tidy_settled}
use Rattle.recipe_disk.proofs.Hinted.{known_looked, still_looked}
use Rattle.recipe_disk.proofs.Made.{looked_behind, made_behind}
use Rattle.recipe_disk.proofs.tidying.close_if_stale.Goals as goal

pub returns-in-Err-clause-told : goal.returns-in-Err-clause-told
returns-in-Err-clause-told g c = on_unlooked _ _ c.args.slots c.args.slot c.requires.slot c.in-Err.ensures.looked.told

pub returns-in-Err-clause-made : goal.returns-in-Err-clause-made
returns-in-Err-clause-made g c = tidy_looked g.D.Disk _ _ Failed c.in-Err.ensures.looked

pub returns-then-not-head-clause-told : goal.returns-then-not-head-clause-told
returns-then-not-head-clause-told g c =
    let shut : c.in-Ok.head.opened ≡ false = grind (arith, c.if-not-head.true) in
    on_shut _ _ c.args.slots c.args.slot c.requires.slot c.in-Ok.ensures.looked.told
    (λ s told. ap (λ (h : Head). h.opened) (sym (c.in-Ok.ensures.head s told)) ∙ shut)

pub returns-then-not-head-clause-made : goal.returns-then-not-head-clause-made
returns-then-not-head-clause-made g c = tidy_looked g.D.Disk _ _ Done c.in-Ok.ensures.looked

pub returns-in-Err-has_sought-clause-told : goal.returns-in-Err-has_sought-clause-told
returns-in-Err-has_sought-clause-told g c =
    on_unlooked _ _ c.args.slots c.args.slot c.requires.slot (c.in-Err-has_sought.ensures.looked.told ∙ c.in-Ok.ensures.looked.told)

pub returns-in-Err-has_sought-clause-made : goal.returns-in-Err-has_sought-clause-made
returns-in-Err-has_sought-clause-made g c =
    tidy_looked g.D.Disk _ _ Failed (looked_behind g.D.Disk _ _ _ Failed c.in-Ok.ensures.looked c.in-Err-has_sought.ensures.looked)

pub returns-then-not-stale-clause-told : goal.returns-then-not-stale-clause-told
returns-then-not-stale-clause-told g c =
    let opened : c.in-Ok.head.opened ≡ true = grind (arith, c.if-not-head.false) in
    let fresh : c.in-Ok-has_sought.stale ≡ false = grind (arith, c.if-not-stale.true) in
    on_newest _ _ c.args.slots c.args.slot c.requires.slot (c.in-Ok-has_sought.ensures.looked.told ∙ c.in-Ok.ensures.looked.told)
    (λ s told. ap (λ (h : Head). h.opened) (sym (c.in-Ok.ensures.head s told)) ∙ opened)
    (λ s told.
    newer_found s.now.bytes c.name_of.result.now c.args.slots c.in-Ok.head c.args.slot c.in-Ok-has_sought.stale c.name_of.ensures.name (c.in-Ok.ensures.head s told)
    (c.in-Ok-has_sought.ensures.found s (c.in-Ok.ensures.looked.told ∙ told)) ∙ fresh)

pub returns-then-not-stale-clause-made : goal.returns-then-not-stale-clause-made
returns-then-not-stale-clause-made g c =
    tidy_looked g.D.Disk _ _ Done (looked_behind g.D.Disk _ _ _ Done c.in-Ok.ensures.looked c.in-Ok-has_sought.ensures.looked)

pub returns-else-not-stale-clause-told : goal.returns-else-not-stale-clause-told
returns-else-not-stale-clause-told g c =
    let opened : c.in-Ok.head.opened ≡ true = grind (arith, c.if-not-head.false) in
    let stale : c.in-Ok-has_sought.stale ≡ true = grind (arith, c.if-not-stale.false) in
    on_stale _ _ c.args.slots c.args.slot c.requires.slot _ c.close_slot.result (c.in-Ok-has_sought.ensures.looked.told ∙ c.in-Ok.ensures.looked.told)
    (λ s told. ap (λ (h : Head). h.opened) (sym (c.in-Ok.ensures.head s told)) ∙ opened)
    (λ s told.
    newer_found s.now.bytes c.name_of.result.now c.args.slots c.in-Ok.head c.args.slot c.in-Ok-has_sought.stale c.name_of.ensures.name (c.in-Ok.ensures.head s told)
    (c.in-Ok-has_sought.ensures.found s (c.in-Ok.ensures.looked.told ∙ told)) ∙ stale)
    c.close_slot.ensures.settled.told

pub returns-else-not-stale-clause-made : goal.returns-else-not-stale-clause-made
returns-else-not-stale-clause-made g c =
    made_behind g.D.Disk IsTidyCall _ _ _ c.close_slot.result
    (tidy_looked g.D.Disk _ _ Done (looked_behind g.D.Disk _ _ _ Done c.in-Ok.ensures.looked c.in-Ok-has_sought.ensures.looked))
    (tidy_settled g.D.Disk _ _ _ c.close_slot.result c.close_slot.ensures.settled)

pub returns-then-not-head-clause-known : goal.returns-then-not-head-clause-known
returns-then-not-head-clause-known g c known = known_looked _ _ _ _ c.in-Ok.ensures.looked.told known

pub returns-then-not-stale-clause-known : goal.returns-then-not-stale-clause-known
returns-then-not-stale-clause-known g c known =
    known_looked _ _ _ _ (c.in-Ok-has_sought.ensures.looked.told ∙ c.in-Ok.ensures.looked.told) known

pub returns-else-not-stale-clause-known : goal.returns-else-not-stale-clause-known
returns-else-not-stale-clause-known g c =
    still_looked _ _ _ _ _ _ c.close_slot.result (c.in-Ok-has_sought.ensures.looked.told ∙ c.in-Ok.ensures.looked.told)
    (c.close_slot.ensures.known c.args.slots
    (subst (λ n. slot_place c.args.slots ≤ n) (sym (c.in-Ok-has_sought.ensures.looked.made.size ∙ c.in-Ok.ensures.looked.made.size)) c.requires.within))

pub has_sought-requires-clause-known : goal.has_sought-requires-clause-known
has_sought-requires-clause-known g c = known_looked _ _ _ _ c.in-Ok.ensures.looked.told c.requires.known
