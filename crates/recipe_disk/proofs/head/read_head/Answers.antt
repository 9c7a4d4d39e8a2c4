-- The head was read in one call.
use Rattle.std.proofs.Common.{◌≡◌, ◌∙◌, ℕ, ap, arith, length}
use Rattle.disk_base.specs.Story.{bytes_at}
use Rattle.disk_base.specs.declared.disk.DiskAnswer.TheVariants.{Done, Failed}
use Rattle.recipe_disk.specs.Slot.{slot_place}
use Rattle.recipe_disk.proofs.Made.{looked_one}
use Rattle.recipe_disk.proofs.Starts.{head_is}
use Rattle.recipe_disk.proofs.head.read_head.Goals as goal

pub returns-in-Done-clause-head : goal.returns-in-Done-clause-head
returns-in-Done-clause-head g c s told =
    let long : length c.read.new.into ≡ 94 = grind (arith, c.read.auto.into) in
    c.head_of.ensures
    ∙ head_is s.now.bytes c.read.new.into c.args.slot
    (c.in-Done.ensures.bytes s told
    ∙ ap (λ (n : ℕ). bytes_at s.now.bytes n (length c.read.new.into)) c.slot_place.ensures
    ∙ ap (λ (n : ℕ). bytes_at s.now.bytes (slot_place c.args.slot) n) long)

pub returns-in-Done-clause-looked : goal.returns-in-Done-clause-looked
returns-in-Done-clause-looked g c =
    looked_one g.D.Disk c.slot_place.result 94 _ _ Done c.in-Done.ensures.told c.in-Done.ensures.size c.in-Done.ensures.calls c.in-Done.ensures.cause
    c.in-Done.ensures.same_disk

pub returns-in-Failed-clause-looked : goal.returns-in-Failed-clause-looked
returns-in-Failed-clause-looked g c =
    looked_one g.D.Disk c.slot_place.result 94 _ _ Failed c.in-Failed.ensures.told c.in-Failed.ensures.size c.in-Failed.ensures.calls c.in-Failed.ensures.cause
    c.in-Failed.ensures.same_disk
