-- What the message of a number says is held to the slots that are left.

use Rattle.std.proofs.Common.{◌≤◌, ℕ, subst}
use Rattle.equipment_node.proofs.ReadSizes.{size-found, size-missed}
use Rattle.equipment_node.proofs.sizes.read_size.Goals as goal

pub returns-in-Found : goal.returns-in-Found
returns-in-Found g c =
    size-found g.D.Disk c.args.spool.now c.message_at.new.self c.args.number c.args.left c.args.behind c.requires.some
    c.held_size.result c.requires.reach c.requires.left c.message_at.new.into c.message_at.new.into
    (subst (λ (n : ℕ). (1 ≤ n) × (n ≤ 65535)) c.slots.ensures.slots c.slots.ensures.range) c.len.ensures.room
    c.len.ensures.rests c.in-Found.head c.in-Found.ensures c.slots_for.result c.slots_for.ensures.slots
    c.held_size.ensures.is c.held_size.ensures.some c.held_size.ensures.room

pub returns-in-Empty : goal.returns-in-Empty
returns-in-Empty g c =
    size-missed g.D.Disk c.args.spool.now c.message_at.new.self c.args.number c.args.left c.args.behind c.requires.some
    c.held_size-in-Empty.result c.requires.reach c.requires.left _ c.message_at.new.into
    (subst (λ (n : ℕ). (1 ≤ n) × (n ≤ 65535)) c.slots.ensures.slots c.slots.ensures.range) c.len.ensures.room
    c.len.ensures.rests c.in-Empty.ensures c.held_size-in-Empty.ensures.is c.held_size-in-Empty.ensures.some
    c.held_size-in-Empty.ensures.room
