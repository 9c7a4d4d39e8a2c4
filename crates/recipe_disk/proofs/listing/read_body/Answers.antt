-- As many bytes as the head says, or as a body may have.
use Rattle.std.proofs.Common.{◌≡◌, ◌+◌, min, rules, subst}
use Rattle.gem_recipes.specs.Recipes.{most_body}
use Rattle.recipe_disk.specs.Listing.{GivesBody, get_answer}
use Rattle.recipe_disk.proofs.Listed.{reads_body}
use Rattle.recipe_disk.proofs.Made.{looked_behind}
use Rattle.recipe_disk.proofs.listing.read_body.Goals as goal

pub returns-in-Ok-clause-body : goal.returns-in-Ok-clause-body
returns-in-Ok-clause-body g c =
    let least : c.min-len.result ≡ min most_body c.in-Ok.head.body_len = search rules in
    reads_body (g.D.Disk.told c.args.disk.now) (g.D.Disk.told c.read_head.new.disk) c.args.slot c.in-Ok.head c.slot_place.result c.read_bytes.result
    c.slot_place.ensures c.in-Ok.ensures.looked.told c.in-Ok.ensures.head
    (subst (λ n. GivesBody (g.D.Disk.told c.read_head.new.disk) (c.slot_place.result + 94) n c.read_bytes.result) least c.read_bytes.ensures.body)

pub returns-in-Ok-clause-looked : goal.returns-in-Ok-clause-looked
returns-in-Ok-clause-looked g c =
    looked_behind g.D.Disk _ _ _ (get_answer c.read_bytes.result) c.in-Ok.ensures.looked c.read_bytes.ensures.looked
