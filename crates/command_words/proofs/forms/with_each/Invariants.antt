-- With the arguments that are left the command is that with all.

use Rattle.std.proofs.Common.{◌≡◌, map, drop}
use Rattle.clap.specs.Words.{app_of}
use Rattle.command_words.specs.Forms.{with_each}
use Rattle.command_words.proofs.forms.with_each.Given as goal

abbrev pub invariant-loop-id : goal.invariant-loop-id
invariant-loop-id l =
    with_each l.role (map (λ id. id.now) (drop l.id-index l.ids)) (app_of l.built)
    ≡ with_each l.role (map (λ id. id.now) l.ids) (app_of l.fn.command)
