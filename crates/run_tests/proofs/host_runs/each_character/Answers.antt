use Rattle.std.proofs.Common.{[], subst}
use Rattle.std.proofs.lemmas.List.{append-nil}
use Rattle.gl_base.specs.Events.{AreLinkEvents}
use Rattle.run_tests.proofs.host_runs.each_character.Goals as goal

pub returns : goal.returns
returns c = subst AreLinkEvents (append-nil c.characters.answers) (c.characters.invariant [] tt)
