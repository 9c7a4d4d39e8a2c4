-- The law, by the lemmas of `History`.

use Rattle.std.proofs.Common.{◌∙◌, ap}
use Rattle.gem_alarms.specs.Alarms.{alarm_in, step_of}
use Rattle.gem_alarms.specs.Laws.{after_entry}
use Rattle.gem_alarms.proofs.History.{alarm_looked_up, entry_after, step_looked_up}
use Rattle.gem_alarms.proofs.laws.alarms_are_looked_back_for.Goals as goal

pub returns : goal.returns
returns c = record {
  next = λ table plan past entry fits stands.
      ap (λ t. after_entry t entry) stands ∙ entry_after plan past entry fits.distinct;
  at = λ table plan past alid stands. ap (λ t. alarm_in t alid) stands ∙ alarm_looked_up plan past alid;
  steps = λ table plan past alid is_set stands.
      ap (λ t. step_of t alid is_set) stands ∙ step_looked_up plan past alid is_set;
}
