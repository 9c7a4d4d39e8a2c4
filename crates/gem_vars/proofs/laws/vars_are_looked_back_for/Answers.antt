-- The law, by the lemmas of `History`.

use Rattle.std.proofs.Common.{◌∙◌, ap}
use Rattle.gem_vars.specs.Laws.{after_entry}
use Rattle.gem_vars.specs.Tables.{constant_in, value_in, with_constants}
use Rattle.gem_vars.proofs.History.{constant_looked_up, entry_after, settings_after, value_looked_up}
use Rattle.gem_vars.proofs.laws.vars_are_looked_back_for.Goals as goal

pub returns : goal.returns
returns c = record {
  next = λ table plan past entry fits stands. ap (λ t. after_entry t entry) stands ∙ entry_after plan past entry fits;
  settings = λ table plan past list fits stands. ap (with_constants list) stands ∙ settings_after plan past list fits;
  value = λ table plan past vid stands. ap (λ t. value_in t vid) stands ∙ value_looked_up plan past vid;
  constant = λ table plan past ecid stands. ap (λ t. constant_in t ecid) stands ∙ constant_looked_up plan past ecid;
}
