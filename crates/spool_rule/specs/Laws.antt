-- What holds of the rule of spooling after every history of S2F43. The newest one stands first.
use Rattle.std.specs.Prelude.{◌≡◌, ℕ, List, [], ◌∷◌, Option, Some, None}
use Rattle.gem_shapes.specs.declared.entries.RuleEntry.{RuleEntry}
use Rattle.spool_rule.specs.declared.rule.RuleAnswer.{RuleAnswer}
use Rattle.spool_rule.specs.declared.rule.RuleAnswer.TheVariants.{Rejected, Replaced}
use Rattle.spool_rule.specs.declared.rule.SpoolRule.{SpoolRule}
use Rattle.spool_rule.specs.Rule.{answer_of, covered, covers, rule_after, rule_of}
use Rattle.gem_tables.specs.History.{newest}

-- the entries of an S2F43 that is accepted
abbrev pub accepted_by : RuleAnswer → List RuleEntry → Option (List RuleEntry)
accepted_by Replaced entries = Some entries
accepted_by (Rejected faults) entries = None

abbrev pub accepted : List RuleEntry → Option (List RuleEntry)
accepted entries = accepted_by (answer_of entries) entries

-- the entries that hold: those of the newest S2F43 that was accepted, and otherwise the plan's (SEMI E5, S2F43)
abbrev pub entries_at : List RuleEntry → List (List RuleEntry) → List RuleEntry
entries_at plan past = newest accepted plan past

-- what each S2F43 leaves in turn
abbrev pub rule_at : List RuleEntry → List (List RuleEntry) → SpoolRule
rule_at plan [] = rule_of plan
rule_at plan (entries ∷ past) = rule_after entries (rule_at plan past)

-- after every history the rule is that of the entries that hold, and covers what they cover
pub record RuleIsLookedBackFor : Type 0 where
  pub stands :
      (plan : List RuleEntry) (past : List (List RuleEntry)) → rule_at plan past ≡ rule_of (entries_at plan past)
  pub covers_as_named :
      (plan : List RuleEntry) (past : List (List RuleEntry)) (stream function : ℕ)
      → covered (rule_at plan past) stream function ≡ covers (entries_at plan past) stream function
