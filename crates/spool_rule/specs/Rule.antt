-- Which primaries are spooled, and what an S2F43 is answered and leaves.
use Rattle.std.specs.Prelude.{ℕ, ◌%◌, ◌==◌, ◌||◌, ◌&&◌, not, nat_eq, Bool, List, [], ◌∷◌, length, filter, Option, Some}
use Rattle.std.specs.Prelude.{None, if◌then◌else◌}
use Rattle.std.specs.List.{filter_map, list_any}
use Rattle.gem_shapes.specs.declared.entries.RuleEntry.{RuleEntry}
use Rattle.spool_rule.specs.declared.rule.RuleAnswer.{RuleAnswer}
use Rattle.spool_rule.specs.declared.rule.RuleAnswer.TheVariants.{Rejected, Replaced}
use Rattle.spool_rule.specs.declared.rule.RuleFault.{RuleFault}
use Rattle.spool_rule.specs.declared.rule.SpoolRule.{SpoolRule}

-- the primaries that can be spooled: S5F1, S6F11 and S10F1 (this profile)
abbrev pub is_spoolable : ℕ → ℕ → Bool
is_spoolable stream function =
    (stream == 5 && function == 1) || (stream == 6 && function == 11) || (stream == 10 && function == 1)

-- an entry names these functions of its stream, or without functions all (SEMI E5, S2F43)
abbrev pub names : ℕ → ℕ → RuleEntry → Bool
names stream function entry =
    stream == entry.stream && ((length entry.functions == 0) || list_any (nat_eq function) entry.functions)

-- a second entry of a stream adds its functions
abbrev pub is_named : List RuleEntry → ℕ → ℕ → Bool
is_named entries stream function = list_any (names stream function) entries

-- a primary is spooled where it can be and an entry names it
abbrev pub covers : List RuleEntry → ℕ → ℕ → Bool
covers entries stream function = is_spoolable stream function && is_named entries stream function

-- nothing of these streams can be spooled (SEMI E30, spooling, of stream 1; this profile, of stream 9)
abbrev pub is_unspooled : ℕ → Bool
is_unspooled stream = stream == 1 || stream == 9

-- not one of the streams of which the equipment sends primaries (this profile)
abbrev pub is_unknown : ℕ → Bool
is_unknown stream = not (stream == 1 || stream == 5 || stream == 6 || stream == 9 || stream == 10)

-- secondaries have even functions (SEMI E5)
abbrev pub is_secondary : ℕ → Bool
is_secondary function = function % 2 == 0

abbrev pub is_outside : ℕ → ℕ → Bool
is_outside stream function = not (is_spoolable stream function)

abbrev pub fault_with : ℕ → ℕ → List ℕ → RuleFault
fault_with stream strack functions = record { stream = stream; strack = strack; functions = functions }

-- with STRACK where there are functions to name
abbrev pub fault_by : ℕ → ℕ → List ℕ → Option RuleFault → Option RuleFault
fault_by stream strack [] otherwise = otherwise
fault_by stream strack (function ∷ functions) otherwise = Some (fault_with stream strack (function ∷ functions))

-- what is refused of an entry, if anything: STRACK 1 where nothing of its stream can be spooled, else 2 where there is
-- no such stream, else 4 with the secondaries that it names, else 3 with the primaries that can't be spooled (SEMI E5,
-- STRACK; the order is this profile's)
abbrev pub fault_of : RuleEntry → Option RuleFault
fault_of entry =
    if is_unspooled entry.stream then Some (fault_with entry.stream 1 [])
    else if is_unknown entry.stream then Some (fault_with entry.stream 2 [])
    else fault_by entry.stream 4 (filter is_secondary entry.functions)
    (fault_by entry.stream 3 (filter (is_outside entry.stream) entry.functions) None)

-- of all bad entries, in order (SEMI E5, S2F44)
abbrev pub faults_of : List RuleEntry → List RuleFault
faults_of entries = filter_map fault_of entries

abbrev pub answer_for : List RuleFault → RuleAnswer
answer_for [] = Replaced
answer_for (fault ∷ faults) = Rejected (fault ∷ faults)

abbrev pub answer_of : List RuleEntry → RuleAnswer
answer_of entries = answer_for (faults_of entries)

-- what these entries cover of the primaries that can be spooled
abbrev pub rule_of : List RuleEntry → SpoolRule
rule_of entries = record {
  alarms = is_named entries 5 1;
  events = is_named entries 6 11;
  texts = is_named entries 10 1;
}

-- an S2F43 that is answered so leaves the rule of its entries, or where an entry is bad that of before (SEMI E5, S2F43)
abbrev pub rule_by : RuleAnswer → List RuleEntry → SpoolRule → SpoolRule
rule_by Replaced entries rule = rule_of entries
rule_by (Rejected faults) entries rule = rule

abbrev pub rule_after : List RuleEntry → SpoolRule → SpoolRule
rule_after entries rule = rule_by (answer_of entries) entries rule

-- what the rule has of a primary
abbrev pub covered : SpoolRule → ℕ → ℕ → Bool
covered rule stream function =
    (stream == 5 && function == 1 && rule.alarms) || (stream == 6 && function == 11 && rule.events)
    || (stream == 10 && function == 1 && rule.texts)
