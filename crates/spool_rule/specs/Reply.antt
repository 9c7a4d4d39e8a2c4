-- The body of S2F44 (SEMI E5, S2F44).
use Rattle.std.specs.Prelude.{ℕ, List, [], ◌∷◌, map}
use Rattle.secs_items.specs.declared.item.Item.{Item}
use Rattle.secs_items.specs.declared.item.Item.TheVariants as item
use Rattle.gem_shapes.specs.Answers.{code_item, pair_item}
use Rattle.spool_rule.specs.declared.rule.RuleAnswer.{RuleAnswer}
use Rattle.spool_rule.specs.declared.rule.RuleAnswer.TheVariants.{Rejected, Replaced}
use Rattle.spool_rule.specs.declared.rule.RuleFault.{RuleFault}

-- STRID and FCNID: U1 of one element (the format is this profile's)
abbrev pub byte_item : ℕ → Item
byte_item number = item.U1 (number ∷ [])

-- L,3 STRID STRACK L,n FCNID
abbrev pub fault_item : RuleFault → Item
fault_item fault =
    item.L (byte_item fault.stream ∷ code_item fault.strack ∷ item.L (map byte_item fault.functions) ∷ [])

-- L,2 RSPACK L,m
abbrev pub reply_with : ℕ → List Item → Item
reply_with rspack faults = pair_item (code_item rspack) (item.L faults)

-- RSPACK 0 and no entries where the rule is replaced, else 1 and the bad ones
abbrev pub reply_item : RuleAnswer → Item
reply_item Replaced = reply_with 0 []
reply_item (Rejected faults) = reply_with 1 (map fault_item faults)
