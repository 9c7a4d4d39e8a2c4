-- The rule's flags say what the entries name, after every history.
use Rattle.std.proofs.Common.{◌≡◌, refl, sym, ◌∙◌, ap, ℕ, Bool, true, false, ◌&&◌, ◌||◌, List, [], ◌∷◌}
use Rattle.std.specs.Prelude.{◌==◌}
use Rattle.std.proofs.lemmas.Bool.{and_parts, eqb-true}
use Rattle.gem_shapes.specs.declared.entries.RuleEntry.{RuleEntry}
use Rattle.spool_rule.specs.declared.rule.RuleAnswer.{RuleAnswer}
use Rattle.spool_rule.specs.declared.rule.RuleAnswer.TheVariants.{Rejected, Replaced}
use Rattle.spool_rule.specs.Laws.{accepted_by, entries_at, rule_at}
use Rattle.spool_rule.specs.Rule.{answer_of, covered, covers, is_named, rule_by, rule_of}
use Rattle.std.specs.Option.{unwrap_or}

-- what is said behind a test may stand for what is the same where the test passes
behind : (p a b : Bool) → (p ≡ true → a ≡ b) → (p && a) ≡ (p && b)
behind true a b same = same refl
behind false a b same = refl

-- one flag behind three tests
in_front : (p q r b : Bool) → ((p && b) || (q && b) || (r && b)) ≡ ((p || q || r) && b)
in_front true true true true = refl
in_front true true true false = refl
in_front true true false true = refl
in_front true true false false = refl
in_front true false true true = refl
in_front true false true false = refl
in_front true false false true = refl
in_front true false false false = refl
in_front false true true true = refl
in_front false true true false = refl
in_front false true false true = refl
in_front false true false false = refl
in_front false false true true = refl
in_front false false true false = refl
in_front false false false true = refl
in_front false false false false = refl

-- a primary that passes the test for one is named where that one is
named_same :
    (entries : List RuleEntry) (s f stream function : ℕ) → (stream == s && function == f) ≡ true
    → is_named entries s f ≡ is_named entries stream function
named_same entries s f stream function passes =
    let both = and_parts (stream == s) (function == f) passes in
    let streams = eqb-true stream s both.0 in
    let functions = eqb-true function f both.1 in
    ap (λ (n : ℕ). is_named entries n f) (sym streams)
    ∙ ap (λ (n : ℕ). is_named entries stream n) (sym functions)

pub covered_as_named :
    (entries : List RuleEntry) (stream function : ℕ)
    → covered (rule_of entries) stream function ≡ covers entries stream function
covered_as_named entries stream function =
    let named = is_named entries stream function in
    let alarms = behind (stream == 5 && function == 1) (is_named entries 5 1) named
    (named_same entries 5 1 stream function) in
    let events = behind (stream == 6 && function == 11) (is_named entries 6 11) named
    (named_same entries 6 11 stream function) in
    let texts = behind (stream == 10 && function == 1) (is_named entries 10 1) named
    (named_same entries 10 1 stream function) in
    ap (λ (b : Bool). b || (stream == 6 && function == 11 && is_named entries 6 11)
    || (stream == 10 && function == 1 && is_named entries 10 1)) alarms
    ∙ ap (λ (b : Bool). (stream == 5 && function == 1 && named) || b
    || (stream == 10 && function == 1 && is_named entries 10 1)) events
    ∙ ap (λ (b : Bool). (stream == 5 && function == 1 && named) || (stream == 6 && function == 11 && named) || b) texts
    ∙ in_front (stream == 5 && function == 1) (stream == 6 && function == 11) (stream == 10 && function == 1) named

-- an S2F43 leaves the rule of its entries, or that of those before
left :
    (answer : RuleAnswer) (entries before : List RuleEntry)
    → rule_by answer entries (rule_of before) ≡ rule_of (unwrap_or (accepted_by answer entries) before)
left Replaced entries before = refl
left (Rejected faults) entries before = refl

pub rule_stands :
    (plan : List RuleEntry) (past : List (List RuleEntry)) → rule_at plan past ≡ rule_of (entries_at plan past)
rule_stands plan [] = refl
rule_stands plan (entries ∷ past) =
    ap (λ rule. rule_by (answer_of entries) entries rule) (rule_stands plan past)
    ∙ left (answer_of entries) entries (entries_at plan past)
