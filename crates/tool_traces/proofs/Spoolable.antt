-- What is put into the spool can be spooled: the rule covers no other message.
use Rattle.std.proofs.Common.{◌≡◌, ◌&&◌, ◌||◌, ◌==◌, Bool, true, false, ℕ, List, [], ◌∷◌, Option, Some, None, refl, if◌then◌else◌}
use Rattle.std.specs.List.{cons_option, filter_map}
use Rattle.std.specs.Prelude.{IfSome}
use Rattle.spool_rule.specs.Rule.{covered, is_spoolable}
use Rattle.spool_rule.specs.declared.rule.SpoolRule.{SpoolRule}
use Rattle.trace_log.specs.Names.{Spooled}
use Rattle.transact.specs.Transactions.{system_of}
use Rattle.transact.specs.declared.begun.Begun.{Begun}
use Rattle.tool_step.specs.declared.kind.Kind.{Kind}
use Rattle.tool_step.specs.declared.kind.Kind.TheVariants as kind
use Rattle.tool_step.specs.Own.{OwnView, sent_report, waiting_report}
use Rattle.tool_step.specs.Spooling.{is_spooled}
use Rattle.tool_step.specs.States as states

abbrev pub CanBeSpooled : Spooled → Type 0
CanBeSpooled message = is_spoolable message.stream message.function ≡ true

abbrev pub AllCanBeSpooled : List Spooled → Type 0
AllCanBeSpooled [] = Unit {0}
AllCanBeSpooled (message ∷ messages) = CanBeSpooled message × AllCanBeSpooled messages

-- what the rule covers
covered-can : (rule : SpoolRule) (stream function : ℕ) → covered rule stream function ≡ true
    → is_spoolable stream function ≡ true
covered-can rule stream function is =
    go (stream == 5 && function == 1) rule.alarms (stream == 6 && function == 11) rule.events
    (stream == 10 && function == 1) rule.texts is
  where
    go : (a x b y c z : Bool) → ((a && x) || (b && y) || (c && z)) ≡ true → (a || b || c) ≡ true
    go true x b y c z is = refl
    go false x true y c z is = refl
    go false x false y true z is = refl
    go false x false y false z is = absurd (cc)

spooled-can : (message : Spooled) (own : OwnView) → is_spooled message own ≡ true → CanBeSpooled message
spooled-can message own is =
    covered-can own.tables.rule message.stream message.function
    (go own.ledger.is_active (covered own.tables.rule message.stream message.function) is)
  where
    go : (active covers : Bool) → (active && covers) ≡ true → covers ≡ true
    go true covers is = is
    go false covers is = absurd (cc)

-- what is put as the communication is left
stored-can : (spools : Bool) (own : OwnView) (begun : Begun Kind)
    → IfSome (states.stored_of spools own begun) CanBeSpooled
stored-can false own begun = tt
stored-can true own begun = go begun.kind
  where
    one_of : (message : Option Spooled) → IfSome (states.stored_one own message) CanBeSpooled
    one_of None = tt
    one_of (Some message) = by (is_spooled message own) refl
      where
        by : (spooled : Bool) → is_spooled message own ≡ spooled
            → IfSome (if spooled then Some message else None) CanBeSpooled
        by true is = spooled-can message own is
        by false is = tt

    go : (lost : Kind) → IfSome (states.stored_by own lost (system_of begun)) CanBeSpooled
    go kind.Report = one_of (sent_report (system_of begun) own)
    go kind.Grant = one_of (waiting_report (system_of begun) own)
    go kind.Unload = tt
    go kind.UnloadGrant = tt
    go kind.Establish = tt
    go kind.Attempt = tt
    go kind.Trace = tt
    go kind.TraceGrant = tt

pub all-can : (spools : Bool) (own : OwnView) (begun : List (Begun Kind))
    → AllCanBeSpooled (filter_map (states.stored_of spools own) begun)
all-can spools own [] = tt
all-can spools own (one ∷ begun) =
    go (states.stored_of spools own one) (stored-can spools own one) (all-can spools own begun)
  where
    go : (found : Option Spooled) → IfSome found CanBeSpooled
        → AllCanBeSpooled (filter_map (states.stored_of spools own) begun)
        → AllCanBeSpooled (cons_option found (filter_map (states.stored_of spools own) begun))
    go None can rest = rest
    go (Some message) can rest = (can, rest)
