-- That a primary of the setup that is refused changes no table.
use Rattle.std.proofs.Common.{◌≡◌, refl, false, ◌==◌, Option, Some, None}
use Rattle.std.specs.Option.{option_and_then, option_map_or}
use Rattle.gem_alarms.specs.Alarms.{ackc5_of}
use Rattle.gem_alarms.specs.declared.alarms.Ackc5.{Ackc5}
use Rattle.gem_alarms.specs.declared.alarms.Ackc5.TheVariants as ackc5
use Rattle.gem_reports.specs.declared.answers.Drack.{Drack}
use Rattle.gem_reports.specs.declared.answers.Drack.TheVariants as drack
use Rattle.gem_reports.specs.declared.answers.Erack.{Erack}
use Rattle.gem_reports.specs.declared.answers.Erack.TheVariants as erack
use Rattle.gem_reports.specs.declared.answers.Lrack.{Lrack}
use Rattle.gem_reports.specs.declared.answers.Lrack.TheVariants as lrack
use Rattle.gem_reports.specs.Reporting.{drack_in, erack_in, lrack_in}
use Rattle.gem_shapes.specs.declared.request.Request.{Request}
use Rattle.gem_shapes.specs.declared.request.Request.TheVariants as request
use Rattle.gem_shapes.specs.declared.request.TablesRequest.{TablesRequest}
use Rattle.gem_shapes.specs.declared.request.TablesRequest.TheVariants as tables_request
use Rattle.gem_vars.specs.Settings.{eac_of}
use Rattle.gem_vars.specs.declared.settings.Eac.{Eac}
use Rattle.gem_vars.specs.declared.settings.Eac.TheVariants as eac
use Rattle.setup_store.specs.Entries.{Entry}
use Rattle.setup_store.specs.Kept.{change_in}
use Rattle.spool_rule.specs.Rule.{answer_of, rule_by}
use Rattle.spool_rule.specs.declared.rule.RuleAnswer.{RuleAnswer}
use Rattle.spool_rule.specs.declared.rule.RuleAnswer.TheVariants.{Rejected, Replaced}
use Rattle.equipment_tables.specs.Answers.{ackc5_code, drack_code, eac_code, erack_code, lrack_code}
use Rattle.equipment_tables.specs.Requests.{request_of}
use Rattle.equipment_tables.specs.Setup.{accepts, accepts_primary, accepts_request, asked_of, is_replaced}
use Rattle.equipment_tables.specs.Tables.{TablesState, after_past, alarms_by, asked_after, constants_by, definitions_by, events_by, linkings_by, tables_after, value_of, with_rule}

refused-request : (asked : TablesRequest) (t : TablesState) → accepts_request t asked ≡ false → tables_after asked t ≡ t
refused-request (tables_request.SetConstants list) t not = go (eac_of t.vars list) not
  where
    go : (a : Eac) → (eac_code a == 0) ≡ false → constants_by a list t ≡ t
    go eac.Done not = absurd (cc)
    go (eac.Unknown ecid) not = refl
    go (eac.OutOfRange ecid) not = refl
refused-request (tables_request.Define dataid list) t not = go (drack_in (value_of t) t.reports list) not
  where
    go : (a : Drack) → (drack_code a == 0) ≡ false → definitions_by a list t ≡ t
    go drack.Done not = absurd (cc)
    go drack.NoSpace not = refl
    go (drack.Defined rptid) not = refl
    go (drack.UnknownVid vid) not = refl
refused-request (tables_request.Link dataid list) t not = go (lrack_in t.reports list) not
  where
    go : (a : Lrack) → (lrack_code a == 0) ≡ false → linkings_by a list t ≡ t
    go lrack.Done not = absurd (cc)
    go lrack.NoSpace not = refl
    go (lrack.Linked ceid) not = refl
    go (lrack.UnknownCeid ceid) not = refl
    go (lrack.UnknownRptid rptid) not = refl
refused-request (tables_request.EnableEvents on ceids) t not = go (erack_in t.reports ceids) not
  where
    go : (a : Erack) → (erack_code a == 0) ≡ false → events_by a on ceids t ≡ t
    go erack.Done not = absurd (cc)
    go (erack.Unknown ceid) not = refl
refused-request (tables_request.ReplaceRule list) t not = go (answer_of list) not
  where
    go : (a : RuleAnswer) → is_replaced a ≡ false → with_rule (rule_by a list t.rule) t ≡ t
    go Replaced not = absurd (cc)
    go (Rejected faults) not = refl
refused-request (tables_request.EnableAlarms on alid) t not = go (ackc5_of t.alarms alid) not
  where
    go : (a : Ackc5) → (ackc5_code a == 0) ≡ false → alarms_by a alid on t ≡ t
    go ackc5.Done not = absurd (cc)
    go (ackc5.Unknown n) not = refl
refused-request _ t not = refl

pub refused-entry : (t : TablesState) (entry : Entry) → accepts_primary t entry ≡ false
    → after_past (asked_of entry) t ≡ t
refused-entry t entry not = go (request_of entry.stream entry.function entry.body) not
  where
    go : (asked : Option Request) → option_map_or (accepts t) (option_and_then change_in asked) false ≡ false
        → asked_after asked t ≡ t
    go None not = refl
    go (Some (request.OfTables asked)) not = refused-request asked t not
    go (Some _) not = refl
