-- What counts of a primary is what its change of the setup says, where that is accepted.
use Rattle.std.proofs.Common.{◌≡◌, refl, sym, ◌∙◌, ap, Bool, false, ◌==◌, List, [], ◌∷◌, fold, Option, Some, None}
use Rattle.std.specs.Option.{option_and_then}
use Rattle.gem_alarms.specs.declared.alarms.Ackc5.{Ackc5}
use Rattle.gem_alarms.specs.declared.alarms.Ackc5.TheVariants as ackc5
use Rattle.gem_alarms.specs.Alarms.{ackc5_of}
use Rattle.gem_alarms.specs.History.{alarms_at}
use Rattle.gem_reports.specs.declared.answers.Drack.{Drack}
use Rattle.gem_reports.specs.declared.answers.Drack.TheVariants as drack
use Rattle.gem_reports.specs.declared.answers.Erack.{Erack}
use Rattle.gem_reports.specs.declared.answers.Erack.TheVariants as erack
use Rattle.gem_reports.specs.declared.answers.Lrack.{Lrack}
use Rattle.gem_reports.specs.declared.answers.Lrack.TheVariants as lrack
use Rattle.gem_reports.specs.Answers.{drack_of, erack_of, lrack_of}
use Rattle.gem_reports.specs.Laws.{ReportsGoByWhatStands}
use Rattle.gem_shapes.specs.declared.request.Request.{Request}
use Rattle.gem_shapes.specs.declared.request.Request.TheVariants as request
use Rattle.gem_shapes.specs.declared.request.TablesRequest.{TablesRequest}
use Rattle.gem_shapes.specs.declared.request.TablesRequest.TheVariants as tables_request
use Rattle.gem_vars.specs.declared.settings.Eac.{Eac}
use Rattle.gem_vars.specs.declared.settings.Eac.TheVariants as eac
use Rattle.gem_vars.specs.Settings.{eac_of}
use Rattle.gem_vars.specs.Tables.{value_in}
use Rattle.setup_store.specs.declared.change.Change.{Change}
use Rattle.setup_store.specs.declared.change.Change.TheVariants as change
use Rattle.setup_store.specs.Entries.{Entry}
use Rattle.setup_store.specs.Kept.{change_by, change_in, change_of}
use Rattle.spool_rule.specs.declared.rule.RuleAnswer.{RuleAnswer}
use Rattle.spool_rule.specs.declared.rule.RuleAnswer.TheVariants.{Rejected, Replaced}
use Rattle.spool_rule.specs.Rule.{answer_of}
use Rattle.trace_log.specs.Log.{Past}
use Rattle.equipment_tables.specs.declared.plan.EquipmentPlan.{EquipmentPlan}
use Rattle.equipment_tables.specs.Answers.{ackc5_code, drack_code, eac_code, erack_code, lrack_code}
use Rattle.equipment_tables.specs.Past.{Entries, alarms_count, asked_counts, constants_count, definitions_count, entries_at, events_count, linkings_count, request_counts, rule_counts, tables_by, vars_by}
use Rattle.equipment_tables.specs.Requests.{request_of}
use Rattle.equipment_tables.specs.Setup.{accepts, asked_of, is_replaced}

abbrev pub counted : EquipmentPlan → Change → Entries → Entries
counted plan (change.Constants list) e = constants_count (eac_of (vars_by plan e) list) list e
counted plan (change.Definitions list) e =
    definitions_count (drack_of (value_in (vars_by plan e)) e.reports list) list e
counted plan (change.Linkings list) e = linkings_count (lrack_of plan.events e.reports list) list e
counted plan (change.Events on ceids) e = events_count (erack_of plan.events ceids) on ceids e
counted plan (change.Rule list) e = rule_counts (answer_of list) list e
counted plan (change.Alarms on alid) e =
    alarms_count (ackc5_of (alarms_at plan.alarms e.alarms) alid) alid on e

abbrev pub counted_by : EquipmentPlan → Option Change → Entries → Entries
counted_by plan None e = e
counted_by plan (Some change) e = counted plan change e

-- what counts of entries, one after another
abbrev pub run : EquipmentPlan → Entries → List Entry → Entries
run plan e list = fold (λ so_far entry. counted_by plan (change_by entry) so_far) e list

request_counted :
    (plan : EquipmentPlan) (r : TablesRequest) (e : Entries)
    → request_counts plan r e ≡ counted_by plan (change_of r) e
request_counted plan (tables_request.SetConstants list) e = refl
request_counted plan (tables_request.Define dataid list) e = refl
request_counted plan (tables_request.Link dataid list) e = refl
request_counted plan (tables_request.EnableEvents on ceids) e = refl
request_counted plan (tables_request.ReplaceRule list) e = refl
request_counted plan (tables_request.EnableAlarms on alid) e = refl
request_counted plan _ e = refl

pub asked_counted :
    (plan : EquipmentPlan) (o : Option Request) (e : Entries)
    → asked_counts plan o e ≡ counted_by plan (option_and_then change_in o) e
asked_counted plan None e = refl
asked_counted plan (Some (request.OfTables r)) e = request_counted plan r e
asked_counted plan (Some _) e = refl

-- what counts where a start carries out a list
pub carried :
    (plan : EquipmentPlan) (list : List Entry) (past : List Past)
    → entries_at plan (fold (λ so_far entry. asked_of entry ∷ so_far) past list) ≡ run plan (entries_at plan past) list
carried plan [] past = refl
carried plan (x ∷ list) past =
    carried plan list (asked_of x ∷ past)
    ∙ ap (λ (e : Entries). run plan e list)
    (asked_counted plan (request_of x.stream x.function x.body) (entries_at plan past))

-- ---- what is accepted

-- by what counts so far
abbrev pub is_counted : EquipmentPlan → Change → Entries → Bool
is_counted plan (change.Constants list) e = eac_code (eac_of (vars_by plan e) list) == 0
is_counted plan (change.Definitions list) e = drack_code (drack_of (value_in (vars_by plan e)) e.reports list) == 0
is_counted plan (change.Linkings list) e = lrack_code (lrack_of plan.events e.reports list) == 0
is_counted plan (change.Events on ceids) e = erack_code (erack_of plan.events ceids) == 0
is_counted plan (change.Rule list) e = is_replaced (answer_of list)
is_counted plan (change.Alarms on alid) e = ackc5_code (ackc5_of (alarms_at plan.alarms e.alarms) alid) == 0

pub accepted_is :
    ReportsGoByWhatStands → (plan : EquipmentPlan) (c : Change) (e : Entries)
    → accepts (tables_by plan e) c ≡ is_counted plan c e
accepted_is law plan (change.Constants list) e = refl
accepted_is law plan (change.Definitions list) e =
    ap (λ (a : Drack). drack_code a == 0) (sym (law.drack (value_in (vars_by plan e)) plan.events e.reports list))
accepted_is law plan (change.Linkings list) e =
    ap (λ (a : Lrack). lrack_code a == 0) (sym (law.lrack plan.events e.reports list))
accepted_is law plan (change.Events on ceids) e =
    ap (λ (a : Erack). erack_code a == 0) (sym (law.erack plan.events e.reports ceids))
accepted_is law plan (change.Rule list) e = refl
accepted_is law plan (change.Alarms on alid) e = refl

-- what is refused doesn't count
pub refused : (plan : EquipmentPlan) (c : Change) (e : Entries) → is_counted plan c e ≡ false → counted plan c e ≡ e
refused plan (change.Constants list) e not = go (eac_of (vars_by plan e) list) not
  where
    go : (a : Eac) → (eac_code a == 0) ≡ false → constants_count a list e ≡ e
    go eac.Done not = absurd (cc)
    go (eac.Unknown ecid) not = refl
    go (eac.OutOfRange ecid) not = refl
refused plan (change.Definitions list) e not = go (drack_of (value_in (vars_by plan e)) e.reports list) not
  where
    go : (a : Drack) → (drack_code a == 0) ≡ false → definitions_count a list e ≡ e
    go drack.Done not = absurd (cc)
    go drack.NoSpace not = refl
    go (drack.Defined rptid) not = refl
    go (drack.UnknownVid vid) not = refl
refused plan (change.Linkings list) e not = go (lrack_of plan.events e.reports list) not
  where
    go : (a : Lrack) → (lrack_code a == 0) ≡ false → linkings_count a list e ≡ e
    go lrack.Done not = absurd (cc)
    go lrack.NoSpace not = refl
    go (lrack.Linked ceid) not = refl
    go (lrack.UnknownCeid ceid) not = refl
    go (lrack.UnknownRptid rptid) not = refl
refused plan (change.Events on ceids) e not = go (erack_of plan.events ceids) not
  where
    go : (a : Erack) → (erack_code a == 0) ≡ false → events_count a on ceids e ≡ e
    go erack.Done not = absurd (cc)
    go (erack.Unknown ceid) not = refl
refused plan (change.Rule list) e not = go (answer_of list) not
  where
    go : (a : RuleAnswer) → is_replaced a ≡ false → rule_counts a list e ≡ e
    go Replaced not = absurd (cc)
    go (Rejected faults) not = refl
refused plan (change.Alarms on alid) e not = go (ackc5_of (alarms_at plan.alarms e.alarms) alid) not
  where
    go : (a : Ackc5) → (ackc5_code a == 0) ≡ false → alarms_count a alid on e ≡ e
    go ackc5.Done not = absurd (cc)
    go (ackc5.Unknown n) not = refl
