-- The list that is kept tells the same of the setup as all that was accepted.
use Rattle.std.proofs.Common.{◌≡◌, refl, sym, ◌∙◌, ap, subst, Bool, true, false, cond, not, ◌&&◌, ◌||◌, ◌==◌, ℕ, List, [], ◌∷◌, ◌++◌, length, filter, fold, nat_eq, Option, Some, None, is_some, arith}
use Rattle.std.proofs.lemmas.Bool.{eqb-true, false_from_ne_true}
use Rattle.std.proofs.lemmas.List.Sums.{fold-append}
use Rattle.std.specs.List.{find}
use Rattle.std.specs.Option.{option_map, option_map_or}
use Rattle.gem_alarms.specs.declared.alarm.Alarm.{Alarm}
use Rattle.gem_alarms.specs.Alarms.{ackc5_of}
use Rattle.gem_alarms.specs.declared.plan.AlarmPlan.{AlarmPlan}
use Rattle.gem_alarms.specs.History.{alarm_after, alarm_enabled_at, alarms_at}
use Rattle.gem_reports.specs.declared.answers.Drack.{Drack}
use Rattle.gem_reports.specs.declared.answers.Drack.TheVariants as drack
use Rattle.gem_reports.specs.declared.answers.Erack.{Erack}
use Rattle.gem_reports.specs.declared.answers.Erack.TheVariants as erack
use Rattle.gem_reports.specs.declared.answers.Lrack.{Lrack}
use Rattle.gem_reports.specs.declared.answers.Lrack.TheVariants as lrack
use Rattle.gem_reports.specs.Answers.{drack_of, erack_of, lrack_of}
use Rattle.gem_reports.specs.History.{enabled_at}
use Rattle.gem_reports.specs.History.ReportEntry.{Enable}
use Rattle.gem_reports.specs.Laws.{ReportsGoByWhatStands}
use Rattle.gem_reports.specs.Reporting.{Reporting, drack_in, lrack_in, reporting_at, with_definitions, with_linkings}
use Rattle.gem_shapes.specs.declared.entries.Definition.{Definition}
use Rattle.gem_shapes.specs.declared.entries.Linking.{Linking}
use Rattle.gem_tables.specs.Rows.{rows_of, with_each}
use Rattle.gem_tables.proofs.Looking.{part_looked_up}
use Rattle.gem_vars.specs.declared.plan.ConstantPlan.{ConstantPlan}
use Rattle.gem_vars.specs.declared.plan.VariablePlan.{VariablePlan}
use Rattle.gem_vars.specs.declared.settings.Setting.{Setting}
use Rattle.gem_vars.specs.declared.variable.Variable.{Variable}
use Rattle.gem_vars.specs.History.{VarsEntry, constant_after, constant_at, value_at, variable_after, vars_at}
use Rattle.gem_vars.specs.Plan.{all_constants}
use Rattle.gem_vars.specs.Settings.{eac_of, refusal_of}
use Rattle.gem_vars.specs.Tables.{value_in}
use Rattle.secs_items.specs.declared.item.Item.{Item}
use Rattle.setup_store.specs.declared.change.Change.{Change}
use Rattle.setup_store.specs.declared.change.Change.TheVariants as change
use Rattle.setup_store.specs.Entries.{Entry}
use Rattle.setup_store.specs.Kept.{change_by, is_of, kept, kept_by, takes_out, tells}
use Rattle.spool_rule.specs.Rule.{answer_of, rule_of}
use Rattle.trace_log.specs.declared.commands.ToolCommand.{ToolCommand}
use Rattle.trace_log.specs.declared.commands.ToolCommand.TheVariants as command
use Rattle.trace_log.specs.Log.{Past}
use Rattle.trace_log.specs.Log.Past.{Asked, Commanded}
use Rattle.equipment_tables.specs.declared.plan.EquipmentPlan.{EquipmentPlan}
use Rattle.equipment_tables.specs.Answers.{drack_code, lrack_code}
use Rattle.equipment_tables.specs.Past.{Entries, command_counts, definitions_count, entries_at, events_count, linkings_count, set_counts, spooled_by, tables_by, vars_by}
use Rattle.equipment_tables.specs.Requests.{request_of}
use Rattle.equipment_tables.specs.Setup.{KeptTellsTheSame, accepts, carried_out, kept_behind, primary_of, setup_of}
use Rattle.equipment_tables.proofs.ChangeFunctions.{kin, of_place, taken_is_kin}
use Rattle.equipment_tables.proofs.CountedChanges.{accepted_is, asked_counted, carried, counted_by, is_counted, refused, run}
use Rattle.equipment_tables.proofs.Latest.{kept_says}
use Rattle.equipment_tables.proofs.LinkedReports.{bare, defined_bare, deleted_bare, drack_bare, drack_valued, enabled_as, enabled_bare, linked_bare, lrack_bare, parted}
use Rattle.equipment_tables.proofs.SettledConstants.{alarms_alone, constants_alone, one_constant, out_constant, quiet_constant, rule_alone, said_constant}
use Rattle.equipment_tables.proofs.SettledEnables.{one_alarm, one_event, one_rule, out_alarm, out_event, out_rule, quiet_alarm, quiet_event, quiet_rule, said_alarm, said_event, said_rule}

-- before all
abbrev nothing : Entries
nothing = record { vars = []; reports = []; alarms = []; rules = [] }

-- two histories tell the same of the setup
record Told (plan : EquipmentPlan) (e f : Entries) : Type 0 where
  constants : (planned : ConstantPlan) → constant_at e.vars planned ≡ constant_at f.vars planned
  alarms : (planned : AlarmPlan) → alarm_enabled_at e.alarms planned ≡ alarm_enabled_at f.alarms planned
  rules : spooled_by plan e ≡ spooled_by plan f
  enabled : (ceid : ℕ) → enabled_at e.reports ceid ≡ enabled_at f.reports ceid
  linked : bare (reporting_at plan.events e.reports) ≡ bare (reporting_at plan.events f.reports)

-- ---- the tables of both

same_constants :
    (e f : Entries) → ((planned : ConstantPlan) → constant_at e.vars planned ≡ constant_at f.vars planned)
    → (plan : List ConstantPlan)
    → rows_of (λ p. p.ecid) (constant_after e.vars) plan ≡ rows_of (λ p. p.ecid) (constant_after f.vars) plan
same_constants e f same [] = refl
same_constants e f same (p ∷ plan) = λ j. (
  p.ecid,
  record {
    name = p.name;
    units = p.units;
    min = p.min;
    max = p.max;
    default = p.value;
    value = same p j;
  },
) ∷ same_constants e f same plan j

same_alarms :
    (e f : Entries) → ((planned : AlarmPlan) → alarm_enabled_at e.alarms planned ≡ alarm_enabled_at f.alarms planned)
    → (plan : List AlarmPlan)
    → with_each (λ alid (alarm : Alarm). alarm.is_enabled) (rows_of (λ p. p.alid) (alarm_after e.alarms) plan)
    ≡ with_each (λ alid (alarm : Alarm). alarm.is_enabled) (rows_of (λ p. p.alid) (alarm_after f.alarms) plan)
same_alarms e f same [] = refl
same_alarms e f same (p ∷ plan) = λ j. (p.alid, same p j) ∷ same_alarms e f same plan j

same_setup :
    (plan : EquipmentPlan) (e f : Entries) → Told plan e f → setup_of (tables_by plan e) ≡ setup_of (tables_by plan f)
same_setup plan e f told =
    let reports : reporting_at plan.events e.reports ≡ reporting_at plan.events f.reports =
    parted plan.events e.reports
    ∙ (λ j. enabled_as (λ ceid. told.enabled ceid j) (told.linked j))
    ∙ sym (parted plan.events f.reports) in
    λ j. record {
      constants = same_constants e f told.constants (all_constants plan.vars) j;
      reports = reports j;
      alarms = same_alarms e f told.alarms plan.alarms j;
      rule = rule_of (told.rules j);
    }

-- ---- reports and links

module _ (law : ReportsGoByWhatStands) (plan : EquipmentPlan) where
  abbrev reports_by : Entries → Reporting
  reports_by e = bare (reporting_at plan.events e.reports)

  -- the variables as planned: which there are doesn't change
  abbrev planned_value : ℕ → Option Item
  planned_value = value_in (vars_at plan.vars [])

  abbrev linked : Option Change → Reporting → Reporting
  linked (Some (change.Definitions list)) r =
      cond (drack_code (drack_in planned_value r list) == 0) (with_definitions list r) r
  linked (Some (change.Linkings list)) r = cond (lrack_code (lrack_in r list) == 0) (with_linkings list r) r
  linked _ r = r

  some_value : {A B : Type 0} (f : A → B) (o : Option A) → is_some (option_map f o) ≡ is_some o
  some_value f None = refl
  some_value f (Some x) = refl

  values_same :
      (past : List VarsEntry) (vid : ℕ) → is_some (value_in (vars_at plan.vars past) vid) ≡ is_some (planned_value vid)
  values_same past vid =
      let found = find (λ (p : VariablePlan). nat_eq vid p.vid) plan.vars.variables in
      ap (λ (o : Option Item). is_some o)
      (part_looked_up (λ (p : VariablePlan). p.vid) (variable_after past) (λ (v : Variable). v.value)
      plan.vars.variables vid)
      ∙ some_value (value_at past) found ∙ sym (some_value (value_at []) found)
      ∙ sym (ap (λ (o : Option Item). is_some o)
      (part_looked_up (λ (p : VariablePlan). p.vid) (variable_after []) (λ (v : Variable). v.value)
      plan.vars.variables vid))

  drack_is :
      (list : List Definition) (e : Entries)
      → drack_of (value_in (vars_by plan e)) e.reports list ≡ drack_in planned_value (reports_by e) list
  drack_is list e =
      law.drack (value_in (vars_by plan e)) plan.events e.reports list
      ∙ drack_valued (value_in (vars_by plan e)) planned_value (values_same e.vars) list
      (reporting_at plan.events e.reports)
      ∙ sym (drack_bare planned_value list (reporting_at plan.events e.reports))

  one_linked : (o : Option Change) (e : Entries) → reports_by (counted_by plan o e) ≡ linked o (reports_by e)
  one_linked None e = refl
  one_linked (Some (change.Definitions list)) e =
      go (drack_of (value_in (vars_by plan e)) e.reports list)
      ∙ ap (λ (a : Drack). cond (drack_code a == 0) (with_definitions list (reports_by e)) (reports_by e))
      (drack_is list e)
    where
      go : (a : Drack)
          → reports_by (definitions_count a list e)
          ≡ cond (drack_code a == 0) (with_definitions list (reports_by e)) (reports_by e)
      go drack.Done =
          ap bare (law.defined plan.events e.reports list) ∙ defined_bare list (reporting_at plan.events e.reports)
      go drack.NoSpace = refl
      go (drack.Defined rptid) = refl
      go (drack.UnknownVid vid) = refl
  one_linked (Some (change.Linkings list)) e =
      go (lrack_of plan.events e.reports list)
      ∙ ap (λ (a : Lrack). cond (lrack_code a == 0) (with_linkings list (reports_by e)) (reports_by e))
      (law.lrack plan.events e.reports list ∙ sym (lrack_bare list (reporting_at plan.events e.reports)))
    where
      go : (a : Lrack)
          → reports_by (linkings_count a list e)
          ≡ cond (lrack_code a == 0) (with_linkings list (reports_by e)) (reports_by e)
      go lrack.Done =
          ap bare (law.linked plan.events e.reports list) ∙ linked_bare list (reporting_at plan.events e.reports)
      go lrack.NoSpace = refl
      go (lrack.Linked n) = refl
      go (lrack.UnknownCeid n) = refl
      go (lrack.UnknownRptid n) = refl
  one_linked (Some (change.Events on ceids)) e = go (erack_of plan.events ceids)
    where
      go : (a : Erack) → reports_by (events_count a on ceids e) ≡ reports_by e
      go erack.Done =
          ap bare (law.next plan.events e.reports (Enable on ceids))
          ∙ enabled_bare on ceids (reporting_at plan.events e.reports)
      go (erack.Unknown n) = refl
  one_linked (Some (change.Constants list)) e = ap reports_by (constants_alone (eac_of (vars_by plan e) list) list e)
  one_linked (Some (change.Rule list)) e = ap reports_by (rule_alone (answer_of list) list e)
  one_linked (Some (change.Alarms on alid)) e =
      ap reports_by (alarms_alone (ackc5_of (alarms_at plan.alarms e.alarms) alid) alid on e)

  -- what a list leaves of reports
  abbrev linked_by : Reporting → List Entry → Reporting
  linked_by r list = fold (λ so_far x. linked (change_by x) so_far) r list

  run_linked : (list : List Entry) (e : Entries) → reports_by (run plan e list) ≡ linked_by (reports_by e) list
  run_linked [] e = refl
  run_linked (x ∷ list) e =
      run_linked list (counted_by plan (change_by x) e)
      ∙ ap (λ (r : Reporting). linked_by r list) (one_linked (change_by x) e)

  linked_behind :
      (list : List Entry) (x : Entry) (o : Option Change) (r : Reporting) → change_by x ≡ o
      → linked_by r (list ++ x ∷ []) ≡ linked o (linked_by r list)
  linked_behind list x o r is =
      fold-append (λ so_far y. linked (change_by y) so_far) r list (x ∷ [])
      ∙ ap (λ p. linked p (linked_by r list)) is

  linked_so :
      (list : List Entry) (r : Reporting) → linked_by r (list ++ []) ≡ linked_by r list
  linked_so list r = fold-append (λ so_far y. linked (change_by y) so_far) r list []

  -- what changes no report can leave, and where all that stays changes none, none is changed
  idle_left :
      (stays : Entry → Bool) (list : List Entry) (r : Reporting)
      → ((x : Entry) (s : Reporting) → stays x ≡ false → linked (change_by x) s ≡ s)
      → linked_by r (filter stays list) ≡ linked_by r list
  idle_left stays [] r idle = refl
  idle_left stays (x ∷ list) r idle =
      go (idle_left stays list r idle) (idle_left stays list (linked (change_by x) r) idle) (stays x) refl
    where
      go : linked_by r (filter stays list) ≡ linked_by r list
          → linked_by (linked (change_by x) r) (filter stays list) ≡ linked_by (linked (change_by x) r) list
          → (b : Bool) → stays x ≡ b
          → linked_by r (cond b (x ∷ filter stays list) (filter stays list))
          ≡ linked_by (linked (change_by x) r) list
      go out in_it true on = in_it
      go out in_it false off =
          out ∙ ap (λ (s : Reporting). linked_by s list) (sym (idle x r off))

  idle_stays :
      (stays : Entry → Bool) (list : List Entry) (r : Reporting)
      → ((x : Entry) (s : Reporting) → stays x ≡ true → linked (change_by x) s ≡ s)
      → linked_by r (filter stays list) ≡ r
  idle_stays stays [] r idle = refl
  idle_stays stays (x ∷ list) r idle = go (idle_stays stays list r idle) (stays x) refl
    where
      go : linked_by r (filter stays list) ≡ r → (b : Bool) → stays x ≡ b
          → linked_by r (cond b (x ∷ filter stays list) (filter stays list)) ≡ r
      go next true on = ap (λ (s : Reporting). linked_by s (filter stays list)) (idle x r on) ∙ next
      go next false off = next

  all_stay : (stays : Entry → Bool) (list : List Entry) → ((x : Entry) → stays x ≡ true) → filter stays list ≡ list
  all_stay stays [] all = refl
  all_stay stays (x ∷ list) all =
      ap (λ b. cond b (x ∷ filter stays list) (filter stays list)) (all x)
      ∙ ap (λ (l : List Entry). x ∷ l) (all_stay stays list all)

  -- a change of another kind takes out nothing that changes a report
  idle_out :
      (c : Change) → ((list : List Definition) → kin c (change.Definitions list) ≡ false)
      → ((list : List Linking) → kin c (change.Linkings list) ≡ false)
      → (x : Entry) (s : Reporting) → not (takes_out c x) ≡ false → linked (change_by x) s ≡ s
  idle_out c apart apart_links x s out = go (change_by x) refl
    where
      taken : (b : Bool) → takes_out c x ≡ b → not b ≡ false → takes_out c x ≡ true
      taken true is off = is
      taken false is off = absurd (cc)

      go : (o : Option Change) → change_by x ≡ o → linked o s ≡ s
      go None is = refl
      go (Some (change.Definitions list)) is =
          absurd (let same =
          sym (taken_is_kin c (change.Definitions list) x (taken (takes_out c x) refl out) is) ∙ apart list in cc)
      go (Some (change.Linkings list)) is =
          absurd (let same =
          sym (taken_is_kin c (change.Linkings list) x (taken (takes_out c x) refl out) is) ∙ apart_links list in cc)
      go (Some _) is = refl

  -- so with it the same stands
  other_kept :
      (c : Change) (list : List Entry) (p : Entry) (r : Reporting) → change_by p ≡ Some c
      → ((s : Reporting) → linked (Some c) s ≡ s)
      → ((x : Entry) (s : Reporting) → not (takes_out c x) ≡ false → linked (change_by x) s ≡ s)
      → linked_by r (kept list p) ≡ linked_by r list
  other_kept c list p r is idle idle_others =
      ap (λ o. linked_by r (kept_by o list p)) is ∙ go (tells c)
    where
      stays : Entry → Bool
      stays x = not (takes_out c x)

      go : (b : Bool) → linked_by r (filter stays list ++ cond b (p ∷ []) []) ≡ linked_by r list
      go true =
          linked_behind (filter stays list) p (Some c) r is ∙ idle (linked_by r (filter stays list))
          ∙ idle_left stays list r idle_others
      go false = linked_so (filter stays list) r ∙ idle_left stays list r idle_others

  -- all before are deleted: what stays is of other functions
  idle_behind :
      (x : Entry) (s : Reporting) → not (is_of 2 33 x || is_of 2 35 x) ≡ true → linked (change_by x) s ≡ s
  idle_behind x s stays = go (change_by x) refl
    where
      go : (o : Option Change) → change_by x ≡ o → linked o s ≡ s
      go None is = refl
      go (Some (change.Definitions list)) is =
          absurd (let gone =
          sym (ap (λ b. not (b || is_of 2 35 x)) (of_place x (change.Definitions list) is)) ∙ stays in cc)
      go (Some (change.Linkings list)) is =
          absurd (let gone = sym (ap (λ b. not (is_of 2 33 x || b)) (of_place x (change.Linkings list) is)
          ∙ ap not (either (is_of 2 33 x))) ∙ stays in cc)
        where
          either : (b : Bool) → (b || true) ≡ true
          either true = refl
          either false = refl
      go (Some _) is = refl

  some_long : {A : Type 0} (x : A) (xs : List A) → (length (x ∷ xs) == 0) ≡ false
  some_long x xs = false_from_ne_true (length (x ∷ xs) == 0) (λ e. omega (arith, eqb-true (length (x ∷ xs)) 0 e))

  kept_linked :
      (c : Change) (list : List Entry) (p : Entry) (e : Entries) → change_by p ≡ Some c
      → linked_by (reports_by nothing) list ≡ reports_by e
      → linked_by (reports_by nothing) (kept list p) ≡ linked (Some c) (reports_by e)
  kept_linked (change.Definitions []) list p e is same =
      ap (λ o. linked_by (reports_by nothing) (kept_by o list p)) is
      ∙ linked_so (filter (λ x. not (is_of 2 33 x || is_of 2 35 x)) list) (reports_by nothing)
      ∙ idle_stays (λ x. not (is_of 2 33 x || is_of 2 35 x)) list (reports_by nothing) idle_behind
      ∙ sym (deleted_bare plan.events e.reports)
  kept_linked (change.Definitions (d ∷ more)) list p e is same =
      let c = change.Definitions (d ∷ more) in
      let stays : filter (λ x. not (takes_out c x)) list ≡ list =
      all_stay (λ x. not (takes_out c x)) list
      (λ x. ap (λ b. not (b && (is_of 2 33 x || is_of 2 35 x))) (some_long d more)) in
      ap (λ o. linked_by (reports_by nothing) (kept_by o list p)) is
      ∙ ap (λ b. linked_by (reports_by nothing) (filter (λ x. not (takes_out c x)) list ++ cond (not b) (p ∷ []) []))
      (some_long d more)
      ∙ ap (λ (l : List Entry). linked_by (reports_by nothing) (l ++ p ∷ [])) stays
      ∙ linked_behind list p (Some c) (reports_by nothing) is ∙ ap (linked (Some c)) same
  kept_linked (change.Linkings []) list p e is same =
      ap (λ o. linked_by (reports_by nothing) (kept_by o list p)) is
      ∙ linked_so (filter (λ x. true) list) (reports_by nothing)
      ∙ ap (linked_by (reports_by nothing)) (all_stay (λ x. true) list (λ x. refl)) ∙ same
  kept_linked (change.Linkings (l ∷ more)) list p e is same =
      let c = change.Linkings (l ∷ more) in
      ap (λ o. linked_by (reports_by nothing) (kept_by o list p)) is
      ∙ ap (λ b. linked_by (reports_by nothing) (filter (λ x. true) list ++ cond (not b) (p ∷ []) []))
      (some_long l more)
      ∙ ap (λ (k : List Entry). linked_by (reports_by nothing) (k ++ p ∷ [])) (all_stay (λ x. true) list (λ x. refl))
      ∙ linked_behind list p (Some c) (reports_by nothing) is ∙ ap (linked (Some c)) same
  kept_linked (change.Constants values) list p e is same =
      other_kept (change.Constants values) list p (reports_by nothing) is (λ s. refl)
      (idle_out (change.Constants values) (λ l. refl) (λ l. refl)) ∙ same
  kept_linked (change.Events on ceids) list p e is same =
      other_kept (change.Events on ceids) list p (reports_by nothing) is (λ s. refl)
      (idle_out (change.Events on ceids) (λ l. refl) (λ l. refl)) ∙ same
  kept_linked (change.Rule entries) list p e is same =
      other_kept (change.Rule entries) list p (reports_by nothing) is (λ s. refl)
      (idle_out (change.Rule entries) (λ l. refl) (λ l. refl)) ∙ same
  kept_linked (change.Alarms on alid) list p e is same =
      other_kept (change.Alarms on alid) list p (reports_by nothing) is (λ s. refl)
      (idle_out (change.Alarms on alid) (λ l. refl) (λ l. refl)) ∙ same

  -- ---- one entry more of a history

  accepted_told :
      (c : Change) (list : List Entry) (p : Entry) (e : Entries) → change_by p ≡ Some c
      → is_counted plan c e ≡ true → Told plan (run plan nothing list) e
      → Told plan (run plan nothing (kept list p)) (counted_by plan (Some c) e)
  accepted_told c list p e is counts told = record {
    constants = λ planned.
        kept_says plan (λ f. constant_at f.vars planned) (said_constant plan planned) (one_constant plan planned) c
        list p nothing e is (out_constant plan planned c e counts) (quiet_constant plan planned c)
        (told.constants planned);
    alarms = λ planned.
        kept_says plan (λ f. alarm_enabled_at f.alarms planned) (said_alarm plan planned) (one_alarm plan planned) c
        list p nothing e is (out_alarm plan planned c e counts) (quiet_alarm plan planned c) (told.alarms planned);
    rules =
        kept_says plan (spooled_by plan) (said_rule plan) (one_rule plan) c list p nothing e is
        (out_rule plan c e counts) (quiet_rule plan c) told.rules;
    enabled = λ ceid.
        kept_says plan (λ f. enabled_at f.reports ceid) (said_event plan ceid) (one_event plan ceid) c list p nothing e
        is (out_event plan ceid c e counts) (quiet_event plan ceid c) (told.enabled ceid);
    linked =
        run_linked (kept list p) nothing
        ∙ kept_linked c list p e is (sym (run_linked list nothing) ∙ told.linked)
        ∙ sym (one_linked (Some c) e);
  }

  -- a command changes nothing of it
  commanded_told : (c : ToolCommand) (d e : Entries) → Told plan d e → Told plan d (command_counts plan c e)
  commanded_told (command.Set vid value) d e told = go (refusal_of (vars_by plan e) vid value)
    where
      go : (refusal : Option Setting) → Told plan d (set_counts refusal vid value e)
      go (Some refusal) = told
      go None = record {
        constants = told.constants;
        alarms = told.alarms;
        rules = told.rules;
        enabled = told.enabled;
        linked = told.linked;
      }
  commanded_told (command.Alarm alid is_set) d e told = record {
    constants = told.constants;
    alarms = told.alarms;
    rules = told.rules;
    enabled = told.enabled;
    linked = told.linked;
  }
  commanded_told _ d e told = told

  module _ (found : List Entry) where
    abbrev behind : List Past → List Past
    behind past = past ++ carried_out found

    all_told :
        (past : List Past)
        → Told plan (run plan nothing (kept_behind kept plan found past)) (entries_at plan (behind past))
    all_told [] =
        subst (λ (e : Entries). Told plan (run plan nothing found) e) (sym (carried plan found [])) (record {
          constants = λ planned. refl;
          alarms = λ planned. refl;
          rules = refl;
          enabled = λ ceid. refl;
          linked = refl;
        })
    all_told (Commanded c ∷ past) =
        commanded_told c (run plan nothing (kept_behind kept plan found past)) (entries_at plan (behind past))
        (all_told past)
    all_told (Asked m ∷ past) =
        subst (λ (e : Entries). Told plan (run plan nothing (kept_behind kept plan found (Asked m ∷ past))) e)
        (sym (asked_counted plan (request_of m.stream m.function m.body) (entries_at plan (behind past))))
        (go (all_told past) (change_by p) refl)
      where
        p : Entry
        p = primary_of m

        e : Entries
        e = entries_at plan (behind past)

        list : List Entry
        list = kept_behind kept plan found past

        Before : Type 0
        Before = Told plan (run plan nothing list) e

        by_answer : Before → (c : Change) → change_by p ≡ Some c → (b : Bool) → accepts (tables_by plan e) c ≡ b
            → Told plan (run plan nothing (cond b (kept list p) list)) (counted_by plan (Some c) e)
        by_answer told c is true accepted =
            accepted_told c list p e is (sym (accepted_is law plan c e) ∙ accepted) told
        by_answer told c is false fails =
            subst (λ (f : Entries). Told plan (run plan nothing list) f)
            (sym (refused plan c e (sym (accepted_is law plan c e) ∙ fails))) told

        go : Before → (o : Option Change) → change_by p ≡ o
            → Told plan
            (run plan nothing (cond (option_map_or (accepts (tables_by plan e)) o false) (kept list p) list))
            (counted_by plan o e)
        go told None is = told
        go told (Some c) is = by_answer told c is (accepts (tables_by plan e) c) refl

pub tells_the_same : ReportsGoByWhatStands → KeptTellsTheSame
tells_the_same law plan found past =
    let list = kept_behind kept plan found past in
    ap (λ (e : Entries). setup_of (tables_by plan e)) (carried plan list [])
    ∙ same_setup plan (run plan nothing list) (entries_at plan (past ++ carried_out found))
    (all_told law plan found past)
