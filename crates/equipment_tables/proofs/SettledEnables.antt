-- What each change of the setup says of an event's enable, of an alarm's, and of the rule.
use Rattle.std.proofs.Common.{◌≡◌, refl, sym, ◌∙◌, ap, Bool, true, false, cond, not, ◌&&◌, ◌||◌, ◌==◌, ℕ, List, [], ◌∷◌, length, fold, nat_eq, Option, Some, None, is_some}
use Rattle.std.proofs.lemmas.Bool.{and_parts, eqb-true, or_parts}
use Rattle.std.specs.List.{find, list_all, list_any}
use Rattle.std.specs.Option.{option_map, option_map_or, unwrap_or}
use Rattle.gem_alarms.specs.declared.alarm.Alarm.{Alarm}
use Rattle.gem_alarms.specs.declared.alarms.Ackc5.{Ackc5}
use Rattle.gem_alarms.specs.declared.alarms.Ackc5.TheVariants as ackc5
use Rattle.gem_alarms.specs.declared.plan.AlarmPlan.{AlarmPlan}
use Rattle.gem_alarms.specs.Alarms.{ackc5_of}
use Rattle.gem_alarms.specs.History.{AlarmEntry, alarm_after, alarm_enabled_at, alarms_at, enable_in as alarm_enable_in}
use Rattle.gem_alarms.specs.History.AlarmEntry.{Enable as EnableAlarm}
use Rattle.gem_reports.specs.declared.answers.Drack.{Drack}
use Rattle.gem_reports.specs.declared.answers.Drack.TheVariants as drack
use Rattle.gem_reports.specs.declared.answers.Erack.{Erack}
use Rattle.gem_reports.specs.declared.answers.Erack.TheVariants as erack
use Rattle.gem_reports.specs.declared.answers.Lrack.{Lrack}
use Rattle.gem_reports.specs.declared.answers.Lrack.TheVariants as lrack
use Rattle.gem_reports.specs.Answers.{define_entry, drack_of, erack_of, link_entry, lrack_of, past_after_define, past_with_definitions}
use Rattle.gem_reports.specs.History.{ReportEntry, enable_in, enabled_at, is_named}
use Rattle.gem_reports.specs.History.ReportEntry.{Define, Delete, DeleteAll, Enable, Link, Unlink}
use Rattle.gem_shapes.specs.declared.entries.Definition.{Definition}
use Rattle.gem_shapes.specs.declared.entries.Linking.{Linking}
use Rattle.gem_shapes.specs.declared.entries.RuleEntry.{RuleEntry}
use Rattle.gem_tables.proofs.Looking.{looked_up}
use Rattle.gem_vars.specs.Settings.{eac_of}
use Rattle.gem_vars.specs.Tables.{value_in}
use Rattle.setup_store.specs.declared.change.Change.{Change}
use Rattle.setup_store.specs.declared.change.Change.TheVariants as change
use Rattle.setup_store.specs.Entries.{Entry}
use Rattle.setup_store.specs.Kept.{alids_of, are_among, change_by, covers, ids_of, is_of, named_by, takes_out, tells}
use Rattle.spool_rule.specs.declared.rule.RuleAnswer.{RuleAnswer}
use Rattle.spool_rule.specs.declared.rule.RuleAnswer.TheVariants.{Rejected, Replaced}
use Rattle.spool_rule.specs.Rule.{answer_of}
use Rattle.equipment_tables.specs.declared.plan.EquipmentPlan.{EquipmentPlan}
use Rattle.equipment_tables.specs.Answers.{ackc5_code, erack_code}
use Rattle.equipment_tables.specs.Past.{Entries, alarms_count, definitions_count, events_count, linkings_count, rule_counts, spooled_by, vars_by}
use Rattle.equipment_tables.specs.Setup.{is_replaced}
use Rattle.equipment_tables.proofs.ChangeFunctions.{kin, taken_is_kin}
use Rattle.equipment_tables.proofs.CountedChanges.{counted_by, is_counted}
use Rattle.equipment_tables.proofs.SettledConstants.{alarms_alone, constants_alone, definitions_alone, events_alone, linkings_alone, not_among, quiet, rule_alone}

-- ---- whether an event is enabled

module _ (plan : EquipmentPlan) (ceid : ℕ) where
  abbrev pub said_event : Option Change → Option Bool
  said_event (Some (change.Events on ceids)) =
      cond (erack_code (erack_of plan.events ceids) == 0) (enable_in ceid (Enable on ceids)) None
  said_event _ = None

  abbrev pub event_by : Entries → Bool
  event_by e = enabled_at e.reports ceid

  define_quiet :
      (d : Definition) (past : List ReportEntry) → enabled_at (define_entry d ∷ past) ceid ≡ enabled_at past ceid
  define_quiet d past = go (length d.vids == 0)
    where
      go : (b : Bool)
          → enabled_at (cond b (Delete d.rptid) (Define d.rptid d.vids) ∷ past) ceid ≡ enabled_at past ceid
      go true = refl
      go false = refl

  link_quiet : (l : Linking) (past : List ReportEntry) → enabled_at (link_entry l ∷ past) ceid ≡ enabled_at past ceid
  link_quiet l past = go (length l.rptids == 0)
    where
      go : (b : Bool) → enabled_at (cond b (Unlink l.ceid) (Link l.ceid l.rptids) ∷ past) ceid ≡ enabled_at past ceid
      go true = refl
      go false = refl

  each_quiet :
      {E : Type 0} (entry_of : E → ReportEntry)
      → ((x : E) (past : List ReportEntry) → enabled_at (entry_of x ∷ past) ceid ≡ enabled_at past ceid)
      → (list : List E) (past : List ReportEntry)
      → enabled_at (fold (λ so_far x. entry_of x ∷ so_far) past list) ceid ≡ enabled_at past ceid
  each_quiet entry_of quiet_one [] past = refl
  each_quiet entry_of quiet_one (x ∷ list) past =
      each_quiet entry_of quiet_one list (entry_of x ∷ past) ∙ quiet_one x past

  defined_quiet :
      (list : List Definition) (past : List ReportEntry)
      → enabled_at (past_after_define past list) ceid ≡ enabled_at past ceid
  defined_quiet list past = go (length list == 0)
    where
      go : (b : Bool)
          → enabled_at (cond b (DeleteAll ∷ past) (past_with_definitions past list)) ceid ≡ enabled_at past ceid
      go true = refl
      go false = each_quiet define_entry define_quiet list past

  pub one_event :
      (o : Option Change) (e : Entries) → event_by (counted_by plan o e) ≡ unwrap_or (said_event o) (event_by e)
  one_event None e = refl
  one_event (Some (change.Constants list)) e = ap event_by (constants_alone (eac_of (vars_by plan e) list) list e)
  one_event (Some (change.Definitions list)) e = go (drack_of (value_in (vars_by plan e)) e.reports list)
    where
      go : (a : Drack) → event_by (definitions_count a list e) ≡ event_by e
      go drack.Done = defined_quiet list e.reports
      go drack.NoSpace = refl
      go (drack.Defined rptid) = refl
      go (drack.UnknownVid vid) = refl
  one_event (Some (change.Linkings list)) e = go (lrack_of plan.events e.reports list)
    where
      go : (a : Lrack) → event_by (linkings_count a list e) ≡ event_by e
      go lrack.Done = each_quiet link_entry link_quiet list e.reports
      go lrack.NoSpace = refl
      go (lrack.Linked n) = refl
      go (lrack.UnknownCeid n) = refl
      go (lrack.UnknownRptid n) = refl
  one_event (Some (change.Events on ceids)) e = go (erack_of plan.events ceids)
    where
      go : (a : Erack)
          → event_by (events_count a on ceids e)
          ≡ unwrap_or (cond (erack_code a == 0) (enable_in ceid (Enable on ceids)) None) (event_by e)
      go erack.Done = refl
      go (erack.Unknown n) = refl
  one_event (Some (change.Rule list)) e = ap event_by (rule_alone (answer_of list) list e)
  one_event (Some (change.Alarms on alid)) e =
      ap event_by (alarms_alone (ackc5_of (alarms_at plan.alarms e.alarms) alid) alid on e)

  other_event :
      (c : Change) (x : Entry) → ((on : Bool) (ceids : List ℕ) → kin c (change.Events on ceids) ≡ false)
      → takes_out c x ≡ true → said_event (change_by x) ≡ None
  other_event c x apart out = go (change_by x) refl
    where
      go : (o : Option Change) → change_by x ≡ o → said_event o ≡ None
      go None is = refl
      go (Some (change.Events on ceids)) is =
          absurd (let same = sym (taken_is_kin c (change.Events on ceids) x out is) ∙ apart on ceids in cc)
      go (Some _) is = refl

  -- not named, so neither all nor this one
  unnamed_parts :
      (on : Bool) (ceids : List ℕ) → is_some (enable_in ceid (Enable on ceids)) ≡ false
      → ((length ceids == 0) ≡ false) × (list_any (nat_eq ceid) ceids ≡ false)
  unnamed_parts on ceids none =
      or_parts (length ceids == 0) (list_any (nat_eq ceid) ceids) (go (is_named ceids ceid) none)
    where
      go : (b : Bool) → is_some (cond b (Some on) None) ≡ false → b ≡ false
      go true none = absurd (cc)
      go false none = refl

  pub out_event :
      (c : Change) (e : Entries) → is_counted plan c e ≡ true → (x : Entry) → takes_out c x ≡ true
      → is_some (said_event (Some c)) ≡ false → said_event (change_by x) ≡ None
  out_event (change.Events on ceids) e counts x out none = go (change_by x) refl
    where
      parts : ((length ceids == 0) ≡ false) × (list_any (nat_eq ceid) ceids ≡ false)
      parts =
          unnamed_parts on ceids
          (ap (λ b. is_some (cond b (enable_in ceid (Enable on ceids)) None)) (sym counts) ∙ none)

      among : are_among ceids (named_by x) ≡ true
      among =
          ap (λ b. b || are_among ceids (named_by x)) (sym parts.0)
          ∙ (and_parts (is_of 2 37 x) (covers ceids x) out).1

      go : (o : Option Change) → change_by x ≡ o → said_event o ≡ None
      go None is = refl
      go (Some (change.Events other_on others)) is =
          let those : are_among ceids others ≡ true =
          ap (λ o. are_among ceids (option_map_or ids_of o [])) (sym is) ∙ among in
          let some = and_parts (not (length others == 0)) (list_all (λ id. list_any (nat_eq id) ceids) others) those in
          let named : is_named others ceid ≡ false =
          not_named (length others == 0) some.0 (list_any (nat_eq ceid) others)
          (not_among ceids others ceid those parts.1) in
          quiet (erack_code (erack_of plan.events others) == 0) (enable_in ceid (Enable other_on others))
          (ap (λ b. cond b (Some other_on) None) named)
        where
          not_named : (a : Bool) → not a ≡ true → (b : Bool) → b ≡ false → (a || b) ≡ false
          not_named true some b none = absurd (cc)
          not_named false some b none = none
      go (Some _) is = refl
  out_event (change.Constants list) e counts x out none =
      other_event (change.Constants list) x (λ on ceids. refl) out
  out_event (change.Definitions list) e counts x out none =
      other_event (change.Definitions list) x (λ on ceids. refl) out
  out_event (change.Linkings list) e counts x out none =
      other_event (change.Linkings list) x (λ on ceids. refl) out
  out_event (change.Rule list) e counts x out none = other_event (change.Rule list) x (λ on ceids. refl) out
  out_event (change.Alarms on alid) e counts x out none =
      other_event (change.Alarms on alid) x (λ other ceids. refl) out

  pub quiet_event : (c : Change) → tells c ≡ false → said_event (Some c) ≡ None
  quiet_event (change.Events on ceids) off = absurd (cc)
  quiet_event _ off = refl

-- ---- whether an alarm is enabled

module _ (plan : EquipmentPlan) (planned : AlarmPlan) where
  abbrev pub said_alarm : Option Change → Option Bool
  said_alarm (Some (change.Alarms on alid)) =
      cond (ackc5_code (ackc5_of (alarms_at plan.alarms []) alid) == 0)
      (alarm_enable_in planned.alid (EnableAlarm alid on)) None
  said_alarm _ = None

  abbrev pub alarm_by : Entries → Bool
  alarm_by e = alarm_enabled_at e.alarms planned

  ackc5_first :
      (past : List AlarmEntry) (alid : Option ℕ)
      → ackc5_of (alarms_at plan.alarms past) alid ≡ ackc5_of (alarms_at plan.alarms []) alid
  ackc5_first past None = refl
  ackc5_first past (Some alid) =
      ap (λ o. option_map_or (λ (a : Alarm). ackc5.Done) o (ackc5.Unknown alid))
      (looked_up (λ (p : AlarmPlan). p.alid) (alarm_after past) plan.alarms alid)
      ∙ go (find (λ (p : AlarmPlan). nat_eq alid p.alid) plan.alarms)
      ∙ sym (ap (λ o. option_map_or (λ (a : Alarm). ackc5.Done) o (ackc5.Unknown alid))
      (looked_up (λ (p : AlarmPlan). p.alid) (alarm_after []) plan.alarms alid))
    where
      go : (o : Option AlarmPlan)
          → option_map_or (λ (a : Alarm). ackc5.Done) (option_map (alarm_after past) o) (ackc5.Unknown alid)
          ≡ option_map_or (λ (a : Alarm). ackc5.Done) (option_map (alarm_after []) o) (ackc5.Unknown alid)
      go None = refl
      go (Some p) = refl

  pub one_alarm :
      (o : Option Change) (e : Entries) → alarm_by (counted_by plan o e) ≡ unwrap_or (said_alarm o) (alarm_by e)
  one_alarm None e = refl
  one_alarm (Some (change.Alarms on alid)) e =
      go (ackc5_of (alarms_at plan.alarms e.alarms) alid)
      ∙ ap (λ (a : Ackc5). unwrap_or (cond (ackc5_code a == 0)
      (alarm_enable_in planned.alid (EnableAlarm alid on)) None) (alarm_by e)) (ackc5_first e.alarms alid)
    where
      go : (a : Ackc5)
          → alarm_by (alarms_count a alid on e)
          ≡ unwrap_or (cond (ackc5_code a == 0) (alarm_enable_in planned.alid (EnableAlarm alid on)) None) (alarm_by e)
      go ackc5.Done = refl
      go (ackc5.Unknown n) = refl
  one_alarm (Some (change.Constants list)) e = ap alarm_by (constants_alone (eac_of (vars_by plan e) list) list e)
  one_alarm (Some (change.Definitions list)) e =
      ap alarm_by (definitions_alone (drack_of (value_in (vars_by plan e)) e.reports list) list e)
  one_alarm (Some (change.Linkings list)) e =
      ap alarm_by (linkings_alone (lrack_of plan.events e.reports list) list e)
  one_alarm (Some (change.Events on ceids)) e = ap alarm_by (events_alone (erack_of plan.events ceids) on ceids e)
  one_alarm (Some (change.Rule list)) e = ap alarm_by (rule_alone (answer_of list) list e)

  other_alarm :
      (c : Change) (x : Entry) → ((on : Bool) (alid : Option ℕ) → kin c (change.Alarms on alid) ≡ false)
      → takes_out c x ≡ true → said_alarm (change_by x) ≡ None
  other_alarm c x apart out = go (change_by x) refl
    where
      go : (o : Option Change) → change_by x ≡ o → said_alarm o ≡ None
      go None is = refl
      go (Some (change.Alarms on alid)) is =
          absurd (let same = sym (taken_is_kin c (change.Alarms on alid) x out is) ∙ apart on alid in cc)
      go (Some _) is = refl

  pub out_alarm :
      (c : Change) (e : Entries) → is_counted plan c e ≡ true → (x : Entry) → takes_out c x ≡ true
      → is_some (said_alarm (Some c)) ≡ false → said_alarm (change_by x) ≡ None
  out_alarm (change.Alarms on alid) e counts x out none =
      named alid (and_parts (is_of 5 3 x) (covers (alids_of alid) x) out).1
      (ap (λ b. is_some (cond b (alarm_enable_in planned.alid (EnableAlarm alid on)) None))
      (sym (ap (λ (a : Ackc5). ackc5_code a == 0) (sym (ackc5_first e.alarms alid)) ∙ counts)) ∙ none)
    where
      -- it is another one
      other : (n m : ℕ) (b : Bool) → list_all (λ id. nat_eq id n || false) (m ∷ []) ≡ true
          → is_some (cond (nat_eq n planned.alid) (Some on) None) ≡ false
          → cond (nat_eq m planned.alid) (Some b) None ≡ None
      other n m b all none =
          ap (λ t. cond t (Some b) None)
          (ap (λ k. nat_eq k planned.alid) (eqb-true m n (first (nat_eq m n) all)) ∙ off (nat_eq n planned.alid) none)
        where
          first : (t : Bool) → ((t || false) && true) ≡ true → t ≡ true
          first true is = refl
          first false is = is

          off : (t : Bool) → is_some (cond t (Some on) None) ≡ false → t ≡ false
          off true none = absurd (cc)
          off false none = refl

      named : (a : Option ℕ) → covers (alids_of a) x ≡ true
          → is_some (alarm_enable_in planned.alid (EnableAlarm a on)) ≡ false → said_alarm (change_by x) ≡ None
      named None covered none = absurd (cc)
      named (Some n) covered none = go (change_by x) refl
        where
          go : (o : Option Change) → change_by x ≡ o → said_alarm o ≡ None
          go None is = refl
          go (Some (change.Alarms b None)) is =
              absurd (let those : are_among (n ∷ []) [] ≡ true =
              ap (λ o. are_among (n ∷ []) (option_map_or ids_of o [])) (sym is) ∙ covered in cc)
          go (Some (change.Alarms b (Some m))) is =
              let those : are_among (n ∷ []) (m ∷ []) ≡ true =
              ap (λ o. are_among (n ∷ []) (option_map_or ids_of o [])) (sym is) ∙ covered in
              quiet (ackc5_code (ackc5_of (alarms_at plan.alarms []) (Some m)) == 0)
              (alarm_enable_in planned.alid (EnableAlarm (Some m) b)) (other n m b those none)
          go (Some _) is = refl
  out_alarm (change.Constants list) e counts x out none =
      other_alarm (change.Constants list) x (λ on alid. refl) out
  out_alarm (change.Definitions list) e counts x out none =
      other_alarm (change.Definitions list) x (λ on alid. refl) out
  out_alarm (change.Linkings list) e counts x out none =
      other_alarm (change.Linkings list) x (λ on alid. refl) out
  out_alarm (change.Events on ceids) e counts x out none =
      other_alarm (change.Events on ceids) x (λ other alid. refl) out
  out_alarm (change.Rule list) e counts x out none = other_alarm (change.Rule list) x (λ on alid. refl) out

  pub quiet_alarm : (c : Change) → tells c ≡ false → said_alarm (Some c) ≡ None
  quiet_alarm (change.Alarms on alid) off = absurd (cc)
  quiet_alarm _ off = refl

-- ---- the rule of spooling

module _ (plan : EquipmentPlan) where
  abbrev pub said_rule : Option Change → Option (List RuleEntry)
  said_rule (Some (change.Rule list)) = cond (is_replaced (answer_of list)) (Some list) None
  said_rule _ = None

  pub one_rule :
      (o : Option Change) (e : Entries)
      → spooled_by plan (counted_by plan o e) ≡ unwrap_or (said_rule o) (spooled_by plan e)
  one_rule None e = refl
  one_rule (Some (change.Rule list)) e = go (answer_of list)
    where
      go : (a : RuleAnswer)
          → spooled_by plan (rule_counts a list e)
          ≡ unwrap_or (cond (is_replaced a) (Some list) None) (spooled_by plan e)
      go Replaced = refl
      go (Rejected faults) = refl
  one_rule (Some (change.Constants list)) e =
      ap (spooled_by plan) (constants_alone (eac_of (vars_by plan e) list) list e)
  one_rule (Some (change.Definitions list)) e =
      ap (spooled_by plan) (definitions_alone (drack_of (value_in (vars_by plan e)) e.reports list) list e)
  one_rule (Some (change.Linkings list)) e =
      ap (spooled_by plan) (linkings_alone (lrack_of plan.events e.reports list) list e)
  one_rule (Some (change.Events on ceids)) e =
      ap (spooled_by plan) (events_alone (erack_of plan.events ceids) on ceids e)
  one_rule (Some (change.Alarms on alid)) e =
      ap (spooled_by plan) (alarms_alone (ackc5_of (alarms_at plan.alarms e.alarms) alid) alid on e)

  other_rule :
      (c : Change) (x : Entry) → ((list : List RuleEntry) → kin c (change.Rule list) ≡ false)
      → takes_out c x ≡ true → said_rule (change_by x) ≡ None
  other_rule c x apart out = go (change_by x) refl
    where
      go : (o : Option Change) → change_by x ≡ o → said_rule o ≡ None
      go None is = refl
      go (Some (change.Rule list)) is =
          absurd (let same = sym (taken_is_kin c (change.Rule list) x out is) ∙ apart list in cc)
      go (Some _) is = refl

  pub out_rule :
      (c : Change) (e : Entries) → is_counted plan c e ≡ true → (x : Entry) → takes_out c x ≡ true
      → is_some (said_rule (Some c)) ≡ false → said_rule (change_by x) ≡ None
  out_rule (change.Rule list) e counts x out none =
      absurd (let some = ap (λ b. is_some (cond b (Some list) None)) (sym counts) ∙ none in cc)
  out_rule (change.Constants list) e counts x out none =
      other_rule (change.Constants list) x (λ other. refl) out
  out_rule (change.Definitions list) e counts x out none =
      other_rule (change.Definitions list) x (λ other. refl) out
  out_rule (change.Linkings list) e counts x out none = other_rule (change.Linkings list) x (λ other. refl) out
  out_rule (change.Events on ceids) e counts x out none =
      other_rule (change.Events on ceids) x (λ other. refl) out
  out_rule (change.Alarms on alid) e counts x out none =
      other_rule (change.Alarms on alid) x (λ other. refl) out

  pub quiet_rule : (c : Change) → tells c ≡ false → said_rule (Some c) ≡ None
  quiet_rule (change.Rule list) off = absurd (cc)
  quiet_rule _ off = refl
