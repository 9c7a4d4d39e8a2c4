-- The plans of a file fit.
use Rattle.std.proofs.Common.{◌≡◌, ◌≢◌, refl, sym, ap, subst, ◌∙◌, ℕ, ◌+◌, ◌≤◌, inl, inr, Bool, true, false, cond, ◌||◌, List, [], ◌∷◌, ◌++◌, length, Option, Some, None, Ok, nat_eq, arith, codes}
use Rattle.std.specs.Prelude.{All, IsTrue, bytes_eq}
use Rattle.std.specs.List.{IsDistinct, list_all, list_any}
use Rattle.std.specs.Option.{ok_or}
use Rattle.std.proofs.lemmas.Cmp.{nat_list_eq_equiv}
use Rattle.std.proofs.lemmas.List.{length-append, map-append, map-id}
use Rattle.std.proofs.lemmas.List.Elements.{All-append, All-cons, All-nil}
use Rattle.std.proofs.lemmas.Map.Keys.{IsDistinct-push}
use Rattle.equipment_tables.specs.declared.plan.Plans.{Plans}
use Rattle.equipment_tables.specs.Plan.{CanBeSpooled, EquipmentPlanFits, EventsFit, IsShortText, PlansFit, function_of}
use Rattle.gem_alarms.specs.declared.plan.AlarmPlan.{AlarmPlan}
use Rattle.gem_alarms.specs.Plan.{AlarmFits, AlarmsFit}
use Rattle.gem_remote.specs.declared.plan.CommandPlan.{CommandPlan}
use Rattle.gem_remote.specs.Plan.{has_name, names_of}
use Rattle.gem_shapes.specs.declared.entries.RuleEntry.{RuleEntry}
use Rattle.gem_states.specs.declared.control.ControlState.{ControlState}
use Rattle.gem_states.specs.declared.control.ControlState.TheVariants.{Attempt, EquipmentOffline, HostOffline, Local, Remote}
use Rattle.gem_vars.specs.declared.plan.ConstantPlan.{ConstantPlan}
use Rattle.gem_vars.specs.declared.plan.VariablePlan.{VariablePlan}
use Rattle.gem_vars.specs.Plan.{ConstantFits, ConstantsFit, VariableFits, VariablesFit, VarsFit, built_in_constants, is_in_range}
use Rattle.gem_vars.specs.Settings.{is_within, value_fits}
use Rattle.secs_items.specs.declared.item.Item.{Item}
use Rattle.toml.specs.Data.{Data, Items, no_items, item, Members, as_array, get_member}
use Rattle.gem_config.specs.declared.fault.ConfigFault.{ConfigFault}
use Rattle.gem_config.specs.declared.fault.ConfigWhat.TheVariants.{Range, Repeated}
use Rattle.gem_config.specs.declared.plans.Tables.{Tables}
use Rattle.gem_config.specs.declared.sections.Constants.{Constants}
use Rattle.gem_config.specs.declared.sections.Identity.{Identity}
use Rattle.gem_config.specs.declared.sections.ToolSection.{ToolSection}
use Rattle.gem_config.specs.Others.{least_of, other_keys}
use Rattle.gem_config.specs.Plans.{Means, built_in_of, host_enable_in, line_in, plans_from, plans_of, tables_of, tool_in, unless_other}
use Rattle.gem_config.specs.Reading.{Read, SectionView, at, key_of, refused}
use Rattle.gem_config.specs.Rows.{command_after, commands_from, commands_in, count_of, elements, rows_in, section, section_of}
use Rattle.gem_config.specs.Sections.{alarm_of, command_of, constant_of, constants_of, event_of, greatest, identity_of, line_of, param, own_name, tool_of, variable_of, worth}
use Rattle.gem_config.specs.Values.{each_from, flag, is_short, item_text, list, needed, needed_in, number, of_kind, optional, optional_in, text, value_text, word}
use Rattle.gem_config.specs.Words.{all_spooled, control_named, spooled_named}
use Rattle.gem_config.proofs.Fitting.{between, line_fits, needed_step, number_step, opened, passed, same_Ok, short_parts, short_step}
use Rattle.gem_config.proofs.FittingRows.{few_in, rows_fit}

-- ---- variables, constants, alarms

value_within : (key : List ℕ) (held : Option Data) (x : Item) → needed_in value_text key held ≡ Ok x
    → value_fits x ≡ true
value_within key None x e = absurd cc
value_within key (Some d) x e =
    let o = opened (item_text key d) _ x e in
    let p = passed (value_fits o.0) o.0 x key Range o.2 in
    subst (λ i. value_fits i ≡ true) p.1 p.0

variable_fits : (vid : ℕ) (element : SectionView) (row : VariablePlan) → 0 ≤ vid → variable_of vid element ≡ Ok row
    → VariableFits row × (row.vid ≡ vid)
unfolding variable_of
variable_fits vid element row low e =
    let name = opened (optional [] text (at element (codes "name"))) _ row e in
    let units = opened (optional [] text (at element (codes "units"))) _ row name.2 in
    let value = opened (needed value_text (at element (codes "value"))) _ row units.2 in
    let fits = value_within (at element (codes "value")).key (at element (codes "value")).held value.0 value.1 in
    subst (λ (r : VariablePlan). VariableFits r × (r.vid ≡ vid)) (same_Ok _ row value.2) (fits, refl)

constant_fits : (ecid : ℕ) (element : SectionView) (row : ConstantPlan) → 100 ≤ ecid → constant_of ecid element ≡ Ok row
    → ConstantFits row × (row.ecid ≡ ecid)
unfolding constant_of
constant_fits ecid element row low e =
    let name = opened (optional [] text (at element (codes "name"))) _ row e in
    let units = opened (optional [] text (at element (codes "units"))) _ row name.2 in
    let min = opened (optional 0 (number 0 greatest) (at element (codes "min"))) _ row units.2 in
    let max = opened (optional greatest (number 0 greatest) (at element (codes "max"))) _ row min.2 in
    let value = needed_step min.0 max.0 (at element (codes "value")) _ row max.2 in
    subst (λ (r : ConstantPlan). ConstantFits r × (r.ecid ≡ ecid)) (same_Ok _ row value.2)
    (record { own = low; range = value.1 }, refl)

alarm_fits : (alid : ℕ) (element : SectionView) (row : AlarmPlan) → 0 ≤ alid → alarm_of alid element ≡ Ok row
    → AlarmFits row × (row.alid ≡ alid)
unfolding alarm_of
alarm_fits alid element row low e =
    let category = number_step 0 0 127 refl (at element (codes "category")) _ row e in
    let words = short_step 40 [] refl (at element (codes "text")) _ row category.2 in
    let enabled = opened (optional true flag (at element (codes "enabled"))) _ row words.2 in
    let category_in = between 0 127 category.0 category.1 in
    let parts = short_parts 40 words.0 words.1 in
    subst (λ (r : AlarmPlan). AlarmFits r × (r.alid ≡ alid)) (same_Ok _ row enabled.2)
    (record { category = omega (arith, category_in.1); text = parts.0; ascii = parts.1 }, refl)

event_is : (ceid : ℕ) (element : SectionView) (row : ℕ) → 0 ≤ ceid → event_of ceid element ≡ Ok row
    → Unit {0} × (row ≡ ceid)
unfolding event_of
event_is ceid element row low e =
    let name = opened (optional [] text (at element (codes "name"))) _ row e in (tt, sym (same_Ok ceid row name.2))

-- ---- words

found_word : {A : Type 0} (o : Option A) (e : ConfigFault) (x : A) → ok_or o e ≡ Ok x → o ≡ Some x
found_word None e x h = absurd cc
found_word (Some y) e x h = cc

-- what a word means
word_means : {A : Type 0} (meaning : List ℕ → Option A) (key : List ℕ) (d : Data) (x : A) → word meaning key d ≡ Ok x
    → (s : List ℕ) × (meaning s ≡ Some x)
word_means meaning key d x e =
    let o = opened (text key d) _ x e in (o.0, found_word (meaning o.0) _ x o.2)

control_apart : (b c d f : Bool) (state : ControlState)
    → cond b (Some EquipmentOffline) (cond c (Some HostOffline) (cond d (Some Local) (cond f (Some Remote) None)))
    ≡ Some state → state ≢ Attempt
control_apart true c d f state e = λ h. absurd cc
control_apart false true d f state e = λ h. absurd cc
control_apart false false true f state e = λ h. absurd cc
control_apart false false false true state e = λ h. absurd cc
control_apart false false false false state e = absurd cc

control_fits : (key : List ℕ) (held : Option Data) (state : ControlState)
    → optional_in Remote (word control_named) key held ≡ Ok state → state ≢ Attempt
control_fits key None state e = λ h. absurd cc
control_fits key (Some d) state e =
    let w = word_means control_named key d state e in control_apart _ _ _ _ state w.1

spoolable : (b c d : Bool) (entry : RuleEntry)
    → cond b (Some (function_of 5 1)) (cond c (Some (function_of 6 11)) (cond d (Some (function_of 10 1)) None))
    ≡ Some entry → CanBeSpooled entry
spoolable true c d entry e = let same : function_of 5 1 ≡ entry = cc in inl (sym same)
spoolable false true d entry e = let same : function_of 6 11 ≡ entry = cc in inr (inl (sym same))
spoolable false false true entry e = let same : function_of 10 1 ≡ entry = cc in inr (inr (sym same))
spoolable false false false entry e = absurd cc

each_fits : {A : Type 0} (P : A → Type 0) (read : Data → Read A) → ((d : Data) (x : A) → read d ≡ Ok x → P x)
    → (before : List A) (ds : Items) (out : List A) → All P before → each_from read before ds ≡ Ok out → All P out
each_fits P read fits before no_items out so_far e = subst (All P) (same_Ok before out e) so_far
each_fits P read fits before (item d ds) out so_far e =
    let o = opened (read d) _ out e in
    each_fits P read fits (before ++ o.0 ∷ []) ds out
    (All-append P before (o.0 ∷ []) so_far (All-cons P o.0 [] (fits d o.0 o.1) (All-nil P))) o.2

spooled_each : (key : List ℕ) (d : Data) (entry : RuleEntry) → word spooled_named key d ≡ Ok entry → CanBeSpooled entry
spooled_each key d entry e = let w = word_means spooled_named key d entry e in spoolable _ _ _ entry w.1

spooled_fits : (key : List ℕ) (held : Option Data) (out : List RuleEntry)
    → optional_in all_spooled (list (word spooled_named)) key held ≡ Ok out → All CanBeSpooled out
spooled_fits key None out e =
    subst (All CanBeSpooled) (same_Ok all_spooled out e)
    (All-cons CanBeSpooled (function_of 5 1) (function_of 6 11 ∷ function_of 10 1 ∷ []) (inl refl)
    (All-cons CanBeSpooled (function_of 6 11) (function_of 10 1 ∷ []) (inr (inl refl))
    (All-cons CanBeSpooled (function_of 10 1) [] (inr (inr refl)) (All-nil CanBeSpooled))))
spooled_fits key (Some d) out e =
    let o = opened (of_kind key (as_array d)) _ out e in
    each_fits CanBeSpooled (word spooled_named key) (spooled_each key) [] o.0 out (All-nil CanBeSpooled) o.2

-- ---- [equipment]

record IdentityFits (identity : Identity) : Type 0 where
  pub mdln : IsShortText identity.mdln
  pub softrev : IsShortText identity.softrev
  pub control : identity.control ≢ Attempt

record ConstantsAreIn (constants : Constants) : Type 0 where
  pub slots : (1 ≤ constants.slots) × (constants.slots ≤ 1024)
  pub built_in : IsTrue (list_all is_in_range (built_in_constants (built_in_of constants)))

record ToolFits (tool : ToolSection) : Type 0 where
  pub identity : IdentityFits tool.identity
  pub constants : ConstantsAreIn tool.constants
  pub spooled : All CanBeSpooled tool.spooled

worth_within : (b : Bool) → is_within 0 1 (worth b) ≡ true
worth_within true = refl
worth_within false = refl

built_in_fits : (a b c d : ℕ) → is_within 1 120 a ≡ true → is_within 0 1 b ≡ true → is_within 0 1 c ≡ true
    → is_within 0 greatest d ≡ true → list_all is_in_range (built_in_constants (a ∷ b ∷ c ∷ d ∷ [])) ≡ true
built_in_fits a b c d ha hb hc hd = rw (ha, hb, hc, hd) refl

short_fits : (s : List ℕ) → is_short 20 s ≡ true → IsShortText s
short_fits s h = let parts = short_parts 20 s h in record { short = parts.0; ascii = parts.1 }

identity_fits : (tool : SectionView) (out : Identity) → identity_of tool ≡ Ok out → IdentityFits out
unfolding identity_of
identity_fits tool out e =
    let mdln = short_step 20 (codes "GEMLINE") refl (at tool (codes "mdln")) _ out e in
    let softrev = short_step 20 (codes "1") refl (at tool (codes "softrev")) _ out mdln.2 in
    let enable = opened (optional true flag (at tool (codes "enable"))) _ out softrev.2 in
    let state = opened (optional Remote (word control_named) (at tool (codes "control"))) _ out enable.2 in
    subst IdentityFits (same_Ok _ out state.2)
    (record {
      mdln = short_fits mdln.0 mdln.1;
      softrev = short_fits softrev.0 softrev.1;
      control = control_fits (at tool (codes "control")).key (at tool (codes "control")).held state.0 state.1;
    })

constants_are_in : (tool : SectionView) (out : Constants) → constants_of tool ≡ Ok out → ConstantsAreIn out
unfolding constants_of
constants_are_in tool out e =
    let slots = number_step 16 1 1024 refl (at tool (codes "slots")) _ out e in
    let spool = opened (optional true flag (at tool (codes "enable_spool"))) _ out slots.2 in
    let over = opened (optional true flag (at tool (codes "overwrite"))) _ out spool.2 in
    let most = number_step 0 0 greatest refl (at tool (codes "max_transmit")) _ out over.2 in
    let delay = number_step 10 1 120 refl (at tool (codes "delay")) _ out most.2 in
    let spool_in = worth_within spool.0 in
    let over_in = worth_within over.0 in
    subst ConstantsAreIn (same_Ok _ out delay.2)
    (record {
      slots = between 1 1024 slots.0 slots.1;
      built_in = built_in_fits delay.0 (worth spool.0) (worth over.0) most.0 delay.1 spool_in over_in most.1;
    })

tool_fits : (tool : SectionView) (out : ToolSection) → tool_of tool ≡ Ok out → ToolFits out
unfolding tool_of
tool_fits tool out e =
    let identity = opened (identity_of tool) _ out e in
    let constants = opened (constants_of tool) _ out identity.2 in
    let at_spooled = at tool (codes "spooled") in
    let spooled = opened (optional all_spooled (list (word spooled_named)) at_spooled) _ out constants.2 in
    let terminals = number_step 1 0 255 refl (at tool (codes "terminals")) _ out spooled.2 in
    subst ToolFits (same_Ok _ out terminals.2)
    (record {
      identity = identity_fits tool identity.0 identity.1;
      constants = constants_are_in tool constants.0 constants.1;
      spooled = spooled_fits at_spooled.key at_spooled.held spooled.0 spooled.1;
    })

-- ---- commands

any_name : (name : List ℕ) (commands : List CommandPlan)
    → list_any (has_name name) commands ≡ list_any (bytes_eq name) (names_of commands)
any_name name [] = refl
any_name name (c ∷ commands) = ap (λ b. bytes_eq name c.name || b) (any_name name commands)

owned_name : (key : List ℕ) (said name : List ℕ) (b : Bool) → cond b (refused key Repeated) (Ok said) ≡ Ok name
    → (b ≡ false) × (said ≡ name)
owned_name key said name true e = absurd cc
owned_name key said name false e = (refl, cc)

new_name : (before : List CommandPlan) (element : SectionView) (c : CommandPlan) → command_of before element ≡ Ok c
    → list_any (bytes_eq c.name) (names_of before) ≡ false
unfolding command_of
new_name before element c e =
    let said = opened (needed text (at element (codes "name"))) _ c e in
    let name = opened (own_name before (key_of element.name (codes "name")) said.0) _ c said.2 in
    let later = opened (optional false flag (at element (codes "later"))) _ c name.2 in
    let params = opened (optional [] (list param) (at element (codes "params"))) _ c later.2 in
    let mine = owned_name _ said.0 name.0 _ name.1 in
    let fresh = subst (λ n. list_any (has_name n) before ≡ false) mine.1 mine.0 in
    subst (λ (x : CommandPlan). list_any (bytes_eq x.name) (names_of before) ≡ false) (same_Ok _ c params.2)
    (sym (any_name name.0 before) ∙ fresh)

new_after : (name : List ℕ) (before : List CommandPlan) (d : Data) (c : CommandPlan)
    → command_after name before d ≡ Ok c → list_any (bytes_eq c.name) (names_of before) ≡ false
unfolding command_after
new_after name before d c e = let o = opened (section_of name d) _ c e in new_name before o.0 c o.2

commands_apart : (name : List ℕ) (before : List CommandPlan) (ds : Items) (out : List CommandPlan)
    → IsDistinct bytes_eq (names_of before) → commands_from name before ds ≡ Ok out
    → IsDistinct bytes_eq (names_of out) × (length out ≡ length before + count_of ds)
commands_apart name before no_items out apart e =
    subst (λ o. IsDistinct bytes_eq (names_of o) × (length o ≡ length before + 0)) (same_Ok before out e)
    (apart, omega arith)
commands_apart name before (item d ds) out apart e =
    let o = opened (command_after name before d) _ out e in
    let more = commands_apart name (before ++ o.0 ∷ []) ds out
    (subst (IsDistinct bytes_eq) (sym (map-append (λ (c : CommandPlan). c.name) before (o.0 ∷ [])))
    (IsDistinct-push nat_list_eq_equiv (names_of before) o.0.name apart (new_after name before d o.0 o.1))) o.2 in
    (more.0, omega (arith, more.1, length-append before (o.0 ∷ [])))

commands_fit : (most : ℕ) (name : List ℕ) (document : Members) (out : List CommandPlan)
    → commands_in name most document ≡ Ok out → (length out ≤ most) × IsDistinct bytes_eq (names_of out)
unfolding IsDistinct
commands_fit most name document out e =
    let o = opened (elements name most document) _ out e in
    let all = commands_apart name [] o.0 out tt o.2 in
    (omega (arith, few_in name most (get_member name document) o.0 o.1, all.1), all.0)

-- ---- all of it

record TablesFit (tables : Tables) : Type 0 where
  pub variables : VariablesFit tables.variables
  pub constants : ConstantsFit tables.constants
  pub events : EventsFit tables.events
  pub alarms : AlarmsFit tables.alarms
  pub few : length tables.commands ≤ 256
  pub distinct : IsDistinct bytes_eq (names_of tables.commands)

tables_fit : (document : Members) (tables : Tables) → tables_of document ≡ Ok tables → TablesFit tables
unfolding tables_of
tables_fit document tables e =
    let variables = opened (rows_in variable_of (codes "variable") (codes "vid") 0 1024 document) _ tables e in
    let constants =
    opened (rows_in constant_of (codes "constant") (codes "ecid") 100 256 document) _ tables variables.2 in
    let events = opened (rows_in event_of (codes "event") (codes "ceid") 0 1024 document) _ tables constants.2 in
    let alarms = opened (rows_in alarm_of (codes "alarm") (codes "alid") 0 1024 document) _ tables events.2 in
    let commands = opened (commands_in (codes "command") 256 document) _ tables alarms.2 in
    let of_variables =
    rows_fit variable_of (codes "variable") (codes "vid") 0 (λ (v : VariablePlan). v.vid) VariableFits variable_fits
    1024 document variables.0 variables.1 in
    let of_constants =
    rows_fit constant_of (codes "constant") (codes "ecid") 100 (λ (c : ConstantPlan). c.ecid) ConstantFits
    constant_fits 256 document constants.0 constants.1 in
    let of_events =
    rows_fit event_of (codes "event") (codes "ceid") 0 (λ (c : ℕ). c) (λ _. Unit {0}) event_is 1024 document
    events.0 events.1 in
    let of_alarms =
    rows_fit alarm_of (codes "alarm") (codes "alid") 0 (λ (a : AlarmPlan). a.alid) AlarmFits alarm_fits 1024 document
    alarms.0 alarms.1 in
    let of_commands = commands_fit 256 (codes "command") document commands.0 commands.1 in
    subst TablesFit (same_Ok _ tables commands.2)
    (record {
      variables = record { few = of_variables.0; each = of_variables.1; distinct = of_variables.2 };
      constants = record { few = of_constants.0; each = of_constants.1; distinct = of_constants.2 };
      events = record { few = of_events.0; distinct = subst (IsDistinct nat_eq) (map-id events.0) of_events.2 };
      alarms = record { few = of_alarms.0; each = of_alarms.1; distinct = of_alarms.2 };
      few = of_commands.0;
      distinct = of_commands.1;
    })

unless_other_is : {A : Type 0} (o : Option (List ℕ)) (x y : A) → unless_other o x ≡ Ok y → x ≡ y
unless_other_is None x y e = cc
unless_other_is (Some key) x y e = absurd cc

pub plans_fit : (document : Members) (plans : Plans) → plans_of document ≡ Ok plans → PlansFit plans
unfolding plans_of
plans_fit document plans e =
    let line = opened (line_in document) _ plans e in
    let tool = opened (tool_in document) _ plans line.2 in
    let tables = opened (tables_of document) _ plans tool.2 in
    let enable = opened (host_enable_in document) _ plans tables.2 in
    let found = plans_from line.0 tool.0 tables.0 enable.0 in
    let made = unless_other_is (least_of None (other_keys document)) found plans enable.2 in
    let of_line = opened (section (codes "line") document) line_of line.0 line.1 in
    let line_is = line_fits of_line.0 line.0 of_line.2 in
    let of_tool = opened (section (codes "equipment") document) tool_of tool.0 tool.1 in
    let tool_is = tool_fits of_tool.0 tool.0 of_tool.2 in
    let tables_are = tables_fit document tables.0 tables.1 in
    let vars : VarsFit found.equipment.vars =
    record {
      variables = tables_are.variables;
      constants = tables_are.constants;
      built_in = tool_is.constants.built_in;
    } in
    let equipment : EquipmentPlanFits found.equipment =
    record {
      line = line_is;
      mdln = tool_is.identity.mdln;
      softrev = tool_is.identity.softrev;
      control = tool_is.identity.control;
      spooled = tool_is.spooled;
      vars = vars;
      events = tables_are.events;
      alarms = tables_are.alarms;
      remote = record { few = tables_are.few; distinct = tables_are.distinct };
    } in
    subst PlansFit made
    (record {
      equipment = equipment;
      host = record { line = line_is };
      slots_at_least = tool_is.constants.slots.0;
      slots_at_most = tool_is.constants.slots.1;
    })

-- what a file means fits
pub meaning_fits : (text : List ℕ) (plans : Plans) → Means text (Ok plans) → PlansFit plans
meaning_fits text plans (inl m) = plans_fit m.0 plans m.2
meaning_fits text plans (inr m) = let e = m.1 in absurd cc
