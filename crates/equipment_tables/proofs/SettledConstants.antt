-- What each change of the setup says of a constant.
use Rattle.std.proofs.Common.{◌≡◌, refl, sym, ◌∙◌, ap, Bool, true, false, cond, not, ◌||◌, ◌==◌, ℕ, List, [], ◌∷◌, length, map, fold, nat_eq, Option, Some, None, is_some, arith}
use Rattle.std.proofs.lemmas.Bool.{and_parts, eqb-true, false_from_ne_true}
use Rattle.std.proofs.lemmas.Cmp.{nat_eq_equiv}
use Rattle.std.specs.List.{find, list_all, list_any}
use Rattle.std.specs.Option.{option_map, option_map_or, unwrap_or}
use Rattle.gem_alarms.specs.declared.alarms.Ackc5.{Ackc5}
use Rattle.gem_alarms.specs.declared.alarms.Ackc5.TheVariants as ackc5
use Rattle.gem_alarms.specs.Alarms.{ackc5_of}
use Rattle.gem_alarms.specs.History.{alarms_at}
use Rattle.gem_reports.specs.declared.answers.Drack.{Drack}
use Rattle.gem_reports.specs.declared.answers.Drack.TheVariants as drack
use Rattle.gem_reports.specs.declared.answers.Erack.{Erack}
use Rattle.gem_reports.specs.declared.answers.Erack.TheVariants as erack
use Rattle.gem_reports.specs.declared.answers.Lrack.{Lrack}
use Rattle.gem_reports.specs.declared.answers.Lrack.TheVariants as lrack
use Rattle.gem_reports.specs.Answers.{drack_of, erack_of, lrack_of}
use Rattle.gem_shapes.specs.declared.entries.Definition.{Definition}
use Rattle.gem_shapes.specs.declared.entries.Linking.{Linking}
use Rattle.gem_shapes.specs.declared.entries.RuleEntry.{RuleEntry}
use Rattle.gem_tables.specs.History.{newest}
use Rattle.gem_tables.proofs.Looking.{looked_up}
use Rattle.gem_vars.specs.declared.plan.ConstantPlan.{ConstantPlan}
use Rattle.gem_vars.specs.declared.settings.Eac.{Eac}
use Rattle.gem_vars.specs.declared.settings.Eac.TheVariants as eac
use Rattle.gem_vars.specs.History.{VarsEntry, constant_after, constant_at, constant_from, vars_at, with_settings}
use Rattle.gem_vars.specs.History.VarsEntry.{SetConstant}
use Rattle.gem_vars.specs.Plan.{all_constants}
use Rattle.gem_vars.specs.Settings.{eac_of, entry_fault, range_fault}
use Rattle.gem_vars.specs.Tables.{value_in}
use Rattle.setup_store.specs.declared.change.Change.{Change}
use Rattle.setup_store.specs.declared.change.Change.TheVariants as change
use Rattle.setup_store.specs.Entries.{Entry}
use Rattle.setup_store.specs.Kept.{are_among, change_by, ids_of, is_of, named_by, takes_out, tells}
use Rattle.spool_rule.specs.declared.rule.RuleAnswer.{RuleAnswer}
use Rattle.spool_rule.specs.declared.rule.RuleAnswer.TheVariants.{Rejected, Replaced}
use Rattle.spool_rule.specs.Rule.{answer_of}
use Rattle.equipment_tables.specs.declared.plan.EquipmentPlan.{EquipmentPlan}
use Rattle.equipment_tables.specs.Answers.{eac_code}
use Rattle.equipment_tables.specs.Past.{Entries, alarms_count, constants_count, definitions_count, events_count, linkings_count, rule_counts, vars_by}
use Rattle.equipment_tables.proofs.ChangeFunctions.{kin, taken_is_kin}
use Rattle.equipment_tables.proofs.CountedChanges.{counted_by, is_counted}

-- ---- a change counts among the entries of its own table alone

pub constants_alone :
    (a : Eac) (list : List (ℕ × ℕ)) (e : Entries)
    → constants_count a list e ≡ record e { vars = (constants_count a list e).vars }
constants_alone eac.Done list e = refl
constants_alone (eac.Unknown ecid) list e = refl
constants_alone (eac.OutOfRange ecid) list e = refl

pub definitions_alone :
    (a : Drack) (list : List Definition) (e : Entries)
    → definitions_count a list e ≡ record e { reports = (definitions_count a list e).reports }
definitions_alone drack.Done list e = refl
definitions_alone drack.NoSpace list e = refl
definitions_alone (drack.Defined rptid) list e = refl
definitions_alone (drack.UnknownVid vid) list e = refl

pub linkings_alone :
    (a : Lrack) (list : List Linking) (e : Entries)
    → linkings_count a list e ≡ record e { reports = (linkings_count a list e).reports }
linkings_alone lrack.Done list e = refl
linkings_alone lrack.NoSpace list e = refl
linkings_alone (lrack.Linked ceid) list e = refl
linkings_alone (lrack.UnknownCeid ceid) list e = refl
linkings_alone (lrack.UnknownRptid rptid) list e = refl

pub events_alone :
    (a : Erack) (on : Bool) (ceids : List ℕ) (e : Entries)
    → events_count a on ceids e ≡ record e { reports = (events_count a on ceids e).reports }
events_alone erack.Done on ceids e = refl
events_alone (erack.Unknown ceid) on ceids e = refl

pub alarms_alone :
    (a : Ackc5) (alid : Option ℕ) (on : Bool) (e : Entries)
    → alarms_count a alid on e ≡ record e { alarms = (alarms_count a alid on e).alarms }
alarms_alone ackc5.Done alid on e = refl
alarms_alone (ackc5.Unknown n) alid on e = refl

pub rule_alone :
    (a : RuleAnswer) (list : List RuleEntry) (e : Entries)
    → rule_counts a list e ≡ record e { rules = (rule_counts a list e).rules }
rule_alone Replaced list e = refl
rule_alone (Rejected faults) list e = refl

-- ---- which identifiers are among others

all_at :
    (test : ℕ → Bool) (n : ℕ) (xs : List ℕ) → list_all test xs ≡ true → list_any (nat_eq n) xs ≡ true → test n ≡ true
all_at test n [] all any = absurd (cc)
all_at test n (x ∷ xs) all any =
    go (all_at test n xs (and_parts (test x) (list_all test xs) all).1) (nat_eq n x) refl any
  where
    go : (list_any (nat_eq n) xs ≡ true → test n ≡ true) → (b : Bool) → nat_eq n x ≡ b
        → (b || list_any (nat_eq n) xs) ≡ true → test n ≡ true
    go next true same here = ap test (eqb-true n x same) ∙ (and_parts (test x) (list_all test xs) all).0
    go next false other rest = next rest

-- what isn't named isn't among them
pub not_among :
    (ids others : List ℕ) (n : ℕ) → are_among ids others ≡ true → list_any (nat_eq n) ids ≡ false
    → list_any (nat_eq n) others ≡ false
not_among ids others n among none =
    false_from_ne_true (list_any (nat_eq n) others)
    (λ any.
    let all = and_parts (not (length others == 0)) (list_all (λ id. list_any (nat_eq id) ids) others) among in
    let there = all_at (λ id. list_any (nat_eq id) ids) n others all.1 any in cc)

or_true : (b : Bool) → (b || true) ≡ true
or_true true = refl
or_true false = refl

or_false : (b : Bool) → (b || false) ≡ b
or_false true = refl
or_false false = refl

-- nothing is said in either case
pub quiet : {X : Type 0} (b : Bool) (o : Option X) → o ≡ None → cond b o None ≡ None
quiet true o none = none
quiet false o none = refl

none_of : {X : Type 0} (o : Option X) → is_some o ≡ false → o ≡ None
none_of None none = refl
none_of (Some x) none = absurd (cc)

some_off : {A : Type 0} (x : A) (list : List A) → not (length (x ∷ list) == 0) ≡ false → ⊥
some_off x list off = go (length (x ∷ list) == 0) refl off
  where
    go : (b : Bool) → (length (x ∷ list) == 0) ≡ b → not b ≡ false → ⊥
    go true none off = omega (arith, eqb-true (length (x ∷ list)) 0 none)
    go false some off = cc

-- ---- a constant

module _ (plan : EquipmentPlan) (planned : ConstantPlan) where
  abbrev set_in : Option ℕ → ℕ × ℕ → Option ℕ
  set_in so_far x = cond (nat_eq x.0 planned.ecid) (Some x.1) so_far

  abbrev last_setting : List (ℕ × ℕ) → Option ℕ
  last_setting list = fold set_in None list

  abbrev pub said_constant : Option Change → Option ℕ
  said_constant (Some (change.Constants list)) =
      cond (eac_code (eac_of (vars_at plan.vars []) list) == 0) (last_setting list) None
  said_constant _ = None

  abbrev pub constant_by : Entries → ℕ
  constant_by e = constant_at e.vars planned

  settings_at :
      (list : List (ℕ × ℕ)) (past : List VarsEntry) (o : Option ℕ) (v : ℕ)
      → newest (constant_from planned.ecid) planned.value past ≡ unwrap_or o v
      → newest (constant_from planned.ecid) planned.value (with_settings list past) ≡ unwrap_or (fold set_in o list) v
  settings_at [] past o v same = same
  settings_at (x ∷ list) past o v same =
      settings_at list (SetConstant x.0 x.1 ∷ past) (set_in o x) v (go (nat_eq x.0 planned.ecid))
    where
      go : (b : Bool)
          → unwrap_or (cond b (Some x.1) None) (newest (constant_from planned.ecid) planned.value past)
          ≡ unwrap_or (cond b (Some x.1) o) v
      go true = refl
      go false = same

  -- whether it is set is whether it is named
  set_named :
      (list : List (ℕ × ℕ)) (o : Option ℕ)
      → is_some (fold set_in o list) ≡ (is_some o || list_any (nat_eq planned.ecid) (map (λ x. x.0) list))
  set_named [] o = sym (or_false (is_some o))
  set_named (x ∷ list) o =
      set_named list (set_in o x) ∙ go (nat_eq x.0 planned.ecid) (nat_eq_equiv.symm planned.ecid x.0)
    where
      rest : Bool
      rest = list_any (nat_eq planned.ecid) (map (λ y. y.0) list)

      go : (b : Bool) → nat_eq planned.ecid x.0 ≡ b
          → (is_some (cond b (Some x.1) o) || rest) ≡ (is_some o || (nat_eq planned.ecid x.0 || rest))
      go true same = sym (ap (λ t. is_some o || (t || rest)) same ∙ or_true (is_some o))
      go false other = sym (ap (λ t. is_some o || (t || rest)) other)

  fault_same :
      (past : List VarsEntry) (x : ℕ × ℕ)
      → entry_fault (vars_at plan.vars past) x ≡ entry_fault (vars_at plan.vars []) x
  fault_same past x =
      ap (λ o. option_map_or (range_fault x.0 x.1) o (Some (eac.Unknown x.0)))
      (looked_up (λ (p : ConstantPlan). p.ecid) (constant_after past) (all_constants plan.vars) x.0)
      ∙ go (find (λ (p : ConstantPlan). nat_eq x.0 p.ecid) (all_constants plan.vars))
      ∙ sym (ap (λ o. option_map_or (range_fault x.0 x.1) o (Some (eac.Unknown x.0)))
      (looked_up (λ (p : ConstantPlan). p.ecid) (constant_after []) (all_constants plan.vars) x.0))
    where
      go : (o : Option ConstantPlan)
          → option_map_or (range_fault x.0 x.1) (option_map (constant_after past) o) (Some (eac.Unknown x.0))
          ≡ option_map_or (range_fault x.0 x.1) (option_map (constant_after []) o) (Some (eac.Unknown x.0))
      go None = refl
      go (Some p) = refl

  -- the plan alone judges
  eac_first :
      (past : List VarsEntry) (list : List (ℕ × ℕ))
      → eac_of (vars_at plan.vars past) list ≡ eac_of (vars_at plan.vars []) list
  eac_first past [] = refl
  eac_first past (x ∷ list) =
      ap (λ o. unwrap_or o (eac_of (vars_at plan.vars past) list)) (fault_same past x)
      ∙ ap (unwrap_or (entry_fault (vars_at plan.vars []) x)) (eac_first past list)

  pub one_constant :
      (o : Option Change) (e : Entries)
      → constant_by (counted_by plan o e) ≡ unwrap_or (said_constant o) (constant_by e)
  one_constant None e = refl
  one_constant (Some (change.Constants list)) e =
      go (eac_of (vars_by plan e) list)
      ∙ ap (λ (a : Eac). unwrap_or (cond (eac_code a == 0) (last_setting list) None) (constant_by e))
      (eac_first e.vars list)
    where
      go : (a : Eac)
          → constant_by (constants_count a list e)
          ≡ unwrap_or (cond (eac_code a == 0) (last_setting list) None) (constant_by e)
      go eac.Done = settings_at list e.vars None (constant_by e) refl
      go (eac.Unknown ecid) = refl
      go (eac.OutOfRange ecid) = refl
  one_constant (Some (change.Definitions list)) e =
      ap constant_by (definitions_alone (drack_of (value_in (vars_by plan e)) e.reports list) list e)
  one_constant (Some (change.Linkings list)) e =
      ap constant_by (linkings_alone (lrack_of plan.events e.reports list) list e)
  one_constant (Some (change.Events on ceids)) e = ap constant_by (events_alone (erack_of plan.events ceids) on ceids e)
  one_constant (Some (change.Rule list)) e = ap constant_by (rule_alone (answer_of list) list e)
  one_constant (Some (change.Alarms on alid)) e =
      ap constant_by (alarms_alone (ackc5_of (alarms_at plan.alarms e.alarms) alid) alid on e)

  -- what a change of another function takes out says nothing of it
  other_constant :
      (c : Change) (x : Entry) → ((list : List (ℕ × ℕ)) → kin c (change.Constants list) ≡ false)
      → takes_out c x ≡ true → said_constant (change_by x) ≡ None
  other_constant c x apart out = go (change_by x) refl
    where
      go : (o : Option Change) → change_by x ≡ o → said_constant o ≡ None
      go None is = refl
      go (Some (change.Constants list)) is =
          absurd (let same = sym (taken_is_kin c (change.Constants list) x out is) ∙ apart list in cc)
      go (Some _) is = refl

  pub out_constant :
      (c : Change) (e : Entries) → is_counted plan c e ≡ true → (x : Entry) → takes_out c x ≡ true
      → is_some (said_constant (Some c)) ≡ false → said_constant (change_by x) ≡ None
  out_constant (change.Constants list) e counts x out none = go (change_by x) refl
    where
      ids : List ℕ
      ids = map (λ (y : ℕ × ℕ). y.0) list

      done : (eac_code (eac_of (vars_at plan.vars []) list) == 0) ≡ true
      done = ap (λ (a : Eac). eac_code a == 0) (sym (eac_first e.vars list)) ∙ counts

      unnamed : list_any (nat_eq planned.ecid) ids ≡ false
      unnamed =
          sym (set_named list None)
          ∙ ap (λ b. is_some (cond b (last_setting list) None)) (sym done) ∙ none

      go : (o : Option Change) → change_by x ≡ o → said_constant o ≡ None
      go None is = refl
      go (Some (change.Constants other)) is =
          let among = (and_parts (is_of 2 15 x) (are_among ids (named_by x)) out).1 in
          let among_those : are_among ids (map (λ y. y.0) other) ≡ true =
          ap (λ o. are_among ids (option_map_or ids_of o [])) (sym is) ∙ among in
          quiet (eac_code (eac_of (vars_at plan.vars []) other) == 0) (last_setting other)
          (none_of (last_setting other)
          (set_named other None ∙ not_among ids (map (λ y. y.0) other) planned.ecid among_those unnamed))
      go (Some _) is = refl
  out_constant (change.Definitions list) e counts x out none =
      other_constant (change.Definitions list) x (λ other. refl) out
  out_constant (change.Linkings list) e counts x out none =
      other_constant (change.Linkings list) x (λ other. refl) out
  out_constant (change.Events on ceids) e counts x out none =
      other_constant (change.Events on ceids) x (λ other. refl) out
  out_constant (change.Rule list) e counts x out none = other_constant (change.Rule list) x (λ other. refl) out
  out_constant (change.Alarms on alid) e counts x out none =
      other_constant (change.Alarms on alid) x (λ other. refl) out

  pub quiet_constant : (c : Change) → tells c ≡ false → said_constant (Some c) ≡ None
  quiet_constant (change.Constants []) off = refl
  quiet_constant (change.Constants (x ∷ list)) off = absurd (some_off x list off)
  quiet_constant _ off = refl
