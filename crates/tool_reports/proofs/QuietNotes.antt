-- Notes of which nothing is said where reports are spoken of, and what follows behind others.
use Rattle.std.proofs.Common.{not, nat_eq, ◌≡◌, refl, sym, ap, subst, ◌∙◌, inl, inr, ◌⊎◌, ◌<◌, ◌+◌, arith, Bool, true, false, ℕ, ◌==◌, ◌&&◌, ◌||◌, List, [], ◌∷◌, ◌++◌, length, Option, Some, None, cond, if◌then◌else◌}
use Rattle.std.specs.List.{list_any}
use Rattle.std.specs.Prelude.{drop, filter}
use Rattle.gem_shapes.proofs.ReportPrimaries.{is_report}
use Rattle.message_flow.specs.declared.message.Message.{Message}
use Rattle.setup_law.proofs.Notes.{Rests, other-rests}
use Rattle.setup_law.specs.Setup.{Change, KeepsSetup, change_of, list_behind, list_in}
use Rattle.setup_law.specs.Setup.Change.{Other}
use Rattle.setup_store.specs.Entries.{Entry}
use Rattle.trace_log.specs.Log.{Happening}
use Rattle.trace_log.specs.Names.{KeptPrimary}
use Rattle.message_end.specs.Course.{noted_behind}
use Rattle.message_end.specs.Own.{Has}
use Rattle.equipment_tables.specs.declared.plan.EquipmentPlan.{EquipmentPlan}
use Rattle.equipment_tables.specs.Setup.{accepts_primary, asked_of}
use Rattle.tool_reports.specs.Reported.{HoldsItsValues, IsBrought, IsInPlace, IsReported, Reported, due_behind, events_in, is_answer, is_brought, is_event_report, is_live, is_of, next_dataid, past_in, reports_in, tables_in, to_carry, tries_in}

-- ---- the messages of which something is said

-- none of the three
pub record IsNone (message : Message) : Type 0 where
  pub s6f11 : is_of 6 11 message ≡ false
  pub s6f16 : is_of 6 16 message ≡ false
  pub s6f20 : is_of 6 20 message ≡ false

pub none-of : (message : Message) → is_report message.stream message.function ≡ false → IsNone message
none-of message none =
    go (message.stream == 6) (message.function == 11) (message.function == 16) (message.function == 20) refl refl refl
    refl none
  where
    go : (a b c d : Bool) → (message.stream == 6) ≡ a → (message.function == 11) ≡ b → (message.function == 16) ≡ c
        → (message.function == 20) ≡ d → (a && (b || (c || d))) ≡ false → IsNone message
    go true true c d ea eb ec ed is = absurd (cc)
    go true false true d ea eb ec ed is = absurd (cc)
    go true false false true ea eb ec ed is = absurd (cc)
    go true false false false ea eb ec ed is = record {
      s6f11 = ap (λ (b : Bool). (message.stream == 6) && b) eb ∙ ap (λ (a : Bool). a && false) ea;
      s6f16 = ap (λ (b : Bool). (message.stream == 6) && b) ec ∙ ap (λ (a : Bool). a && false) ea;
      s6f20 = ap (λ (b : Bool). (message.stream == 6) && b) ed ∙ ap (λ (a : Bool). a && false) ea;
    }
    go false b c d ea eb ec ed is = record {
      s6f11 = ap (λ (a : Bool). a && (message.function == 11)) ea;
      s6f16 = ap (λ (a : Bool). a && (message.function == 16)) ea;
      s6f20 = ap (λ (a : Bool). a && (message.function == 20)) ea;
    }

-- what is no S6F11 is none that goes out
pub never-live : (message : Message) (notes : List Happening) → is_of 6 11 message ≡ false
    → is_live message notes ≡ false
never-live message notes none =
    ap (λ (b : Bool). b && not (list_any (nat_eq message.system) (tries_in notes))) none

pub nothing-said :
    (plan : EquipmentPlan) (message : Message) (before : List Happening) → IsNone message → is_answer message ≡ false
    → HoldsItsValues plan message before
nothing-said plan message before none answer = record {
  s6f11 = λ is. let e = never-live message before none.s6f11 in absurd (cc);
  s6f16 = λ is. let e = none.s6f16 in absurd (cc);
  s6f20 = λ is. let e = none.s6f20 in absurd (cc);
  reply = λ is. absurd (cc);
}

-- ---- notes of a setup

-- one that no entry of a setup is carried out by
abbrev pub IsNoEntry : Happening → Type 0
IsNoEntry (Happening.Recorded entry) = ⊥
IsNoEntry Happening.Refused = ⊥
IsNoEntry _ = Unit {0}

-- it is as its kind says
pub as-said : (plan : EquipmentPlan) (what : Happening) (before : List Happening) → IsNoEntry what
    → Reported plan (what ∷ before) → IsReported plan what before
as-said plan what before unlike reported = go (to_carry before) reported.0
  where
    none : (entry : KeptPrimary) (accepted : Bool)
        → IsNoEntry (if accepted then Happening.Recorded (asked_of entry) else Happening.Refused) → ⊥
    none entry true unlike_one = unlike_one
    none entry false unlike_one = unlike_one

    go : (left : List KeptPrimary) → IsInPlace plan left what before → IsReported plan what before
    go [] placed = placed.1
    go (entry ∷ left) placed =
        absurd (none entry (accepts_primary (tables_in plan before) entry) (subst IsNoEntry placed unlike))

-- ---- quiet notes

-- one that isn't of what a start finds of its setup
abbrev pub IsNoSetup : Happening → Type 0
IsNoSetup (Happening.Setup found) = ⊥
IsNoSetup _ = Unit {0}

-- nothing is read off such a note, and no command brings it
abbrev pub IsQuietNote : Happening → Type 0
IsQuietNote (Happening.EquipmentStarted found base) = ⊥
IsQuietNote (Happening.Setup found) = ⊥
IsQuietNote (Happening.Keeping primary) = ⊥
IsQuietNote (Happening.Kept primary) = ⊥
IsQuietNote (Happening.Set vid) = ⊥
IsQuietNote (Happening.Event ceid dataid) = ⊥
IsQuietNote (Happening.Alarm alid is_set) = ⊥
IsQuietNote Happening.Refused = ⊥
IsQuietNote (Happening.Recorded entry) = ⊥
IsQuietNote (Happening.Try number system) = ⊥
IsQuietNote (Happening.Storing number message) = is_event_report message ≡ false
IsQuietNote (Happening.Sent message) =
    (is_report message.stream message.function ≡ false) × (is_answer message ≡ false)
IsQuietNote _ = Unit {0}

-- each note is right, no command still waits for the note that it brings, and no setup is left to be carried out
pub record AreInPlace (plan : EquipmentPlan) (notes : List Happening) : Type 0 where
  pub reported : Reported plan notes
  pub none_due : due_behind plan notes ≡ None
  pub none_left : to_carry notes ≡ []

-- the law of the setup holds, with nothing due, and with no primary being kept
abbrev pub AreResting : EquipmentPlan → Option (List Entry) → List Happening → Type 0
AreResting plan held notes = Rests plan held (list_in held notes) notes

-- so they are; and where the law of the setup holds up to what the newest start has found, over a file that held such a
-- list before, it holds since
pub record AreSettled (plan : EquipmentPlan) (start notes : List Happening) : Type 0 where
  pub placed : AreInPlace plan notes
  pub rests : (held : Option (List Entry)) → KeepsSetup plan held start → AreResting plan held notes

-- a note that tells nothing of the setup
pub still-rests :
    (plan : EquipmentPlan) (what : Happening) (notes : List Happening) → change_of what ≡ Other
    → (held : Option (List Entry)) → AreResting plan held notes → AreResting plan held (what ∷ notes)
still-rests plan what notes other held at =
    subst (λ (c : Change). Rests plan held (list_behind c (list_in held notes)) (what ∷ notes)) (sym other)
    (other-rests plan held (list_in held notes) what notes other at)

-- a note that is as its kind says, where no setup is left to be carried out
pub in-place :
    (plan : EquipmentPlan) (what : Happening) (notes : List Happening) → to_carry notes ≡ []
    → IsBrought plan what notes → IsReported plan what notes → IsInPlace plan (to_carry notes) what notes
in-place plan what notes none brought right =
    subst (λ (left : List KeptPrimary). IsInPlace plan left what notes) (sym none) (brought, right)

-- behind that none is left either, but by the note of a setup
pub none-more : (what : Happening) (notes : List Happening) → IsNoSetup what → to_carry notes ≡ []
    → to_carry (what ∷ notes) ≡ []
none-more (Happening.Setup found) notes unlike none = absurd unlike
none-more (Happening.Recorded entry) notes unlike none = ap (λ (left : List KeptPrimary). drop 1 left) none
none-more Happening.Refused notes unlike none = ap (λ (left : List KeptPrimary). drop 1 left) none
none-more what notes unlike none = refl

-- a note more that no command brings, and which is none
pub placed-more :
    (plan : EquipmentPlan) (what : Happening) (notes : List Happening) → IsNoSetup what → is_brought what ≡ false
    → IsReported plan what notes → due_behind plan (what ∷ notes) ≡ None → AreInPlace plan notes
    → AreInPlace plan (what ∷ notes)
placed-more plan what notes unlike other right none so = record {
  reported = (
    in-place plan what notes so.none_left
        (ap (λ (b : Bool). if b then Some what else None) other ∙ sym so.none_due) right,
    so.reported,
  );
  none_due = none;
  none_left = none-more what notes unlike so.none_left;
}

-- and leaves the setup at rest
pub settled-more :
    (plan : EquipmentPlan) (start : List Happening) (what : Happening) (notes : List Happening) → IsNoSetup what
    → is_brought what ≡ false → IsReported plan what notes → due_behind plan (what ∷ notes) ≡ None
    → ((held : Option (List Entry)) → AreResting plan held notes → AreResting plan held (what ∷ notes))
    → AreSettled plan start notes → AreSettled plan start (what ∷ notes)
settled-more plan start what notes unlike other right none rest so = record {
  placed = placed-more plan what notes unlike other right none so.placed;
  rests = λ held keeps. rest held (so.rests held keeps);
}

-- all that is read off the notes is as it was, and what was said of them is said still
pub record IsAsBefore (old new : List Happening) : Type 0 where
  pub past : past_in new ≡ past_in old
  pub kept : (held : Option (List Entry)) → list_in held new ≡ list_in held old
  pub events : events_in new ≡ events_in old
  pub reports : reports_in new ≡ reports_in old
  pub next : next_dataid new ≡ next_dataid old
  pub tries : tries_in new ≡ tries_in old
  pub keeps : (plan : EquipmentPlan) (start : List Happening) → AreSettled plan start old → AreSettled plan start new

pub as-it-was : (notes : List Happening) → IsAsBefore notes notes
as-it-was notes =
    record {
      past = refl;
      kept = λ held. refl;
      events = refl;
      reports = refl;
      next = refl;
      tries = refl;
      keeps = λ plan start so. so;
    }

pub as-before-both : (one two three : List Happening) → IsAsBefore one two → IsAsBefore two three → IsAsBefore one three
as-before-both one two three first second = record {
  past = second.past ∙ first.past;
  kept = λ held. second.kept held ∙ first.kept held;
  events = second.events ∙ first.events;
  reports = second.reports ∙ first.reports;
  next = second.next ∙ first.next;
  tries = second.tries ∙ first.tries;
  keeps = λ plan start so. second.keeps plan start (first.keeps plan start so);
}

-- a message of which nothing is said
pub none-sent : (message : Message) → IsNone message → is_answer message ≡ false → (notes : List Happening)
    → IsAsBefore notes (Happening.Sent message ∷ notes)
none-sent message none answer notes = record {
  past = refl;
  kept = λ held. refl;
  events = refl;
  reports =
      ap (λ (b : Bool). if b then message.body ∷ reports_in notes else reports_in notes)
      (never-live message notes none.s6f11);
  next = refl;
  tries = refl;
  keeps = λ plan start so.
      settled-more plan start (Happening.Sent message) notes tt refl (nothing-said plan message notes none answer) refl
      (still-rests plan (Happening.Sent message) notes refl) so;
}

-- a note of which nothing is said
quietly :
    (what : Happening) (notes : List Happening) → IsNoSetup what → past_in (what ∷ notes) ≡ past_in notes
    → change_of what ≡ Other → events_in (what ∷ notes) ≡ events_in notes → reports_in (what ∷ notes) ≡ reports_in notes
    → next_dataid (what ∷ notes) ≡ next_dataid notes → tries_in (what ∷ notes) ≡ tries_in notes
    → is_brought what ≡ false
    → ((plan : EquipmentPlan) → IsReported plan what notes)
    → ((plan : EquipmentPlan) → due_behind plan (what ∷ notes) ≡ None) → IsAsBefore notes (what ∷ notes)
quietly what notes unlike past calm events reports next tries other right none = record {
  past = past;
  kept = λ held. ap (λ (c : Change). list_behind c (list_in held notes)) calm;
  events = events;
  reports = reports;
  next = next;
  tries = tries;
  keeps = λ plan start so.
      settled-more plan start what notes unlike other (right plan) (none plan) (still-rests plan what notes calm) so;
}

pub quiet-note : (what : Happening) → IsQuietNote what → (notes : List Happening) → IsAsBefore notes (what ∷ notes)
quiet-note (Happening.EquipmentStarted found base) quiet notes = absurd quiet
quiet-note (Happening.Setup found) quiet notes = absurd quiet
quiet-note (Happening.Keeping primary) quiet notes = absurd quiet
quiet-note (Happening.Kept primary) quiet notes = absurd quiet
quiet-note (Happening.Sent message) quiet notes = none-sent message (none-of message quiet.0) quiet.1 notes
quiet-note (Happening.Set vid) quiet notes = absurd quiet
quiet-note (Happening.Event ceid dataid) quiet notes = absurd quiet
quiet-note (Happening.Alarm alid set) quiet notes = absurd quiet
quiet-note Happening.Refused quiet notes = absurd quiet
quiet-note (Happening.Storing number message) quiet notes =
    quietly (Happening.Storing number message) notes tt refl refl refl refl refl refl refl
    (λ plan is. absurd (cc)) (λ plan. refl)
quiet-note (Happening.Try number system) quiet notes = absurd quiet
quiet-note (Happening.Recorded past) quiet notes = absurd quiet
quiet-note what quiet notes = quietly what notes tt refl refl refl refl refl refl refl (λ plan. tt) (λ plan. refl)

-- ---- notes behind notes

pub one-behind : (notes : List Happening) (what : Happening) (before : List Happening)
    → noted_behind (notes ++ what ∷ []) before ≡ what ∷ noted_behind notes before
one-behind [] what before = refl
one-behind (first ∷ notes) what before = one-behind notes what (first ∷ before)

-- at most one quiet note more, in a step
abbrev pub AddsQuiet : List Happening → List Happening → Type 0
AddsQuiet old new = (new ≡ old) ⊎ ((what : Happening) × IsQuietNote what × (new ≡ old ++ what ∷ []))

-- one note more at most, behind which all is as it was
abbrev pub Follows : List Happening → List Happening → List Happening → Type 0
Follows before old new =
    (new ≡ old)
    ⊎ ((what : Happening) × IsAsBefore (noted_behind old before) (what ∷ noted_behind old before)
    × (new ≡ old ++ what ∷ []))

pub follows : (before old new : List Happening) → Follows before old new
    → IsAsBefore (noted_behind old before) (noted_behind new before)
follows before old new (inl same) =
    subst (λ (l : List Happening). IsAsBefore (noted_behind old before) (noted_behind l before)) (sym same)
    (as-it-was (noted_behind old before))
follows before old new (inr adds) =
    subst (λ (l : List Happening). IsAsBefore (noted_behind old before) l)
    (sym (ap (λ (l : List Happening). noted_behind l before) adds.2 ∙ one-behind old adds.0 before)) adds.1

pub adds-quiet : (before old new : List Happening) → AddsQuiet old new
    → IsAsBefore (noted_behind old before) (noted_behind new before)
adds-quiet before old new (inl same) =
    subst (λ (l : List Happening). IsAsBefore (noted_behind old before) (noted_behind l before)) (sym same)
    (as-it-was (noted_behind old before))
adds-quiet before old new (inr adds) =
    subst (λ (l : List Happening). IsAsBefore (noted_behind old before) l)
    (sym (ap (λ (l : List Happening). noted_behind l before) adds.2 ∙ one-behind old adds.0 before))
    (quiet-note adds.0 adds.1 (noted_behind old before))

-- ---- counts

abbrev pub one : Bool → ℕ
one true = 1
one false = 0

pub counted : {X : Type 0} (test : X → Bool) (x : X) (xs : List X)
    → length (filter test (x ∷ xs)) ≡ one (test x) + length (filter test xs)
counted {X} test x xs = go (test x)
  where
    go : (b : Bool) → length (cond b (x ∷ filter test xs) (filter test xs)) ≡ one b + length (filter test xs)
    go true = omega arith
    go false = omega arith

pub counted-last : {X : Type 0} (test : X → Bool) (xs : List X) (x : X)
    → length (filter test (xs ++ x ∷ [])) ≡ length (filter test xs) + one (test x)
counted-last test [] x = let e = counted test x [] in omega (arith, e)
counted-last test (y ∷ xs) x =
    let first = counted test y (xs ++ x ∷ []) in
    let again = counted test y xs in
    let rest = counted-last test xs x in
    omega (arith, first, again, rest)

-- where some are counted there is one
pub some-passes : {X : Type 0} (test : X → Bool) (xs : List X) → 0 < length (filter test xs)
    → (x : X) × Has xs x × (test x ≡ true)
some-passes test [] some = absurd (omega (arith, some))
some-passes {X} test (y ∷ xs) some = go (test y) refl some (some-passes test xs)
  where
    go : (b : Bool) → test y ≡ b → 0 < length (cond b (y ∷ filter test xs) (filter test xs))
        → (0 < length (filter test xs) → (x : X) × Has xs x × (test x ≡ true))
        → (x : X) × Has (y ∷ xs) x × (test x ≡ true)
    go true is more next = (y, inl refl, is)
    go false is more next = let found = next more in (found.0, inr found.1, found.2)
