-- What is known of a link's next event.
use Rattle.std.proofs.Common.{◌≡◌, ℕ, ◌+◌, ◌<◌, ◌≤◌, ◌^◌, ◌-◌, ◌⊎◌, List, [], ◌∷◌, ◌++◌, length, drop, min, Some}
use Rattle.std.proofs.Common.{refl, sym, ap, subst, ◌∙◌, inl, inr, arith}
use Rattle.std.proofs.lemmas.List.{drop-drop, drop_min}
use Rattle.std.proofs.lemmas.Bool.{cases_lt}
use Rattle.gl_base.specs.Events.{AreEventsFrom, moment_after}
use Rattle.gl_base.specs.Link.{HasPollCause, IsCarriedOn, IsFirstOf, IsTimely, LinkContents, LinkHealth}
use Rattle.gl_base.specs.Link.{contents_after_poll, told_after_poll}
use Rattle.gl_base.specs.MemLink.{next_event}
use Rattle.gl_base.specs.declared.link.LinkIn.{LinkIn}
use Rattle.gl_base.specs.declared.link.LinkIn.TheVariants.{Char, Quiet, Closed, Failed}
use Rattle.gl_base.specs.declared.link.LinkEntry.TheVariants.{Polled}

-- events from a moment on may also come from the connection on
pub after_connection : (before : ℕ) (events : List LinkIn) → AreEventsFrom before events → AreEventsFrom 0 events
after_connection before [] are = tt
after_connection before (Char byte moment ∷ events) are = ((omega arith, are.0.1), are.1)
after_connection before (Quiet moment ∷ events) are =
    (((omega arith, are.0.0.1), λ early. omega (arith, are.0.1 early)), are.1)
after_connection before (Closed ∷ events) are = absurd are.0
after_connection before (Failed ∷ events) are = absurd are.0

-- what is known of the event that comes next, when a poll answers with it
pub record IsNext (before : ℕ) (left : List LinkIn) (answer : LinkIn) : Type 0 where
  pub first : IsFirstOf left answer
  pub time : (until : ℕ) → until < 2 ^ 62 → IsTimely until before answer
  pub rest : AreEventsFrom (moment_after before answer) (drop 1 left)
  pub told : (until : ℕ) (old new : LinkContents) → new.entries ≡ old.entries ++ Polled until answer ∷ [] →
      new.left ≡ drop 1 old.left → Some new ≡ told_after_poll until answer (Some old)
  pub good : (health now : LinkHealth) → IsCarriedOn health now 1 → HasPollCause health now answer

contents_are : (answer : LinkIn) (until : ℕ) (old new : LinkContents) →
    new.entries ≡ old.entries ++ Polled until answer ∷ [] → new.left ≡ drop 1 old.left →
    Some new ≡ Some (contents_after_poll until answer old)
contents_are answer until old new entries left =
    ap (λ e. Some (record { entries = e; left = new.left })) entries
    ∙ ap (λ l. Some (record { entries = old.entries ++ Polled until answer ∷ []; left = l })) left

quiet_time : (until before moment : ℕ) → until < 2 ^ 62 → (moment < 2 ^ 62 - 1 → before < moment) →
    (moment < 2 ^ 62 - 1) ⊎ (2 ^ 62 - 1 ≤ moment) → (until ≤ moment) ⊎ (before < moment)
quiet_time until before moment e late (inl early) = inr (late early)
quiet_time until before moment e late (inr at_end) = inl (omega arith)

next_event_is : (before : ℕ) (left : List LinkIn) → AreEventsFrom before left → IsNext before left (next_event left)
next_event_is before [] are = record {
  first = refl;
  time = λ until e. tt;
  rest = tt;
  told = contents_are _;
  good = λ health now carried. carried;
}
next_event_is before (Char byte moment ∷ events) are = record {
  first = refl;
  time = λ until e. are.0;
  rest = are.1;
  told = contents_are _;
  good = λ health now carried. carried;
}
next_event_is before (Quiet moment ∷ events) are = record {
  first = refl;
  time = λ until e. (are.0.0, quiet_time until before moment e are.0.1 (cases_lt moment (2 ^ 62 - 1)));
  rest = are.1;
  told = contents_are _;
  good = λ health now carried. carried;
}
next_event_is before (Closed ∷ events) are = absurd are.0
next_event_is before (Failed ∷ events) are = absurd are.0

pub next_is : (before : ℕ) (left : List LinkIn) (answer : LinkIn) → answer ≡ next_event left →
    AreEventsFrom before left → IsNext before left answer
next_is before left answer e are = subst (IsNext before left) (sym e) (next_event_is before left are)

-- one event more is used up, where one is left
pub drop_next : (events : List LinkIn) (taken after : ℕ) → after ≡ min (taken + 1) (length events) →
    drop after events ≡ drop 1 (drop taken events)
drop_next events taken after e =
    ap (λ n. drop n events) e ∙ drop_min (taken + 1) events ∙ sym (drop-drop 1 taken events)

pub same_events : (moment now : ℕ) (events left : List LinkIn) → now ≡ moment → left ≡ events →
    AreEventsFrom moment events → AreEventsFrom now left
same_events moment now events left e same are =
    subst (AreEventsFrom now) (sym same) (subst (λ m. AreEventsFrom m events) (sym e) are)
