-- What a poll brings, and what an end is told.
use Rattle.std.proofs.Common.{◌≡◌, ◌≢◌, ℕ, Bool, ◌+◌, ◌<◌, ◌≤◌, arith, length, get_or, drop-cons, add-one, List, [], ◌∷◌, ◌++◌, append-nil, drop, Option, Some, None, inr, refl, sym, ap, subst, ◌∙◌}
use Rattle.std.proofs.lemmas.List.{drop-drop, length-drop}
use Rattle.std.proofs.lemmas.List.Sums.{prefix_len-le-length}
use Rattle.gl_base.specs.Events.{moment_after}
use Rattle.gl_base.specs.Link.{HasPollCause, IsCarriedOn, IsToldAnswer, LinkContents, LinkHealth, told_after_poll}
use Rattle.gl_base.specs.Sink.{SinkHealth}
use Rattle.gl_base.specs.declared.link.LinkIn.{LinkIn}
use Rattle.gl_base.specs.declared.link.LinkIn.TheVariants as link
use Rattle.gl_base.specs.declared.side.Side.{Side}
use Rattle.gl_base.proofs.Appending.{wrote_nothing}
use Rattle.message_end.specs.declared.end.Stop.{Stop}
use Rattle.message_end.specs.Ends.{Input, Machine, MayTake}
use Rattle.message_end.specs.Ends.Input.{Char, Command, Time}
use Rattle.message_flow.specs.declared.step.StepOut.{StepOut}
use Rattle.trace_log.specs.Log.Happening.{Closed}
use Rattle.trace_log.specs.Text.{text_of}
use Rattle.end_run.specs.declared.ending.Ending.{Ending}
use Rattle.end_run.specs.declared.ending.Ending.TheVariants as ending
use Rattle.end_run.specs.Acts.{Act, MayAnswer}
use Rattle.end_run.specs.Acts.Act.{Polls}
use Rattle.end_run.specs.Calls.{EndsWith, HasTurned, IsPlainInput, Left}
use Rattle.end_run.specs.Commands.{Commands, Telling, MayTell, command_of, wait_until}
use Rattle.end_run.specs.Commands.Telling.{IsOther, Says, Stops, Tells}
use Rattle.end_run.specs.Outcome.{Comes, Did, IfOn, Lists, Runs}
use Rattle.end_run.specs.Pieces.{Piece, behind}
use Rattle.end_run.specs.Run.{closed, upon}
use Rattle.end_run.specs.Scenes.{Scene, StopAt, written}
use Rattle.end_run.specs.Script.{ScriptLine, due_count, is_due_line, later_lines}
use Rattle.end_run.specs.Steps.{entries_at, replied, stepped, tells}
use Rattle.end_run.proofs.Coming.{comes_after}
use Rattle.end_run.proofs.Joining.{did_none, room_none}
use Rattle.end_run.proofs.Stepping.{ends_does, with_link, with_out}

-- ---- a poll that was answered

abbrev polling : {S C : Type 0} → ℕ → LinkIn → Bool → List (Act S C)
polling until answer early = Polls until answer early ∷ []

polled_listed : (S C : Type 0) (l l' : Option LinkContents) (until : ℕ) (answer : LinkIn) (early : Bool)
    → answer ≢ link.Failed → IsToldAnswer l answer → l' ≡ told_after_poll until answer l
    → Lists l (polling {S = S} {C = C} until answer early) l'
polled_listed S C None l' until (link.Char byte now) early other next is = is
polled_listed S C None l' until (link.Quiet now) early other next is = is
polled_listed S C None l' until link.Closed early other next is = is
polled_listed S C (Some k) l' until (link.Char byte now) early other next is =
    subst (λ (after : Option LinkContents). Lists (Some k) (polling {S = S} {C = C} until
    (link.Char byte now) early) after) (sym is)
    (record { entries = refl; left = next })
polled_listed S C (Some k) l' until (link.Quiet now) early other next is =
    subst (λ (after : Option LinkContents). Lists (Some k) (polling {S = S} {C = C} until (link.Quiet now) early) after)
    (sym is)
    (record { entries = refl; left = next })
polled_listed S C (Some k) l' until link.Closed early other next is =
    subst (λ (after : Option LinkContents). Lists (Some k) (polling {S = S} {C = C} until link.Closed early) after)
    (sym is)
    (record { entries = refl; left = next ∙ sym (ap (λ (answers : List LinkIn). drop 1 answers) next) })
polled_listed S C l l' until link.Failed early other next is = absurd (other refl)

polled_carried : (h h' : LinkHealth) (answer : LinkIn) → answer ≢ link.Failed → HasPollCause h h' answer
    → IsCarriedOn h h' 1
polled_carried h h' (link.Char byte now) other cause = cause
polled_carried h h' (link.Quiet now) other cause = cause
polled_carried h h' link.Closed other cause = cause
polled_carried h h' link.Failed other cause = absurd (other refl)

polled_did : {S C : Type 0} (a : Scene S C) (l' : Option LinkContents) (m' : ℕ) (h' : LinkHealth) (until : ℕ)
    (answer : LinkIn) (early : Bool)
    → answer ≢ link.Failed → IsToldAnswer a.contents answer → l' ≡ told_after_poll until answer a.contents
    → MayAnswer early until a.moment answer → m' ≡ moment_after a.moment answer → HasPollCause a.link h' answer
    → Did a (with_link a l' m' h') (Polls until answer early ∷ [])
polled_did {S} {C} a l' m' h' until answer early other next told timely clock cause = record {
  made = record {
    linked = record {
      listed = polled_listed S C a.contents l' until answer early other next told;
      clock = clock;
      timely = (timely, tt);
    };
    carried = polled_carried a.link h' answer other cause;
    wrote = wrote_nothing;
  };
  end = refl;
  room = room_none a.room;
  stop = refl;
}

module _
    {E S C Q : Type 0} (known : E → Type 0) (left : S → Input C → ℕ → StepOut → Stop → E → Type 0) (end : E)
    (machine : Machine S C) (due : S → Option ℕ) (commands : Commands Q C) (side : Side) (a : Scene S C)
    (c : Option (StopAt S C) → Scene S C) (l' : Option LinkContents) (m' : ℕ) (h' : LinkHealth)
    (before after : Left S Q) (until : ℕ) (deadline : Option ℕ) (coming : Q) (is_coming : coming ≡ before.coming)
    (is_due : deadline ≡ due before.end) (is_until : until ≡ wait_until deadline (commands.asks coming))
  where
    waits : until ≡ wait_until (due before.end) (commands.asks before.coming)
    waits =
        is_until ∙ ap (λ (deadline : Option ℕ). wait_until deadline (commands.asks coming)) is_due
        ∙ ap (λ (coming : Q). wait_until (due before.end) (commands.asks coming)) is_coming

    pub turned_by :
        (answer : LinkIn) (result : Option Ending) → answer ≢ link.Failed → IsToldAnswer a.contents answer
        → l' ≡ told_after_poll until answer a.contents
        → MayAnswer (commands.early (moment_after before.moment answer) before.coming) until a.moment answer
        → m' ≡ moment_after a.moment answer → HasPollCause a.link h' answer
        → Comes known left end (with_link a l' m' h') c
        (upon machine due commands side coming before.moment answer before.end) result
        → after.moment ≡ moment_after before.moment answer
        → IfOn result (after.coming ≡ commands.later after.moment before.coming)
        → HasTurned known left end machine due commands side a c before after result
    turned_by answer result other next told timely clock cause runs moment later = inr (
      answer,
      record {
        next = next;
        other = other;
        runs =
            subst (λ (act : Act S C). Comes known left end a c (behind (act ∷ [])
            (upon machine due commands side before.coming before.moment answer before.end)) result)
            (ap
            (λ (until : ℕ).
            Polls until answer (commands.early (moment_after before.moment answer) before.coming)) waits)
            (comes_after known left end c
            (Polls until answer (commands.early (moment_after before.moment answer) before.coming) ∷ [])
            (polled_did a l' m' h' until answer (commands.early (moment_after before.moment answer) before.coming) other
            next told timely clock cause)
            (upon machine due commands side before.coming before.moment answer before.end) result
            (subst (λ (coming : Q). Comes known left end (with_link a l' m' h') c
            (upon machine due commands side coming before.moment answer before.end) result)
            is_coming runs));
        moment = moment;
        coming = later;
      },
    )

-- the peer has closed the connection
pub closed_runs :
    {S C : Type 0} (a : Scene S C) (r' : Option (List ℕ)) (k' : SinkHealth) (side : Side) (now : ℕ) (s : S)
    (result : Ending)
    → EndsWith (written a (with_out a r' k')) (text_of (entries_at side now (Closed ∷ []))) ending.Closed result
    → Runs a (with_out a r' k') (closed side now s) (Some result)
closed_runs a r' k' side now s result ends =
    ends_does a r' k' (entries_at side now (Closed ∷ [])) (text_of (entries_at side now (Closed ∷ [])) ++ [])
    ending.Closed result (λ is. cc) (λ is. cc)
    (subst (λ (t : List ℕ). EndsWith (written a (with_out a r' k')) t ending.Closed result)
    (sym (append-nil (text_of (entries_at side now (Closed ∷ []))))) ends)

pub if_on : (result : Option Ending) (P : Type 0) → P → IfOn result P
if_on None P holds = holds
if_on (Some how) P holds = tt

-- a character and time are what every end takes
pub plain_taken : {C : Type 0} (takes : C → Type 0) (input : Input C) → IsPlainInput input → MayTake takes input
plain_taken takes (Char byte) plain = plain
plain_taken takes Time plain = tt
plain_taken takes (Command command) plain = absurd plain

-- the lines behind those that were due
pub past_due :
    (lines left : List ScriptLine) (given given' now now' : ℕ) → left ≡ drop given lines → now' ≡ now
    → given' ≡ given + due_count now left → drop given' lines ≡ later_lines now' (drop given lines)
past_due lines left given given' now now' is_left is_now is_given =
    ap (λ n. drop n lines) (is_given ∙ ap (λ (left : List ScriptLine). given + due_count now left) is_left)
    ∙ sym (drop-drop (due_count now (drop given lines)) given lines)
    ∙ ap (λ (now : ℕ). later_lines now (drop given lines)) (sym is_now)

-- no more lines are given than there are
pub given_within :
    (lines left : List ScriptLine) (given given' now : ℕ) → left ≡ drop given lines → given ≤ length lines
    → given' ≡ given + due_count now left → given' ≤ length lines
given_within lines left given given' now is within is_given =
    let few : due_count now left ≤ length left = prefix_len-le-length (is_due_line now) left in
    let long = ap length is ∙ length-drop given lines in
    omega (arith, few, long, within, is_given)

-- ---- what an end is told

module _ {S C : Type 0} (machine : Machine S C) (side : Side) (now : ℕ) (takes : C → Type 0) where
  -- where it is no command, and not for another end, it stops the run
  pub told_stops : (a : Scene S C) (s : S) (telling : Telling C) → MayTell takes telling → command_of telling ≡ None
      → Runs a a (tells machine side now telling s) (Some ending.Stopped)
  told_stops a s (Tells command reply) may is = absurd (cc)
  told_stops a s (Says text) may is = absurd may
  told_stops a s Stops may is = (refl, did_none a)
  told_stops a s IsOther may is = absurd may

  -- it is a command
  pub told_as : (P : Piece S C → Type 0) (s : S) (telling : Telling C) (given : C) → MayTell takes telling
      → command_of telling ≡ Some given
      → P (stepped machine side now (Command given) s) → P (tells machine side now telling s)
  told_as P s (Tells command reply) given may is runs =
      subst (λ (reply : List ℕ). P (replied machine side reply now (Command command) s)) (sym may.1)
      (subst (λ (command : C). P (stepped machine side now (Command command) s)) (sym (same is)) runs)
    where
      same : {command : C} → Some command ≡ Some given → command ≡ given
      same is = cc
  told_as P s (Says text) given may is runs = absurd (cc)
  told_as P s Stops given may is runs = absurd (cc)
  told_as P s IsOther given may is runs = absurd (cc)

  -- which the end takes
  pub told_takes : (telling : Telling C) (given : C) → MayTell takes telling → command_of telling ≡ Some given
      → takes given
  told_takes (Tells command reply) given may is = subst takes (same is) may.0
    where
      same : {command : C} → Some command ≡ Some given → command ≡ given
      same is = cc
  told_takes (Says text) given may is = absurd (cc)
  told_takes Stops given may is = absurd (cc)
  told_takes IsOther given may is = absurd (cc)

-- the next line of a script
pub next_line : (lines : List ScriptLine) (i : ℕ) (line : ScriptLine) → i < length lines → line ≡ get_or lines i line
    → drop i lines ≡ line ∷ drop (i + 1) lines
next_line lines i line below is =
    drop-cons lines i line below ∙ ap (λ (k : ℕ). get_or lines i line ∷ drop k lines) (sym (add-one i))
    ∙ ap (λ (l : ScriptLine). l ∷ drop (i + 1) lines) (sym is)
