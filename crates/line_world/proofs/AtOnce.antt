-- That each reply is noted at the moment of its primary: no step goes on past its moment, and the reply is of the step.
use Rattle.std.proofs.Common.{◌≡◌, ◌⊎◌, inl, inr, refl, sym, ap, subst, ◌∙◌, ℕ, Bool, true, false, List, [], ◌∷◌, ◌++◌, map, Option, Some, None, if◌then◌else◌}
use Rattle.end_pair.specs.Noted.{noted_by, timed_by}
use Rattle.gl_base.specs.declared.side.Side.{Side}
use Rattle.gl_base.specs.Side.{is_same_side}
use Rattle.message_end.specs.InStep.{RepliesAreOfSteps, asked_among}
use Rattle.message_end.specs.Own.{Has, asked_after}
use Rattle.message_flow.specs.Message.{is_primary}
use Rattle.message_flow.specs.declared.message.Message.{Message}
use Rattle.trace_log.specs.InStep.{noted_in_step}
use Rattle.trace_log.specs.Log.{Entry, Happening}
use Rattle.trace_log.specs.Log.Entry.{Ended, Noted, Slipped}
use Rattle.line_world.specs.Steps.{AreAtAnEnd, IsOfAStep, MayStepBehind, NotesAreOfSteps, RepliesAreAtOnce}

-- ---- the notes without their moments

abbrev notes_of : List (ℕ × Happening) → List Happening
notes_of notes = map (λ (note : ℕ × Happening). note.1) notes

pub same-notes : (side : Side) (log : List Entry) → noted_by side log ≡ notes_of (timed_by side log)
same-notes side [] = refl
same-notes side (Noted moment end what ∷ before) =
    with-note (is_same_side side end) moment what (noted_by side before) (timed_by side before) (same-notes side before)
  where
    with-note :
        (same : Bool) (moment : ℕ) (what : Happening) (notes : List Happening) (timed : List (ℕ × Happening))
        → notes ≡ notes_of timed
        → (if same then what ∷ notes else notes) ≡ notes_of (if same then (moment, what) ∷ timed else timed)
    with-note true moment what notes timed rest = ap (λ (ns : List Happening). what ∷ ns) rest
    with-note false moment what notes timed rest = rest
same-notes side (Slipped moment end frame characters ∷ before) = same-notes side before
same-notes side (Ended moment ∷ before) = same-notes side before

-- ---- who asks in a step has been received at its moment

abbrev asked_by : List (ℕ × Happening) → Option Message
asked_by notes = asked_among (noted_in_step (notes_of notes))

abbrev HasAsked : ℕ → Message → List (ℕ × Happening) → Type 0
HasAsked moment asked notes = Has notes (moment, Happening.Received asked)

abbrev IsAsked : ℕ → Message → List (ℕ × Happening) → Type 0
IsAsked moment asked notes = IsOfAStep moment notes → asked_by notes ≡ Some asked → HasAsked moment asked notes

-- behind the end of a step none asks
none-asked : (notes : List (ℕ × Happening)) → AreAtAnEnd notes → asked_by notes ≡ None
none-asked [] end = absurd end
none-asked ((at, Happening.StepEnded) ∷ before) end = refl
none-asked ((at, what) ∷ before) end = absurd end

none-some : (asked : Message) (who : Option Message) → who ≡ None → who ≡ Some asked → ⊥
none-some asked who none some = let same = sym none ∙ some in absurd (cc)

some-same : (one other : Message) → Some one ≡ Some other → other ≡ one
some-same one other same = cc

-- behind a note of the same moment
behind :
    (moment at : ℕ) (asked : Message) (what : Happening) (before : List (ℕ × Happening)) → IsOfAStep at before
    → (moment ≡ at) ⊎ ⊥ → IsAsked moment asked before → asked_by before ≡ Some asked
    → HasAsked moment asked ((at, what) ∷ before)
behind moment at asked what before are (inl same) rest is =
    inr (rest (subst (λ (m : ℕ). IsOfAStep m before) (sym same) are) is)
behind moment at asked what before are (inr none) rest is = absurd none

-- a reply leaves none that asks
sent-behind :
    (primary : Bool) (moment at : ℕ) (asked : Message) (what : Happening) (before : List (ℕ × Happening))
    → IsOfAStep at before → (moment ≡ at) ⊎ ⊥ → IsAsked moment asked before
    → asked_after primary (asked_by before) ≡ Some asked → HasAsked moment asked ((at, what) ∷ before)
sent-behind true moment at asked what before are next rest is = behind moment at asked what before are next rest is
sent-behind false moment at asked what before are next rest is = absurd (none-some asked None refl is)

wrote-behind :
    (moment at : ℕ) (asked : Message) (what : Happening) (before : List (ℕ × Happening)) → IsOfAStep at before
    → (moment ≡ at) ⊎ AreAtAnEnd before → IsAsked moment asked before → asked_by before ≡ Some asked
    → HasAsked moment asked ((at, what) ∷ before)
wrote-behind moment at asked what before are (inl same) rest is =
    behind moment at asked what before are (inl same) rest is
wrote-behind moment at asked what before are (inr end) rest is =
    absurd (none-some asked (asked_by before) (none-asked before end) is)

is-received :
    (moment at : ℕ) (asked message : Message) (before : List (ℕ × Happening)) → (moment ≡ at) ⊎ ⊥
    → Some message ≡ Some asked → HasAsked moment asked ((at, Happening.Received message) ∷ before)
is-received moment at asked message before (inl same) is =
    inl (ap (λ (m : ℕ). (m, Happening.Received asked)) same
    ∙ ap (λ (m : Message). (at, Happening.Received m)) (some-same message asked is))
is-received moment at asked message before (inr none) is = absurd none

by-note :
    (moment at : ℕ) (asked : Message) (what : Happening) (before : List (ℕ × Happening)) → IsOfAStep at before
    → (moment ≡ at) ⊎ MayStepBehind what before → IsAsked moment asked before
    → asked_by ((at, what) ∷ before) ≡ Some asked → HasAsked moment asked ((at, what) ∷ before)
by-note moment at asked Happening.StepEnded before are next rest is = absurd (none-some asked None refl is)
by-note moment at asked (Happening.EquipmentStarted found base) before are next rest is =
    absurd (none-some asked None refl is)
by-note moment at asked (Happening.HostStarted journal) before are next rest is = absurd (none-some asked None refl is)
by-note moment at asked (Happening.Sent message) before are next rest is =
    sent-behind (is_primary message) moment at asked (Happening.Sent message) before are next rest is
by-note moment at asked (Happening.Received message) before are next rest is =
    is-received moment at asked message before next is
by-note moment at asked (Happening.Wrote characters) before are next rest is =
    wrote-behind moment at asked (Happening.Wrote characters) before are next rest is
by-note moment at asked what before are next rest is = behind moment at asked what before are next rest is

asked-at : (moment : ℕ) (asked : Message) (notes : List (ℕ × Happening)) → NotesAreOfSteps notes
    → IsAsked moment asked notes
asked-at moment asked [] are next is = absurd (none-some asked None refl is)
asked-at moment asked ((at, what) ∷ before) are next is =
    by-note moment at asked what before are.0 next (asked-at moment asked before are.1) is

-- ---- replies

-- what is said of all notes is said of the older ones
older-steps : (later notes : List (ℕ × Happening)) → NotesAreOfSteps (later ++ notes) → NotesAreOfSteps notes
older-steps [] notes are = are
older-steps (note ∷ later) notes are = older-steps later notes are.1

older-replies :
    (side : Side) (later notes : List (ℕ × Happening)) → RepliesAreOfSteps side (notes_of (later ++ notes))
    → RepliesAreOfSteps side (notes_of notes)
older-replies side [] notes are = are
older-replies side (note ∷ later) notes are = older-replies side later notes are.1

pub replies-at-once :
    (side : Side) (log : List Entry) → NotesAreOfSteps (timed_by side log) → RepliesAreOfSteps side (noted_by side log)
    → RepliesAreAtOnce side log
replies-at-once side log steps replies later before moment message is second =
    let notes = (moment, Happening.Sent message) ∷ before in
    let of = older-steps later notes (subst NotesAreOfSteps is steps) in
    let noted =
    older-replies side later notes
    (subst (λ (ns : List (ℕ × Happening)). RepliesAreOfSteps side (notes_of ns)) is
    (subst (RepliesAreOfSteps side) (same-notes side log) replies))
    in
    let reply = noted.0 second in
    record {
      asked = reply.asked;
      received = asked-at moment reply.asked before of.1 of.0 reply.newest;
      reply = reply.reply;
    }
