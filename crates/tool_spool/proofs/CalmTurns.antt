-- Turns that leave the spool as it is.
use Rattle.std.proofs.Common.{◌≡◌, refl, sym, ap, subst, ◌∙◌, inl, inr, ◌⊎◌, arith, Bool, false, List, [], ◌∷◌, ◌++◌, Some}
use Rattle.message_flow.specs.declared.message.Message.{Message}
use Rattle.spool_file.specs.Slot.{Message as Put}
use Rattle.trace_log.specs.Log.{Happening}
use Rattle.message_end.specs.Core.{Command, EndView, Went, carried, carry}
use Rattle.message_end.specs.Course.{noted_behind}
use Rattle.message_end.specs.Duties.{all_done}
use Rattle.message_end.specs.Own.{Has}
use Rattle.spool_law.specs.Shelf.{Change, MayChange, Policy, Told, change_of, received_behind, received_since, shelf_changed, shelf_of}
use Rattle.spool_law.specs.Shelf.Change.{Other, Receives, Sends}
use Rattle.spool_ledger.specs.Ledger.{LedgerView}
use Rattle.tool_step.specs.declared.kind.Kind.{Kind}
use Rattle.tool_step.specs.Own.{ToolCommands, ToolDuty}
use Rattle.tool_reports.specs.Reported.{past_in}
use Rattle.tool_spool.proofs.CalmCommands.{AreCalm, AreCalmDuties, AreDrawn, AsksOfPrimary, CalmStep, IsCalm, IsCalmChange, IsCalmly, IsAside, calmly-both, carry-calm, itself}
use Rattle.tool_reports.proofs.QuietNotes.{one-behind}
use Rattle.tool_spool.proofs.Shelved.{IsShelved, noted-shelved}
use Rattle.tool_law.proofs.WorkLines.{LeavesStanding}
use Rattle.message_end.proofs.Parts.{OnEither, either-then, either-less}
use Rattle.tool_law.proofs.CoreSteps.{CoreStep}

-- ---- notes

-- what the notes tell of the spool, and what they keep, are as before
pub record IsCalmBehind (hears : Bool) (old new : List Happening) : Type 0 where
  pub shelved :
      (policy : Policy) (v : LedgerView) (list : List Put) (base : List Happening) → IsShelved policy v list base old
      → IsShelved policy v list base new
  pub told : (shelf_of new).told ≡ (shelf_of old).told
  pub tried : (shelf_of new).tried ≡ (shelf_of old).tried
  pub past : past_in new ≡ past_in old
  pub since : hears ≡ false → received_since new ≡ received_since old
  pub more : (message : Message) → Has (received_since old) message → Has (received_since new) message

pub as-it-was : (hears : Bool) (notes : List Happening) → IsCalmBehind hears notes notes
as-it-was hears notes = record {
  shelved = λ policy v list base is. is;
  told = refl;
  tried = refl;
  past = refl;
  since = λ deaf. refl;
  more = λ message has. has;
}

pub calm-both :
    (hears : Bool) (one two three : List Happening) → IsCalmBehind hears one two → IsCalmBehind hears two three
    → IsCalmBehind hears one three
calm-both hears one two three first second = record {
  shelved = λ policy v list base is. second.shelved policy v list base (first.shelved policy v list base is);
  told = second.told ∙ first.told;
  tried = second.tried ∙ first.tried;
  past = second.past ∙ first.past;
  since = λ deaf. second.since deaf ∙ first.since deaf;
  more = λ message has. second.more message (first.more message has);
}

pub one-calm :
    (hears : Bool) (what : Happening) (old : List Happening) → IsCalmChange hears (shelf_of old).told (change_of what)
    → IsAside what → IsCalmBehind hears old (what ∷ old)
one-calm hears what old calm aside =
    record {
      shelved = λ policy v list base is.
          noted-shelved policy v list base old what (leaves (change_of what) calm) aside.1
          (may policy (change_of what) calm) is;
      told = (same (change_of what) calm).0;
      tried = (same (change_of what) calm).1;
      past = aside.0 old;
      since = since (change_of what) calm;
      more = more (change_of what) calm;
    }
  where
    leaves : (change : Change) → IsCalmChange hears (shelf_of old).told change → LeavesStanding change
    leaves (Receives message) calm = tt
    leaves (Sends message) calm = tt
    leaves Other calm = tt
    leaves (Change.Finds found) calm = absurd calm
    leaves (Change.Stores number message) calm = absurd calm
    leaves (Change.HasStored number) calm = absurd calm
    leaves (Change.Leaves number why room_for) calm = absurd calm
    leaves (Change.HasGone number) calm = absurd calm
    leaves (Change.Tries number system) calm = absurd calm

    may : (policy : Policy) (change : Change) → IsCalmChange hears (shelf_of old).told change
        → MayChange policy old change
    may policy (Receives message) calm = tt
    may policy (Sends message) calm = calm
    may policy Other calm = tt
    may policy (Change.Finds found) calm = absurd calm
    may policy (Change.Stores number message) calm = absurd calm
    may policy (Change.HasStored number) calm = absurd calm
    may policy (Change.Leaves number why room_for) calm = absurd calm
    may policy (Change.HasGone number) calm = absurd calm
    may policy (Change.Tries number system) calm = absurd calm

    same : (change : Change) → IsCalmChange hears (shelf_of old).told change
        → ((shelf_changed change (shelf_of old)).told ≡ (shelf_of old).told)
        × ((shelf_changed change (shelf_of old)).tried ≡ (shelf_of old).tried)
    same (Receives message) calm = (refl, refl)
    same (Sends message) calm = (refl, refl)
    same Other calm = (refl, refl)
    same (Change.Finds found) calm = absurd calm
    same (Change.Stores number message) calm = absurd calm
    same (Change.HasStored number) calm = absurd calm
    same (Change.Leaves number why room_for) calm = absurd calm
    same (Change.HasGone number) calm = absurd calm
    same (Change.Tries number system) calm = absurd calm

    since : (change : Change) → IsCalmChange hears (shelf_of old).told change → hears ≡ false
        → received_behind change (received_since old) ≡ received_since old
    since (Receives message) calm deaf = absurd (grind (arith, calm, deaf))
    since (Sends message) calm deaf = refl
    since Other calm deaf = refl
    since (Change.Finds found) calm deaf = absurd calm
    since (Change.Stores number message) calm deaf = absurd calm
    since (Change.HasStored number) calm deaf = absurd calm
    since (Change.Leaves number why room_for) calm deaf = absurd calm
    since (Change.HasGone number) calm deaf = absurd calm
    since (Change.Tries number system) calm deaf = absurd calm

    more : (change : Change) → IsCalmChange hears (shelf_of old).told change → (message : Message)
        → Has (received_since old) message → Has (received_behind change (received_since old)) message
    more (Receives new) calm message has = inr has
    more (Sends new) calm message has = has
    more Other calm message has = has
    more (Change.Finds found) calm message has = absurd calm
    more (Change.Stores number new) calm message has = absurd calm
    more (Change.HasStored number) calm message has = absurd calm
    more (Change.Leaves number why room_for) calm message has = absurd calm
    more (Change.HasGone number) calm message has = absurd calm
    more (Change.Tries number system) calm message has = absurd calm

-- ---- commands

module _ (hears : Bool) (before : List Happening) where
  abbrev pub so_far : CoreStep → List Happening
  so_far step = noted_behind step.notes before

  pub record IsCalmRun (step next : CoreStep) : Type 0 where
    pub notes : IsCalmBehind hears (so_far step) (so_far next)
    pub core : IsCalmly step.next next.next

  -- the numbers of tries are drawn, and what asks for a reply is a primary
  pub record IsReady (step : CoreStep) : Type 0 where
    pub drawn : AreDrawn (shelf_of (so_far step)).told step.next.numbers.next
    pub asks : AsksOfPrimary step.next.asked

  pub runs-both : (one two three : CoreStep) → IsCalmRun one two → IsCalmRun two three → IsCalmRun one three
  runs-both one two three first second = record {
    notes = calm-both hears (so_far one) (so_far two) (so_far three) first.notes second.notes;
    core = calmly-both one.next two.next three.next first.core second.core;
  }

  pub no-run : (step : CoreStep) → IsCalmRun step step
  no-run step = record { notes = as-it-was hears (so_far step); core = itself step.next }

  pub ready-behind : (step next : CoreStep) → IsReady step → IsCalmRun step next → IsReady next
  ready-behind step next ready run = record {
    drawn = λ one has.
        let below = ready.drawn one (subst (λ (all : List Told). Has all one) run.notes.told has) in
        let more = run.core.next in
        omega (arith, below, more);
    asks = run.core.asks ready.asks;
  }

  run-of : (step next : CoreStep) → CalmStep hears (shelf_of (so_far step)).told step next → IsCalmRun step next
  run-of step next calm = record { notes = go calm.notes; core = calm.core }
    where
      go : (next.notes ≡ step.notes)
          ⊎ ((what : Happening)
          × (IsCalmChange hears (shelf_of (so_far step)).told (change_of what) × IsAside what)
          × (next.notes ≡ step.notes ++ what ∷ []))
          → IsCalmBehind hears (so_far step) (so_far next)
      go (inl same) =
          subst (λ (notes : List Happening). IsCalmBehind hears (so_far step) (noted_behind notes before)) (sym same)
          (as-it-was hears (so_far step))
      go (inr more) =
          subst (λ (notes : List Happening). IsCalmBehind hears (so_far step) notes)
          (sym (ap (λ (notes : List Happening). noted_behind notes before) more.2 ∙ one-behind step.notes more.0
          before))
          (one-calm hears more.0 (so_far step) more.1.0 more.1.1)

  pub carry-run :
      (command : Command Kind) (step : CoreStep) → IsCalm hears command → IsReady step
      → OnEither (IsCalmRun step) (IsCalmRun step) (carry Some command step)
  carry-run command step calm ready =
      either-less (CalmStep hears (shelf_of (so_far step)).told step)
      (CalmStep hears (shelf_of (so_far step)).told step)
      (IsCalmRun step) (IsCalmRun step) (carry Some command step)
      (carry-calm hears (shelf_of (so_far step)).told command step calm ready.drawn ready.asks)
      (run-of step) (run-of step)

  runs-more :
      (step next : CoreStep) (went : Went (EndView Kind) Happening) → IsCalmRun step next
      → OnEither (IsCalmRun next) (IsCalmRun next) went → OnEither (IsCalmRun step) (IsCalmRun step) went
  runs-more step next went run more =
      either-less (IsCalmRun next) (IsCalmRun next) (IsCalmRun step) (IsCalmRun step) went more
      (λ last. runs-both step next last run) (λ last. runs-both step next last run)

  pub carried-run :
      (commands : ToolCommands) (step : CoreStep) → AreCalm hears commands → IsReady step
      → OnEither (IsCalmRun step) (IsCalmRun step) (carried Some commands step)
  carried-run [] step calm ready = no-run step
  carried-run (command ∷ commands) step calm ready =
      either-then (IsCalmRun step) (IsCalmRun step) (IsCalmRun step) (carry Some command step)
      (carried Some commands) (carry-run command step calm.0 ready)
      (λ next first.
      runs-more step next (carried Some commands next) first
      (carried-run commands next calm.1 (ready-behind step next ready first)))

  pub done-run :
      (duties : List ToolDuty) (step : CoreStep) → AreCalmDuties hears duties → IsReady step
      → OnEither (IsCalmRun step) (IsCalmRun step) (all_done Some duties step)
  done-run [] step calm ready = no-run step
  done-run (duty ∷ duties) step calm ready =
      either-then (IsCalmRun step) (IsCalmRun step) (IsCalmRun step) (carried Some (duty step.next) step)
      (all_done Some duties) (carried-run (duty step.next) step (calm.0 step.next) ready)
      (λ next first.
      runs-more step next (all_done Some duties next) first
      (done-run duties next calm.1 (ready-behind step next ready first)))
