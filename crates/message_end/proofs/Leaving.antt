-- What a step of parts leaves: its reading in lines, as that in happenings.
use Rattle.std.proofs.Common.{◌≡◌, refl, sym, ap, ◌∙◌, false, Option, Some, List, [], ◌∷◌}
use Rattle.std.specs.Prelude.{Err}
use Rattle.message_flow.specs.declared.step.Note.{Note}
use Rattle.message_flow.specs.declared.step.StepOut.{StepOut}
use Rattle.trace_log.specs.Log.{Happening}
use Rattle.trace_log.specs.Text.{printed_note}
use Rattle.message_end.specs.declared.end.Stop.{Stop}
use Rattle.message_end.specs.declared.end.Stop.TheVariants as stop
use Rattle.message_end.specs.Core.{EndView, Step, Went, and_then, at_first}
use Rattle.message_end.specs.Core.Went.{Goes, Spent}
use Rattle.message_end.specs.Duties.{all_done}
use Rattle.message_end.specs.Ends.{HasGone, HasSpent, IsEmpty, Leaves}
use Rattle.message_end.specs.Laws.{read_as, went_as}
use Rattle.message_end.specs.Parts.{ComesTo, Node, Part, Turn, after_parts, after_turn, core_step, on_the_way, went_with}
use Rattle.message_end.proofs.Duties.{read-done}

module _ {S K N : Type 0} (say : Happening → Option N) where
  read-beside :
      (own : S) (went : Went (EndView K) Happening)
      → went_with own (went_as say went) ≡ went_as say (went_with own went)
  read-beside own (Goes step) = refl
  read-beside own (Spent step) = refl

  read-turn :
      (turn : Turn S K) (step : Step (Node S K) Happening)
      → after_turn say turn (read_as say step) ≡ went_as say (after_turn Some turn step)
  read-turn turn step =
      ap (λ (went : Went (EndView K) N). went_with turn.own went)
      (read-done {K = K} {N = N} say turn.duties (core_step step))
      ∙ read-beside turn.own (all_done Some turn.duties (core_step step))

  pub read-parts :
      (parts : List (Part S K)) (step : Step (Node S K) Happening)
      → after_parts say parts (read_as say step) ≡ went_as say (after_parts Some parts step)
  read-parts [] step = refl
  read-parts (part ∷ parts) step =
      ap (λ (went : Went (Node S K) N). and_then went (after_parts say parts))
      (read-turn (part step.next.own step.next.core) step)
      ∙ go (after_turn Some (part step.next.own step.next.core) step) (λ next. read-parts parts next)
    where
      go : (went : Went (Node S K) Happening)
          → ((next : Step (Node S K) Happening)
          → after_parts say parts (read_as say next) ≡ went_as say (after_parts Some parts next))
          → and_then (went_as say went) (after_parts say parts) ≡ went_as say (and_then went (after_parts Some parts))
      go (Goes next) more = more next
      go (Spent next) more = refl

same-step : {S : Type 0} {a b : Step S Note} → Goes a ≡ Goes b → a ≡ b
same-step same = cc

same-spent : {S : Type 0} {a b : Step S Note} → Spent a ≡ Spent b → a ≡ b
same-spent same = cc

module _ {S K : Type 0} (parts : List (Part S K)) (s : Node S K) (out : StepOut) (empty : IsEmpty out) where
  begun : on_the_way s out ≡ read_as printed_note (at_first s)
  begun =
      ap (λ (notes : List Note). record { next = s; notes = notes; written = out.line.items }) empty.notes
      ∙ ap (λ written. record { next = s; notes = []; written = written }) empty.line

  read :
      after_parts printed_note parts (on_the_way s out)
      ≡ went_as printed_note (after_parts Some parts (at_first s))
  read =
      ap (λ (step : Step (Node S K) Note). after_parts printed_note parts step) begun
      ∙ read-parts {S = S} {K = K} {N = Note} printed_note parts (at_first s)

  pub leaves-gone :
      (new : Node S K) (after : StepOut)
      → after_parts printed_note parts (on_the_way s out) ≡ Goes (on_the_way new after)
      → HasGone (after_parts Some parts (at_first s)) new after
  leaves-gone new after done = go (after_parts Some parts (at_first s)) refl (sym read ∙ done)
    where
      go : (w : Went (Node S K) Happening) → after_parts Some parts (at_first s) ≡ w
          → went_as printed_note w ≡ Goes (on_the_way new after)
          → HasGone (after_parts Some parts (at_first s)) new after
      go (Goes step) is same = record {
        step = step;
        is = is;
        next_is = ap (λ (x : Step (Node S K) Note). x.next) (same-step same);
        notes = sym (ap (λ (x : Step (Node S K) Note). x.notes) (same-step same));
        written = sym (ap (λ (x : Step (Node S K) Note). x.written) (same-step same));
      }
      go (Spent step) is same = absurd (cc)

  leaves-spent :
      (new : Node S K) (middle after : StepOut)
      → after_parts printed_note parts (on_the_way s out) ≡ Spent (on_the_way new middle)
      → after.notes ≡ middle.notes → after.line.items ≡ []
      → HasSpent (after_parts Some parts (at_first s)) after
  leaves-spent new middle after done notes quiet =
      go (after_parts Some parts (at_first s)) refl (sym read ∙ done)
    where
      go : (w : Went (Node S K) Happening) → after_parts Some parts (at_first s) ≡ w
          → went_as printed_note w ≡ Spent (on_the_way new middle)
          → HasSpent (after_parts Some parts (at_first s)) after
      go (Goes step) is same = absurd (cc)
      go (Spent step) is same = record {
        step = step;
        is = is;
        notes = notes ∙ sym (ap (λ (x : Step (Node S K) Note). x.notes) (same-spent same));
        quiet = quiet;
      }

  -- whatever stops it, nothing is sent
  pub leaves-stopped :
      (new : Node S K) (middle after : StepOut) (end : Stop)
      → ComesTo {A = Unit {0}} (after_parts printed_note parts (on_the_way s out)) new middle (Err end)
      → after.notes ≡ middle.notes → after.line.items ≡ []
      → (fronts : List (List Happening))
      → Leaves fronts false (after_parts Some parts (at_first s)) new after (Err end)
  leaves-stopped new middle after stop.NumbersSpent done notes quiet fronts =
      (leaves-spent new middle after done notes quiet, refl)
  leaves-stopped new middle after stop.Full done notes quiet fronts = absurd done
  leaves-stopped new middle after stop.DiskFailed done notes quiet fronts = absurd done
  leaves-stopped new middle after stop.NoMemory done notes quiet fronts = quiet
