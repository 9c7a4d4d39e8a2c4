-- That replies go in the steps of their primaries, by the notes as by the doings.
use Rattle.std.proofs.Common.{◌≡◌, refl, sym, ap, subst, ◌∙◌, ℕ, List, [], ◌∷◌, Option}
use Rattle.gl_base.specs.declared.side.Side.{Side}
use Rattle.message_end.specs.Course.{noted_behind}
use Rattle.message_end.specs.Doings.{AreLawful, Doing, IsLawful}
use Rattle.message_end.specs.Doings.Doing.{Calls, Does, Gives, Says}
use Rattle.message_end.specs.History.{noted_in}
use Rattle.message_end.specs.InStep.{IsInStep, RepliesAreOfSteps, ReplyInTheirSteps, asked_among, asked_behind, asked_in_step}
use Rattle.message_end.specs.Log.{noted_of}
use Rattle.message_end.specs.Own.{Own, asked_after}
use Rattle.message_end.specs.Own.Own.{DrewNumber, DroppedMessage, GaveBlock, HeardBlock, ReceivedMessage, SentMessage, WroteFrame}
use Rattle.message_end.specs.Plan.{EndPlan}
use Rattle.message_end.specs.Starts.{IsStartOf}
use Rattle.message_end.specs.Starts.IsStartOf.{of_equipment, of_host, of_journal}
use Rattle.message_end.proofs.NotedSteps.{plain-note}
use Rattle.message_flow.specs.declared.message.Message.{Message}
use Rattle.message_flow.specs.Message.{is_primary}
use Rattle.trace_log.specs.InStep.{noted_in_step}
use Rattle.trace_log.specs.Log.{Happening}
use Rattle.link_courses.specs.Lawful.{AreDone}
use Rattle.link_courses.proofs.Lawful.{doing-last, with_note}

-- who asks by the notes of a step is who asks by its doings; and replies are of their steps
record AreNoted (side : Side) (doings : List Doing) (notes : List Happening) : Type 0 where
  asked : asked_among (noted_in_step notes) ≡ asked_in_step doings
  replies : RepliesAreOfSteps side notes

own-noted :
    (side : Side) (doings : List Doing) (notes : List Happening) (own : Own) → IsInStep side doings (Does own)
    → AreNoted side doings notes → AreNoted side (Does own ∷ doings) (with_note (noted_of (Does own)) notes)
own-noted side doings notes (SentMessage message) may are = record {
  asked = ap (asked_after (is_primary message)) are.asked;
  replies = (
    (λ even.
        let is = may even in
        record {
          asked = is.asked;
          newest = are.asked ∙ is.newest;
          primary = is.primary;
          wait = is.wait;
          reply = is.reply;
        }),
    are.replies,
  );
}
own-noted side doings notes (ReceivedMessage message) may are =
    record { asked = refl; replies = (tt, are.replies) }
own-noted side doings notes (DrewNumber number) may are = record { asked = are.asked; replies = are.replies }
own-noted side doings notes (GaveBlock place number) may are = record { asked = are.asked; replies = are.replies }
own-noted side doings notes (WroteFrame place number) may are = record { asked = are.asked; replies = are.replies }
own-noted side doings notes (HeardBlock block now flow) may are =
    record { asked = are.asked; replies = are.replies }
own-noted side doings notes (DroppedMessage header now) may are =
    record { asked = are.asked; replies = are.replies }

doing-noted :
    (side : Side) (plan : EndPlan) (base : ℕ) (doings : List Doing) (notes : List Happening) (doing : Doing)
    → IsLawful plan base doings doing → IsInStep side doings doing → AreNoted side doings notes
    → AreNoted side (doing ∷ doings) (with_note (noted_of doing) notes)
doing-noted side plan base doings notes (Does own) law may are = own-noted side doings notes own may are
doing-noted side plan base doings notes (Gives place number block now) law may are =
    record { asked = are.asked; replies = are.replies }
doing-noted side plan base doings notes (Calls call) law may are =
    record { asked = are.asked; replies = are.replies }
doing-noted side plan base doings notes (Says what) law may are =
    let is = plain-note side what law.1 in
    record {
      asked = is.asked notes ∙ ap (λ (asked : Option Message). asked_behind what asked) are.asked;
      replies = (is.noted notes, are.replies);
    }

start-noted :
    (side : Side) (start : Happening) (base : ℕ) → IsStartOf side start base → AreNoted side [] (start ∷ [])
start-noted _ _ _ (of_equipment found base) = record { asked = refl; replies = (tt, tt) }
start-noted _ _ _ (of_host base) = record { asked = refl; replies = (tt, tt) }
start-noted _ _ _ (of_journal found base) = record { asked = refl; replies = (tt, tt) }

module _ (plan : EndPlan) (base : ℕ) (start : Happening) (starts : IsStartOf plan.side start base) where
  all-noted :
      (doings : List Doing) → AreLawful plan base doings → ReplyInTheirSteps plan doings
      → AreNoted plan.side doings (noted_behind (noted_in doings) (start ∷ []))
  all-noted [] lawful replies = start-noted plan.side start base starts
  all-noted (doing ∷ before) lawful replies =
      subst (AreNoted plan.side (doing ∷ before))
      (sym (doing-last doing before (start ∷ [])))
      (doing-noted plan.side plan base before
      (noted_behind (noted_in before) (start ∷ [])) doing lawful.0 replies.0
      (all-noted before lawful.1 replies.1))

pub replies-noted : (plan : EndPlan) (Such : List Doing → Type 0) (notes : List Happening)
    → AreDone plan Such notes → RepliesAreOfSteps plan.side notes
replies-noted plan Such [] done = tt
replies-noted plan Such (what ∷ before) done =
    subst (RepliesAreOfSteps plan.side) (sym done.noted)
    (all-noted plan done.base done.start done.starts done.doings done.lawful done.replies).replies
