-- Logs that can be followed by hand.
use Rattle.std.specs.Prelude.{◌≡◌, ◌==◌, ℕ, true, false, None, Some, List, [], ◌∷◌, ◌++◌, map, reverse}
use Rattle.delivery.specs.Worked.{Scene, a_plan, does, moves_after, plans, transfer}
use Rattle.delivery.specs.Worked.Scene.{Block, One, Takes}
use Rattle.gl_base.specs.declared.side.Side.TheVariants.{Equipment, Host}
use Rattle.line_end.specs.Plan.{TimesFit}
use Rattle.line_end.specs.Step.{ack}
use Rattle.line_order.specs.Acts.{HasNoSlip}
use Rattle.line_order.specs.Line.{new_line}
use Rattle.message_end.specs.Doings.Doing.{Says}
use Rattle.message_end.specs.Own.Own.{DrewNumber, ReceivedMessage, SentMessage}
use Rattle.message_end.specs.Log.{log_of}
use Rattle.message_end.specs.Moves.{Kind, Move, deeds_of}
use Rattle.message_end.specs.Moves.Kind.{Did, Started}
use Rattle.message_flow.specs.declared.message.Message.{Message}
use Rattle.trace_log.specs.declared.names.Cause.TheVariants as cause
use Rattle.trace_log.specs.Log.{Entry, Happening}
use Rattle.trace_log.specs.Log.Entry.{Noted}
use Rattle.trace_log.specs.Log.Happening.{EquipmentStarted, Gone, Leaving, Power, Received, Sent, Stored, Storing, Try}
use Rattle.trace_log.specs.Names.{Spooled}
use Rattle.spool_law.specs.Shelf.{Policy}
use Rattle.spool_delivery.specs.Account.{Put, account_of, counted, folded, puts_of, standing_of, taken_of}
use Rattle.spool_delivery.specs.Claims.{SpoolIsKept, TakenInOrder}
use Rattle.spool_delivery.specs.Laws.{KeepSpoolLaws}

abbrev pub at_equipment : Happening → Entry
at_equipment what = Noted 0 Equipment what

abbrev pub at_host : Happening → Entry
at_host what = Noted 0 Host what

abbrev pub report : List ℕ → Spooled
report body = record { stream = 6; function = 11; body = body }

abbrev pub sent_report : (system : ℕ) → List ℕ → Message
sent_report system body = record { stream = 6; function = 11; wait = true; system = system; body = body }

abbrev pub reply : (system : ℕ) → Message
reply system = record { stream = 6; function = 12; wait = false; system = system; body = [] }

abbrev pub put_in : (number : ℕ) → List ℕ → List Entry
put_in number body = at_equipment (Storing number (report body)) ∷ at_equipment (Stored number) ∷ []

-- a try that the host takes
abbrev pub tried : (number system : ℕ) → List ℕ → List Entry
tried number system body =
    at_equipment (Try number system)
    ∷ at_equipment (Sent (sent_report system body))
    ∷ at_host (Received (sent_report system body))
    ∷ at_host (Sent (reply system))
    ∷ []

abbrev pub confirmed : (number system : ℕ) → List Entry
confirmed number system =
    at_equipment (Received (reply system))
    ∷ at_equipment (Leaving number cause.Confirmed None)
    ∷ at_equipment (Gone number)
    ∷ []

abbrev pub numbers : List Put → List ℕ
numbers puts = map (λ put. put.number) puts

abbrev pub places : List Put → List ℕ
places puts = map (λ put. put.place) puts

-- ---- three reports go out; the reply to the second is lost, and it goes out again

abbrev pub unloaded : List Entry
unloaded =
    reverse (at_equipment (EquipmentStarted [] 0)
    ∷ put_in 0 (65 ∷ []) ++ put_in 1 (66 ∷ []) ++ put_in 2 (65 ∷ []) ++ tried 0 10 (65 ∷ []) ++ confirmed 0 10
    ++ tried 1 11 (66 ∷ []) ++ tried 1 12 (66 ∷ []) ++ confirmed 1 12 ++ tried 2 13 (65 ∷ []))

-- the second counts as taken once, and the first isn't taken for the third, which says the same
pub record TakesTwice : Type 0 where
  pub taken : numbers (taken_of unloaded) ≡ 0 ∷ 1 ∷ 1 ∷ 2 ∷ []
  pub once : places (folded (taken_of unloaded)) ≡ 1 ∷ 3 ∷ 5 ∷ []
  pub all : counted (account_of unloaded) ≡ folded (taken_of unloaded)
  pub stands : numbers (standing_of unloaded) ≡ 2 ∷ []

-- ---- power is lost while a report is put in, twice, and while one is purged

abbrev pub found_first : List (ℕ × Spooled)
found_first = (0, report (65 ∷ [])) ∷ []

abbrev pub found_both : List (ℕ × Spooled)
found_both = found_first ++ (1, report (66 ∷ [])) ∷ []

-- an equal report stands already; the second one is lost, and the third one is found without a note that it is stored
abbrev pub cut_off : List Entry
cut_off =
    reverse (at_equipment (EquipmentStarted [] 0)
    ∷ put_in 0 (65 ∷ [])
    ++ at_equipment (Storing 1 (report (65 ∷ [])))
    ∷ at_equipment Power
    ∷ at_equipment (EquipmentStarted found_first 5)
    ∷ at_equipment (Storing 1 (report (66 ∷ [])))
    ∷ at_equipment Power
    ∷ at_equipment (EquipmentStarted found_both 9)
    ∷ [])

pub record PutsWhatIsFound : Type 0 where
  pub puts : places (puts_of cut_off) ≡ 1 ∷ 6 ∷ []
  pub stands : standing_of cut_off ≡ puts_of cut_off

abbrev pub purge : Message
purge = record { stream = 6; function = 23; wait = true; system = 7; body = 165 ∷ 1 ∷ 1 ∷ [] }

-- a purge of both has come as far as the first
abbrev pub purged : List Entry
purged =
    at_equipment (EquipmentStarted ((1, report (66 ∷ [])) ∷ []) 13)
    ∷ at_equipment Power
    ∷ at_equipment (Leaving 0 cause.Purged None)
    ∷ at_equipment (Received purge)
    ∷ cut_off

pub record CountsWhatStands : Type 0 where
  pub stands : places (standing_of purged) ≡ 6 ∷ []
  pub counts : counted (account_of purged) ≡ standing_of purged
  pub taken : taken_of purged ≡ []

-- ---- a report is on its way as it is overwritten

abbrev pub overwritten : List Entry
overwritten =
    reverse (at_equipment (EquipmentStarted [] 0)
    ∷ put_in 0 (65 ∷ [])
    ++ at_equipment (Try 0 10)
    ∷ at_equipment (Sent (sent_report 10 (65 ∷ [])))
    ∷ at_equipment (Leaving 0 cause.Overwritten (Some (report (66 ∷ []))))
    ∷ at_equipment (Gone 0)
    ∷ put_in 1 (66 ∷ []))

abbrev pub comes_late : List Entry
comes_late = at_host (Received (sent_report 10 (65 ∷ []))) ∷ overwritten

-- it counts from when it comes
pub record CountsWhatComes : Type 0 where
  pub before : places (counted (account_of overwritten)) ≡ 7 ∷ []
  pub none : taken_of overwritten ≡ []
  pub taken : places (taken_of comes_late) ≡ 1 ∷ []
  pub counts : places (counted (account_of comes_late)) ≡ 1 ∷ 7 ∷ []

-- ---- a number is given again

-- a report that was leaving is found, goes out and is confirmed; it is missing at the next start, and its number goes
-- to a report that is lost, and then to one that stands
abbrev pub numbered_again : List Entry
numbered_again =
    reverse (at_equipment (EquipmentStarted [] 0)
    ∷ put_in 0 (65 ∷ [])
    ++ at_equipment (Leaving 0 cause.Overwritten (Some (report (66 ∷ []))))
    ∷ at_equipment (EquipmentStarted found_first 5)
    ∷ tried 0 10 (65 ∷ [])
    ++ at_equipment (Received (reply 10))
    ∷ at_equipment (Leaving 0 cause.Confirmed None)
    ∷ at_equipment (EquipmentStarted [] 11)
    ∷ at_equipment (Storing 0 (report (66 ∷ [])))
    ∷ at_equipment (EquipmentStarted [] 13)
    ∷ put_in 0 (65 ∷ []))

pub record NumbersAgain : Type 0 where
  pub puts : places (puts_of numbered_again) ≡ 1 ∷ 14 ∷ []
  pub stands : places (standing_of numbered_again) ≡ 14 ∷ []
  pub removed : places (map (λ one. one.put) (account_of numbered_again).removed) ≡ 1 ∷ []
  pub causes : map (λ one. one.cause) (account_of numbered_again).removed ≡ cause.Confirmed ∷ []
  pub taken : places (taken_of numbered_again) ≡ 1 ∷ []
  pub counts : places (counted (account_of numbered_again)) ≡ 1 ∷ 14 ∷ []

-- ---- logs of a spool that isn't kept

-- the second report is tried with system bytes that the first one has gone out with, and leaves in its place
abbrev pub tried_again : List Entry
tried_again =
    reverse (at_equipment (EquipmentStarted [] 0)
    ∷ put_in 0 (65 ∷ []) ++ put_in 1 (66 ∷ [])
    ++ at_equipment (Try 0 10)
    ∷ at_equipment (Sent (sent_report 10 (65 ∷ [])))
    ∷ at_equipment (Leaving 0 cause.Overwritten (Some (report (66 ∷ []))))
    ∷ at_equipment (Gone 0)
    ∷ at_equipment (Try 1 10)
    ∷ at_host (Received (sent_report 10 (65 ∷ [])))
    ∷ at_equipment (Leaving 1 cause.Confirmed None)
    ∷ at_equipment (Gone 1)
    ∷ [])

-- a second report is put in before the first one is stored, and only the second one is found
abbrev pub stored_over : List Entry
stored_over =
    reverse (at_equipment (EquipmentStarted [] 0)
    ∷ at_equipment (Storing 0 (report (65 ∷ [])))
    ∷ at_equipment (Storing 1 (report (66 ∷ [])))
    ∷ at_equipment (Stored 0)
    ∷ at_equipment Power
    ∷ at_equipment (EquipmentStarted ((1, report (66 ∷ [])) ∷ []) 5)
    ∷ [])

-- a second report is put in under the number of the first one, which is found
abbrev pub stored_under : List Entry
stored_under =
    reverse (at_equipment (EquipmentStarted [] 0)
    ∷ put_in 0 (65 ∷ [])
    ++ at_equipment (Storing 0 (report (66 ∷ [])))
    ∷ at_equipment Power
    ∷ at_equipment (EquipmentStarted found_first 5)
    ∷ [])

-- a report is gone that wasn't leaving, and is found
abbrev pub gone_alone : List Entry
gone_alone =
    reverse (at_equipment (EquipmentStarted [] 0)
    ∷ put_in 0 (65 ∷ []) ++ put_in 1 (66 ∷ [])
    ++ at_equipment (Gone 0)
    ∷ at_equipment (EquipmentStarted found_both 5)
    ∷ [])

-- a report is overwritten, and no message is named for which room is made; one is confirmed, and one is named
abbrev pub overwritten_for_none : List Entry
overwritten_for_none =
    reverse (at_equipment (EquipmentStarted [] 0)
    ∷ put_in 0 (65 ∷ [])
    ++ at_equipment (Leaving 0 cause.Overwritten None)
    ∷ [])

abbrev pub confirmed_for_one : List Entry
confirmed_for_one =
    reverse (at_equipment (EquipmentStarted [] 0)
    ∷ put_in 0 (65 ∷ [])
    ++ tried 0 10 (65 ∷ [])
    ++ at_equipment (Received (reply 10))
    ∷ at_equipment (Leaving 0 cause.Confirmed (Some (report (66 ∷ []))))
    ∷ [])

-- a report is overwritten for another one, and one is put in
abbrev pub overwritten_for_one : List Entry
overwritten_for_one =
    reverse (at_equipment (EquipmentStarted [] 0)
    ∷ put_in 0 (65 ∷ [])
    ++ at_equipment (Leaving 0 cause.Overwritten (Some (report (66 ∷ []))))
    ∷ [])

abbrev pub one_put : List Entry
one_put = reverse (at_equipment (EquipmentStarted [] 0) ∷ at_equipment (Storing 0 (report (65 ∷ []))) ∷ [])

-- whatever purges or may overwrite
pub record AreNotKept : Type 0 where
  pub tries_again : (policy : Policy) → SpoolIsKept policy tried_again → ⊥
  pub stores_over : (policy : Policy) → SpoolIsKept policy stored_over → ⊥
  pub stores_under : (policy : Policy) → SpoolIsKept policy stored_under → ⊥
  pub goes_alone : (policy : Policy) → SpoolIsKept policy gone_alone → ⊥
  pub names_none : (policy : Policy) → SpoolIsKept policy overwritten_for_none → ⊥
  pub names_one : (policy : Policy) → SpoolIsKept policy confirmed_for_one → ⊥
  -- where there is room beside the first report, where there never could be any, and where there is none
  pub has_room :
      (policy : Policy) → policy.has_room found_first (report (66 ∷ [])) ≡ true → SpoolIsKept policy overwritten_for_one
      → ⊥
  pub never_fits :
      (policy : Policy) → policy.has_room [] (report (66 ∷ [])) ≡ false → SpoolIsKept policy overwritten_for_one → ⊥
  pub stores_without : (policy : Policy) → policy.has_room [] (report (65 ∷ [])) ≡ false → SpoolIsKept policy one_put → ⊥

-- ---- logs that break the order

abbrev pub both_stored : List Entry
both_stored = at_equipment (EquipmentStarted [] 0) ∷ put_in 0 (65 ∷ []) ++ put_in 1 (66 ∷ [])

-- the first report is on its way as it is overwritten, and comes behind the second one
abbrev pub overtaken : List Entry
overtaken =
    reverse (both_stored
    ++ at_equipment (Try 0 10)
    ∷ at_equipment (Leaving 0 cause.Overwritten (Some (report (66 ∷ []))))
    ∷ at_equipment (Gone 0)
    ∷ at_equipment (Try 1 11)
    ∷ at_host (Received (sent_report 11 (66 ∷ [])))
    ∷ at_host (Received (sent_report 10 (65 ∷ [])))
    ∷ [])

-- the first report leaves as confirmed, though the host never took it, and the second one comes
abbrev pub skipped : List Entry
skipped =
    reverse (both_stored
    ++ at_equipment (Try 0 10)
    ∷ at_equipment (Leaving 0 cause.Confirmed None)
    ∷ at_equipment (Gone 0)
    ∷ at_equipment (Try 1 11)
    ∷ at_host (Received (sent_report 11 (66 ∷ [])))
    ∷ [])

-- neither is taken in order
pub record BreakOrder : Type 0 where
  pub overtakes : TakenInOrder overtaken → ⊥
  pub skips : TakenInOrder skipped → ⊥

-- ---- a run that meets what the law starts from

abbrev pub says : Happening → Kind
says what = Did (Says what)

abbrev pub first_report : Message
first_report = sent_report 5 (65 ∷ [])

-- two reports are put in, and power is lost as the second one is; the first one goes out, is confirmed and leaves
abbrev pub unload : List Scene
unload =
    One Equipment 0 (Started (EquipmentStarted [] 1) 1)
    ∷ One Equipment 0 (says (Storing 0 (report (65 ∷ []))))
    ∷ One Equipment 0 (says (Stored 0))
    ∷ One Equipment 0 (says (Storing 1 (report (66 ∷ []))))
    ∷ One Equipment 1 (says Power)
    ∷ One Equipment 1 (Started (EquipmentStarted found_both 5) 5)
    ∷ One Equipment 2 (does (DrewNumber 5))
    ∷ One Equipment 2 (says (Try 0 5))
    ∷ One Equipment 2 (does (SentMessage first_report))
    ∷ Block Equipment 2 first_report 0 1
    ∷ transfer Equipment 3 first_report 1
    ++ One Host 5 (does (ReceivedMessage first_report))
    ∷ One Host 5 (does (SentMessage (reply 5)))
    ∷ Takes Equipment 6 (ack ∷ [])
    ∷ Block Host 7 (reply 5) 0 1
    ∷ transfer Host 8 (reply 5) 1
    ++ One Equipment 10 (does (ReceivedMessage (reply 5)))
    ∷ One Equipment 10 (says (Leaving 0 cause.Confirmed None))
    ∷ One Equipment 10 (says (Gone 0))
    ∷ []

abbrev pub unload_moves : List Move
unload_moves = moves_after unload []

-- S6F23 purges, there is always room, and nothing is overwritten
abbrev pub plain_policy : Policy
plain_policy = record {
  purges = λ message. message.function == 23;
  has_room = λ stands message. true;
  overwrites = λ notes. false;
}

pub record UnloadsAfterLoss : Type 0 where
  pub fits : TimesFit a_plan.times
  pub no_slip : HasNoSlip (new_line a_plan.times a_plan.times) (deeds_of unload_moves)
  pub laws : KeepSpoolLaws plain_policy plans unload_moves
  pub taken : numbers (taken_of (log_of unload_moves)) ≡ 0 ∷ []
  pub stands : numbers (standing_of (log_of unload_moves)) ≡ 1 ∷ []
