-- Commands that keep the law of an end, whatever else is told.
use Rattle.std.proofs.Common.{rules, ◌≡◌, ◌^◌, ◌+◌, refl, arith, Bool, true, false, not, ℕ, ◌<◌, ◌≤◌, ◌%◌, ◌==◌, ◌&&◌, ◌||◌, List, [], ◌∷◌, All, length, map, if◌then◌else◌, nat_lt}
use Rattle.std.specs.List.{list_all}
use Rattle.std.specs.Prelude.{is_some, min}
use Rattle.std.proofs.lemmas.Bool.Decides.{nat_tests}
use Rattle.std.proofs.lemmas.List.Elements.{All-nil, All-cons}
use Rattle.block_codec.specs.Protocol.{longest_text}
use Rattle.gem_shapes.specs.declared.request.TablesRequest.{TablesRequest}
use Rattle.message_flow.specs.declared.message.Message.{Message}
use Rattle.secs_items.specs.declared.item.Item.{Item}
use Rattle.secs_items.specs.Encoding.{encode_fault}
use Rattle.secs_items.specs.Spelling.{shortest_spelling}
use Rattle.trace_log.specs.Log.{Happening}
use Rattle.trace_log.specs.Names.{Spooled}
use Rattle.message_end.specs.declared.unsent.Unsent.{Unsent}
use Rattle.message_end.specs.Core.{EndView, IsText, IsUnsent}
use Rattle.message_end.specs.Core.Command.{Note, Reply}
use Rattle.equipment_tables.specs.declared.answers.Answer.{Answer as Text}
use Rattle.equipment_tables.specs.declared.answers.Answer.TheVariants as text
use Rattle.tool_step.specs.declared.kind.Kind.{Kind}
use Rattle.equipment_tables.specs.declared.plan.EquipmentPlan.{EquipmentPlan}
use Rattle.equipment_tables.specs.Answers.{has_bytes, lines_of, spelled_body}
use Rattle.tool_step.specs.Own.{OwnView, event_report}
use Rattle.tool_step.specs.Recipes.{bounded_text}
use Rattle.tool_step.specs.Sampling.{trace_data, trace_inquiry}
use Rattle.tool_step.specs.Sent as sent
use Rattle.tool_law.specs.Sound.{CanBeSent, IsSound}
use Rattle.tool_step.specs.Spooling.{unload_request, unloaded}
use Rattle.tool_law.proofs.SpoolSound.{AllPlain}
use Rattle.tool_step.specs.Equipment.{is_marked_out}
use Rattle.equipment_tables.specs.Tables.{TablesState}
use Rattle.equipment_tables.proofs.Lines.{lines_hold}
use Rattle.spool_ledger.specs.Ledger.{Numbered}
use Rattle.tool_law.proofs.TriedDoings.{IsFine, fine-both}
use Rattle.tool_law.proofs.CommandWalks.{HasCommon, lines-are, replied-are}
use Rattle.tool_law.proofs.TriedSteps.{IsMild, IsMildCommand}

-- ---- what is kept

-- a text that goes out is short and of bytes
abbrev pub IsSpelled : Text → Type 0
IsSpelled (text.Body body) = IsText body
IsSpelled text.TooLong = Unit {0}

are-bytes : (bytes : List ℕ) → list_all (λ byte. nat_lt byte 256) bytes ≡ true → All (λ byte. byte < 256) bytes
are-bytes [] all = All-nil (λ (byte : ℕ). byte < 256)
are-bytes (first ∷ bytes) all = go (nat_lt first 256) refl all (are-bytes bytes)
  where
    go : (small : Bool) → nat_lt first 256 ≡ small → (small && list_all (λ byte. nat_lt byte 256) bytes) ≡ true
        → (list_all (λ byte. nat_lt byte 256) bytes ≡ true → All (λ byte. byte < 256) bytes)
        → All (λ byte. byte < 256) (first ∷ bytes)
    go true e rest more = All-cons (λ (byte : ℕ). byte < 256) first bytes (grind (arith, nat_tests, e)) (more rest)
    go false e rest more = absurd (cc)

pub spelled : (max : ℕ) → max ≤ longest_text → (item : Item) → IsSpelled (spelled_body max item)
spelled max most item =
    go (nat_lt max (length (shortest_spelling item))) (is_some (encode_fault item)) (has_bytes item) refl refl
  where
    go : (long fault bytes : Bool) → nat_lt max (length (shortest_spelling item)) ≡ long → has_bytes item ≡ bytes
        → IsSpelled (if long || (fault || not bytes) then text.TooLong else text.Body (shortest_spelling item))
    go true fault bytes e f = tt
    go false true bytes e f = tt
    go false false false e f = tt
    go false false true e f =
        record { short = grind (arith, nat_tests, e, most); bytes = are-bytes (shortest_spelling item) f }

-- so of a text that needs no item
pub bounded : (max : ℕ) → max ≤ longest_text → (bytes : List ℕ) → IsSpelled (bounded_text max bytes)
bounded max most bytes = go (nat_lt max (length bytes)) (list_all (λ byte. nat_lt byte 256) bytes) refl refl
  where
    go : (long all : Bool) → nat_lt max (length bytes) ≡ long → list_all (λ byte. nat_lt byte 256) bytes ≡ all
        → IsSpelled (if long || not all then text.TooLong else text.Body bytes)
    go true all e f = tt
    go false false e f = tt
    go false true e f = record { short = grind (arith, nat_tests, e, most); bytes = are-bytes bytes f }

-- ---- commands that call no line

-- a note of no try is mild
pub mild-note : (what : Happening) → IsFine what → IsMildCommand (Note what)
mild-note what fine = let both = fine-both what fine in (both.1, both.0)

pub one-note : (what : Happening) → IsFine what → IsMild (Note what ∷ [])
one-note what fine = (mild-note what fine, tt)

pub common-mild : HasCommon IsMildCommand
common-mild = record {
  comms = λ state. (tt, tt);
  control = λ state. (tt, tt);
  failed = λ title. (tt, tt);
  dropped = λ name. (tt, tt);
  denied = λ name. (tt, tt);
  too_long = λ name. (tt, tt);
  full = λ name. (tt, tt);
  ends = λ system. (tt, tt);
  removes = λ system. (tt, tt);
  recalls = λ header. (tt, tt);
  drops = (tt, tt);
  aborts = (tt, tt);
}

-- primaries
pub sent-quiet :
    (unsent : List ℕ → Unsent Kind) → ((body : List ℕ) → IsText body → IsUnsent (unsent body)) → (body : Text)
    → IsSpelled body → IsMild (sent.primary_commands unsent body)
sent-quiet unsent may (text.Body body) is = ((tt, may body is), tt)
sent-quiet unsent may text.TooLong is = tt

pub may-establish : (body : List ℕ) → IsText body → IsUnsent (sent.establish_request body)
may-establish body is = record { stream = omega arith; function = omega arith; odd = refl; body = is }

pub may-ask : (body : List ℕ) → IsText body → IsUnsent (sent.grant_request body)
may-ask body is = record { stream = omega arith; function = omega arith; odd = refl; body = is }

pub may-trace : (body : List ℕ) → IsText body → IsUnsent (trace_data body)
may-trace body is = record { stream = omega arith; function = omega arith; odd = refl; body = is }

pub may-inquire : (body : List ℕ) → IsText body → IsUnsent (trace_inquiry body)
may-inquire body is = record { stream = omega arith; function = omega arith; odd = refl; body = is }

pub may-report : (message : Spooled) → CanBeSent message → IsUnsent (sent.live_report message)
may-report message can =
    record { stream = can.stream; function = can.function; odd = can.odd; body = can.body }

pub may-unload : (message : Spooled) → CanBeSent message → IsUnsent (unloaded message)
may-unload message can =
    record { stream = can.stream; function = can.function; odd = can.odd; body = can.body }

pub may-ask-unload : (body : List ℕ) → IsText body → IsUnsent (unload_request body)
may-ask-unload body is = record { stream = omega arith; function = omega arith; odd = refl; body = is }

-- S5F1, S6F11 and S10F1
pub can-event : (body : List ℕ) → IsText body → CanBeSent (event_report body)
can-event body is = record { stream = omega arith; function = omega arith; odd = refl; body = is }

pub can-alarm : (body : List ℕ) → IsText body → CanBeSent (sent.alarm_report body)
can-alarm body is = record { stream = omega arith; function = omega arith; odd = refl; body = is }

pub can-text : (body : List ℕ) → IsText body → CanBeSent (sent.terminal_report body)
can-text body is = record { stream = omega arith; function = omega arith; odd = refl; body = is }

pub may-attempt : IsUnsent sent.online_request
may-attempt =
    record {
      stream = omega arith;
      function = omega arith;
      odd = refl;
      body = record { short = omega arith; bytes = search rules };
    }

-- an odd function
pub record IsOdd (function : ℕ) : Type 0 where
  pub byte : function < 256
  pub odd : (function % 2 == 1) ≡ true

pub may-tell : (function : ℕ) → IsOdd function → (body : List ℕ) → IsText body → IsUnsent (sent.error_primary function body)
may-tell function odd body is = record { stream = omega arith; function = odd.byte; odd = odd.odd; body = is }

-- replies
pub body-quiet : (body : List ℕ) (message : Message) (e : EndView Kind) → IsText body
    → IsMild (sent.body_duty body message e)
body-quiet body message e is =
    replied-are common-mild message (sent.reply_name message) (Reply body ∷ []) e ((tt, is), tt)

-- what was accepted, and texts that a terminal displays
pub lines-plain : (t : TablesState) (is_local : Bool) (request : TablesRequest)
    → AllPlain (lines_of t is_local request)
lines-plain =
    lines_hold AllPlain tt (λ name. (tt, tt))
    (λ tid text lines rest. (tt, rest))

pub lines-quiet : (lines : List Happening) → AllPlain lines → IsMild (map Note lines)
lines-quiet lines plain = lines-are IsMildCommand IsFine mild-note lines plain

-- the mark moves on by as many numbers as are added
pub marks-on : (end mark : ℕ) → end ≡ mark → is_marked_out mark ≡ false → mark + 4096 ≡ min (end + 4096) (2 ^ 32)
marks-on end mark same room = grind (arith, nat_tests, same, room)

-- ---- turns

-- it is sound over what the disk has
pub sound-self : (plan : EquipmentPlan) (slots : ℕ) (stood : Numbered) (own : OwnView) → IsSound plan slots stood own
    → IsSound plan own.ledger.slots own.ledger.stood own
sound-self plan slots stood own sound = record {
  plan_is = sound.plan_is;
  texts = sound.texts;
  traced = sound.traced;
  reports = sound.reports;
  ledger = record {
    waiting = sound.ledger.waiting;
    works = sound.ledger.works;
    slots_are = refl;
    stood_is = refl;
  };
}

-- that holds of the same plan, while the disk has as much and such system bytes were tried last
