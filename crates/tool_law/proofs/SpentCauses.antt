-- A step draws few system bytes; so its numbers are spent where there is a cause, and nowhere else.
use Rattle.std.proofs.Common.{◌≡◌, refl, sym, ap, subst, ◌∙◌, arith, ◌≤◌, ◌<◌, ◌+◌, ◌-◌, ◌^◌, ◌==◌, ◌&&◌, ◌||◌, nat_lt, Bool, true, false, ℕ, zero, suc, List, [], ◌∷◌, ◌++◌, length, Option, Some, if◌then◌else◌}
use Rattle.std.proofs.lemmas.Bool.Decides.{nat_tests}
use Rattle.std.specs.Prelude.{min, replicate}
use Rattle.trace_log.specs.declared.commands.ToolCommand.{ToolCommand}
use Rattle.trace_log.specs.Log.{Happening}
use Rattle.trace_log.specs.Names.{Spooled}
use Rattle.transact.specs.Numbers.{NumbersView}
use Rattle.message_end.specs.Calls.{took_at}
use Rattle.message_end.specs.Core.{EndView, Step, Went, and_then, at_first, step_in}
use Rattle.message_end.specs.Core.Command.{Take}
use Rattle.message_end.specs.Core.Went.{Goes, Spent}
use Rattle.message_end.specs.Duties.{all_done}
use Rattle.message_end.specs.Ends.{Input}
use Rattle.message_end.specs.Parts.{Node, after_parts, after_turn, closes, core_after, core_step, went_with}
use Rattle.tool_step.specs.declared.kind.Kind.{Kind}
use Rattle.tool_step.specs.Equipment.{EquipmentView, act, ended_step, is_marked_out, needs_numbers, node_step, oldest_of, parts_done, reserved, settled_went, went_with_file}
use Rattle.tool_step.specs.Own.{OwnView, ToolPart, ToolTurn}
use Rattle.tool_law.specs.Putting.{PartPuts, block_timer_puts, character_puts, first_puts, input_puts, lacks_number, late_puts, line_timer_puts, none_put, one_lacks, reply_timer_puts, sample_puts, timer_puts, where_goes}
use Rattle.tool_law.specs.SpentSteps.{DrawsFew, SpentByCause, ends_spent, finds_spent}
use Rattle.tool_step.specs.Spooling.{end_of_spooling, unload_part}
use Rattle.tool_step.specs.Replies.{block_timer, reply_timer}
use Rattle.tool_step.specs.Sampling.{made_part, sample_parts, sampling}
use Rattle.tool_step.specs.Step.{answering, beginning, character, delay_timer, first_parts, input_part, is_spent, last_parts, late_parts, line_timer, offer}
use Rattle.tool_law.proofs.Drawing.{Costs, Needs, costs-as, costs-none, costs-on, costs-then, needs-none, or-false, takes-stay}
use Rattle.tool_law.proofs.DrawnSamples.{made-need, sampling-need}
use Rattle.tool_law.proofs.DrawnReplies.{answering-need, beginning-need, block-timer-need, character-need, closing-need, delay-need, ending-need, is_long, line-timer-need, offer-need, reply-timer-need, told-need, unload-need}

abbrev NodeStep : Type 0
NodeStep = Step (Node OwnView Kind) Happening

abbrev node_numbers : Node OwnView Kind → NumbersView
node_numbers node = node.core.numbers

abbrev file_numbers : EquipmentView → NumbersView
file_numbers s = s.node.core.numbers

abbrev NodeCosts : ℕ → Bool → NumbersView → Went (Node OwnView Kind) Happening → Type 0
NodeCosts most halts old went = Costs most halts old (node_numbers (step_in went).next) (ends_spent went)

abbrev FileCosts : ℕ → Bool → NumbersView → Went EquipmentView Happening → Type 0
FileCosts most halts old went = Costs most halts old (file_numbers (step_in went).next) (ends_spent went)

-- ---- one part

pub record PartCosts (most : ℕ) (putting : PartPuts) (part : ToolPart) : Type 0 where
  pub at : (step : NodeStep)
      → NodeCosts most (lacks_number (putting step.next.own step.next.core)) step.next.core.numbers
      (after_turn Some (part step.next.own step.next.core) step)

turn-costs :
    (most : ℕ) (halts : Bool) (own : OwnView) (old : NumbersView) (went : Went (EndView Kind) Happening)
    → Costs most halts old (step_in went).next.numbers (ends_spent went)
    → NodeCosts most halts old (went_with own went)
turn-costs most halts own old (Goes step) is = is
turn-costs most halts own old (Spent step) is = is

of-needs :
    (most : ℕ) (halts : Bool) (turn : ToolTurn) (step : NodeStep) → Needs most halts turn.duties
    → NodeCosts most halts step.next.core.numbers (after_turn Some turn step)
of-needs most halts turn step is =
    turn-costs most halts turn.own step.next.core.numbers (all_done Some turn.duties (core_step step))
    (is.at (core_step step))

part-of :
    (most : ℕ) (putting : PartPuts) (part : ToolPart)
    → ((own : OwnView) (e : EndView Kind) → Needs most (lacks_number (putting own e)) (part own e).duties)
    → PartCosts most putting part
part-of most putting part is = record {
  at = λ step.
      of-needs most (lacks_number (putting step.next.own step.next.core)) (part step.next.own step.next.core) step
      (is step.next.own step.next.core);
}

not-spent : (numbers : NumbersView) → numbers.next + 2 ≤ numbers.end → (numbers.end - numbers.next == 0) ≡ false
not-spent numbers enough = grind (arith, nat_tests, enough)

without : (long spent lacks : Bool) → spent ≡ false → ((long && spent) || lacks) ≡ lacks
without long spent lacks none = ap (λ (b : Bool). (long && b) || lacks) none ∙ go long
  where
    go : (b : Bool) → ((b && false) || lacks) ≡ lacks
    go true = refl
    go false = refl

-- where two numbers are left, a message that is too long ends nothing
char-part : (byte now : ℕ) → PartCosts 2 (character_puts byte now) (character byte now)
char-part byte now = record { at = λ step. go step }
  where
    go : (step : NodeStep)
        → NodeCosts 2 (lacks_number (character_puts byte now step.next.own step.next.core)) step.next.core.numbers
        (after_turn Some (character byte now step.next.own step.next.core) step)
    go step =
        let e = step.next.core in
        let later = core_after (Take byte now) e in
        let long = is_long (took_at e byte now) in
        let lacks = lacks_number (character_puts byte now step.next.own e) in
        let whole =
        of-needs 2 ((long && is_spent later) || lacks) (character byte now step.next.own e) step
        (character-need byte now step.next.own e) in
        record {
          few = whole.few;
          limit = whole.limit;
          cause = λ enough.
              whole.cause enough
              ∙ without long (is_spent later) lacks
              (not-spent later.numbers
              (subst (λ (n : NumbersView). n.next + 2 ≤ n.end) (sym (takes-stay byte now (at_first e))) enough));
        }

input-costs : (input : Input ToolCommand) (now : ℕ) → PartCosts 2 (input_puts input now) (input_part input now)
input-costs (Input.Char byte) now = char-part byte now
input-costs Input.Time now = part-of 2 none_put (input_part Input.Time now) (λ own e. needs-none 2)
input-costs (Input.Command command) now =
    part-of 2 (input_puts (Input.Command command) now) (input_part (Input.Command command) now) (told-need command now)

-- ---- parts one after the other

-- each draws one at most
abbrev AllOne : List PartPuts → List ToolPart → Type 0
AllOne [] [] = Unit {0}
AllOne [] (part ∷ parts) = ⊥
AllOne (putting ∷ more) [] = ⊥
AllOne (putting ∷ more) (part ∷ parts) = PartCosts 1 putting part × AllOne more parts

both-one :
    (puts more : List PartPuts) (parts rest : List ToolPart) → AllOne puts parts → AllOne more rest
    → AllOne (puts ++ more) (parts ++ rest)
both-one [] more [] rest first second = second
both-one [] more (part ∷ parts) rest first second = absurd first
both-one (putting ∷ puts) more [] rest first second = absurd first
both-one (putting ∷ puts) more (part ∷ parts) rest first second =
    (first.0, both-one puts more parts rest first.1 second)

many-one : (n : ℕ) (putting : PartPuts) (part : ToolPart) → PartCosts 1 putting part
    → AllOne (replicate n putting) (replicate n part)
many-one zero putting part one = tt
many-one (suc n) putting part one = (one, many-one n putting part one)

-- and one behind them two
parts-cost :
    (puts : List PartPuts) (parts : List ToolPart) (last_puts : PartPuts) (last : ToolPart) → AllOne puts parts
    → PartCosts 2 last_puts last → (step : NodeStep)
    → NodeCosts (length parts + 2) (one_lacks (puts ++ last_puts ∷ []) (parts ++ last ∷ []) step)
    step.next.core.numbers (after_parts Some (parts ++ last ∷ []) step)
parts-cost [] [] last_puts last all one step =
    costs-on node_numbers 2 0 (lacks_number (last_puts step.next.own step.next.core)) (one_lacks [] [])
    step.next.core.numbers (after_turn Some (last step.next.own step.next.core) step) (after_parts Some [])
    (one.at step)
    (λ next. costs-none next.next.core.numbers)
parts-cost [] (part ∷ parts) last_puts last all one step = absurd all
parts-cost (putting ∷ puts) [] last_puts last all one step = absurd all
parts-cost (putting ∷ puts) (part ∷ parts) last_puts last all one step =
    let lacks = lacks_number (putting step.next.own step.next.core) in
    let rest = one_lacks (puts ++ last_puts ∷ []) (parts ++ last ∷ []) in
    let went = after_turn Some (part step.next.own step.next.core) step in
    costs-as (1 + (length parts + 2)) (length (part ∷ parts) + 2) (lacks || where_goes rest went)
    (lacks || where_goes rest went) _ _ _ (omega arith) refl
    (costs-on node_numbers 1 (length parts + 2) lacks rest step.next.core.numbers went
    (after_parts Some (parts ++ last ∷ [])) (all.0.at step)
    (λ next. parts-cost puts parts last_puts last all.1 one next))

late-one : (now : ℕ) → AllOne (late_puts now) (late_parts now)
unfolding late_parts late_puts
late-one now =
    both-one (replicate 16 (block_timer_puts now)) (replicate 64 (reply_timer_puts now))
    (replicate 16 (block_timer now)) (replicate 64 (reply_timer now))
    (many-one 16 (block_timer_puts now) (block_timer now)
    (part-of 1 (block_timer_puts now) (block_timer now) (block-timer-need now)))
    (many-one 64 (reply_timer_puts now) (reply_timer now)
    (part-of 1 (reply_timer_puts now) (reply_timer now) (reply-timer-need now)))

abbrev timers : ℕ → List ToolPart
timers now = beginning now ∷ line_timer now ∷ (late_parts now ++ delay_timer now ∷ sample_parts now)

timers-count : (now : ℕ) → length (timers now) ≡ 100
unfolding late_parts sample_parts
timers-count now = refl

samples-one : (now : ℕ) → AllOne sample_puts (sample_parts now)
unfolding sample_parts sample_puts
samples-one now = (
  part-of 1 none_put (sampling now) (sampling-need now),
  many-one 16 none_put made_part (part-of 1 none_put made_part made-need),
)

timers-one : (now : ℕ) → AllOne (timer_puts now) (timers now)
timers-one now = (
  part-of 1 none_put (beginning now) (beginning-need now),
  (
    part-of 1 (line_timer_puts now) (line_timer now) (line-timer-need now),
    both-one (late_puts now) (none_put ∷ sample_puts) (late_parts now) (delay_timer now ∷ sample_parts now)
        (late-one now) (part-of 1 none_put (delay_timer now) (λ own e. delay-need now own), samples-one now),
  ),
)

-- all that comes before the works of the disk
first-cost : (input : Input ToolCommand) (now : ℕ) (step : NodeStep)
    → NodeCosts 102 (one_lacks (first_puts input now) (first_parts input now) step) step.next.core.numbers
    (after_parts Some (first_parts input now) step)
first-cost input now step =
    let count = timers-count now in
    let lacks = one_lacks (first_puts input now) (first_parts input now) step in
    costs-as (length (timers now) + 2) 102 lacks lacks _ _ _ (omega (arith, count)) refl
    (parts-cost (timer_puts now) (timers now) (input_puts input now) (input_part input now) (timers-one now)
    (input-costs input now) step)

-- and behind them
last-cost : (oldest : Option Spooled) (now : ℕ) (step : NodeStep)
    → NodeCosts 2 false step.next.core.numbers (after_parts Some (last_parts oldest now) step)
last-cost oldest now step =
    costs-then node_numbers 0 2 false false step.next.core.numbers
    (after_turn Some (answering step.next.own step.next.core) step)
    (after_parts Some (unload_part oldest ∷ end_of_spooling ∷ offer now ∷ closes ∷ []))
    (of-needs 0 false (answering step.next.own step.next.core) step (answering-need step.next.own step.next.core))
    (λ zero.
    costs-then node_numbers 2 0 false false zero.next.core.numbers
    (after_turn Some (unload_part oldest zero.next.own zero.next.core) zero)
    (after_parts Some (end_of_spooling ∷ offer now ∷ closes ∷ []))
    (of-needs 2 false (unload_part oldest zero.next.own zero.next.core) zero
    (unload-need oldest zero.next.own zero.next.core))
    (λ one.
    costs-then node_numbers 0 0 false false one.next.core.numbers
    (after_turn Some (end_of_spooling one.next.own one.next.core) one)
    (after_parts Some (offer now ∷ closes ∷ []))
    (of-needs 0 false (end_of_spooling one.next.own one.next.core) one (ending-need one.next.own one.next.core))
    (λ two.
    costs-then node_numbers 0 0 false false two.next.core.numbers
    (after_turn Some (offer now two.next.own two.next.core) two) (after_parts Some (closes ∷ []))
    (of-needs 0 false (offer now two.next.own two.next.core) two (offer-need now two.next.own two.next.core))
    (λ three.
    costs-then node_numbers 0 0 false false three.next.core.numbers
    (after_turn Some (closes three.next.own three.next.core) three) (after_parts Some [])
    (of-needs 0 false (closes three.next.own three.next.core) three (closing-need three.next.own three.next.core))
    (λ four. costs-none four.next.core.numbers)))))

-- ---- the whole step

file-costs :
    (most : ℕ) (halts : Bool) (old : NumbersView) (s : EquipmentView) (went : Went (Node OwnView Kind) Happening)
    → NodeCosts most halts old went → FileCosts most halts old (went_with_file s went)
file-costs most halts old s (Goes step) is = is
file-costs most halts old s (Spent step) is = is

settled-costs :
    (most : ℕ) (halts : Bool) (old : NumbersView) (went : Went EquipmentView Happening)
    → FileCosts most halts old went → FileCosts most halts old (settled_went went)
settled-costs most halts old (Goes step) is = is
settled-costs most halts old (Spent step) is = is

-- from its reserve on
module _ (input : Input ToolCommand) (now : ℕ) where
  abbrev parts_lack : Step EquipmentView Happening → Bool
  parts_lack step = one_lacks (first_puts input now) (first_parts input now) (node_step step)

  acts-cost : (s : EquipmentView)
      → FileCosts 104 (parts_lack (at_first s)) (file_numbers s)
      (and_then (settled_went (parts_done (first_parts input now) (at_first s))) (ended_step now))
  acts-cost s =
      let lacks = parts_lack (at_first s) in
      let begun = parts_done (first_parts input now) (at_first s) in
      costs-as (102 + 2) 104 (lacks || false) lacks _ _ _ (omega arith) (or-false lacks)
      (costs-then file_numbers 102 2 lacks false (file_numbers s) (settled_went begun) (ended_step now)
      (settled-costs 102 lacks (file_numbers s) begun
      (file-costs 102 lacks (file_numbers s) s (after_parts Some (first_parts input now) (node_step (at_first s)))
      (first-cost input now (node_step (at_first s)))))
      (λ step.
      file-costs 2 false (file_numbers step.next) step.next
      (after_parts Some (last_parts (oldest_of step.next) now) (node_step step))
      (last-cost (oldest_of step.next) now (node_step step))))

  abbrev opening : Bool → Bool → EquipmentView → Went EquipmentView Happening
  opening needs out s =
      if needs then if out then Spent (at_first s) else Goes (at_first (reserved s)) else Goes (at_first s)

  abbrev acts_on : Went EquipmentView Happening → Went EquipmentView Happening
  acts_on went = and_then (settled_went (and_then went (parts_done (first_parts input now)))) (ended_step now)

  none-few : (next : ℕ) → next < next + 128
  none-few next = omega arith

  so-few : (new old : ℕ) → new ≤ old + 104 → new < old + 128
  so-few new old few = omega (arith, few)

  few-drawn : (s : EquipmentView) → (file_numbers (step_in (act s input now)).next).next < (file_numbers s).next + 128
  few-drawn s = go (needs_numbers s) (is_marked_out s.file.mark.value)
    where
      go : (needs out : Bool)
          → (file_numbers (step_in (acts_on (opening needs out s))).next).next < (file_numbers s).next + 128
      go true true = none-few (file_numbers s).next
      go true false = so-few _ _ (acts-cost (reserved s)).few
      go false out = so-few _ _ (acts-cost s).few

  -- as many are left then as the step may draw
  left-then : (numbers : NumbersView) → nat_lt numbers.end (numbers.next + 128) ≡ false
      → numbers.next + 104 ≤ numbers.end
  left-then numbers none = grind (arith, nat_tests, none)

  left-reserved :
      (next end mark : ℕ) → next ≤ end → end ≡ mark → nat_lt (2 ^ 32) (mark + 4096) ≡ false
      → next + 104 ≤ min (end + 4096) (2 ^ 32)
  left-reserved next end mark ordered same room = grind (arith, nat_tests, ordered, same, room)

  spent-so :
      (s : EquipmentView) → (file_numbers s).next ≤ (file_numbers s).end → (file_numbers s).end ≡ s.file.mark.value
      → ends_spent (act s input now) ≡ finds_spent s input now
  spent-so s ordered mark = go (needs_numbers s) (is_marked_out s.file.mark.value) refl refl
    where
      go : (needs out : Bool) → needs_numbers s ≡ needs → is_marked_out s.file.mark.value ≡ out
          → ends_spent (acts_on (opening needs out s)) ≡ ((needs && out) || where_goes parts_lack (opening needs out s))
      go true true needed is = refl
      go true false needed is =
          (acts-cost (reserved s)).cause
          (left-reserved (file_numbers s).next (file_numbers s).end s.file.mark.value ordered mark is)
      go false out needed is = (acts-cost s).cause (left-then (file_numbers s) needed)

pub draws-few : DrawsFew
draws-few s input now = few-drawn input now s

pub spent-by-cause : SpentByCause
spent-by-cause plan base doings s input now did =
    spent-so input now s did.is.core.numbers.left.ordered did.sound.mark
