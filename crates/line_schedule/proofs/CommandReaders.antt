-- The commands of both ends, read.
use Rattle.std.proofs.Common.{◌≡◌, ℕ, ◌-◌, ◌^◌, ◌%◌, Bool, true, false, not, cond, eqb, List, ◌∷◌, ◌++◌, Option, Some, None, refl, ap, subst, ◌∙◌}
use Rattle.std.specs.Prelude.{codes}
use Rattle.std.specs.List.{list_all}
use Rattle.std.specs.Option.{option_and_then}
use Rattle.std.proofs.lemmas.Bool.{eqb-true, eq-eqb}
use Rattle.std.proofs.lemmas.List.Folds.{list_all-append}
use Rattle.secs_items.specs.declared.item.Item.{Item}
use Rattle.secs_items.specs.declared.item.Item.TheVariants as item
use Rattle.trace_log.specs.declared.commands.HostCommand.{HostCommand}
use Rattle.trace_log.specs.declared.commands.HostCommand.TheVariants as host
use Rattle.trace_log.specs.declared.commands.ToolCommand.{ToolCommand}
use Rattle.trace_log.specs.declared.commands.ToolCommand.TheVariants as tool
use Rattle.line_schedule.specs.Commands.{alarm_state_in, bare_tool_command_in, function_in, host_command_in, if_odd, message_name_in, tool_command_in, wait_and_body_in}
use Rattle.line_schedule.specs.Grammar.{IsAlarmState, IsAnyNumber, IsFunction, IsHostCommand, IsItem, IsMessageName, IsNumber, IsToolCommand, IsWaitAndBody, Spaced}
use Rattle.line_schedule.specs.Items.{text_in}
use Rattle.line_schedule.specs.Words.{any_number_in, number_in, read_split}
use Rattle.line_schedule.proofs.ItemReaders.{a_body, a_text, an_item, no_body_behind_w}
use Rattle.line_schedule.proofs.Places.{Lacks}
use Rattle.line_schedule.proofs.Readers.{IsFinderOf, IsReaderOf, behind, either, finds_made, finds_word, parted}
use Rattle.line_schedule.proofs.WordReaders.{any_number, number, number_lacks}

-- ---- the tool

alarm_state_there : IsFinderOf alarm_state_in IsAlarmState
alarm_state_there =
    either (finds_word (codes "set") true (λ text is. is)) (finds_word (codes "clear") false (λ text is. is))

alarm_state : IsReaderOf alarm_state_in IsAlarmState
alarm_state = record {
  there = alarm_state_there.there;
  again = λ is_set text is. again is_set text is;
} where
  again : (is_set : Bool) (text : List ℕ) → IsAlarmState is_set text → alarm_state_in text ≡ Some is_set
  again true text is = ap alarm_state_in is
  again false text is = ap alarm_state_in is

numbered : {V : Type 0} {read : List ℕ → Option V} {Is : V → List ℕ → Type 0} → IsReaderOf read Is →
    IsReaderOf (read_split 32 any_number_in read) (λ value. Spaced (IsAnyNumber value.0) (Is value.1))
numbered reader = parted 32 any_number reader (number_lacks 32 refl 0 (2 ^ 32 - 1))

terminal : IsReaderOf (read_split 32 (number_in 0 255) text_in) (λ value. Spaced (IsNumber 0 255 value.0) (IsItem (item.A value.1)))
terminal = parted 32 (number 0 255) a_text (number_lacks 32 refl 0 255)

bare_there : IsFinderOf bare_tool_command_in IsToolCommand
bare_there =
    either (finds_word (codes "enable") tool.Enable (λ text is. is))
    (either (finds_word (codes "disable") tool.Disable (λ text is. is))
    (either (finds_word (codes "online") tool.Online (λ text is. is))
    (either (finds_word (codes "offline") tool.Offline (λ text is. is))
    (either (finds_word (codes "local") tool.Local (λ text is. is)) (finds_word (codes "remote") tool.Remote (λ text is. is))))))

tool_there : IsFinderOf tool_command_in IsToolCommand
tool_there =
    either
    (either bare_there
    (either (finds_made (λ ceid. tool.Event ceid) (behind (codes "event ") any_number) (λ ceid text is. is))
    (finds_made (λ (x : ℕ × Bool). tool.Alarm x.0 x.1) (behind (codes "alarm ") (numbered alarm_state)) (λ x text is. is))))
    (either (finds_made (λ (x : ℕ × Item). tool.Set x.0 x.1) (behind (codes "set ") (numbered an_item)) (λ x text is. is))
    (finds_made (λ (x : ℕ × List ℕ). tool.Terminal x.0 x.1) (behind (codes "terminal ") terminal) (λ x text is. is)))

tool_again : (command : ToolCommand) (text : List ℕ) → IsToolCommand command text → tool_command_in text ≡ Some command
tool_again (tool.Set vid value) text (rest, placed, is) =
    let told : tool_command_in (codes "set " ++ rest) ≡ Some (tool.Set vid value) = rw ((numbered an_item).again (vid, value) rest is) refl in
    ap tool_command_in placed ∙ told
tool_again (tool.Event ceid) text (rest, placed, is) =
    let told : tool_command_in (codes "event " ++ rest) ≡ Some (tool.Event ceid) = rw (any_number.again ceid rest is) refl in
    ap tool_command_in placed ∙ told
tool_again (tool.Alarm alid is_set) text (rest, placed, is) =
    let told : tool_command_in (codes "alarm " ++ rest) ≡ Some (tool.Alarm alid is_set) = rw ((numbered alarm_state).again (alid, is_set) rest is) refl in
    ap tool_command_in placed ∙ told
tool_again tool.Enable text is = ap tool_command_in is
tool_again tool.Disable text is = ap tool_command_in is
tool_again tool.Online text is = ap tool_command_in is
tool_again tool.Offline text is = ap tool_command_in is
tool_again tool.Local text is = ap tool_command_in is
tool_again tool.Remote text is = ap tool_command_in is
tool_again (tool.Terminal tid bytes) text (rest, placed, is) =
    let told : tool_command_in (codes "terminal " ++ rest) ≡ Some (tool.Terminal tid bytes) = rw (terminal.again (tid, bytes) rest is) refl in
    ap tool_command_in placed ∙ told

pub tool_command : IsReaderOf tool_command_in IsToolCommand
tool_command = record { there = tool_there.there; again = tool_again }

-- ---- the host

function : IsReaderOf function_in IsFunction
function = record {
  there = λ n text h. there n text (number_in 0 255 text) refl h;
  again = λ n text is. rw ((number 0 255).again n text is.0, eq-eqb (n % 2) 1 is.1) refl;
} where
  odd : (n found : ℕ) (t : Bool) → eqb (found % 2) 1 ≡ t → cond t (Some found) None ≡ Some n → (found ≡ n) × (n % 2 ≡ 1)
  odd n found true e h =
      let same : found ≡ n = cc in (same, subst (λ (m : ℕ). m % 2 ≡ 1) same (eqb-true (found % 2) 1 e))
  odd n found false e h = absurd cc

  there : (n : ℕ) (text : List ℕ) (o : Option ℕ) → number_in 0 255 text ≡ o → option_and_then if_odd o ≡ Some n →
      IsFunction n text
  there n text None e h = absurd cc
  there n text (Some found) e h =
      let o = odd n found (eqb (found % 2) 1) refl h in
      ((number 0 255).there n text (e ∙ ap (λ (m : ℕ). Some m) o.0), o.1)

message_name : IsReaderOf message_name_in (λ name. IsMessageName name.0 name.1)
message_name = behind (codes "S") (parted 70 (number 1 127) function (number_lacks 70 refl 1 127))

parts_lack : (text first second : List ℕ) → text ≡ 83 ∷ (first ++ 70 ∷ second) → Lacks 32 first → Lacks 32 second → Lacks 32 text
parts_lack text first second placed f s =
    let joined : list_all (λ b. not (eqb b 32)) (first ++ 70 ∷ second) ≡ true =
    rw (list_all-append (λ b. not (eqb b 32)) first (70 ∷ second), f, s) refl in
    rw placed joined

name_lacks : (name : ℕ × ℕ) (text : List ℕ) → IsMessageName name.0 name.1 text → Lacks 32 text
name_lacks name text (rest, begins, (first, second, placed, stream, function)) =
    parts_lack text first second (begins ∙ ap (λ (s : List ℕ). 83 ∷ s) placed) (number_lacks 32 refl 1 127 name.0 first stream) (number_lacks 32 refl 0 255 name.1 second function.0)

wait_and_body_there : IsFinderOf wait_and_body_in (λ x. IsWaitAndBody x.0 x.1)
wait_and_body_there =
    either (finds_made {W = Bool × List ℕ} (λ body. (false, body)) a_body (λ body text is. is))
    (finds_made {W = Bool × List ℕ} (λ body. (true, body)) (behind (codes "W ") a_body) (λ body text is. is))

wait_and_body : IsReaderOf wait_and_body_in (λ x. IsWaitAndBody x.0 x.1)
wait_and_body = record {
  there = wait_and_body_there.there;
  again = λ x text is. again x.0 x.1 text is;
} where
  again : (wait : Bool) (body text : List ℕ) → IsWaitAndBody wait body text → wait_and_body_in text ≡ Some (wait, body)
  again false body text is = rw (a_body.again body text is) refl
  again true body text (rest, placed, is) =
      let told : wait_and_body_in (codes "W " ++ rest) ≡ Some (true, body) =
      rw (no_body_behind_w rest, (behind (codes "W ") a_body).again body (codes "W " ++ rest) (rest, refl, is)) refl in
      ap wait_and_body_in placed ∙ told

abbrev IsSending : (ℕ × ℕ) × (Bool × List ℕ) → List ℕ → Type 0
IsSending x = Spaced (IsMessageName x.0.0 x.0.1) (IsWaitAndBody x.1.0 x.1.1)

sending : IsReaderOf (read_split 32 message_name_in wait_and_body_in) IsSending
sending = parted 32 message_name wait_and_body name_lacks

host_there : IsFinderOf host_command_in IsHostCommand
host_there =
    either (finds_word (codes "enable") host.Enable (λ text is. is))
    (either (finds_word (codes "disable") host.Disable (λ text is. is))
    (finds_made (λ (x : (ℕ × ℕ) × (Bool × List ℕ)). host.Send x.0.0 x.0.1 x.1.0 x.1.1) (behind (codes "send ") sending) (λ x text is. is)))

host_again : (command : HostCommand) (text : List ℕ) → IsHostCommand command text → host_command_in text ≡ Some command
host_again (host.Send stream function wait body) text (rest, placed, is) =
    let told : host_command_in (codes "send " ++ rest) ≡ Some (host.Send stream function wait body) =
    rw (sending.again ((stream, function), (wait, body)) rest is) refl in
    ap host_command_in placed ∙ told
host_again host.Enable text is = ap host_command_in is
host_again host.Disable text is = ap host_command_in is

pub host_command : IsReaderOf host_command_in IsHostCommand
host_command = record { there = host_there.there; again = host_again }
