-- The events of a schedule's lines, and the lines of a script, read.
use Rattle.std.proofs.Common.{◌≡◌, ℕ, ◌-◌, ◌^◌, ◌≤◌, Bool, true, false, inl, inr, List, [], ◌∷◌, ◌++◌, length, Option, Some, None, refl, sym, ap, ◌∙◌, arith}
use Rattle.std.specs.Prelude.{codes}
use Rattle.std.specs.Char.{is_ascii_digit}
use Rattle.std.specs.List.{list_all}
use Rattle.std.proofs.lemmas.Bool.{eqb-true}
use Rattle.disk_base.specs.declared.cut.CutChoice.{CutChoice}
use Rattle.disk_base.specs.declared.cut.CutChoice.TheVariants as choice
use Rattle.gl_base.specs.declared.side.Side.{Side}
use Rattle.gl_base.specs.declared.side.Side.TheVariants.{Equipment, Host}
use Rattle.line_schedule.specs.declared.event.Event.{Event}
use Rattle.line_schedule.specs.declared.event.Event.TheVariants as event
use Rattle.line_schedule.specs.declared.script.ScriptStep.{ScriptStep}
use Rattle.line_schedule.specs.declared.script.ScriptStep.TheVariants as step
use Rattle.line_schedule.specs.Events.{choice_in, event_in, loss_in, may_stand}
use Rattle.line_schedule.specs.Grammar.{IsAnyNumber, IsChoice, IsEventLine, IsHexByte, IsLoss, IsPassedOver, IsScriptLine, IsStep, IsWord, Spaced}
use Rattle.line_schedule.specs.Reading.{command_in, is_passed_over, script_line_in, step_in, told_in}
use Rattle.line_schedule.specs.Words.{any_number_in, byte_in, read_split}
use Rattle.line_schedule.proofs.CommandReaders.{host_command, tool_command}
use Rattle.line_schedule.proofs.Readers.{IsFinderOf, IsReaderOf, behind, either, finds_made, finds_word, kept, parted}
use Rattle.line_schedule.proofs.WordReaders.{and_both, any_number, hex_byte, number, number_lacks, sided}

-- ---- parts of a line

placed_byte : IsReaderOf (read_split 32 any_number_in byte_in) (λ value. Spaced (IsAnyNumber value.0) (IsHexByte value.1))
placed_byte = parted 32 any_number hex_byte (number_lacks 32 refl 0 (2 ^ 32 - 1))

choice_there : IsFinderOf choice_in IsChoice
choice_there =
    either (finds_word (codes "old") choice.Old (λ text is. is))
    (either (finds_word (codes "new") choice.New (λ text is. is))
    (either (finds_made (λ byte. choice.Fill byte) (behind (codes "fill ") hex_byte) (λ byte text is. is))
    (finds_made (λ n. choice.First n) (behind (codes "first ") any_number) (λ n text is. is))))

choice_again : (made : CutChoice) (text : List ℕ) → IsChoice made text → choice_in text ≡ Some made
choice_again choice.Old text is = ap choice_in is
choice_again choice.New text is = ap choice_in is
choice_again (choice.Fill byte) text (rest, placed, is) =
    let told : choice_in (codes "fill " ++ rest) ≡ Some (choice.Fill byte) = rw (hex_byte.again byte rest is) refl in
    ap choice_in placed ∙ told
choice_again (choice.First n) text (rest, placed, is) =
    let told : choice_in (codes "first " ++ rest) ≡ Some (choice.First n) = rw (any_number.again n rest is) refl in
    ap choice_in placed ∙ told

a_choice : IsReaderOf choice_in IsChoice
a_choice = record { there = choice_there.there; again = choice_again }

a_loss : IsReaderOf loss_in (λ value. IsLoss value.0 value.1)
a_loss = parted 32 (number 1 (2 ^ 32 - 1)) a_choice (number_lacks 32 refl 1 (2 ^ 32 - 1))

-- ---- lines of a schedule

event_there : IsFinderOf event_in IsEventLine
event_there =
    either
    (either (finds_made (λ (x : Side × ℕ). event.To x.0 x.1) (behind (codes "to ") (sided any_number)) (λ x text is. is))
    (either (finds_word (codes "settle") event.Settle (λ text is. is))
    (either (finds_made (λ ms. event.Wait ms) (behind (codes "wait ") (number 0 1000000)) (λ ms text is. is))
    (either (finds_made (λ (x : Side × ℕ). event.Lose x.0 x.1) (behind (codes "lose ") (sided any_number)) (λ x text is. is))
    (either
    (finds_made (λ (x : Side × (ℕ × ℕ)). event.Change x.0 x.1.0 x.1.1) (behind (codes "change ") (sided placed_byte)) (λ x text is. is))
    (either (finds_made (λ (x : Side × ℕ). event.Add x.0 x.1) (behind (codes "add ") (sided hex_byte)) (λ x text is. is))
    (either (finds_made (λ (x : ℕ × CutChoice). event.Cut x.0 x.1) (behind (codes "cut ") a_loss) (λ x text is. is))
    (finds_made (λ (x : ℕ × CutChoice). event.HostCut x.0 x.1) (behind (codes "hcut ") a_loss) (λ x text is. is)))))))))
    (either (finds_made (λ command. event.Tool command) (behind (codes "tool ") tool_command) (λ command text is. is))
    (finds_made (λ command. event.Host command) (behind (codes "host ") host_command) (λ command text is. is)))

event_again : (told : Event) (line : List ℕ) → IsEventLine told line → event_in line ≡ Some told
event_again (event.To side n) line (rest, placed, is) =
    let told : event_in (codes "to " ++ rest) ≡ Some (event.To side n) = rw ((sided any_number).again (side, n) rest is) refl in
    ap event_in placed ∙ told
event_again (event.Lose side n) line (rest, placed, is) =
    let told : event_in (codes "lose " ++ rest) ≡ Some (event.Lose side n) = rw ((sided any_number).again (side, n) rest is) refl in
    ap event_in placed ∙ told
event_again (event.Change side place byte) line (rest, placed, is) =
    let told : event_in (codes "change " ++ rest) ≡ Some (event.Change side place byte) = rw ((sided placed_byte).again (side, (place, byte)) rest is) refl in
    ap event_in placed ∙ told
event_again (event.Add side byte) line (rest, placed, is) =
    let told : event_in (codes "add " ++ rest) ≡ Some (event.Add side byte) = rw ((sided hex_byte).again (side, byte) rest is) refl in
    ap event_in placed ∙ told
event_again event.Settle line is = ap event_in is
event_again (event.Wait ms) line (rest, placed, is) =
    let told : event_in (codes "wait " ++ rest) ≡ Some (event.Wait ms) = rw ((number 0 1000000).again ms rest is) refl in
    ap event_in placed ∙ told
event_again (event.Tool command) line (rest, placed, is) =
    let told : event_in (codes "tool " ++ rest) ≡ Some (event.Tool command) = rw (tool_command.again command rest is) refl in
    ap event_in placed ∙ told
event_again (event.Host command) line (rest, placed, is) =
    let told : event_in (codes "host " ++ rest) ≡ Some (event.Host command) = rw (host_command.again command rest is) refl in
    ap event_in placed ∙ told
event_again (event.Cut call made) line (rest, placed, is) =
    let told : event_in (codes "cut " ++ rest) ≡ Some (event.Cut call made) = rw (a_loss.again (call, made) rest is) refl in
    ap event_in placed ∙ told
event_again (event.HostCut call made) line (rest, placed, is) =
    let told : event_in (codes "hcut " ++ rest) ≡ Some (event.HostCut call made) = rw (a_loss.again (call, made) rest is) refl in
    ap event_in placed ∙ told

pub an_event : IsReaderOf event_in IsEventLine
an_event = record { there = event_there.there; again = event_again }

-- those that may stand there
pub a_told_event : (host_loses : Bool) → IsReaderOf (told_in host_loses) (λ told line. (may_stand host_loses told ≡ true) × IsEventLine told line)
a_told_event host_loses = kept (may_stand host_loses) an_event

-- ---- lines of a script

command_there : (side : Side) → IsFinderOf (command_in side) (IsStep side)
command_there Equipment =
    finds_made {Is = IsStep Equipment} (λ command. step.Tool command) tool_command (λ command text is. is)
command_there Host = finds_made {Is = IsStep Host} (λ command. step.Host command) host_command (λ command text is. is)

stops : (side : Side) (text : List ℕ) → IsWord (codes "stop") text → IsStep side step.Stop text
stops Equipment text is = is
stops Host text is = is

step_again : (side : Side) (made : ScriptStep) (text : List ℕ) → IsStep side made text → step_in side text ≡ Some made
step_again Equipment (step.Tool command) text is = rw (tool_command.again command text is) refl
step_again Equipment (step.Host command) text is = absurd is
step_again Equipment step.Stop text is = ap (step_in Equipment) is
step_again Host (step.Tool command) text is = absurd is
step_again Host (step.Host command) text is = rw (host_command.again command text is) refl
step_again Host step.Stop text is = ap (step_in Host) is

step_there : (side : Side) → IsFinderOf (step_in side) (IsStep side)
step_there side = either (command_there side) (finds_word (codes "stop") step.Stop (stops side))

a_step : (side : Side) → IsReaderOf (step_in side) (IsStep side)
a_step side = record {
  there = (step_there side).there;
  again = step_again side;
}

pub a_script_line : (side : Side) → IsReaderOf (script_line_in side) (IsScriptLine side)
a_script_line side = parted 32 any_number (a_step side) (number_lacks 32 refl 0 (2 ^ 32 - 1))

-- ---- lines that are passed over

pub passed_there : (line : List ℕ) → is_passed_over line ≡ true → IsPassedOver line
passed_there [] h = inl refl
passed_there (b ∷ rest) h = inr (rest, ap (λ (c : ℕ). c ∷ rest) (eqb-true b 35 h))

pub passed_again : (line : List ℕ) → IsPassedOver line → is_passed_over line ≡ true
passed_again line (inl empty) = ap is_passed_over empty
passed_again line (inr (rest, placed)) = ap is_passed_over placed

unread : {V : Type 0} (o : Option V) (value : V) → o ≡ None → o ≡ Some value → ⊥
unread None value a b = cc
unread (Some v) value a b = cc

-- such a line tells no event
pub no_event : (line : List ℕ) (told : Event) → IsPassedOver line → IsEventLine told line → ⊥
no_event line told (inl empty) is = unread (event_in line) told (ap event_in empty) (event_again told line is)
no_event line told (inr (rest, placed)) is = unread (event_in line) told (ap event_in placed) (event_again told line is)

-- a number doesn't begin so
number_first : (line first second : List ℕ) → line ≡ first ++ 32 ∷ second → 1 ≤ length first →
    list_all is_ascii_digit first ≡ true → IsPassedOver line → ⊥
number_first line [] second placed some digits passed = omega (arith, some)
number_first line (b ∷ first) second placed some digits (inl empty) =
    let h : ◌≡◌ {A = List ℕ} [] (b ∷ (first ++ 32 ∷ second)) = sym empty ∙ placed in cc
number_first line (b ∷ first) second placed some digits (inr (rest, same)) =
    let h : ◌≡◌ {A = List ℕ} (35 ∷ rest) (b ∷ (first ++ 32 ∷ second)) = sym same ∙ placed in
    let is : b ≡ 35 = cc in
    let digit : is_ascii_digit b ≡ true = (and_both (is_ascii_digit b) (list_all is_ascii_digit first) digits).0 in
    let none : is_ascii_digit b ≡ false = ap is_ascii_digit is in
    cc

pub none_told : (side : Side) (line : List ℕ) (told : ℕ × ScriptStep) → IsPassedOver line → IsScriptLine side told line → ⊥
none_told side line told passed (first, second, placed, number, is) =
    number_first line first second placed number.some number.digits passed
