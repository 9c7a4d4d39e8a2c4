-- What lines tell is within its ranges.
use Rattle.std.proofs.Common.{◌≡◌, ℕ, zero, suc, ◌<◌, ◌≤◌, Bool, true, false, List, [], ◌∷◌, map, fold, inl, inr, refl, sym, ap, subst, ◌∙◌, arith}
use Rattle.std.specs.Prelude.{All, max}
use Rattle.std.specs.List.{AllByRecursion}
use Rattle.std.proofs.lemmas.List.Elements.{All-cons, All-nil}
use Rattle.disk_base.specs.declared.cut.CutChoice.{CutChoice}
use Rattle.disk_base.specs.declared.cut.CutChoice.TheVariants as choice
use Rattle.gl_base.specs.declared.side.Side.{Side}
use Rattle.gl_base.specs.declared.side.Side.TheVariants.{Equipment, Host}
use Rattle.secs_items.specs.declared.item.Item.{Item, out-Item}
use Rattle.secs_items.specs.declared.item.Item.TheFolds.{fold-roll-Item, map-Item}
use Rattle.secs_items.specs.declared.item.Item.TheOpen.{Item-F}
use Rattle.secs_items.specs.declared.item.Item.TheViews.{roll-out-Item}
use Rattle.secs_items.specs.Elements.{IsByte}
use Rattle.secs_items.specs.Kinds.{is_list}
use Rattle.secs_items.specs.Layers.{items_of, kind_of}
use Rattle.secs_items.specs.Limits.{max_depth}
use Rattle.secs_items.specs.Measures.{depth_of, layer_depth}
use Rattle.secs_items.specs.Spelling.{shortest_spelling}
use Rattle.secs_items.proofs.SpellLaws.{shortest_is_spelled}
use Rattle.secs_text.specs.Grammar.{IsShallow, NestsWithin}
use Rattle.secs_text.proofs.Quotes.{digit_small}
use Rattle.secs_text.proofs.Shallow.{text_shallow}
use Rattle.trace_log.specs.Commands.{HostCommandFits, ToolCommandFits}
use Rattle.trace_log.specs.declared.commands.HostCommand.{HostCommand}
use Rattle.trace_log.specs.declared.commands.HostCommand.TheVariants as host
use Rattle.trace_log.specs.declared.commands.ToolCommand.{ToolCommand}
use Rattle.trace_log.specs.declared.commands.ToolCommand.TheVariants as tool
use Rattle.line_schedule.specs.declared.event.Event.{Event}
use Rattle.line_schedule.specs.declared.event.Event.TheVariants as event
use Rattle.line_schedule.specs.declared.script.ScriptStep.{ScriptStep}
use Rattle.line_schedule.specs.declared.script.ScriptStep.TheVariants as step
use Rattle.line_schedule.specs.Events.{ChoiceFits, EventFits}
use Rattle.line_schedule.specs.Grammar.{IsBody, IsChoice, IsEventLine, IsHexByte, IsHostCommand, IsLoss, IsScriptLine, IsStep, IsToolCommand, IsWaitAndBody}
use Rattle.line_schedule.specs.Script.{LineFits, StepFits}
use Rattle.line_schedule.proofs.SpelledBytes.{spelled_bytes}
use Rattle.line_schedule.proofs.TextItems.{text_in_range}

-- ---- how deep an item is

deepest_by : (depths : List ℕ) (most depth : ℕ) → most ≤ depth → AllByRecursion (λ d. d ≤ depth) depths → fold max most depths ≤ depth
deepest_by [] most depth le each = le
deepest_by (d ∷ depths) most depth le each = deepest_by depths (max most d) depth (omega (arith, le, each.0)) each.1

each_shallow : (depth : ℕ) → ((i : Item) → NestsWithin depth i → depth_of i ≤ depth) → (items : List Item) →
    AllByRecursion (NestsWithin depth) items → AllByRecursion (λ d. d ≤ depth) (map depth_of items)
each_shallow depth each [] nests = tt
each_shallow depth each (i ∷ items) nests = (each i nests.0, each_shallow depth each items nests.1)

leaf_shallow : (depth : ℕ) (x : Item-F Item) → is_list (kind_of x) ≡ false → layer_depth (map-Item Item ℕ depth_of x) ≤ depth
leaf_shallow depth (Item-F.L items) is = absurd cc
leaf_shallow depth (Item-F.B xs) is = omega arith
leaf_shallow depth (Item-F.Bool xs) is = omega arith
leaf_shallow depth (Item-F.A xs) is = omega arith
leaf_shallow depth (Item-F.J xs) is = omega arith
leaf_shallow depth (Item-F.I1 xs) is = omega arith
leaf_shallow depth (Item-F.I2 xs) is = omega arith
leaf_shallow depth (Item-F.I4 xs) is = omega arith
leaf_shallow depth (Item-F.I8 xs) is = omega arith
leaf_shallow depth (Item-F.U1 xs) is = omega arith
leaf_shallow depth (Item-F.U2 xs) is = omega arith
leaf_shallow depth (Item-F.U4 xs) is = omega arith
leaf_shallow depth (Item-F.U8 xs) is = omega arith
leaf_shallow depth (Item-F.F4 xs) is = omega arith
leaf_shallow depth (Item-F.F8 xs) is = omega arith

layer_shallow : (depth : ℕ) → ((i : Item) → NestsWithin depth i → depth_of i ≤ depth) → (x : Item-F Item) →
    AllByRecursion (NestsWithin depth) (items_of x) → layer_depth (map-Item Item ℕ depth_of x) ≤ suc depth
layer_shallow depth each (Item-F.L items) nests =
    let below = deepest_by (map depth_of items) 0 depth (omega arith) (each_shallow depth each items nests) in omega (arith, below)
layer_shallow depth each x nests = leaf_shallow (suc depth) x refl

depth_opened : (i : Item) → depth_of i ≡ layer_depth (map-Item Item ℕ depth_of (out-Item i))
depth_opened i = ap depth_of (sym (roll-out-Item i)) ∙ fold-roll-Item ℕ layer_depth (out-Item i)

nests_shallow : (depth : ℕ) (i : Item) → NestsWithin depth i → depth_of i ≤ depth
nests_shallow zero i nests = rw (depth_opened i) (leaf_shallow 0 (out-Item i) nests)
nests_shallow (suc depth) i nests = rw (depth_opened i) (layer_shallow depth (nests_shallow depth) (out-Item i) nests)

shallow : (i : Item) → IsShallow i → depth_of i ≤ max_depth
unfolding IsShallow
shallow i nests = nests_shallow 64 i nests

-- ---- bytes

hex_fits : (byte : ℕ) (text : List ℕ) → IsHexByte byte text → byte < 256
hex_fits byte text is =
    let high = digit_small is.first is.high is.high_is in
    let low = digit_small is.second is.low is.low_is in
    omega (arith, high, low, is.value)

each_byte : (bytes : List ℕ) → AllByRecursion IsByte bytes → All (λ (b : ℕ). b < 256) bytes
each_byte [] all = All-nil (λ (b : ℕ). b < 256)
each_byte (b ∷ bytes) all = All-cons (λ (b : ℕ). b < 256) b bytes all.0 (each_byte bytes all.1)

body_bytes : (body text : List ℕ) → IsBody body text → All (λ (b : ℕ). b < 256) body
body_bytes body text (inl (hyphen, is)) = subst (All (λ (b : ℕ). b < 256)) (sym is) (All-nil (λ (b : ℕ). b < 256))
body_bytes body text (inr (item, reads, none, is)) =
    let spelled = spelled_bytes item (shortest_spelling item) (shortest_is_spelled item (text_in_range text item reads) none) in
    subst (All (λ (b : ℕ). b < 256)) (sym is) (each_byte (shortest_spelling item) spelled)

sent_bytes : (wait : Bool) (body text : List ℕ) → IsWaitAndBody wait body text → All (λ (b : ℕ). b < 256) body
sent_bytes true body text (rest, placed, is) = body_bytes body rest is
sent_bytes false body text is = body_bytes body text is

-- ---- commands

tool_fits : (command : ToolCommand) (text : List ℕ) → IsToolCommand command text → ToolCommandFits command
tool_fits (tool.Set vid value) text (rest, placed, (first, second, same, number, reads)) = shallow value (text_shallow second value reads)
tool_fits (tool.Event ceid) text is = tt
tool_fits (tool.Alarm alid is_set) text is = tt
tool_fits tool.Enable text is = tt
tool_fits tool.Disable text is = tt
tool_fits tool.Online text is = tt
tool_fits tool.Offline text is = tt
tool_fits tool.Local text is = tt
tool_fits tool.Remote text is = tt
tool_fits (tool.Terminal tid bytes) text is = tt

host_fits : (command : HostCommand) (text : List ℕ) → IsHostCommand command text → HostCommandFits command
host_fits (host.Send stream function wait body) text (rest, placed, (name, more, same, (behind, begins, (first, second, parts, x, y)), ends)) =
    record {
      name = record { at_least = x.at_least; at_most = x.at_most; odd = y.1 };
      byte = omega (arith, y.0.at_most);
      bytes = sent_bytes wait body more ends;
    }
host_fits host.Enable text is = tt
host_fits host.Disable text is = tt

-- ---- lines

choice_fits : (made : CutChoice) (text : List ℕ) → IsChoice made text → ChoiceFits made
choice_fits choice.Old text is = tt
choice_fits choice.New text is = tt
choice_fits (choice.Fill byte) text is = tt
choice_fits (choice.First n) text (rest, placed, is) = is.at_most

loss_fits : (call : ℕ) (made : CutChoice) (text : List ℕ) → IsLoss call made text → (1 ≤ call) × ChoiceFits made
loss_fits call made text (first, second, same, number, is) = (number.at_least, choice_fits made second is)

pub event_fits : (told : Event) (line : List ℕ) → IsEventLine told line → EventFits told
event_fits (event.To side n) line is = tt
event_fits (event.Lose side n) line is = tt
event_fits (event.Change side place byte) line (rest, placed, (behind, sided, (first, second, same, number, is))) = hex_fits byte second is
event_fits (event.Add side byte) line (rest, placed, (behind, sided, is)) = hex_fits byte behind is
event_fits event.Settle line is = tt
event_fits (event.Wait ms) line (rest, placed, is) = is.at_most
event_fits (event.Tool command) line (rest, placed, is) = tool_fits command rest is
event_fits (event.Host command) line (rest, placed, is) = host_fits command rest is
event_fits (event.Cut call made) line (rest, placed, is) = loss_fits call made rest is
event_fits (event.HostCut call made) line (rest, placed, is) = loss_fits call made rest is

step_fits : (side : Side) (made : ScriptStep) (text : List ℕ) → IsStep side made text → StepFits made
step_fits Equipment (step.Tool command) text is = tool_fits command text is
step_fits Equipment (step.Host command) text is = absurd is
step_fits Equipment step.Stop text is = tt
step_fits Host (step.Tool command) text is = absurd is
step_fits Host (step.Host command) text is = host_fits command text is
step_fits Host step.Stop text is = tt

pub line_fits : (side : Side) (told : ℕ × ScriptStep) (line : List ℕ) → IsScriptLine side told line → LineFits told
line_fits side told line (first, second, same, number, is) = (omega (arith, number.at_most), step_fits side told.1 second is)
