-- A step keeps a setup where one is kept, and none where the file has no area: no turn but that of a primary that is
-- kept changes the setup, and there it is one already.
use Rattle.std.proofs.Common.{◌≡◌, refl, sym, ap, ◌∙◌, ◌&&◌, ◌||◌, not, Bool, true, false, ℕ, zero, suc, List, [], ◌∷◌, ◌++◌, is_some, replicate, Option, Some, None, if◌then◌else◌}
use Rattle.std.specs.Option.{option_map, option_map_or}
use Rattle.block_codec.specs.declared.header.Header.{Header}
use Rattle.gem_shapes.specs.declared.request.Request.{Request}
use Rattle.gem_shapes.specs.declared.request.Request.TheVariants as request
use Rattle.gem_recipes.specs.Asking.{is_change}
use Rattle.gem_shapes.specs.Primaries.{is_known}
use Rattle.gem_spool.specs.declared.works.Work.{Work}
use Rattle.gem_spool.specs.Standing.{Standing}
use Rattle.gem_spool.specs.Works.{standing_after, standings_after}
use Rattle.message_flow.specs.declared.flow.Flow.{Flow}
use Rattle.message_flow.specs.declared.flow.Flow.TheVariants as flow
use Rattle.message_flow.specs.declared.message.Message.{Message}
use Rattle.message_flow.specs.Message.{is_primary}
use Rattle.setup_store.specs.Entries.{Entry, bytes_of, has_room, is_kept}
use Rattle.setup_store.specs.Copies.{with_kept}
use Rattle.setup_store.specs.Kept.{kept}
use Rattle.spool_file.specs.File.{SpoolFile}
use Rattle.spool_file.specs.Setup.{Setup}
use Rattle.trace_log.specs.declared.commands.ToolCommand.{ToolCommand}
use Rattle.trace_log.specs.Log.{Happening}
use Rattle.trace_log.specs.Names.{Spooled}
use Rattle.transact.specs.Transactions.{match_of}
use Rattle.message_end.specs.declared.end.Took.{Took}
use Rattle.message_end.specs.declared.end.Took.TheVariants as took
use Rattle.message_end.specs.Calls.{answered_by, dropped_now, due_now, failed_at, took_at}
use Rattle.message_end.specs.Core.{EndView, Step, Went, and_then, at_first, step_in}
use Rattle.message_end.specs.Core.Command.{Answer, DropDue, Expire, Take, Tick}
use Rattle.message_end.specs.Core.Went.{Goes, Spent}
use Rattle.message_end.specs.Duties.{all_done}
use Rattle.message_end.specs.Ends.{Input}
use Rattle.message_end.specs.Parts.{Node, after_parts, core_after, core_step, went_with, with_own}
use Rattle.equipment_tables.specs.Requests.{request_of}
use Rattle.equipment_tables.specs.Setup.{accepts_request, primary_of as kept_primary}
use Rattle.equipment_tables.specs.Tables.{most_transmitted}
use Rattle.spool_ledger.specs.Ledger.{LedgerView, stood_count}
use Rattle.spool_ledger.specs.Unloading.{after_next, next_number as next_unloaded}
use Rattle.tool_step.specs.declared.kind.Kind.{Kind}
use Rattle.tool_step.specs.declared.owed.Owed.{Owed}
use Rattle.tool_step.specs.declared.owed.Owed.TheVariants.{Answered, Keep, Recipes}
use Rattle.tool_step.specs.Equipment.{EquipmentView, begun_step, is_marked_out, needs_numbers, reserved, parts_done, settled_file, node_step, went_with_file}
use Rattle.tool_step.specs.Messages.{heard_turn, is_establish_request, is_online_request, kept_turn, message_turn, primary_turn, read_turn, requested_turn}
use Rattle.tool_step.specs.Recipes.{asked_of, takes_stream}
use Rattle.tool_step.specs.Own.{OwnView, ToolPart, ToolTurn, is_communicating, is_enabled_in, is_online, unowed, with_ledger}
use Rattle.tool_step.specs.Replies as replies
use Rattle.tool_step.specs.Sampling as sampling
use Rattle.tool_step.specs.Sampling.{sample_parts}
use Rattle.tool_step.specs.Setup.{bytes_to_keep, kept_file, list_of, setup_in}
use Rattle.tool_step.specs.Step as step
use Rattle.tool_step.specs.Step.{late_parts}
use Rattle.tool_law.proofs.CommandWalks.{AllAre, are-both}
use Rattle.tool_law.proofs.CoreSteps.{CoreStep}
use Rattle.gem_shapes.proofs.RecipeRequests.{each_request}
use Rattle.tool_law.proofs.Asides.{Aside, command-stays, either, failed-stays, given-up-stays, made-stays, matched-stays, request-stays, t4-stays, taking-stays, timeout-stays}

abbrev has_setup : Aside → Bool
has_setup x = is_some x.0

-- ---- requests

-- the turn has a setup where there was one
abbrev Has : OwnView → ToolTurn → Type 0
Has own turn = is_some turn.own.setup ≡ is_some own.setup

either-has : (own : OwnView) (b : Bool) (one two : ToolTurn) → Has own one → Has own two
    → Has own (if b then one else two)
either-has own true one two first second = first
either-has own false one two first second = second

unkept-has : (asked : Request) (now : ℕ) (message : Message) (own : OwnView)
    → Has own (heard_turn None now asked message own)
unkept-has asked now message own =
    each_request (λ one. Has own (heard_turn None now one message own))
    (λ recipes. either-has own (message.wait || is_change (asked_of recipes)) _ _ refl refl)
    (λ one apart. ap has_setup (request-stays one now message own apart)) asked

kept-has : (room : Bool) (list : List Entry) (asked : Request) (message : Message) (own : OwnView)
    → is_some own.setup ≡ true → Has own (kept_turn room list asked message own)
kept-has true list asked message own has = sym has
kept-has false list asked message own has = refl

-- a list is kept where there is one
requested-has : (now : ℕ) (asked : Request) (message : Message) (own : OwnView)
    → Has own (requested_turn now asked message own)
requested-has now (request.OfTables asked) message own =
    go own.setup refl (is_kept message.stream message.function && accepts_request own.tables asked)
  where
    all : Request
    all = request.OfTables asked

    go : (setup : Option (List Entry)) → own.setup ≡ setup → (accepted : Bool)
        → Has own
        (heard_turn (if accepted then option_map (λ list. kept list (kept_primary message)) setup else None) now all
        message own)
    go (Some list) is true =
        let next = kept list (kept_primary message) in
        kept-has (has_room (bytes_of next)) next all message own (ap is_some is)
    go None is true = unkept-has all now message own
    go setup is false = unkept-has all now message own
requested-has now (request.OfRecipes asked) message own = unkept-has (request.OfRecipes asked) now message own
requested-has now request.Establish message own = unkept-has request.Establish now message own
requested-has now request.GoOffline message own = unkept-has request.GoOffline now message own
requested-has now request.GoOnline message own = unkept-has request.GoOnline now message own
requested-has now request.TransmitSpool message own = unkept-has request.TransmitSpool now message own
requested-has now request.PurgeSpool message own = unkept-has request.PurgeSpool now message own
requested-has now (request.Trace trid dsper total group svids) message own =
    unkept-has (request.Trace trid dsper total group svids) now message own

read-has : (now : ℕ) (asked : Option Request) (header : Header) (message : Message) (own : OwnView)
    → Has own (read_turn now asked header message own)
read-has now None header message own = refl
read-has now (Some asked) header message own = requested-has now asked message own

primary-has : (now : ℕ) (header : Header) (message : Message) (own : OwnView)
    → Has own (primary_turn now header message own)
primary-has now header message own =
    either-has own (is_establish_request message) _ _ refl
    (either-has own (not (is_communicating own)) _ _ refl
    (either-has own (not (is_online own) && not (is_online_request message)) _ _
    (ap has_setup (either own message.wait _ _ refl refl))
    (either-has own (not (takes_stream own message.stream)) _ _ refl
    (either-has own (not (is_known message.stream message.function)) _ _ refl
    (read-has now (request_of message.stream message.function message.body) header message own)))))

message-has : (now : ℕ) (header : Header) (message : Message) (own : OwnView) (e : EndView Kind)
    → Has own (message_turn now header message own e)
message-has now header message own e =
    either-has own (not (is_enabled_in own.comms.state)) _ _ refl
    (either-has own (is_primary message) _ _ (primary-has now header message own)
    (ap has_setup
    (matched-stays now (match_of header (answered_by e header)) message own (core_after (Answer header) e))))

flow-has : (now : ℕ) (header : Header) (came : Flow) (own : OwnView) (e : EndView Kind)
    → Has own (step.flow_turn now header came own e)
flow-has now header flow.Part own e = refl
flow-has now header (flow.Whole message check) own e = message-has now header message own e
flow-has now header flow.Duplicate own e = refl
flow-has now header (flow.Foreign address) own e = refl
flow-has now header flow.Unexpected own e = ap has_setup (given-up-stays now header own e)
flow-has now header flow.TooLong own e = go (step.is_spent e)
  where
    go : (spent : Bool)
        → Has own (step.long_turn spent header own (replies.given_up_turn now header own e))
    go true = refl
    go false = ap has_setup (given-up-stays now header own e)
flow-has now header flow.Crowded own e = ap has_setup (given-up-stays now header own e)

took-has : (now : ℕ) (what : Took) (own : OwnView) (e : EndView Kind) → Has own (step.took_turn now what own e)
took-has now took.Nothing own e = refl
took-has now (took.Failed header) own e = ap has_setup (failed-stays now (Some header) own e)
took-has now (took.Came header came) own e = flow-has now header came own e

-- ---- parts

abbrev pub KeepsArea : ToolPart → Type 0
KeepsArea part = (own : OwnView) (e : EndView Kind) → Has own (part own e)

abbrev pub AllKeepArea : List ToolPart → Type 0
AllKeepArea = AllAre KeepsArea

many-keep : (count : ℕ) (part : ToolPart) → KeepsArea part → AllKeepArea (replicate count part)
many-keep zero part keeps = tt
many-keep (suc count) part keeps = (keeps, many-keep count part keeps)

input-has : (input : Input ToolCommand) (now : ℕ) → KeepsArea (step.input_part input now)
input-has (Input.Char byte) now own e = took-has now (took_at e byte now) own (core_after (Take byte now) e)
input-has Input.Time now own e = refl
input-has (Input.Command command) now own e = ap has_setup (command-stays command now own e)

line-has : (now : ℕ) → KeepsArea (step.line_timer now)
line-has now own e = ap has_setup (failed-stays now (failed_at e now) own (core_after (Tick now) e))

pub first-area : (input : Input ToolCommand) (now : ℕ) → AllKeepArea (step.first_parts input now)
unfolding late_parts sample_parts
first-area input now = (
  (λ own e. ap has_setup (either own (own.has_begun || not own.plan.enable) _ _ refl refl)),
  (
    line-has now,
    are-both KeepsArea
        ((replicate 16 (replies.block_timer now) ++ replicate 64 (replies.reply_timer now))
        ++ step.delay_timer now ∷ sampling.sampling now ∷ replicate 16 sampling.made_part)
        (step.input_part input now ∷ [])
        (are-both KeepsArea (replicate 16 (replies.block_timer now) ++ replicate 64 (replies.reply_timer now))
        (step.delay_timer now ∷ sampling.sampling now ∷ replicate 16 sampling.made_part)
        (are-both KeepsArea (replicate 16 (replies.block_timer now)) (replicate 64 (replies.reply_timer now))
        (many-keep 16 (replies.block_timer now)
        (λ own e. ap has_setup (t4-stays now (dropped_now e now) own (core_after (DropDue now) e))))
        (many-keep 64 (replies.reply_timer now)
        (λ own e. ap has_setup (timeout-stays now (due_now e now) own (core_after (Expire now) e))))) (
          (λ own e. refl),
          ((λ own e. refl), many-keep 16 sampling.made_part (λ own e. ap has_setup (made-stays own e))),
        ))
        (input-has input now, tt),
  ),
)

pub last-area : (oldest : Option Spooled) (now : ℕ) → AllKeepArea (step.last_parts oldest now)
last-area oldest now = (
  (λ own e. answers own own.owed),
  (
    (λ own e. ap has_setup (taking-stays (next_unloaded (most_transmitted own.tables) own.ledger) oldest
        (with_ledger (after_next (most_transmitted own.tables) own.ledger) own) e)),
    ((λ own e. refl), ((λ own e. refl), ((λ own e. refl), tt))),
  ),
)
  where
    answers : (own : OwnView) (owed : Option Owed) → Has own (step.owed_turn owed (unowed own))
    answers own None = refl
    answers own (Some (Keep primary)) = refl
    answers own (Some (Recipes asked primary)) = refl
    answers own (Some (Answered given primary)) = refl

-- ---- a step

pub area-after : (parts : List ToolPart) → AllKeepArea parts → (so_far : Step (Node OwnView Kind) Happening)
    → is_some (step_in (after_parts Some parts so_far)).next.own.setup ≡ is_some so_far.next.own.setup
area-after [] all so_far = refl
area-after (part ∷ parts) all so_far =
    go (all_done Some turn.duties (core_step so_far)) (λ core. area-after parts all.1 (with_own turn.own core))
  where
    turn : ToolTurn
    turn = part so_far.next.own so_far.next.core

    has : Has so_far.next.own turn
    has = all.0 so_far.next.own so_far.next.core

    go : (went : Went (EndView Kind) Happening)
        → ((core : CoreStep)
        → is_some (step_in (after_parts Some parts (with_own turn.own core))).next.own.setup ≡ is_some turn.own.setup)
        → is_some (step_in (and_then (went_with turn.own went) (after_parts Some parts))).next.own.setup
        ≡ is_some so_far.next.own.setup
    go (Goes core) later = later core ∙ has
    go (Spent core) later = has

pub area-done : (parts : List ToolPart) → AllKeepArea parts → (so_far : Step EquipmentView Happening)
    → is_some (step_in (parts_done parts so_far)).next.node.own.setup ≡ is_some so_far.next.node.own.setup
area-done parts all so_far = go (after_parts Some parts (node_step so_far)) (area-after parts all (node_step so_far))
  where
    go : (went : Went (Node OwnView Kind) Happening)
        → is_some (step_in went).next.own.setup ≡ is_some so_far.next.node.own.setup
        → is_some (step_in (went_with_file so_far.next went)).next.node.own.setup
        ≡ is_some so_far.next.node.own.setup
    go (Goes next) is = is
    go (Spent next) is = is

-- up to the works of the disk
pub area-begun :
    (s : EquipmentView) (input : Input ToolCommand) (now : ℕ) (begun : Step EquipmentView Happening)
    → begun_step s input now ≡ Goes begun → is_some begun.next.node.own.setup ≡ is_some s.node.own.setup
area-begun s input now begun is =
    ap (λ (went : Went EquipmentView Happening). is_some (step_in went).next.node.own.setup) (sym is)
    ∙ go (needs_numbers s) (is_marked_out s.file.mark.value)
  where
    go : (needs spent : Bool)
        → is_some
        (step_in (and_then
        (if needs then if spent then Spent (at_first s) else Goes (at_first (reserved s)) else Goes (at_first s))
        (parts_done (step.first_parts input now)))).next.node.own.setup
        ≡ is_some s.node.own.setup
    go true true = refl
    go true false = area-done (step.first_parts input now) (first-area input now) (at_first (reserved s))
    go false spent = area-done (step.first_parts input now) (first-area input now) (at_first s)

-- ---- the file

-- the works of the spool leave the area as it is
setup-behind : (st : Standing) (works : List Work) → (standings_after st works).file.setup ≡ st.file.setup
setup-behind st [] = refl
setup-behind st (one ∷ works) = setup-behind (standing_after st one) works

-- a setup is kept where the file has an area
abbrev pub HasAsFile : OwnView → SpoolFile → Type 0
HasAsFile own file = is_some own.setup ≡ is_some file.setup.bytes

pub settled-area : (own : OwnView) (ledger : LedgerView) (file : SpoolFile) → HasAsFile own file
    → HasAsFile own (settled_file ledger file)
settled-area own ledger file is =
    is ∙ ap (λ (setup : Setup). is_some setup.bytes)
    (sym (setup-behind (record { next = (stood_count ledger).next; file = file }) ledger.works))

pub kept-area : (own : OwnView) (file : SpoolFile) → HasAsFile own file → HasAsFile own (kept_file own file)
kept-area own file is = go own.owed own.setup is
  where
    go : (owed : Option Owed) (setup : Option (List Entry)) → is_some setup ≡ is_some file.setup.bytes
        → is_some setup
        ≡ is_some (option_map_or (λ (bytes : List ℕ). with_kept bytes file) (bytes_to_keep owed setup) file).setup.bytes
    go None setup is = is
    go (Some (Recipes asked primary)) setup is = is
    go (Some (Answered given primary)) setup is = is
    go (Some (Keep primary)) None is = is
    go (Some (Keep primary)) (Some list) is = refl

pub started-area : (file : SpoolFile) → is_some (setup_in file) ≡ is_some file.setup.bytes
started-area file = go file.setup.bytes
  where
    go : (bytes : Option (List ℕ)) → is_some (option_map list_of bytes) ≡ is_some bytes
    go None = refl
    go (Some bytes) = refl
