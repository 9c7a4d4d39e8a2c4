-- The recipes are asked only where a host is offered them, and no step changes whether it is.
use Rattle.std.proofs.Common.{◌≡◌, refl, sym, ap, ◌∙◌, ◌==◌, ◌&&◌, ◌||◌, not, Bool, true, false, ℕ, zero, suc, List, [], ◌∷◌, ◌++◌, replicate, subst, Option, Some, None, if◌then◌else◌}
use Rattle.block_codec.specs.declared.header.Header.{Header}
use Rattle.gem_recipes.specs.Asking.{is_change}
use Rattle.gem_shapes.specs.declared.request.Request.{Request}
use Rattle.gem_shapes.specs.declared.request.Request.TheVariants as request
use Rattle.gem_shapes.specs.Primaries.{is_known, is_known_stream}
use Rattle.gem_shapes.proofs.RecipeRequests.{each_request, recipes_stream}
use Rattle.message_flow.specs.declared.flow.Flow.{Flow}
use Rattle.message_flow.specs.declared.flow.Flow.TheVariants as flow
use Rattle.message_flow.specs.declared.message.Message.{Message}
use Rattle.message_flow.specs.Message.{is_primary}
use Rattle.setup_store.specs.Entries.{Entry, bytes_of, has_room}
use Rattle.trace_log.specs.declared.commands.ToolCommand.{ToolCommand}
use Rattle.trace_log.specs.Log.{Happening}
use Rattle.trace_log.specs.Names.{Spooled}
use Rattle.transact.specs.Transactions.{match_of}
use Rattle.message_end.specs.declared.end.Took.{Took}
use Rattle.message_end.specs.declared.end.Took.TheVariants as took
use Rattle.message_end.specs.Calls.{answered_by, dropped_now, due_now, failed_at, took_at}
use Rattle.message_end.specs.Core.{EndView, Step, Went, and_then, at_first, step_in}
use Rattle.message_end.specs.Core.Command.{Answer, DropDue, Expire, Take, Tick}
use Rattle.message_end.specs.Core.Went.{Goes, Spent}
use Rattle.message_end.specs.Duties.{all_done}
use Rattle.message_end.specs.Ends.{Input}
use Rattle.message_end.specs.Parts.{Node, after_parts, core_after, core_step, went_with, with_own}
use Rattle.equipment_tables.specs.Requests.{request_of}
use Rattle.equipment_tables.specs.Tables.{most_transmitted}
use Rattle.spool_ledger.specs.Unloading.{after_next, next_number as next_unloaded}
use Rattle.tool_step.specs.declared.kind.Kind.{Kind}
use Rattle.tool_step.specs.declared.owed.Owed.{Owed}
use Rattle.tool_step.specs.declared.owed.Owed.TheVariants.{Answered, Keep, Recipes}
use Rattle.tool_step.specs.Equipment.{EquipmentView, act, begun_step, done_step, ended_step, is_marked_out, needs_numbers, node_step, oldest_of, parts_done, reserved, served_view, settled_went, went_with_file}
use Rattle.tool_step.specs.Messages.{error_turn, heard_turn, is_establish_request, is_online_request, kept_turn, known_turn, message_turn, primary_turn, read_turn, request_turn, requested_turn}
use Rattle.tool_step.specs.Own.{OwnView, ToolPart, ToolTurn, is_communicating, is_enabled_in, is_online, owing, quiet_turn, unowed, untold, with_ledger}
use Rattle.tool_step.specs.Recipes.{RecipesView, answered_by as owed_by, asked_of, no_recipes, owes_recipes, recipes_behind, takes_stream}
use Rattle.tool_step.specs.Replies as replies
use Rattle.tool_step.specs.Sampling as sampling
use Rattle.tool_step.specs.Setup.{next_setup}
use Rattle.tool_step.specs.Step as step
use Rattle.tool_step.specs.Step.{last_parts, late_parts}
use Rattle.tool_step.specs.Sampling.{sample_parts}
use Rattle.tool_law.proofs.Asides.{Aside, aside, command-stays, either, failed-stays, given-up-stays, made-stays, matched-stays, request-stays, t4-stays, taking-stays, timeout-stays}
use Rattle.tool_law.proofs.CommandWalks.{AllAre, are-both}

-- they are asked only where a host is offered them
abbrev pub AsksOffered : OwnView → Type 0
AsksOffered own = owes_recipes own.owed ≡ true → own.offers ≡ true

-- whether it is offered them stays, and so does that
pub record IsOffered (own other : OwnView) : Type 0 where
  pub same : other.offers ≡ own.offers
  pub keeps : AsksOffered own → AsksOffered other

pub offered-then : (one two three : OwnView) → IsOffered one two → IsOffered two three → IsOffered one three
offered-then one two three first second = record {
  same = second.same ∙ first.same;
  keeps = λ offered. second.keeps (first.keeps offered);
}

never : {A : Type 0} → false ≡ true → A
never is = absurd (cc)

pub of-aside : (own other : OwnView) → aside other ≡ aside own → IsOffered own other
of-aside own other is =
    let offers = ap (λ (x : Aside). x.1.0) is in
    record {
      same = offers;
      keeps = λ offered owes. offers ∙ offered (sym (ap (λ (x : Aside). owes_recipes x.1.1) is) ∙ owes);
    }

-- nothing is asked of the recipes
unasked : (own other : OwnView) → other.offers ≡ own.offers → owes_recipes other.owed ≡ false → IsOffered own other
unasked own other same none = record { same = same; keeps = λ offered owes. never (sym none ∙ owes) }

-- ---- turns

abbrev Offered : OwnView → ToolTurn → Type 0
Offered own turn = IsOffered own turn.own

pub itself : (own : OwnView) → IsOffered own own
itself own = of-aside own own refl

either-offered : (own : OwnView) (b : Bool) (one two : ToolTurn) → Offered own one → Offered own two
    → Offered own (if b then one else two)
either-offered own true one two first second = first
either-offered own false one two first second = second

-- ---- requests

-- where stream 7 is taken a host is offered them
taken-offers : (own : OwnView) (stream : ℕ) → stream ≡ 7 → takes_stream own stream ≡ true → own.offers ≡ true
taken-offers own stream seven takes = go own.offers (subst (λ s. takes_stream own s ≡ true) seven takes)
  where
    go : (offers : Bool) → (is_known_stream 7 && (offers || not (7 == 7))) ≡ true → offers ≡ true
    go true is = refl
    go false is = never is

module _ (now : ℕ) (message : Message) (own : OwnView) (takes : takes_stream own message.stream ≡ true) where
  -- of which nothing is to be kept
  abbrev Counts : Request → Type 0
  Counts asks =
      request_of message.stream message.function message.body ≡ Some asks
      → Offered own (heard_turn None now asks message own)

  counts : (asks : Request) → Counts asks
  counts =
      each_request Counts
      (λ recipes found.
      let offers = taken-offers own message.stream (recipes_stream _ _ _ (request.OfRecipes recipes) found refl) takes in
      by_case (message.wait || is_change (asked_of recipes)) (owing (Recipes (asked_of recipes) (untold message)) own)
      (record { same = refl; keeps = λ offered owes. offers }))
      (λ asks apart found.
      of-aside own (request_turn asks now message own).own (request-stays asks now message own apart))
    where
      by_case : (asks : Bool) (owes : OwnView) → IsOffered own owes
          → Offered own (if asks then quiet_turn owes else quiet_turn own)
      by_case true owes is = is
      by_case false owes is = itself own

  requested : (asks : Request) → request_of message.stream message.function message.body ≡ Some asks
      → Offered own (requested_turn now asks message own)
  requested asks found = go (next_setup asks message own)
    where
      by_room : (list : List Entry) (room : Bool) → Offered own (kept_turn room list asks message own)
      by_room list true = unasked own (kept_turn true list asks message own).own refl refl
      by_room list false = itself own

      go : (list : Option (List Entry)) → Offered own (heard_turn list now asks message own)
      go None = counts asks found
      go (Some list) = by_room list (has_room (bytes_of list))

  read-offered : (header : Header) (asks : Option Request)
      → request_of message.stream message.function message.body ≡ asks
      → Offered own (read_turn now asks header message own)
  read-offered header None found = itself own
  read-offered header (Some asks) found = requested asks found

known-offered : (now : ℕ) (header : Header) (message : Message) (own : OwnView)
    → Offered own (known_turn now header message own)
known-offered now header message own =
    go (takes_stream own message.stream) refl (is_known message.stream message.function)
  where
    go : (takes : Bool) → takes_stream own message.stream ≡ takes → (function : Bool)
        → Offered own
        (if not takes then error_turn 3 header own
        else if not function then error_turn 5 header own
        else read_turn now (request_of message.stream message.function message.body) header message own)
    go false is function = itself own
    go true is false = itself own
    go true is true =
        read-offered now message own is header (request_of message.stream message.function message.body) refl

primary-offered : (now : ℕ) (header : Header) (message : Message) (own : OwnView)
    → Offered own (primary_turn now header message own)
primary-offered now header message own =
    either-offered own (is_establish_request message) _ _ (of-aside own _ refl)
    (either-offered own (not (is_communicating own)) _ _ (of-aside own _ refl)
    (either-offered own (not (is_online own) && not (is_online_request message)) _ _
    (of-aside own _ (either own message.wait _ _ refl refl))
    (known-offered now header message own)))

message-offered : (now : ℕ) (header : Header) (message : Message) (own : OwnView) (e : EndView Kind)
    → Offered own (message_turn now header message own e)
message-offered now header message own e =
    either-offered own (not (is_enabled_in own.comms.state)) _ _ (of-aside own _ refl)
    (either-offered own (is_primary message) _ _ (primary-offered now header message own)
    (of-aside own _
    (matched-stays now (match_of header (answered_by e header)) message own (core_after (Answer header) e))))

flow-offered : (now : ℕ) (header : Header) (came : Flow) (own : OwnView) (e : EndView Kind)
    → Offered own (step.flow_turn now header came own e)
flow-offered now header flow.Part own e = itself own
flow-offered now header (flow.Whole message check) own e = message-offered now header message own e
flow-offered now header flow.Duplicate own e = itself own
flow-offered now header (flow.Foreign address) own e = itself own
flow-offered now header flow.Unexpected own e = of-aside own _ (given-up-stays now header own e)
flow-offered now header flow.TooLong own e = go (step.is_spent e)
  where
    go : (spent : Bool)
        → Offered own (step.long_turn spent header own (replies.given_up_turn now header own e))
    go true = of-aside own _ refl
    go false = of-aside own _ (given-up-stays now header own e)
flow-offered now header flow.Crowded own e = of-aside own _ (given-up-stays now header own e)

took-offered : (now : ℕ) (what : Took) (own : OwnView) (e : EndView Kind)
    → Offered own (step.took_turn now what own e)
took-offered now took.Nothing own e = itself own
took-offered now (took.Failed header) own e = of-aside own _ (failed-stays now (Some header) own e)
took-offered now (took.Came header came) own e = flow-offered now header came own e

-- ---- parts

abbrev pub KeepsOffer : ToolPart → Type 0
KeepsOffer part = (own : OwnView) (e : EndView Kind) → Offered own (part own e)

abbrev pub AllKeepOffer : List ToolPart → Type 0
AllKeepOffer = AllAre KeepsOffer

many-keep : (count : ℕ) (part : ToolPart) → KeepsOffer part → AllKeepOffer (replicate count part)
many-keep zero part keeps = tt
many-keep (suc count) part keeps = (keeps, many-keep count part keeps)

input-offered : (input : Input ToolCommand) (now : ℕ) → KeepsOffer (step.input_part input now)
input-offered (Input.Char byte) now own e = took-offered now (took_at e byte now) own (core_after (Take byte now) e)
input-offered Input.Time now own e = itself own
input-offered (Input.Command command) now own e = of-aside own _ (command-stays command now own e)

pub first-offered : (input : Input ToolCommand) (now : ℕ) → AllKeepOffer (step.first_parts input now)
unfolding late_parts sample_parts
first-offered input now = (
  (λ own e. of-aside own _ (either own (own.has_begun || not own.plan.enable) _ _ refl refl)),
  (
    (λ own e. of-aside own _ (failed-stays now (failed_at e now) own (core_after (Tick now) e))),
    are-both KeepsOffer
        ((replicate 16 (replies.block_timer now) ++ replicate 64 (replies.reply_timer now))
        ++ step.delay_timer now ∷ sampling.sampling now ∷ replicate 16 sampling.made_part)
        (step.input_part input now ∷ [])
        (are-both KeepsOffer (replicate 16 (replies.block_timer now) ++ replicate 64 (replies.reply_timer now))
        (step.delay_timer now ∷ sampling.sampling now ∷ replicate 16 sampling.made_part)
        (are-both KeepsOffer (replicate 16 (replies.block_timer now)) (replicate 64 (replies.reply_timer now))
        (many-keep 16 (replies.block_timer now)
        (λ own e. of-aside own _ (t4-stays now (dropped_now e now) own (core_after (DropDue now) e))))
        (many-keep 64 (replies.reply_timer now)
        (λ own e. of-aside own _ (timeout-stays now (due_now e now) own (core_after (Expire now) e))))) (
          (λ own e. of-aside own _ refl),
          (
            (λ own e. of-aside own _ refl),
            many-keep 16 sampling.made_part (λ own e. of-aside own _ (made-stays own e)),
          ),
        ))
        (input-offered input now, tt),
  ),
)

-- ---- a step

pub offered-after :
    {N : Type 0} (say : Happening → Option N) (parts : List ToolPart) → AllKeepOffer parts
    → (so_far : Step (Node OwnView Kind) N)
    → IsOffered so_far.next.own (step_in (after_parts say parts so_far)).next.own
offered-after say [] all so_far = itself so_far.next.own
offered-after {N} say (part ∷ parts) all so_far =
    go (all_done say turn.duties (core_step so_far)) (λ core. offered-after say parts all.1 (with_own turn.own core))
  where
    turn : ToolTurn
    turn = part so_far.next.own so_far.next.core

    is : IsOffered so_far.next.own turn.own
    is = all.0 so_far.next.own so_far.next.core

    go : (went : Went (EndView Kind) N)
        → ((core : Step (EndView Kind) N)
        → IsOffered turn.own (step_in (after_parts say parts (with_own turn.own core))).next.own)
        → IsOffered so_far.next.own
        (step_in (and_then (went_with turn.own went) (after_parts say parts))).next.own
    go (Goes core) later = offered-then so_far.next.own turn.own _ is (later core)
    go (Spent core) later = is

offered-done : (parts : List ToolPart) → AllKeepOffer parts → (so_far : Step EquipmentView Happening)
    → IsOffered so_far.next.node.own (step_in (parts_done parts so_far)).next.node.own
offered-done parts all so_far =
    go (after_parts Some parts (node_step so_far)) (offered-after Some parts all (node_step so_far))
  where
    go : (went : Went (Node OwnView Kind) Happening)
        → IsOffered so_far.next.node.own (step_in went).next.own
        → IsOffered so_far.next.node.own (step_in (went_with_file so_far.next went)).next.node.own
    go (Goes next) is = is
    go (Spent next) is = is

-- up to the works of the disk
pub begun-offered : (s : EquipmentView) (input : Input ToolCommand) (now : ℕ)
    → IsOffered s.node.own (step_in (begun_step s input now)).next.node.own
begun-offered s input now = go (needs_numbers s) (is_marked_out s.file.mark.value)
  where
    go : (needs spent : Bool)
        → IsOffered s.node.own
        (step_in (and_then
        (if needs then if spent then Spent (at_first s) else Goes (at_first (reserved s)) else Goes (at_first s))
        (parts_done (step.first_parts input now)))).next.node.own
    go true true = itself s.node.own
    go true false = offered-done (step.first_parts input now) (first-offered input now) (at_first (reserved s))
    go false spent = offered-done (step.first_parts input now) (first-offered input now) (at_first s)

-- ---- where nothing is asked of the recipes

pub nothing-answered : (kept : RecipesView) (owed : Option Owed) → owes_recipes owed ≡ false
    → owed_by kept owed ≡ owed
nothing-answered kept None none = refl
nothing-answered kept (Some (Keep primary)) none = refl
nothing-answered kept (Some (Answered given primary)) none = refl
nothing-answered kept (Some (Recipes asked primary)) none = absurd (cc)

nothing-left : (kept : RecipesView) (owed : Option Owed) → owes_recipes owed ≡ false
    → recipes_behind owed kept ≡ kept
nothing-left kept None none = refl
nothing-left kept (Some (Keep primary)) none = refl
nothing-left kept (Some (Answered given primary)) none = refl
nothing-left kept (Some (Recipes asked primary)) none = absurd (cc)

-- all stays as it is
pub no-serving : (s : EquipmentView) → owes_recipes s.node.own.owed ≡ false → served_view s ≡ s
no-serving s none =
    ap
    (λ (owed : Option Owed). record {
      node = record s.node { own = record s.node.own { owed = owed } };
      file = s.file;
      recipes = recipes_behind s.node.own.owed s.recipes;
    })
    (nothing-answered s.recipes s.node.own.owed none)
    ∙ ap (λ (kept : RecipesView). record { node = s.node; file = s.file; recipes = kept })
    (nothing-left s.recipes s.node.own.owed none)

-- ---- where no host is offered any

none-owed : (own other : OwnView) → IsOffered own other → own.offers ≡ false → owes_recipes own.owed ≡ false
    → owes_recipes other.owed ≡ false
none-owed own other is none asks = go (owes_recipes other.owed) (is.keeps (λ owes. never (sym asks ∙ owes)))
  where
    go : (owes : Bool) → (owes ≡ true → other.offers ≡ true) → owes ≡ false
    go true asked = never (sym (is.same ∙ none) ∙ asked refl)
    go false asked = refl

-- none are asked in a step
pub none-asked :
    (s : EquipmentView) (input : Input ToolCommand) (now : ℕ) → s.node.own.offers ≡ false
    → owes_recipes s.node.own.owed ≡ false
    → owes_recipes (step_in (begun_step s input now)).next.node.own.owed ≡ false
none-asked s input now none asks =
    none-owed s.node.own (step_in (begun_step s input now)).next.node.own (begun-offered s input now) none asks

pub last-offered : (oldest : Option Spooled) (now : ℕ) → AllKeepOffer (step.last_parts oldest now)
last-offered oldest now = (
  (λ own e. answers own own.owed),
  (
    (λ own e. of-aside own _ (taking-stays (next_unloaded (most_transmitted own.tables) own.ledger) oldest
        (with_ledger (after_next (most_transmitted own.tables) own.ledger) own) e)),
    ((λ own e. of-aside own _ refl), ((λ own e. of-aside own _ refl), ((λ own e. of-aside own _ refl), tt))),
  ),
)
  where
    answers : (own : OwnView) (owed : Option Owed) → Offered own (step.owed_turn owed (unowed own))
    answers own None = unasked own (unowed own) refl refl
    answers own (Some (Keep primary)) = unasked own (unowed own) refl refl
    answers own (Some (Recipes asked primary)) = unasked own (unowed own) refl refl
    answers own (Some (Answered given primary)) = unasked own (unowed own) refl refl

-- parts leave the recipes as they are
pub parts-recipes : (parts : List ToolPart) (so_far : Step EquipmentView Happening)
    → (step_in (parts_done parts so_far)).next.recipes ≡ so_far.next.recipes
parts-recipes parts so_far = go (after_parts Some parts (node_step so_far))
  where
    go : (went : Went (Node OwnView Kind) Happening)
        → (step_in (went_with_file so_far.next went)).next.recipes ≡ so_far.next.recipes
    go (Goes next) = refl
    go (Spent next) = refl

pub begun-recipes : (s : EquipmentView) (input : Input ToolCommand) (now : ℕ)
    → (step_in (begun_step s input now)).next.recipes ≡ s.recipes
begun-recipes s input now = go (needs_numbers s) (is_marked_out s.file.mark.value)
  where
    go : (needs spent : Bool)
        → (step_in (and_then
        (if needs then if spent then Spent (at_first s) else Goes (at_first (reserved s)) else Goes (at_first s))
        (parts_done (step.first_parts input now)))).next.recipes
        ≡ s.recipes
    go true true = refl
    go true false = parts-recipes (step.first_parts input now) (at_first (reserved s))
    go false spent = parts-recipes (step.first_parts input now) (at_first s)

-- and so it stays
pub record IsWithout (s : EquipmentView) : Type 0 where
  pub offers : s.node.own.offers ≡ false
  pub asks : owes_recipes s.node.own.owed ≡ false
  pub none : s.recipes ≡ no_recipes

pub stays-without :
    (s : EquipmentView) (input : Input ToolCommand) (now : ℕ) → IsWithout s
    → IsWithout (step_in (act s input now)).next
stays-without s input now without =
    go (begun_step s input now) (begun-offered s input now) (begun-recipes s input now)
  where
    -- behind what was begun
    go : (begun : Went EquipmentView Happening) → IsOffered s.node.own (step_in begun).next.node.own
        → (step_in begun).next.recipes ≡ s.recipes
        → IsWithout (step_in (and_then (settled_went begun) (ended_step now))).next
    go (Spent step) is kept = record {
      offers = is.same ∙ without.offers;
      asks = none-owed s.node.own step.next.node.own is without.offers without.asks;
      none = kept ∙ without.none;
    }
    go (Goes step) is kept =
        let none = none-owed s.node.own step.next.node.own is without.offers without.asks in
        let done = done_step step in
        let last =
        offered-done (last_parts (oldest_of done.next) now) (last-offered (oldest_of done.next) now) done in
        let own = (step_in (ended_step now done)).next.node.own in
        let over = is.same ∙ without.offers in
        record {
          offers = last.same ∙ over;
          asks = none-owed done.next.node.own own last over
              (ap owes_recipes (nothing-answered step.next.recipes step.next.node.own.owed none) ∙ none);
          none = parts-recipes (last_parts (oldest_of done.next) now) done
              ∙ nothing-left step.next.recipes step.next.node.own.owed none
              ∙ kept
              ∙ without.none;
        }
