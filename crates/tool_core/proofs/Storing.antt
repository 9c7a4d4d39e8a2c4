-- Reports that are stored, one after the other.
use Rattle.std.proofs.Common.{◌≡◌, sym, ap, subst, ◌∙◌, Bool, true, false, List, [], ◌∷◌, ◌++◌, Option, Some, None, if◌then◌else◌}
use Rattle.std.specs.Prelude.{Result, Ok, Err, map}
use Rattle.std.specs.List.{filter_map}
use Rattle.std.specs.Option.{option_map_or}
use Rattle.std.proofs.lemmas.List.{append-nil, append_assoc, map-append}
use Rattle.message_flow.specs.declared.step.Note.{Note}
use Rattle.message_flow.specs.declared.step.StepOut.{StepOut}
use Rattle.trace_log.specs.Log.{Happening}
use Rattle.trace_log.specs.Names.{Spooled}
use Rattle.trace_log.specs.Text.{printed_note}
use Rattle.message_end.specs.declared.end.Stop.{Stop}
use Rattle.message_end.specs.declared.end.Stop.TheVariants.{DiskFailed, Full, NoMemory, NumbersSpent}
use Rattle.message_end.specs.Core.{EndView, Step, Went, and_then, carried}
use Rattle.message_end.specs.Core.Command.{Halt, Note as NoteThis}
use Rattle.message_end.specs.Core.Went.{Goes, Spent}
use Rattle.message_end.specs.Duties.{all_done}
use Rattle.message_end.specs.Parts.{ComesTo, Takes, after_turn, core_step, fixed_turn, on_the_way, went_with}
use Rattle.message_end.proofs.Carrying.{carried_append}
use Rattle.spool_ledger.specs.Ledger.{Booked, LedgerView}
use Rattle.spool_ledger.specs.Storing.{Account, Books, account_of, stored}
use Rattle.equipment_tables.specs.Tables.{overwrites}
use Rattle.tool_step.specs.declared.kind.Kind.{Kind}
use Rattle.tool_core.specs.Ending.{stores_of}
use Rattle.tool_step.specs.Own.{OwnView, ToolCommands, with_ledger}
use Rattle.tool_step.specs.Spooling.{Stores, booked_turn, lines_commands, stored_turn, stores_all, stores_behind, stores_commands, stores_none}
use Rattle.tool_core.proofs.Following.{lines_carried, node}
use Rattle.tool_core.proofs.Taking.{commands_then}
use Rattle.tool_core.proofs.Turned.{HasTaken, ToolNode}

-- lines of the ledger as a turn, with no other command
pub lines_taken :
    (own : OwnView) (lines : List Happening) (core : EndView Kind) (out out_new : StepOut)
    → out_new.notes ≡ out.notes ++ filter_map printed_note lines → out_new.line ≡ out.line
    → after_turn printed_note (fixed_turn own (lines_commands lines)) (on_the_way (node own core) out)
    ≡ Goes (on_the_way (node own core) out_new)
lines_taken own lines core out out_new noted line =
    ap (λ (w : Went (EndView Kind) Note). went_with own (and_then w (all_done printed_note [])))
    (lines_carried lines (on_the_way core out))
    ∙ ap
    (λ (o : StepOut). Goes (on_the_way (node own core) o))
    (ap (λ (notes : List Note). record { line = out.line; notes = notes }) (sym noted)
    ∙ ap (λ l. record { line = l; notes = out_new.notes }) (sym line))

-- the booked lines of one message as the turn that stores it
stored_went :
    (own : OwnView) (booked : Option Booked) (core : EndView Kind) (ledger_new : LedgerView) (out out_new : StepOut)
    (result : Result (Unit {0}) Stop)
    → Books booked own.ledger out ledger_new out_new result → out_new.line ≡ out.line
    → Takes (option_map_or (λ b. booked_turn b own) booked (fixed_turn own (Halt ∷ []))) (node own core) out
    (node (with_ledger ledger_new own) core) out_new result
stored_went own (Some booked) core ledger_new out out_new (Ok done) is line =
    let account : account_of out.notes booked ≡ record { ledger = ledger_new; notes = out_new.notes } = cc in
    subst
    (λ (v : LedgerView). after_turn printed_note (booked_turn booked own) (on_the_way (node own core) out)
    ≡ Goes (on_the_way (node (with_ledger v own) core) out_new))
    (ap (λ (a : Account). a.ledger) account)
    (ap
    (λ (w : Went (EndView Kind) Note). went_with (with_ledger booked.next own) (and_then w (all_done printed_note [])))
    (lines_carried booked.lines (on_the_way core out))
    ∙ ap
    (λ (o : StepOut). Goes (on_the_way (node (with_ledger booked.next own) core) o))
    (ap (λ (notes : List Note). record { line = out.line; notes = notes }) (ap (λ (a : Account). a.notes) account)
    ∙ ap (λ l. record { line = l; notes = out_new.notes }) (sym line)))
stored_went own None core ledger_new out out_new (Ok done) is line = absurd (cc)
stored_went own booked core ledger_new out out_new (Err NoMemory) is line = tt
stored_went own booked core ledger_new out out_new (Err Full) is line = absurd is
stored_went own booked core ledger_new out out_new (Err DiskFailed) is line = absurd is
stored_went own booked core ledger_new out out_new (Err NumbersSpent) is line =
    ap
    (λ (b : Option Booked). after_turn printed_note
    (option_map_or (λ (x : Booked). booked_turn x own) b (fixed_turn own (Halt ∷ []))) (on_the_way (node own core) out))
    is.0
    ∙ ap (λ (v : LedgerView). Spent (on_the_way (node (with_ledger v own) core) out)) (sym is.1)
    ∙ ap (λ (o : StepOut). Spent (on_the_way (node (with_ledger ledger_new own) core) o)) (sym is.2)

pub stored_so :
    (message : Spooled) (overwriting : Bool) (own : OwnView) (core : EndView Kind) (ledger_new : LedgerView)
    (out out_new : StepOut) (result : Result (Unit {0}) Stop)
    → overwriting ≡ overwrites own.tables
    → Books (stored overwriting message own.ledger) own.ledger out ledger_new out_new result → out_new.line ≡ out.line
    → Takes (stored_turn message own) (node own core) out (node (with_ledger ledger_new own) core) out_new result
stored_so message overwriting own core ledger_new out out_new result same is line =
    stored_went own (stored (overwrites own.tables) message own.ledger) core ledger_new out out_new result
    (subst (λ (o : Bool). Books (stored o message own.ledger) own.ledger out ledger_new out_new result) same is) line

-- what the core did in commands that went on
pub carried_core :
    (own : OwnView) (commands : ToolCommands) (old middle : ToolNode) (out out_middle : StepOut)
    → HasTaken (fixed_turn own commands) old out middle out_middle
    → carried printed_note commands (on_the_way old.core out) ≡ Goes (on_the_way middle.core out_middle)
carried_core own commands old middle out out_middle taken =
    go (carried printed_note commands (on_the_way old.core out)) taken
  where
    core_of : Went ToolNode Note → Went (EndView Kind) Note
    core_of (Goes step) = Goes (core_step step)
    core_of (Spent step) = Spent (core_step step)

    go : (went : Went (EndView Kind) Note)
        → went_with own (and_then went (all_done printed_note [])) ≡ Goes (on_the_way middle out_middle)
        → went ≡ Goes (on_the_way middle.core out_middle)
    go (Goes step) is = ap (λ (w : Went ToolNode Note). core_of w) is
    go (Spent step) is = absurd (cc)

-- ---- several reports

-- the step behind the lines of one
abbrev booked_step : Booked → Step ToolNode Note → Step ToolNode Note
booked_step booked t = record {
  next = node (with_ledger booked.next t.next.own) t.next.core;
  notes = t.notes ++ filter_map printed_note booked.lines;
  written = t.written;
}

-- what becomes of several reports from a step on
abbrev stores_went : Stores → OwnView → Step ToolNode Note → Went ToolNode Note
stores_went stores own t =
    after_turn printed_note (fixed_turn (with_ledger stores.next own) (stores_commands stores [])) t

abbrev pub stores_step : List Spooled → Step ToolNode Note → Went ToolNode Note
stores_step messages t = stores_went (stores_of messages t.next.own) t.next.own t

booked_goes :
    (booked : Booked) (t : Step ToolNode Note)
    → after_turn printed_note (booked_turn booked t.next.own) t ≡ Goes (booked_step booked t)
booked_goes booked t =
    ap
    (λ (w : Went (EndView Kind) Note). went_with (with_ledger booked.next t.next.own)
    (and_then w (all_done printed_note [])))
    (lines_carried booked.lines (core_step t))

behind_goes :
    (booked : Booked) (rest : Stores) (t : Step ToolNode Note)
    → stores_went (stores_behind booked.lines rest) t.next.own t ≡ stores_went rest t.next.own (booked_step booked t)
behind_goes booked rest t =
    let own : OwnView = with_ledger rest.next t.next.own in
    let done : Went (EndView Kind) Note → Went ToolNode Note =
    λ w. went_with own (and_then w (all_done printed_note [])) in
    let last : ToolCommands = if rest.is_spent then Halt ∷ [] else [] in
    ap (λ (commands : ToolCommands). done (carried printed_note commands (core_step t)))
    (ap (λ (front : ToolCommands). front ++ last) (map-append NoteThis booked.lines rest.lines)
    ∙ append_assoc (map NoteThis booked.lines) (map NoteThis rest.lines) last)
    ∙ ap done
    (carried_append printed_note (map NoteThis booked.lines) (map NoteThis rest.lines ++ last) (core_step t)
    ∙ ap (λ (w : Went (EndView Kind) Note). and_then w (carried printed_note (map NoteThis rest.lines ++ last)))
    (lines_carried booked.lines (core_step t)))

-- one was stored, and the others come
more_went :
    (messages : List Spooled) (booked : Option Booked) (t u : Step ToolNode Note)
    → after_turn printed_note (option_map_or (λ b. booked_turn b t.next.own) booked (fixed_turn t.next.own (Halt ∷ [])))
    t ≡ Goes u
    → stores_went
    (option_map_or (λ b. stores_behind b.lines (stores_all (overwrites t.next.own.tables) messages b.next)) booked
    (stores_none true t.next.own.ledger)) t.next.own t
    ≡ stores_step messages u
more_went messages None t u is = absurd (cc)
more_went messages (Some booked) t u is =
    let same : booked_step booked t ≡ u = go (sym (booked_goes booked t) ∙ is) in
    behind_goes booked (stores_all (overwrites t.next.own.tables) messages booked.next) t
    ∙ ap (λ (w : Step ToolNode Note). stores_step messages w) same
  where
    go : {x y : Step ToolNode Note} → Goes x ≡ Goes y → x ≡ y
    go same = cc

pub stores_more :
    (message : Spooled) (messages : List Spooled) (t u : Step ToolNode Note)
    → after_turn printed_note (stored_turn message t.next.own) t ≡ Goes u
    → stores_step (message ∷ messages) t ≡ stores_step messages u
stores_more message messages t u is =
    more_went messages (stored (overwrites t.next.own.tables) message t.next.own.ledger) t u is

-- one gets no number
stop_went :
    (messages : List Spooled) (booked : Option Booked) (t u : Step ToolNode Note)
    → after_turn printed_note (option_map_or (λ b. booked_turn b t.next.own) booked (fixed_turn t.next.own (Halt ∷ [])))
    t ≡ Spent u
    → stores_went
    (option_map_or (λ b. stores_behind b.lines (stores_all (overwrites t.next.own.tables) messages b.next)) booked
    (stores_none true t.next.own.ledger)) t.next.own t
    ≡ Spent u
stop_went messages None t u is = is
stop_went messages (Some booked) t u is = absurd (other (sym (booked_goes booked t) ∙ is))
  where
    other : {x y : Step ToolNode Note} → Goes x ≡ Spent y → ⊥
    other is = absurd (cc)

pub stores_stop :
    (message : Spooled) (messages : List Spooled) (t u : Step ToolNode Note)
    → after_turn printed_note (stored_turn message t.next.own) t ≡ Spent u
    → stores_step (message ∷ messages) t ≡ Spent u
stores_stop message messages t u is =
    stop_went messages (stored (overwrites t.next.own.tables) message t.next.own.ledger) t u is

-- what comes behind them, unless one got no number
stores_flag :
    {A : Type 0} (own : OwnView) (lines : List Happening) (spent : Bool) (more : ToolCommands)
    (old middle new : ToolNode) (out out_middle out_new : StepOut) (result : Result A Stop)
    → HasTaken (fixed_turn own (map NoteThis lines ++ (if spent then Halt ∷ [] else []))) old out middle out_middle
    → Takes (fixed_turn own more) middle out_middle new out_new result
    → Takes (fixed_turn own (map NoteThis lines ++ (if spent then Halt ∷ [] else more))) old out new out_new result
stores_flag own lines true more old middle new out out_middle out_new result taken is = absurd (other halted)
  where
    noted : Step (EndView Kind) Note
    noted = record (core_step (on_the_way old out)) { notes = out.notes ++ filter_map printed_note lines }

    halted : went_with own
        (and_then (and_then (Goes noted) (carried printed_note (Halt ∷ []))) (all_done printed_note []))
        ≡ Goes (on_the_way middle out_middle)
    halted =
        sym (ap (λ (w : Went (EndView Kind) Note). went_with own (and_then w (all_done printed_note [])))
        (carried_append printed_note (map NoteThis lines) (Halt ∷ []) (on_the_way old.core out)
        ∙ ap (λ (w : Went (EndView Kind) Note). and_then w (carried printed_note (Halt ∷ [])))
        (lines_carried lines (on_the_way old.core out))))
        ∙ taken

    other : {x y : Step ToolNode Note} → Spent x ≡ Goes y → ⊥
    other is = absurd (cc)
stores_flag {A} own lines false more old middle new out out_middle out_new result taken is =
    subst
    (λ (front : ToolCommands). Takes {A = A} (fixed_turn own (front ++ more)) old out new out_new result)
    (append-nil (map NoteThis lines))
    (commands_then own (map NoteThis lines ++ []) more old middle new out out_middle out_new result
    (carried_core own (map NoteThis lines ++ []) old middle out out_middle taken) is)

pub stores_then :
    {A : Type 0} (stores : Stores) (own : OwnView) (more : ToolCommands) (old middle new : ToolNode)
    (out out_middle out_new : StepOut) (result : Result A Stop)
    → HasTaken (fixed_turn (with_ledger stores.next own) (stores_commands stores [])) old out middle out_middle
    → Takes (fixed_turn (with_ledger stores.next own) more) middle out_middle new out_new result
    → Takes (fixed_turn (with_ledger stores.next own) (stores_commands stores more)) old out new out_new result
stores_then stores own more old middle new out out_middle out_new result taken is =
    stores_flag (with_ledger stores.next own) stores.lines stores.is_spent more old middle new out out_middle out_new
    result taken is

-- several come to what the one comes to at which they stop
pub stores_stopped :
    (message : Spooled) (messages reports : List Spooled) (t first : Step ToolNode Note) (all : List Spooled)
    (new : ToolNode) (out_new : StepOut) (why : Stop) (result : Result (Unit {0}) Stop)
    → reports ≡ message ∷ messages → stores_step reports t ≡ stores_step all first → result ≡ Err why
    → ComesTo {A = Unit {0}} (after_turn printed_note (stored_turn message t.next.own) t) new out_new (Err why)
    → ComesTo (stores_step all first) new out_new result
stores_stopped message messages reports t first all new out_new NoMemory result is same ends stops =
    subst (λ (r : Result (Unit {0}) Stop). ComesTo (stores_step all first) new out_new r) (sym ends) tt
stores_stopped message messages reports t first all new out_new Full result is same ends stops = absurd stops
stores_stopped message messages reports t first all new out_new DiskFailed result is same ends stops = absurd stops
stores_stopped message messages reports t first all new out_new NumbersSpent result is same ends stops =
    subst (λ (r : Result (Unit {0}) Stop). ComesTo (stores_step all first) new out_new r) (sym ends)
    (sym same
    ∙ ap (λ (several : List Spooled). stores_step several t) is
    ∙ stores_stop message messages t (on_the_way new out_new) stops)
