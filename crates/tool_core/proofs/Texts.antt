-- Reports whose texts may be sent, or not.
use Rattle.std.proofs.Common.{◌≡◌, ap, ◌∙◌, ℕ, Bool, true, false, List, [], if◌then◌else◌}
use Rattle.trace_log.specs.Names.{Spooled, spooled_name}
use Rattle.equipment_tables.specs.declared.answers.Answer.{Answer}
use Rattle.tool_step.specs.Own.{OwnView, ToolTurn, is_communicating, is_online}
use Rattle.tool_step.specs.Reports.{judged_turn, made_turn, text_turn, unreported_turn}
use Rattle.tool_step.specs.Spooling.{is_spooled, stored_turn}

-- a report that is to be stored; or that may not be sent, since the communication isn't established; or that goes
pub made_stored :
    (going : Spooled → ToolTurn) (message : Spooled) (own : OwnView) → is_spooled message own ≡ true
    → made_turn going message own ≡ stored_turn message own
made_stored going message own is =
    ap
    (λ (b : Bool). if b then stored_turn message own
    else if is_communicating own then going message
    else unreported_turn (spooled_name message) own) is

pub made_unreported :
    (going : Spooled → ToolTurn) (message : Spooled) (own : OwnView)
    → is_spooled message own ≡ false → is_communicating own ≡ false
    → made_turn going message own ≡ unreported_turn (spooled_name message) own
made_unreported going message own live none =
    ap
    (λ (b : Bool). if b then stored_turn message own
    else if is_communicating own then going message
    else unreported_turn (spooled_name message) own) live
    ∙ ap (λ (b : Bool). if b then going message else unreported_turn (spooled_name message) own) none

pub made_going :
    (going : Spooled → ToolTurn) (message : Spooled) (own : OwnView)
    → is_spooled message own ≡ false → is_communicating own ≡ true
    → made_turn going message own ≡ going message
made_going going message own live is =
    ap
    (λ (b : Bool). if b then stored_turn message own
    else if is_communicating own then going message
    else unreported_turn (spooled_name message) own) live
    ∙ ap (λ (b : Bool). if b then going message else unreported_turn (spooled_name message) own) is

-- off-line a report is dropped; else its text decides
pub off_line :
    (report : List ℕ → Spooled) (going : Spooled → ToolTurn) (text : Answer) (own : OwnView) → is_online own ≡ false
    → judged_turn report going text own ≡ unreported_turn (spooled_name (report [])) own
off_line report going text own none =
    ap (λ (b : Bool). if b then text_turn report going text own else unreported_turn (spooled_name (report [])) own)
    none

pub on_line :
    (report : List ℕ → Spooled) (going : Spooled → ToolTurn) (text : Answer) (own : OwnView) → is_online own ≡ true
    → judged_turn report going text own ≡ text_turn report going text own
on_line report going text own is =
    ap (λ (b : Bool). if b then text_turn report going text own else unreported_turn (spooled_name (report [])) own) is
