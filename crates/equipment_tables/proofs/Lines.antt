-- What holds of the lines that an answer notes, whatever was asked: laws of the crates above need no row a request.
use Rattle.std.proofs.Common.{ℕ, Bool, true, false, List, [], ◌∷◌, if◌then◌else◌, map}
use Rattle.trace_log.specs.Log.{Happening}
use Rattle.trace_log.specs.Log.Happening.{Carried}
use Rattle.trace_log.specs.Log.Happening.{Display as Displayed}
use Rattle.gem_remote.specs.declared.remote.Ackc10.{Ackc10}
use Rattle.gem_remote.specs.declared.remote.Ackc10.TheVariants as ackc10
use Rattle.gem_remote.specs.Commands.{ackc10_of}
use Rattle.gem_shapes.specs.declared.request.TablesRequest.{TablesRequest}
use Rattle.gem_shapes.specs.declared.request.TablesRequest.TheVariants as tables_request
use Rattle.equipment_tables.specs.Answers.{carried_lines, is_accepted, lines_of, remoted_of_item, shown_lines}
use Rattle.equipment_tables.specs.Tables.{TablesState}

-- what holds of no line, of a command that is accepted, and in front of more with a text that is displayed
module _
    (Holds : List Happening → Type 0) (none : Holds []) (carried : (name : List ℕ) → Holds (Carried name ∷ []))
    (displayed : (tid : ℕ) (text : List ℕ) (lines : List Happening) → Holds lines → Holds (Displayed tid text ∷ lines))
  where
    carried_hold : (hcack : ℕ) (name : List ℕ) → Holds (carried_lines hcack name)
    carried_hold hcack name = go (is_accepted hcack)
      where
        go : (accepted : Bool) → Holds (if accepted then Carried name ∷ [] else [])
        go true = carried name
        go false = none

    shown_hold : (ackc10 : Ackc10) (tid : ℕ) (texts : List (List ℕ)) → Holds (shown_lines ackc10 tid texts)
    shown_hold ackc10.Accepted tid [] = none
    shown_hold ackc10.Accepted tid (text ∷ texts) =
        displayed tid text (map (Displayed tid) texts) (shown_hold ackc10.Accepted tid texts)
    shown_hold ackc10.NoTerminal tid texts = none

    pub lines_hold : (t : TablesState) (is_local : Bool) (asked : TablesRequest) → Holds (lines_of t is_local asked)
    lines_hold t is_local (tables_request.Command name params) =
        carried_hold (remoted_of_item t is_local name params).hcack name
    lines_hold t is_local (tables_request.Display tid text) = shown_hold (ackc10_of t.remote tid) tid (text ∷ [])
    lines_hold t is_local (tables_request.DisplayLines tid texts) = shown_hold (ackc10_of t.remote tid) tid texts
    lines_hold t is_local tables_request.AreYouThere = none
    lines_hold t is_local (tables_request.StatusValues ids) = none
    lines_hold t is_local (tables_request.StatusNames ids) = none
    lines_hold t is_local (tables_request.ConstantValues ids) = none
    lines_hold t is_local (tables_request.SetConstants list) = none
    lines_hold t is_local (tables_request.ConstantNames ids) = none
    lines_hold t is_local (tables_request.Define dataid list) = none
    lines_hold t is_local (tables_request.Link dataid list) = none
    lines_hold t is_local (tables_request.EnableEvents on ceids) = none
    lines_hold t is_local (tables_request.Announce dataid length) = none
    lines_hold t is_local (tables_request.ReplaceRule list) = none
    lines_hold t is_local (tables_request.EnableAlarms on alid) = none
    lines_hold t is_local (tables_request.Alarms ids) = none
    lines_hold t is_local tables_request.EnabledAlarms = none
    lines_hold t is_local (tables_request.EventReport ceid) = none
    lines_hold t is_local (tables_request.Report rptid) = none
