-- What the tables answer to the host's requests, a definition a row.
use Rattle.std.specs.Prelude.{◌||◌, ◌==◌, ◌≤◌, not, ℕ, Bool, List, [], ◌∷◌, length, map, nat_lt, is_some, if◌then◌else◌}
use Rattle.std.specs.List.{list_all}
use Rattle.secs_items.specs.declared.item.Item.{Item}
use Rattle.secs_items.specs.Encoding.{encode_fault}
use Rattle.secs_items.specs.Spelling.{shortest_spelling}
use Rattle.trace_log.specs.Log.{Happening}
use Rattle.trace_log.specs.Log.Happening.{Carried}
use Rattle.trace_log.specs.Log.Happening.{Display as Displayed}
use Rattle.gem_alarms.specs.declared.alarms.Ackc5.{Ackc5}
use Rattle.gem_alarms.specs.declared.alarms.Ackc5.TheVariants as ackc5
use Rattle.gem_alarms.specs.Alarms.{ackc5_of, body_of, enabled_list_of, list_of}
use Rattle.gem_remote.specs.declared.remote.Ackc10.{Ackc10}
use Rattle.gem_remote.specs.declared.remote.Ackc10.TheVariants as ackc10
use Rattle.gem_remote.specs.declared.remote.Remoted.{Remoted}
use Rattle.gem_remote.specs.Commands.{ackc10_of}
use Rattle.gem_reports.specs.declared.answers.Drack.{Drack}
use Rattle.gem_reports.specs.declared.answers.Drack.TheVariants as drack
use Rattle.gem_reports.specs.declared.answers.Erack.{Erack}
use Rattle.gem_reports.specs.declared.answers.Erack.TheVariants as erack
use Rattle.gem_reports.specs.declared.answers.Lrack.{Lrack}
use Rattle.gem_reports.specs.declared.answers.Lrack.TheVariants as lrack
use Rattle.gem_reports.specs.Reporting.{drack_in, erack_in, event_body_in, lrack_in, report_body_in}
use Rattle.gem_shapes.specs.Answers.{code_item, identity_item, pair_item}
use Rattle.gem_shapes.specs.declared.request.TablesRequest.{TablesRequest}
use Rattle.gem_shapes.specs.declared.request.TablesRequest.TheVariants as tables_request
use Rattle.spool_rule.specs.Reply.{reply_item}
use Rattle.spool_rule.specs.Rule.{answer_of as rule_answer}
use Rattle.gem_vars.specs.declared.settings.Eac.{Eac}
use Rattle.gem_vars.specs.declared.settings.Eac.TheVariants as eac
use Rattle.gem_vars.specs.Listing.{constant_names_of, constant_values_of, status_names_of, status_values_of}
use Rattle.gem_vars.specs.Settings.{eac_of}
use Rattle.equipment_tables.specs.declared.answers.Answer.{Answer}
use Rattle.equipment_tables.specs.declared.answers.Answer.TheVariants as answer
use Rattle.equipment_tables.specs.RemoteAnswers.{params_in, remoted_by}
use Rattle.equipment_tables.specs.Tables.{TablesState, value_of}

-- ---- codes (SEMI E5)

abbrev pub eac_code : Eac → ℕ
eac_code eac.Done = 0
eac_code (eac.Unknown ecid) = 1
eac_code (eac.OutOfRange ecid) = 3

abbrev pub drack_code : Drack → ℕ
drack_code drack.Done = 0
drack_code drack.NoSpace = 1
drack_code (drack.Defined rptid) = 3
drack_code (drack.UnknownVid vid) = 4

abbrev pub lrack_code : Lrack → ℕ
lrack_code lrack.Done = 0
lrack_code lrack.NoSpace = 1
lrack_code (lrack.Linked ceid) = 3
lrack_code (lrack.UnknownCeid ceid) = 4
lrack_code (lrack.UnknownRptid rptid) = 5

abbrev pub erack_code : Erack → ℕ
erack_code erack.Done = 0
erack_code (erack.Unknown ceid) = 1

abbrev pub ackc5_code : Ackc5 → ℕ
ackc5_code ackc5.Done = 0
ackc5_code (ackc5.Unknown alid) = 1

abbrev pub ackc10_code : Ackc10 → ℕ
ackc10_code ackc10.Accepted = 0
ackc10_code ackc10.NoTerminal = 2

-- ---- bodies

-- MDLN and SOFTREV of this equipment (SEMI E5, S1F2 and S1F13)
abbrev pub identity_of : TablesState → Item
identity_of t = identity_item t.mdln t.softrev

-- COMMACK 0 beside them (SEMI E5, S1F14)
abbrev pub established_of : TablesState → Item
established_of t = pair_item (code_item 0) (identity_of t)

-- the body of S6F11 and S6F16 (SEMI E5)
abbrev pub event_item : TablesState → ℕ → ℕ → Item
event_item t ceid dataid = event_body_in (value_of t) t.reports ceid dataid

-- the body of S6F20 (SEMI E5)
abbrev pub report_item_of : TablesState → ℕ → Item
report_item_of t rptid = report_body_in (value_of t) t.reports rptid

-- the body of S5F1 (SEMI E5)
abbrev pub alarm_item_of : TablesState → ℕ → Item
alarm_item_of t alid = body_of t.alarms alid

-- a remote command by the parameters that its second part lists
abbrev pub remoted_of_item : TablesState → Bool → List ℕ → Item → Remoted
remoted_of_item t is_local name params = remoted_by t.remote is_local name (params_in params)

-- ---- rows

-- the body of the reply to each request, by the tables before it (SEMI E5; SEMI E30)
abbrev pub reply_to : TablesState → Bool → TablesRequest → Item
reply_to t is_local tables_request.AreYouThere = identity_of t
reply_to t is_local (tables_request.StatusValues ids) = status_values_of t.vars ids
reply_to t is_local (tables_request.StatusNames ids) = status_names_of t.vars ids
reply_to t is_local (tables_request.ConstantValues ids) = constant_values_of t.vars ids
reply_to t is_local (tables_request.SetConstants list) = code_item (eac_code (eac_of t.vars list))
reply_to t is_local (tables_request.ConstantNames ids) = constant_names_of t.vars ids
reply_to t is_local (tables_request.Define dataid list) = code_item (drack_code (drack_in (value_of t) t.reports list))
reply_to t is_local (tables_request.Link dataid list) = code_item (lrack_code (lrack_in t.reports list))
reply_to t is_local (tables_request.EnableEvents on ceids) = code_item (erack_code (erack_in t.reports ceids))
reply_to t is_local (tables_request.Announce dataid length) = code_item 0
reply_to t is_local (tables_request.Command name params) = (remoted_of_item t is_local name params).reply
reply_to t is_local (tables_request.ReplaceRule list) = reply_item (rule_answer list)
reply_to t is_local (tables_request.EnableAlarms on alid) = code_item (ackc5_code (ackc5_of t.alarms alid))
reply_to t is_local (tables_request.Alarms ids) = list_of t.alarms ids
reply_to t is_local tables_request.EnabledAlarms = enabled_list_of t.alarms
reply_to t is_local (tables_request.EventReport ceid) = event_item t ceid 0
reply_to t is_local (tables_request.Report rptid) = report_item_of t rptid
reply_to t is_local (tables_request.Display tid text) = code_item (ackc10_code (ackc10_of t.remote tid))
reply_to t is_local (tables_request.DisplayLines tid texts) = code_item (ackc10_code (ackc10_of t.remote tid))

-- ---- what is sent

-- a spelling is of bytes, unless an element is outside the range of its kind
abbrev pub has_bytes : Item → Bool
has_bytes item = list_all (λ byte. nat_lt byte 256) (shortest_spelling item)

-- the body has more bytes than may be sent, or none spell it (this profile)
abbrev pub is_too_long : ℕ → Item → Bool
is_too_long max_body item =
    nat_lt max_body (length (shortest_spelling item)) || (is_some (encode_fault item) || not (has_bytes item))

-- a body as bytes, unless it is too long
abbrev pub spelled_body : ℕ → Item → Answer
spelled_body max_body item =
    if is_too_long max_body item then answer.TooLong else answer.Body (shortest_spelling item)

-- a body that is sent has no more bytes than may be sent
abbrev pub IsWithin : ℕ → Answer → Type 0
IsWithin max_body (answer.Body bytes) = length bytes ≤ max_body
IsWithin max_body answer.TooLong = Unit {0}

-- ---- what is noted on the way

-- a remote command is accepted: it was carried out, or will be (SEMI E5, HCACK)
abbrev pub is_accepted : ℕ → Bool
is_accepted hcack = (hcack == 0) || (hcack == 4)

abbrev pub carried_lines : ℕ → List ℕ → List Happening
carried_lines hcack name = if is_accepted hcack then Carried name ∷ [] else []

abbrev pub shown_lines : Ackc10 → ℕ → List (List ℕ) → List Happening
shown_lines ackc10.Accepted tid texts = map (Displayed tid) texts
shown_lines ackc10.NoTerminal tid texts = []

-- the remote command that is accepted, or each text that a terminal displays (this profile)
abbrev pub lines_of : TablesState → Bool → TablesRequest → List Happening
lines_of t is_local (tables_request.Command name params) =
    carried_lines (remoted_of_item t is_local name params).hcack name
lines_of t is_local (tables_request.Display tid text) = shown_lines (ackc10_of t.remote tid) tid (text ∷ [])
lines_of t is_local (tables_request.DisplayLines tid texts) = shown_lines (ackc10_of t.remote tid) tid texts
lines_of t is_local _ = []

-- a request's answer, what is noted before it, and what becomes of the tables
abbrev pub answer_of : TablesState → Bool → ℕ → TablesRequest → Answer
answer_of t is_local max_body request = spelled_body max_body (reply_to t is_local request)
