-- Which traces run after a history, and which S6F1 are due behind it, looked back for. The oldest entry stands first.
use Rattle.std.specs.Prelude.{ℕ, ◌+◌, ◌-◌, ◌%◌, ◌==◌, ◌&&◌, ◌||◌, ◌≡◌, Bool, false, List, [], ◌∷◌, ◌++◌, drop, flat_map, length, nat_le, Option, Some, None, if◌then◌else◌}
use Rattle.std.specs.List.{cons_option, filter_map, list_any}
use Rattle.std.specs.Option.{option_and_then}
use Rattle.secs_items.specs.declared.item.Item.{Item}
use Rattle.gem_vars.specs.Tables.{VarsTable}
use Rattle.gem_trace.specs.declared.request.TraceRequest.{TraceRequest}
use Rattle.gem_trace.specs.Traces.{Running, body_item, ends_group, readings, set_trace}

-- a step of the tool: its moment, and the variables as they are before its input
pub record Look : Type 0 where
  pub vars : VarsTable
  pub now : ℕ

-- an accepted S2F23 with its moment, and a step
pub data TraceEntry : Type 0 where
  Set : (request : TraceRequest) (now : ℕ) → TraceEntry
  Step : (look : Look) → TraceEntry

-- an entry sets this trace anew, or ends it
abbrev pub names : ℕ → TraceEntry → Bool
names trid (Set request now) = trid == request.trid
names trid (Step look) = false

abbrev pub look_of : TraceEntry → Option Look
look_of (Set request now) = None
look_of (Step look) = Some look

-- the steps at which samples are due: each is the first a period or more behind the sample before it, and the first
-- sample is so behind the setting (SEMI E30, trace data collection)
abbrev pub samples_of : ℕ → ℕ → List Look → List Look
samples_of period last [] = []
samples_of period last (look ∷ looks) =
    if nat_le (last + period) look.now then look ∷ samples_of period look.now looks
    else samples_of period last looks

-- the moment of the last sample, and where there is none that of the setting
abbrev pub last_of : ℕ → List Look → ℕ
last_of set_at [] = set_at
last_of set_at (look ∷ looks) = last_of look.now looks

-- the samples behind the last one whose number is a multiple of the group
abbrev pub since_last_body : ℕ → List Look → List Look
since_last_body group samples = drop (length samples - length samples % group) samples

-- the values of these samples, one after another
abbrev pub values_of : List ℕ → List Look → List Item
values_of svids samples = flat_map (λ look. readings look.vars svids) samples

-- a trace with these samples since its setting at a moment
abbrev pub with_samples : Running → ℕ → List Look → Running
with_samples first set_at samples = record first {
  due = last_of set_at samples + first.period;
  taken = length samples;
  values = values_of first.svids (since_last_body first.group samples);
}

-- it runs while these are fewer than its total
abbrev pub sampled : Running → ℕ → List Look → Option Running
sampled first set_at samples =
    if nat_le first.total (length samples) then None else Some (with_samples first set_at samples)

-- what a trace has become by all entries behind its setting: nothing where one of them names it
abbrev pub trace_behind : List TraceEntry → ℕ → Running → Option Running
trace_behind later set_at first =
    if list_any (names first.trid) later then None
    else sampled first set_at (samples_of first.period set_at (filter_map look_of later))

-- the traces that run, in the order of their settings
abbrev pub traces_at : List TraceEntry → List Running
traces_at [] = []
traces_at (Set request now ∷ later) =
    cons_option (option_and_then (trace_behind later now) (set_trace request now)) (traces_at later)
traces_at (Step look ∷ later) = traces_at later

-- the S6F1 that a step brings of a trace with these samples before it: the step is the first a period or more behind
-- the last of them, and the number of its own sample is a multiple of the group, or the total (SEMI E5, S6F1)
abbrev pub body_of : Running → ℕ → List Look → Look → Option Item
body_of first set_at samples look =
    if nat_le (last_of set_at samples + first.period) look.now && ends_group first (length samples + 1)
    then Some (body_item first.trid (length samples + 1)
    (values_of first.svids (since_last_body first.group samples ++ look ∷ [])))
    else None

-- and of one that was set, unless it has ended by then or an entry behind its setting names it
abbrev pub body_behind : List TraceEntry → ℕ → Look → Running → Option Item
body_behind later set_at look first =
    let samples = samples_of first.period set_at (filter_map look_of later) in
    if list_any (names first.trid) later || nat_le first.total (length samples) then None
    else body_of first set_at samples look

-- the S6F1 that are due at a step behind a history, in the order of the settings
abbrev pub bodies_at : List TraceEntry → Look → List Item
bodies_at [] look = []
bodies_at (Set request now ∷ later) look =
    cons_option (option_and_then (body_behind later now look) (set_trace request now)) (bodies_at later look)
bodies_at (Step before ∷ later) look = bodies_at later look

-- the traces stand for a history
abbrev pub StandsFor : List Running → List TraceEntry → Type 0
StandsFor running past = running ≡ traces_at past
