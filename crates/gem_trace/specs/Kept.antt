-- How a trace is kept while a step reads its samples, what is seen of it, and what the step's two passes leave.
use Rattle.std.specs.Prelude.{ℕ, ◌+◌, ◌<◌, ◌≤◌, ◌^◌, ◌==◌, ◌&&◌, Bool, not, List, [], ◌∷◌, ◌++◌, is_some, length, nat_lt, take, Option, Some, None, if◌then◌else◌}
use Rattle.std.specs.List.{filter_map}
use Rattle.std.specs.Option.{option_map}
use Rattle.secs_items.specs.declared.item.Item.{Item}
use Rattle.secs_items.specs.declared.item.Item.TheVariants as item
use Rattle.secs_items.specs.Items.{number_item}
use Rattle.gem_vars.specs.Tables.{VarsTable}
use Rattle.gem_trace.specs.declared.trace.Trace.{Trace}
use Rattle.gem_trace.specs.Traces.{Running, ends_group, is_due, readings}

-- what is seen: of the values the held ones
abbrev pub seen : Trace → Running
seen trace = record {
  trid = trace.trid;
  period = trace.period;
  total = trace.total;
  group = trace.group;
  svids = trace.svids;
  due = trace.due;
  taken = trace.taken;
  values = take trace.held trace.values;
}

-- a sample is still to come, and its number and moment stay within their types
pub record IsKept (trace : Trace) : Type 0 where
  pub runs : trace.taken < trace.total
  pub group : 0 < trace.group
  pub short : trace.period < 2 ^ 62
  pub held : trace.held ≤ length trace.values

-- an S6F1 is due with the next sample
abbrev pub ends_next : Trace → Bool
ends_next trace = ends_group (seen trace) (trace.taken + 1)

-- what stands before the values in the body of an S6F1
abbrev pub body_front : ℕ → ℕ → List Item
body_front trid number = number_item trid ∷ number_item number ∷ item.A [] ∷ []

-- that of the S6F1 that is due with the next sample, if one is
abbrev pub front_due : Trace → Option (List Item)
front_due trace = if ends_next trace then Some (body_front trace.trid (trace.taken + 1)) else None

-- the first pass: a sample's values stand behind those held, and the body of its S6F1 is begun
abbrev pub with_reading : VarsTable → ℕ → Trace → Trace
with_reading vars now trace =
    if is_due now (seen trace)
    then record trace {
      values = take trace.held trace.values ++ readings vars trace.svids;
      front = front_due trace;
    }
    else trace

-- the S6F1 that the second pass brings of a trace, if one is due, and all of them
abbrev pub brings_body : ℕ → Trace → Bool
brings_body now trace = is_due now (seen trace) && is_some trace.front

abbrev pub with_front : List Item → List Item → Item
with_front values front = item.L (front ++ item.L values ∷ [])

abbrev pub body_read : ℕ → Trace → Option Item
body_read now trace = if is_due now (seen trace) then option_map (with_front trace.values) trace.front else None

abbrev pub bodies_read : ℕ → List Trace → List Item
bodies_read now traces = filter_map (body_read now) traces

-- the values that are held once the sample is taken: none behind an S6F1
abbrev pub values_left : Trace → List Item
values_left trace = if is_some trace.front then [] else trace.values

abbrev pub with_taken : ℕ → Trace → Trace
with_taken now trace = record trace {
  due = now + trace.period;
  taken = trace.taken + 1;
  values = values_left trace;
  held = length (values_left trace);
  front = None;
}

-- the second pass: the sample is taken
abbrev pub settled : ℕ → Trace → Trace
settled now trace = if is_due now (seen trace) then with_taken now trace else trace

-- it has another TRID than this one
abbrev pub is_other : ℕ → Trace → Bool
is_other trid trace = not (trace.trid == trid)

-- samples are still to come of it
abbrev pub goes_on : Trace → Bool
goes_on trace = nat_lt trace.taken trace.total
