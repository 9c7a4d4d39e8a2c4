-- The traces that run, when each has a sample due, and what a step makes of it.
use Rattle.std.specs.Prelude.{ℕ, ◌+◌, ◌%◌, ◌==◌, ◌&&◌, ◌||◌, Bool, not, List, [], ◌∷◌, ◌++◌, filter, map, min, nat_le, Option, Some, None, if◌then◌else◌}
use Rattle.std.specs.List.{filter_map, reduce}
use Rattle.std.specs.Option.{option_map, option_to_list}
use Rattle.secs_items.specs.declared.item.Item.{Item}
use Rattle.secs_items.specs.declared.item.Item.TheVariants as item
use Rattle.secs_items.specs.Items.{number_item}
use Rattle.gem_vars.specs.Listing.{value_item}
use Rattle.gem_vars.specs.Tables.{VarsTable}
use Rattle.gem_trace.specs.declared.request.TraceRequest.{TraceRequest}
use Rattle.gem_trace.specs.Period.{period_of}

-- a trace that runs: what the host asked for, the moment of its next sample, how many samples it has taken, and their
-- values since its last S6F1 (SEMI E30, trace data collection)
pub record Running : Type 0 where
  pub trid : ℕ
  pub period : ℕ
  pub total : ℕ
  pub group : ℕ
  pub svids : List ℕ
  pub due : ℕ
  pub taken : ℕ
  pub values : List Item

-- a trace as it is set at a moment, without a sample
abbrev pub first_trace : TraceRequest → ℕ → ℕ → Running
first_trace request now period = record {
  trid = request.trid;
  period = period;
  total = request.total;
  group = request.group;
  svids = request.svids;
  due = now + period;
  taken = 0;
  values = [];
}

-- the trace that S2F23 sets at a moment; with a total of 0 it sets none (SEMI E5, S2F23)
abbrev pub set_trace : TraceRequest → ℕ → Option Running
set_trace request now =
    if request.total == 0 then None else option_map (first_trace request now) (period_of request.dsper)

-- the traces of other TRIDs
abbrev pub others : ℕ → List Running → List Running
others trid running = filter (λ trace. not (trace.trid == trid)) running

-- what runs when S2F23 has been taken: the trace that it sets stands last, and none of the same TRID before it
abbrev pub after_setting : TraceRequest → ℕ → List Running → List Running
after_setting request now running = others request.trid running ++ option_to_list (set_trace request now)

-- a trace has a sample due at its moment and from then on
abbrev pub is_due : ℕ → Running → Bool
is_due now trace = nat_le trace.due now

-- a sample: the values of these variables at a moment, in their order
abbrev pub readings : VarsTable → List ℕ → List Item
readings vars svids = map (value_item vars) svids

-- an S6F1 is due with this sample: its number is a multiple of the group, or it is the last one (SEMI E5, S6F1)
abbrev pub ends_group : Running → ℕ → Bool
ends_group trace number = number % trace.group == 0 || number == trace.total

-- TRID, SMPLN, STIME and the values; STIME is empty, since the tool has no clock (SEMI E5, S6F1; this profile)
abbrev pub body_item : ℕ → ℕ → List Item → Item
body_item trid number values =
    item.L (number_item trid ∷ number_item number ∷ item.A [] ∷ item.L values ∷ [])

-- the values since the last S6F1, with those of a sample now
abbrev pub values_with : VarsTable → Running → List Item
values_with vars trace = trace.values ++ readings vars trace.svids

-- the S6F1 that is due of a trace at a moment, if one is
abbrev pub body_due : VarsTable → ℕ → Running → Option Item
body_due vars now trace =
    if is_due now trace && ends_group trace (trace.taken + 1)
    then Some (body_item trace.trid (trace.taken + 1) (values_with vars trace))
    else None

-- the trace with one sample more; the next is due a period behind it (SEMI E30, trace data collection)
abbrev pub with_sample : VarsTable → ℕ → Running → Running
with_sample vars now trace = record trace {
  due = now + trace.period;
  taken = trace.taken + 1;
  values = if ends_group trace (trace.taken + 1) then [] else values_with vars trace;
}

-- what a step at a moment makes of a trace: it takes one sample where one is due, and ends with the last one
abbrev pub after_step : VarsTable → ℕ → Running → Option Running
after_step vars now trace =
    if is_due now trace
    then if trace.taken + 1 == trace.total then None else Some (with_sample vars now trace)
    else Some trace

-- all S6F1 that are due, in the order of the traces' settings, and what runs then
abbrev pub bodies_due : VarsTable → ℕ → List Running → List Item
bodies_due vars now running = filter_map (body_due vars now) running

abbrev pub after_samples : VarsTable → ℕ → List Running → List Running
after_samples vars now running = filter_map (after_step vars now) running

-- when the next sample is due, of all traces
abbrev pub deadline : List Running → Option ℕ
deadline running = reduce min (map (λ trace. trace.due) running)
