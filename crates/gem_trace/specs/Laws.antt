-- What holds of the traces after every history.
use Rattle.std.specs.Prelude.{◌≡◌, ◌≤◌, ℕ, List, [], ◌∷◌, ◌++◌, length}
use Rattle.gem_vars.specs.Tables.{VarsTable}
use Rattle.gem_trace.specs.declared.request.TraceRequest.{TraceRequest}
use Rattle.gem_trace.specs.declared.request.Tiaack.TheVariants as tiaack
use Rattle.gem_trace.specs.History.{Look, StandsFor, TraceEntry, bodies_at}
use Rattle.gem_trace.specs.History.TraceEntry.{Set, Step}
use Rattle.gem_trace.specs.Settings.{tiaack_of}
use Rattle.gem_trace.specs.Traces.{Running, after_samples, after_setting, bodies_due}

-- what an entry leaves
abbrev pub after_entry : List Running → TraceEntry → List Running
after_entry running (Set request now) = after_setting request now running
after_entry running (Step look) = after_samples look.vars look.now running

-- at first the traces stand for no entries; after one entry more they stand for the longer history; and the S6F1 that
-- are due of them at a step are those of the history
pub record WhatRunsIsLookedBackFor : Type 0 where
  pub first : StandsFor [] []
  pub next :
      (running : List Running) (past : List TraceEntry) (entry : TraceEntry) → StandsFor running past
      → StandsFor (after_entry running entry) (past ++ entry ∷ [])
  pub bodies :
      (running : List Running) (past : List TraceEntry) (look : Look) → StandsFor running past
      → bodies_due look.vars look.now running ≡ bodies_at past look

-- an accepted S2F23 leaves no more than 16 traces, a step no more than there were, and brings no more S6F1
pub record FewTracesRun : Type 0 where
  pub set :
      (vars : VarsTable) (running : List Running) (request : TraceRequest) (now : ℕ) → length running ≤ 16
      → tiaack_of vars running request ≡ tiaack.Done → length (after_setting request now running) ≤ 16
  pub left :
      (vars : VarsTable) (now : ℕ) (running : List Running)
      → length (after_samples vars now running) ≤ length running
  pub bodies :
      (vars : VarsTable) (now : ℕ) (running : List Running) → length (bodies_due vars now running) ≤ length running
