-- Which open requests of the equipment end as the host's S1F13 comes, worked out.
use Rattle.std.specs.Prelude.{◌≡◌, ℕ, true, List, [], ◌∷◌, flat_map, None}
use Rattle.transact.specs.declared.begun.Begun.{Begun}
use Rattle.message_end.specs.Core.Command.{End, Remove}
use Rattle.tool_step.specs.declared.kind.Kind.{Kind}
use Rattle.tool_step.specs.declared.kind.Kind.TheVariants.{Establish, Report}
use Rattle.tool_step.specs.Messages.{own_s1f13_of}
use Rattle.tool_step.specs.Own.{ToolCommands}

-- an open primary of the equipment, with these system bytes
abbrev pub open_one : Kind → (stream function system : ℕ) → Begun Kind
open_one what stream function system = record {
  header = record {
    from_equipment = true;
    device = 0;
    wait = true;
    stream = stream;
    function = function;
    last = true;
    number = 1;
    system = system;
  };
  kind = what;
  deadline = None;
}

abbrev pub report_one : ℕ → Begun Kind
report_one system = open_one Report 6 11 system

abbrev pub establish_one : ℕ → Begun Kind
establish_one system = open_one Establish 1 13 system

abbrev pub ended_of : List (Begun Kind) → ToolCommands
ended_of begun = flat_map own_s1f13_of begun

-- a report stays, and S1F13 ends, in front of the report, behind it, and each of two
pub record EndOwnS1F13 : Type 0 where
  pub front : ended_of (establish_one 1 ∷ report_one 2 ∷ []) ≡ End 1 ∷ Remove true 1 ∷ []
  pub behind : ended_of (report_one 1 ∷ establish_one 2 ∷ []) ≡ End 2 ∷ Remove true 2 ∷ []
  pub both : ended_of (establish_one 1 ∷ report_one 2 ∷ establish_one 3 ∷ [])
      ≡ End 1 ∷ Remove true 1 ∷ End 3 ∷ Remove true 3 ∷ []
  pub none : ended_of (report_one 1 ∷ []) ≡ []
