-- What a script tells an end, and when its lines are due (this profile).
use Rattle.std.specs.Prelude.{ℕ, Bool, false, nat_le, List, [], ◌∷◌, All, map, take, drop, Option, Some, None}
use Rattle.std.specs.List.{prefix_len}
use Rattle.line_schedule.specs.declared.script.ScriptStep.{ScriptStep}
use Rattle.end_run.specs.Commands.{Commands, MayTell, Telling}

abbrev pub ScriptLine : Type 0
ScriptLine = ℕ × ScriptStep

-- what lines tell, each a command that the end takes, without a reply, or to stop
abbrev pub told_by : {C : Type 0} → (ScriptStep → Telling C) → List ScriptLine → List (Telling C)
told_by told lines = map (λ line. told line.1) lines

abbrev pub AreTold : {C : Type 0} → (ScriptStep → Telling C) → (C → Type 0) → List ScriptLine → Type 0
AreTold told takes lines = All (λ line. MayTell takes (told line.1)) lines

-- ---- when lines are due

abbrev pub is_due_line : ℕ → ScriptLine → Bool
is_due_line now line = nat_le line.0 now

-- how many lines are due, from the front on; these, and the lines behind them
abbrev pub due_count : ℕ → List ScriptLine → ℕ
due_count now lines = prefix_len (is_due_line now) lines

abbrev pub due_lines : ℕ → List ScriptLine → List ScriptLine
due_lines now lines = take (due_count now lines) lines

abbrev pub later_lines : ℕ → List ScriptLine → List ScriptLine
later_lines now lines = drop (due_count now lines) lines

-- the moment of the next line, where there is one
abbrev pub next_moment : List ScriptLine → Option ℕ
next_moment [] = None
next_moment (line ∷ lines) = Some line.0

-- ---- a script as what commands an end

-- it asks for the moment of its next line, and with an answer come the lines that are due
abbrev pub by_script : {C : Type 0} → (ScriptStep → Telling C) → Commands (List ScriptLine) C
by_script told = record {
  asks = next_moment;
  come = λ now lines. told_by told (due_lines now lines);
  early = λ now lines. false;
  later = later_lines;
}
