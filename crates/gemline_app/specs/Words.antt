-- The names of files in words, and how long an input may be (this profile).
use Rattle.std.specs.Prelude.{ℕ, List, [], Option, Some}
use Rattle.command_words.specs.Asked.{Asked, Equipment, Host, JournalHost, JournalReplay, Replay}
use Rattle.gemline_app.specs.declared.outcome.FileRole.{FileRole}
use Rattle.gemline_app.specs.declared.outcome.FileRole.TheVariants.{Plan, Schedule}

-- the name of a file of `replay`, of `equipment` or of `host`; no other command names one
abbrev pub name_in : Option Asked → FileRole → List ℕ
name_in (Some (Replay plan schedule)) Plan = plan
name_in (Some (Replay plan schedule)) Schedule = schedule
name_in (Some (JournalReplay plan schedule slots)) Plan = plan
name_in (Some (JournalReplay plan schedule slots)) Schedule = schedule
name_in (Some (Equipment plan address spool polls)) Plan = plan
name_in (Some (Host plan address polls)) Plan = plan
name_in (Some (JournalHost plan address journal polls)) Plan = plan
name_in _ which = []

-- how long a capture may be, in bytes: 16 MiB
abbrev pub capture_limit : ℕ
capture_limit = 16777216

-- how long an item's text may be, or its bytes in hex: 1 MiB
abbrev pub item_limit : ℕ
item_limit = 1048576

-- how long a script may be, in bytes: 1 MiB
abbrev pub script_limit : ℕ
script_limit = 1048576

-- how long a file may be, in bytes: a plan 1 MiB, a schedule 4 MiB
abbrev pub file_limit : FileRole → ℕ
file_limit Plan = 1048576
file_limit Schedule = 4194304
