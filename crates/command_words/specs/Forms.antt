-- The words that each command takes behind its name, as a simple command of `clap`.
use Rattle.std.specs.Prelude.{List, [], ◌∷◌, codes, fold, map, true, Some}
use Rattle.clap.specs.Words.{App, Rule, Text, new_app, new_rule, with_rule}
use Rattle.clap.specs.Simple.{on_top}
use Rattle.clap.specs.declared.builder.action.ArgAction.TheVariants.{SetTrue}
use Rattle.command_words.specs.declared.forms.Role.{Role}
use Rattle.command_words.specs.declared.forms.Role.TheVariants as role
use Rattle.command_words.specs.declared.names.Name.{Name}
use Rattle.command_words.specs.declared.names.Name.TheVariants.{Show, Spell, Replay, Equipment, Host, Format, Spool, Drop, Make}

-- A value stands in its place and must be given. An option is written `--id VALUE` or `--id=VALUE`, and a flag `--id`;
-- both may be missing.
abbrev pub rule_for : Role → Text → Rule
rule_for role.Value id = record (new_rule id) { required = true }
rule_for role.Option id = record (new_rule id) { long = Some id }
rule_for role.Flag id = record (new_rule id) { long = Some id; action = Some SetTrue }

-- a command whose first word is behind its name, and that has no help
abbrev pub bare : Text → App
bare name = on_top (λ s. record s { no_binary_name = true; disable_help_flag = true }) (new_app name)

abbrev pub with_each : Role → List Text → App → App
with_each role ids app = fold with_rule app (map (rule_for role) ids)

-- a command of its name, its values in their order, its options and its flags
abbrev pub app_with : Text → List Text → List Text → List Text → App
app_with name values options flags =
    with_each role.Flag flags (with_each role.Option options (with_each role.Value values (bare name)))

-- what each name takes
unfoldable pub app_for : Name → App
app_for Show = app_with (codes "show") [] [] []
app_for Spell = app_with (codes "spell") [] [] (codes "hex" ∷ [])
app_for Replay = app_with (codes "replay") (codes "PLAN" ∷ codes "SCHEDULE" ∷ []) (codes "journal" ∷ []) []
app_for Equipment =
    app_with (codes "equipment") (codes "PLAN" ∷ codes "ADDRESS" ∷ codes "SPOOL" ∷ []) (codes "polls" ∷ []) []
app_for Host =
    app_with (codes "host") (codes "PLAN" ∷ codes "ADDRESS" ∷ []) (codes "journal" ∷ codes "polls" ∷ []) []
app_for Format = app_with (codes "format") (codes "SPOOL" ∷ codes "SLOTS" ∷ []) [] []
app_for Spool = app_with (codes "spool") (codes "SPOOL" ∷ []) [] []
app_for Drop = app_with (codes "drop") (codes "SPOOL" ∷ codes "N" ∷ []) [] []
app_for Make = app_with (codes "make") (codes "N" ∷ []) [] []
