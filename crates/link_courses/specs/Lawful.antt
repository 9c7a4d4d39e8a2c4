-- That what the end of a run over a link has noted is of doings that keep the law of an end (this profile).
use Rattle.std.specs.Prelude.{◌≡◌, ◌<◌, ℕ, List, [], ◌∷◌}
use Rattle.gl_base.specs.declared.link.LinkIn.{LinkIn}
use Rattle.gl_base.specs.declared.link.LinkIn.TheVariants as link
use Rattle.message_end.specs.Course.{noted_behind}
use Rattle.message_end.specs.Doings.{AreLawful, Doing}
use Rattle.message_end.specs.History.{noted_in}
use Rattle.message_end.specs.InStep.{RepliesAreOfSteps, ReplyInTheirSteps}
use Rattle.message_end.specs.Plan.{EndPlan}
use Rattle.message_end.specs.Starts.{IsStartOf}
use Rattle.trace_log.specs.Log.{Happening}

-- a character that a link gives is a byte
abbrev pub GivesByte : LinkIn → Type 0
GivesByte (link.Char byte moment) = byte < 256
GivesByte (link.Quiet moment) = Unit {0}
GivesByte link.Closed = Unit {0}
GivesByte link.Failed = Unit {0}

abbrev pub GiveBytes : List LinkIn → Type 0
GiveBytes [] = Unit {0}
GiveBytes (answer ∷ answers) = GivesByte answer × GiveBytes answers

-- these notes are a start, and behind it those of some doings, the calls of the line among them. The doings keep the
-- law of an end, reply in the steps of their primaries, and are such
pub record AreOfDoings (plan : EndPlan) (Such : List Doing → Type 0) (notes : List Happening) : Type 0 where
  pub base : ℕ
  pub start : Happening
  pub starts : IsStartOf plan.side start base
  pub doings : List Doing
  pub noted : notes ≡ noted_behind (noted_in doings) (start ∷ [])
  pub lawful : AreLawful plan base doings
  pub replies : ReplyInTheirSteps plan doings
  pub such : Such doings

-- where anything is noted
abbrev pub AreDone : EndPlan → (List Doing → Type 0) → List Happening → Type 0
AreDone plan Such [] = Unit {0}
AreDone plan Such (what ∷ before) = AreOfDoings plan Such (what ∷ before)

-- so replies go in the steps of their primaries, by the notes too
pub record KeepsLawOfEnd (plan : EndPlan) (Such : List Doing → Type 0) (notes : List Happening) : Type 0 where
  pub done : AreDone plan Such notes
  pub replies : RepliesAreOfSteps plan.side notes
