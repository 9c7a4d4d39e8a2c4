-- What goes out to a sink, at once or a page at a time (this profile).
use Rattle.std.specs.Prelude.{◌≡◌, ℕ, ◌<◌, List, ◌++◌, length, take}
use Rattle.gl_base.specs.Sink.{IsWrittenOn, WriteFault, with_bytes}
use Rattle.gl_base.specs.Told.{SinkTold}
use Rattle.gl_base.specs.declared.copying.SinkAnswer.{SinkAnswer}
use Rattle.gl_base.specs.declared.copying.SinkAnswer.TheVariants.{Done, Failed}

-- a text went out without a fault
pub record WroteText (out : SinkTold) (text : List ℕ) : Type 0 where
  pub received : out.after ≡ with_bytes out.before text
  pub health : IsWrittenOn out.health out.health_after (length text)

-- a part of a text, from its front, went out without a fault
pub record WrotePart (out : SinkTold) (text : List ℕ) : Type 0 where
  pub front : List ℕ
  pub rest : List ℕ
  pub whole : text ≡ front ++ rest
  pub wrote : WroteText out front

-- a write failed, and only a part of a text, from its front, went out
pub record WroteShort (out : SinkTold) (text : List ℕ) : Type 0 where
  pub count : ℕ
  pub short : count < length text
  pub received : out.after ≡ with_bytes out.before (take count text)
  pub fault : WriteFault out.health out.health_after (length text)

-- a text was to go out
abbrev pub Sends : SinkTold → List ℕ → SinkAnswer → Type 0
Sends out text Done = WroteText out text
Sends out text Failed = WroteShort out text

-- what went out, followed by what the page holds, is the text
pub record IsUnderWay (out : SinkTold) (text page : List ℕ) : Type 0 where
  pub sent : List ℕ
  pub wrote : WroteText out sent
  pub whole : text ≡ sent ++ page

-- a text was to go out or to the page, which then holds these bytes
abbrev pub Passes : SinkTold → List ℕ → List ℕ → SinkAnswer → Type 0
Passes out text page Done = IsUnderWay out text page
Passes out text page Failed = WroteShort out text

-- how many bytes a page has room for
abbrev pub page_size : ℕ
page_size = 65536
