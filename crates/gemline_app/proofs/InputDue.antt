-- Which outcome of a command over the whole input is due.
use Rattle.std.proofs.Common.{◌≡◌, ℕ, List, Option, Some, sym, subst, inl, inr, arith}
use Rattle.gl_base.specs.Input.{ReadsAll, ReadsAllOf}
use Rattle.gl_base.specs.Told.{FilesTold, SinkTold, SourceTold}
use Rattle.gl_base.specs.declared.input.Input.{Input}
use Rattle.gl_base.specs.declared.input.Input.TheVariants as input
use Rattle.spool_show.specs.Told.{DiskTold}
use Rattle.gemline_app.specs.Gemline.{ComesOnInput}
use Rattle.gemline_app.specs.Inputs.{InputRefuses, WasRead}
use Rattle.gemline_app.specs.Laws.{IsInputDue}
use Rattle.gemline_app.specs.LinkTold.{LinkTold}
use Rattle.gemline_app.specs.declared.outcome.Outcome.{Outcome}
use Rattle.gemline_app.specs.declared.outcome.Outcome.TheVariants.{Done, Usage, BadFrame, BadText, BadHex, BadItem, BadLine, Longer, FileLonger, FileFailed, ReadFailed, NoMemory, WriteFailed, TurnsSpent, NumbersSpent, Slip, DiskFailed, NotSpool, BadPlan, BadScript, LinkFailed, JournalFull}
use Rattle.gemline_app.proofs.ReplayDue.{Comes}

-- what reading came to, where the source told its bytes
pub read_of : (limit : ℕ) (source : SourceTold) (bytes : List ℕ) (answer : Input) → source.before ≡ Some bytes
    → WasRead limit source answer
    → ReadsAllOf limit bytes source.after answer
read_of limit source bytes answer told read =
    subst (λ (b : Option (List ℕ)). ReadsAll limit b source.after answer) told read.bytes

-- what was not read
pub unread_due : (limit : ℕ) (Asks : List ℕ → Outcome → Type 0) (source : SourceTold) (files : FilesTold)
    (disk : DiskTold) (link : LinkTold) (out : SinkTold) (outcome due : Outcome)
    → InputRefuses limit source outcome → IsInputDue limit Asks source due
    → Comes source files disk link out outcome due
unread_due limit Asks source files disk link out Longer due read (bytes, told, inl (past, is)) = inl (sym is)
unread_due limit Asks source files disk link out Longer due read (bytes, told, inr (within, asks)) =
    let past = (read_of limit source bytes input.Longer told read).0 in absurd (omega arith)
unread_due limit Asks source files disk link out ReadFailed due read is_due = inr read.cause.rose
unread_due limit Asks source files disk link out NoMemory due read is_due = inr tt
unread_due limit Asks source files disk link out Done due was is_due = absurd was
unread_due limit Asks source files disk link out Usage due was is_due = absurd was
unread_due limit Asks source files disk link out (BadFrame named) due was is_due = absurd was
unread_due limit Asks source files disk link out (BadText at) due was is_due = absurd was
unread_due limit Asks source files disk link out (BadHex at) due was is_due = absurd was
unread_due limit Asks source files disk link out (BadItem fault) due was is_due = absurd was
unread_due limit Asks source files disk link out WriteFailed due was is_due = absurd was
unread_due limit Asks source files disk link out (BadLine number) due was is_due = absurd was
unread_due limit Asks source files disk link out (FileLonger which) due was is_due = absurd was
unread_due limit Asks source files disk link out (FileFailed which) due was is_due = absurd was
unread_due limit Asks source files disk link out TurnsSpent due was is_due = absurd was
unread_due limit Asks source files disk link out NumbersSpent due was is_due = absurd was
unread_due limit Asks source files disk link out DiskFailed due was is_due = absurd was
unread_due limit Asks source files disk link out (NotSpool at) due was is_due = absurd was
unread_due limit Asks source files disk link out Slip due was is_due = absurd was
unread_due limit Asks source files disk link out (BadPlan key what) due was is_due = absurd was
unread_due limit Asks source files disk link out (BadScript number) due was is_due = absurd was
unread_due limit Asks source files disk link out LinkFailed due was is_due = absurd was
unread_due limit Asks source files disk link out JournalFull due was is_due = absurd was

-- a command over the input, of which it is shown what it does with the whole of it
pub input_due : (limit : ℕ) (Was : List ℕ → SinkTold → Outcome → Type 0) (Asks : List ℕ → Outcome → Type 0)
    (source : SourceTold) (files : FilesTold) (disk : DiskTold) (link : LinkTold) (out : SinkTold)
    (outcome due : Outcome)
    → ((bytes : List ℕ) → Was bytes out outcome → Asks bytes due → Comes source files disk link out outcome due)
    → ComesOnInput limit Was source out outcome → IsInputDue limit Asks source due
    → Comes source files disk link out outcome due
input_due limit Was Asks source files disk link out outcome due each (inl (refuses, untouched)) is_due =
    unread_due limit Asks source files disk link out outcome due refuses is_due
input_due limit Was Asks source files disk link out outcome due each (inr (whole, read, was))
    (bytes, told, inl (past, is)) =
    let within = (read_of limit source bytes (input.Whole whole) told read).0 in absurd (omega arith)
input_due limit Was Asks source files disk link out outcome due each (inr (whole, read, was))
    (bytes, told, inr (within, asks)) =
    let same = (read_of limit source bytes (input.Whole whole) told read).1 in
    each bytes (subst (λ (all : List ℕ). Was all out outcome) same was) asks
