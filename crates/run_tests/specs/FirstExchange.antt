-- The capture of an S1F1 with W from the host, block 1, system bytes 1, and what `show` makes of it.
use Rattle.std.specs.Prelude.{◌≡◌, ◌≤◌, ◌⊎◌, ℕ, true, List, [], ◌∷◌, ◌++◌, codes, Some}
use Rattle.command_words.specs.Asked.{Show}
use Rattle.command_words.specs.Words.{asked_of}
use Rattle.gl_base.specs.Told.{FilesTold, SinkTold, SourceTold}
use Rattle.spool_show.specs.Told.{DiskTold}
use Rattle.gemline_app.specs.LinkTold.{LinkTold}
use Rattle.gemline_app.specs.Gemline.{IsRun}

abbrev pub first_frame : List ℕ
first_frame = 10 ∷ 0 ∷ 0 ∷ 129 ∷ 1 ∷ 128 ∷ 1 ∷ 0 ∷ 0 ∷ 0 ∷ 1 ∷ 1 ∷ 4 ∷ []

abbrev pub first_lines : List ℕ
first_lines =
    codes "0 BLOCK H>E dev=0 S1F1 W n=1 E sys=00000001 bytes=0\n" ++ codes "0 MESSAGE H>E S1F1 W sys=00000001 -\n"

-- over objects with room that do not fail, its lines and status 0, but for want of memory
abbrev pub ShowsTheFirst : Type 0
ShowsTheFirst =
    (words : List (List ℕ)) (source : SourceTold) (files : FilesTold) (disk : DiskTold) (link : LinkTold)
    (out err : SinkTold) (status : ℕ)
    → IsRun words source files disk link out err status → asked_of words ≡ Some Show
    → source.before ≡ Some first_frame → source.health.reliable ≡ true → out.before ≡ Some [] → 88 ≤ out.health.room
    → (status ≡ 71) ⊎ ((status ≡ 0) × (out.after ≡ Some first_lines))
