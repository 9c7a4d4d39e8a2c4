-- The capture of the first exchange, and what `show` of it over objects that do not fail comes to.
use Rattle.std.proofs.Common.{◌≡◌, [], ◌∷◌, true, false, length, Some, refl, ap, ◌∙◌, inl, inr, arith}
use Rattle.std.specs.Fmt.{digits}
use Rattle.hex.specs.Hex.{encode_with}
use Rattle.gl_base.specs.Sink.{with_bytes}
use Rattle.block_codec.specs.Block.{BlockView, IsBlock}
use Rattle.line_show.specs.Capture.{Reads}
use Rattle.line_show.specs.Lines.{lines_of}
use Rattle.line_show.specs.declared.capture.Ending.TheVariants.{Whole}
use Rattle.line_show.specs.Capture.Piece.{Framed}
use Rattle.run_tests.specs.FirstExchange.{ShowsTheFirst, first_frame, first_lines}
use Rattle.gemline_app.proofs.Due.{whole_capture}

abbrev pub first_block : BlockView
first_block = record {
  header = record {
    from_equipment = false;
    device = 0;
    wait = true;
    stream = 1;
    function = 1;
    last = true;
    number = 1;
    system = 1;
  };
  body = [];
}

first_is_block : IsBlock first_block
first_is_block = record {
  header = record {
    fits = record { device = omega arith; stream = omega arith; number = omega arith };
    function = omega arith;
    system = omega arith;
  };
  at_most_244 = omega arith;
  bytes = λ k d below. absurd (omega arith);
}

first_reads : Reads first_frame (Framed first_block ∷ []) Whole
first_reads = ([], record { stands = first_is_block; whole = refl }, refl)

first_text : lines_of (Framed first_block ∷ []) ≡ first_lines
unfolding encode_with digits
first_text = refl

pub first_ends : ShowsTheFirst
first_ends words source files disk link out err status run shows told reliable empty room =
    let long : length (lines_of (Framed first_block ∷ [])) ≡ 88 = ap length first_text in
    elim (whole_capture words source files disk link out err status run shows first_frame (Framed first_block ∷ []) told
    (omega arith) reliable first_reads (omega arith)) [
      | inl memory ↦ inl memory
      | inr done ↦
          inr (done.0, done.1 ∙ ap (λ r. with_bytes r (lines_of (Framed first_block ∷ []))) empty ∙ ap Some first_text)
    ]
