-- How far the showing of a capture has come.
use Rattle.std.proofs.Common.{◌≡◌, ◌⊎◌, inl, inr, ℕ, ◌+◌, ◌≤◌, List, [], ◌∷◌, ◌++◌, length, drop, Option, Result, Ok, Err, refl, sym, ap, subst, ◌∙◌, arith, append_assoc, append-nil, length-append, length-drop}
use Rattle.gl_base.specs.Sending.{IsUnderWay, WroteShort, WroteText}
use Rattle.gl_base.specs.Sink.{SinkHealth}
use Rattle.gl_base.specs.Told.{SinkTold}
use Rattle.gl_base.specs.declared.copying.SinkAnswer.TheVariants.{Done, Failed}
use Rattle.gl_base.proofs.Appending.{cut_before, finished, passes_behind, told, under_way_first, under_way_more, under_way_on}
use Rattle.block_codec.specs.Block.{BlockView}
use Rattle.line_show.specs.Capture.{EndsAs, IsFront, Piece, Reads, ReadsFrom, piece_bytes}
use Rattle.line_show.specs.Lines.{lines_from, lines_of, piece_lines}
use Rattle.line_show.specs.Messages.{HaveMet, with_piece}
use Rattle.line_show.specs.Show.{PutsLines, Shows, ShowsPieces}
use Rattle.line_show.specs.declared.capture.Ending.{Ending}
use Rattle.line_show.specs.declared.printer.Stop.{Stop}
use Rattle.line_show.specs.declared.printer.Stop.TheVariants.{NoMemory, WriteFailed}
use Rattle.line_show.specs.declared.receivers.Receivers.{Receivers}
use Rattle.line_show.proofs.Captures.{behind_same, not_ended, one_end, one_piece}

-- some pieces are left from a place on, where the whole capture is these pieces; the lines of the first ones are this text, whatever
-- pieces come behind these blocks
pub record Left (at : ℕ) (seen : List BlockView) (bytes text : List ℕ) (pieces : List Piece) (ending : Ending) : Type 0 where
  pub first : List Piece
  pub left : List Piece
  pub whole : pieces ≡ first ++ left
  pub reads : ReadsFrom at bytes left ending
  pub lines : (more : List Piece) → lines_of (first ++ more) ≡ text ++ lines_from at seen more

-- some blocks were seen; what was sent and what the page holds are the lines so far, whatever the capture is
pub record IsAt (capture : List ℕ) (at : ℕ) (receivers : Receivers) (page : List ℕ) (out : SinkTold) : Type 0 where
  pub seen : List BlockView
  pub met : HaveMet receivers seen
  pub within : at ≤ length capture
  pub text : List ℕ
  pub under_way : IsUnderWay out text page
  pub left : (pieces : List Piece) (ending : Ending) → Reads capture pieces ending
      → Left at seen (drop at capture) text pieces ending

pub at_first : {was : Option (List ℕ)} {health : SinkHealth} (capture : List ℕ) (receivers : Receivers)
    (page : List ℕ) → HaveMet receivers []
    → page ≡ [] → IsAt capture 0 receivers page (told was was health health)
at_first capture receivers page met empty = record {
  seen = [];
  met = met;
  within = omega arith;
  text = [];
  under_way = under_way_first page empty;
  left = λ pieces ending reads. record { first = []; left = pieces; whole = refl; reads = reads; lines = λ more. refl };
}

-- a piece in front is the first of those that are left
piece_left : (at : ℕ) (seen : List BlockView) (bytes more text : List ℕ) (piece : Piece) (pieces : List Piece)
    (ending : Ending) →
    IsFront bytes piece more → Left at seen bytes text pieces ending →
    Left (at + length (piece_bytes piece)) (with_piece seen piece) more (text ++ piece_lines at seen piece) pieces ending
piece_left at seen bytes more text piece pieces ending front here = step here.left here.whole here.reads
  where
    step : (rest : List Piece) → pieces ≡ here.first ++ rest → ReadsFrom at bytes rest ending →
        Left (at + length (piece_bytes piece)) (with_piece seen piece) more (text ++ piece_lines at seen piece) pieces ending
    step [] whole reads = absurd (not_ended at bytes piece more ending front reads)
    step (other ∷ rest) whole reads =
        let same = one_piece bytes other piece reads.0 more reads.1 front in
        record {
          first = here.first ++ piece ∷ [];
          left = rest;
          whole = whole ∙ ap (λ (x : Piece). here.first ++ (x ∷ rest)) same.0 ∙ sym (append_assoc here.first (piece ∷ []) rest);
          reads = behind_same at other piece reads.0 more rest ending same.0 same.1 reads.2;
          lines = λ others.
              ap lines_of (append_assoc here.first (piece ∷ []) others) ∙ here.lines (piece ∷ others)
              ∙ sym (append_assoc text (piece_lines at seen piece) (lines_from (at + length (piece_bytes piece)) (with_piece seen piece) others));
        }

module _ {was now after : Option (List ℕ)} {health health_now health_after : SinkHealth} (capture : List ℕ) (at : ℕ)
    (page page' : List ℕ) where
  pub past_piece : (next : ℕ) (receivers receivers' : Receivers) (piece : Piece) →
      IsFront (drop at capture) piece (drop (at + length (piece_bytes piece)) capture) →
      ((seen : List BlockView) → HaveMet receivers seen → HaveMet receivers' (with_piece seen piece)) →
      ((seen : List BlockView) → HaveMet receivers seen
      → IsUnderWay (told now after health_now health_after) (page ++ piece_lines at seen piece) page') →
      next ≡ at + length (piece_bytes piece) →
      IsAt capture at receivers page (told was now health health_now)
      → IsAt capture next receivers' page' (told was after health health_after)
  past_piece next receivers receivers' piece front met put is_next here = record {
    seen = with_piece here.seen piece;
    met = met here.seen here.met;
    within = omega (
      arith,
      here.within,
      is_next,
      length-drop at capture,
      ap length front.whole,
      length-append
          (piece_bytes piece) (drop (at + length (piece_bytes piece)) capture),
    );
    text = here.text ++ piece_lines at here.seen piece;
    under_way = under_way_more here.text page (piece_lines at here.seen piece) page' here.under_way
        (put here.seen here.met);
    left = λ pieces ending reads.
        subst (λ (k : ℕ). Left k (with_piece here.seen piece) (drop k capture)
        (here.text ++ piece_lines at here.seen piece) pieces ending) (sym is_next)
        (piece_left at here.seen (drop at capture)
        (drop (at + length (piece_bytes piece)) capture) here.text piece pieces ending front
        (here.left pieces ending reads));
  }

-- all lines of a capture whose first pieces have this text
lines_left : (at : ℕ) (seen : List BlockView) (bytes text : List ℕ) (pieces : List Piece) (ending : Ending) (here : Left at seen bytes text pieces ending)
    → lines_of pieces ≡ text ++ lines_from at seen here.left
lines_left at seen bytes text pieces ending here = ap lines_of here.whole ∙ here.lines here.left

-- that text went out, and memory ran out
shown_first : {out : SinkTold} (at : ℕ) (seen : List BlockView) (bytes text : List ℕ) (pieces : List Piece) (ending : Ending)
    → Left at seen bytes text pieces ending → WroteText out text → ShowsPieces out pieces ending (Err NoMemory)
shown_first {out} at seen bytes text pieces ending here wrote = record {
  first = here.first;
  rest = here.left;
  whole = here.whole;
  wrote = subst (λ (t : List ℕ). WroteText out t) (sym (ap lines_of (sym (append-nil here.first)) ∙ here.lines [] ∙ append-nil text)) wrote;
}

-- it was cut short
shown_short : {out : SinkTold} (at : ℕ) (seen : List BlockView) (bytes text : List ℕ) (pieces : List Piece) (ending : Ending)
    → Left at seen bytes text pieces ending → WroteShort out text → ShowsPieces out pieces ending (Err WriteFailed)
shown_short {out} at seen bytes text pieces ending here cut =
    subst (λ (t : List ℕ). WroteShort out t) (sym (lines_left at seen bytes text pieces ending here)) (cut_before text (lines_from at seen here.left) cut)

-- it went out, and the ending is reached
shown_whole : {out : SinkTold} (at : ℕ) (seen : List BlockView) (bytes text : List ℕ) (found : Ending) (pieces : List Piece) (ending : Ending)
    → EndsAs at bytes found → Left at seen bytes text pieces ending → WroteText out text → ShowsPieces out pieces ending (Ok found)
shown_whole {out} at seen bytes text found pieces ending ends here wrote =
    whole here.left here.reads (lines_left at seen bytes text pieces ending here)
  where
    whole : (rest : List Piece) → ReadsFrom at bytes rest ending → lines_of pieces ≡ text ++ lines_from at seen rest
        → ShowsPieces out pieces ending (Ok found)
    whole [] reads lines =
        (one_end at bytes found ending ends reads, subst (λ (t : List ℕ). WroteText out t) (sym (lines ∙ append-nil text)) wrote)
    whole (piece ∷ rest) reads lines = absurd (not_ended at bytes piece reads.0 found reads.1 ends)

-- what the page held was to go out
abbrev pub Finished : SinkTold → List ℕ → Result Ending Stop → Result Ending Stop → Type 0
Finished out page answer result =
    ((result ≡ answer) × WroteText out page) ⊎ ((result ≡ Err WriteFailed) × WroteShort out page)

module _ {was now after : Option (List ℕ)} {health health_now health_after : SinkHealth} (capture : List ℕ) (at : ℕ)
    (receivers : Receivers) (page : List ℕ) where
  -- and so all lines so far went out, or were cut short
  shown : (answer result : Result Ending Stop) (here : IsAt capture at receivers page (told was now health health_now)) →
      ((pieces : List Piece) (ending : Ending) → Reads capture pieces ending → WroteText (told was after health health_after) here.text
      → ShowsPieces (told was after health health_after) pieces ending answer) →
      Finished (told now after health_now health_after) page answer result → Shows (told was after health health_after) capture result
  shown answer result here good (inl (is, wrote)) = λ pieces ending reads.
      subst (λ (r : Result Ending Stop). ShowsPieces (told was after health health_after) pieces ending r) (sym is)
      (good pieces ending reads (finished after health_after here.text page Done here.under_way wrote))
  shown answer result here good (inr (is, cut)) = λ pieces ending reads.
      subst (λ (r : Result Ending Stop). ShowsPieces (told was after health health_after) pieces ending r) (sym is)
      (shown_short at here.seen (drop at capture) here.text pieces ending (here.left pieces ending reads)
      (finished after health_after here.text page Failed here.under_way cut))

  pub shown_to_ending : (found : Ending) (result : Result Ending Stop) → EndsAs at (drop at capture) found →
      IsAt capture at receivers page (told was now health health_now)
      → Finished (told now after health_now health_after) page (Ok found) result →
      Shows (told was after health health_after) capture result
  shown_to_ending found result ends here =
      shown (Ok found) result here
      (λ pieces ending reads. shown_whole at here.seen (drop at capture) here.text found pieces ending ends
      (here.left pieces ending reads))

  pub shown_to_memory : (result : Result Ending Stop)
      → IsAt capture at receivers page (told was now health health_now) →
      Finished (told now after health_now health_after) page (Err NoMemory) result
      → Shows (told was after health health_after) capture result
  shown_to_memory result here =
      shown (Err NoMemory) result here
      (λ pieces ending reads. shown_first at here.seen (drop at capture) here.text pieces ending (here.left pieces ending reads))

-- the lines of the next piece were not put
abbrev pub Stopped : SinkTold → ℕ → Receivers → List ℕ → List ℕ → Piece → Stop → Type 0
Stopped out at receivers page page' piece stop =
    (seen : List BlockView) → HaveMet receivers seen → PutsLines out page (piece_lines at seen piece) page' (Err stop)

module _ {was now after : Option (List ℕ)} {health health_now health_after : SinkHealth} (capture : List ℕ) (at : ℕ)
    (receivers : Receivers)
    (page page' : List ℕ) (piece : Piece) (stop : Stop)
    (here : IsAt capture at receivers page (told was now health health_now)) where
  -- the lines of the next piece were cut short
  pub shown_to_fault : Stopped (told now after health_now health_after) at receivers page page' piece stop
      → stop ≡ WriteFailed → IsFront (drop at capture) piece (drop (at + length (piece_bytes piece)) capture)
      → Shows (told was after health health_after) capture (Err WriteFailed)
  shown_to_fault put is front = λ pieces ending reads.
      let lines = piece_lines at here.seen piece in
      let cut : WroteShort (told now after health_now health_after) (page ++ lines) =
      subst (λ (s : Stop). PutsLines (told now after health_now health_after) page lines page' (Err s)) is (put here.seen here.met) in
      let next = piece_left at here.seen (drop at capture) (drop (at + length (piece_bytes piece)) capture) here.text piece pieces ending front
      (here.left pieces ending reads) in
      shown_short (at + length (piece_bytes piece)) (with_piece here.seen piece)
      (drop (at + length (piece_bytes piece)) capture) (here.text ++ lines)
      pieces ending next (passes_behind after health_after here.text page lines [] Failed here.under_way cut)

  -- memory ran out, and nothing of them was put
  pub at_memory : Stopped (told now after health_now health_after) at receivers page page' piece stop
      → stop ≡ NoMemory → IsAt capture at receivers page' (told was after health health_after)
  at_memory put is = record {
    seen = here.seen;
    met = here.met;
    within = here.within;
    text = here.text;
    under_way =
        under_way_on here.text page page' here.under_way
        (subst (λ (s : Stop). PutsLines (told now after health_now health_after) page
        (piece_lines at here.seen piece) page' (Err s)) is (put here.seen here.met));
    left = here.left;
  }
