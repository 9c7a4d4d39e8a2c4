-- The text ends here, one byte more is read, or a fault ends it.

use Rattle.std.proofs.Common.{length, sym, ◌∙◌, arith}
use Rattle.std.proofs.lemmas.Result.{err_from_is_err_and}
use Rattle.secs_text.specs.Reading.{each_at, shown_at, shown_next}
use Rattle.secs_text.proofs.Each.{is_end, no_value, one_more, shown_closes, shown_end, shown_goes}
use Rattle.secs_text.proofs.reading.shown_bytes.Goals as goal

pub returns-then-begins-clause-gives : goal.returns-then-begins-clause-gives
returns-then-begins-clause-gives c =
    let rest = c.shown.rest.now in
    let all = each_at shown_next shown_at (length c.args.bytes.now) c.args.total c.args.bytes.now in
    rw c.split_at.ensures.back (is_end shown_next shown_at c.args.total c.shown.shown rest _ all shown_end c.shown.invariant.so_far (shown_closes c.args.total rest (sym c.begins.ensures ∙ c.if-begins.true)))

pub returns-in_err-byte-clause-gives : goal.returns-in_err-byte-clause-gives
returns-in_err-byte-clause-gives c =
    let rest = c.shown.rest.now in
    let all = each_at shown_next shown_at (length c.args.bytes.now) c.args.total c.args.bytes.now in
    let p = err_from_is_err_and c.from_residual.result c.from_residual.ensures.1 in
    rw (p.1, p.2) (λ named. no_value shown_next shown_at c.args.total c.shown.shown rest rest all _ shown_end c.shown.invariant.so_far (shown_goes c.args.total rest (sym c.begins.ensures ∙ c.if-begins.false)) c.in_err-byte.ensures.reads)

pub shown-preserved : goal.shown-preserved
shown-preserved c =
    let rest = c.shown.rest.now in
    let all = each_at shown_next shown_at (length c.args.bytes.now) c.args.total c.args.bytes.now in
    record {
      so_far = rw c.in_ok-push.ensures.ok (one_more shown_next shown_at c.args.total c.shown.shown rest rest c.in_ok-byte.after.now c.in_ok-byte.byte all shown_end c.shown.invariant.so_far (shown_goes c.args.total rest (sym c.begins.ensures ∙ c.if-begins.false)) c.in_ok-byte.ensures.reads c.in_ok-byte.ensures.within);
      within = omega (arith, c.in_ok-byte.ensures.within, c.shown.invariant.within);
    }
