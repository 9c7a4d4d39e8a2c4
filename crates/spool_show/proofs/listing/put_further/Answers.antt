-- One piece more is put, or one ends the line.

use Rattle.std.proofs.Common.{◌≡◌, ℕ, ◌+◌, ◌-◌, ◌*◌, ◌∙◌, sym, subst, arith}
use Rattle.gl_base.specs.Told.{sink_told}
use Rattle.spool_show.specs.Showing.{Puts, pieces_of}
use Rattle.spool_show.specs.declared.spool_end.SpoolEnd.TheVariants.{Done}
use Rattle.spool_file.specs.Sizes.{slots_for}
use Rattle.spool_show.proofs.Pieces.{put_more, put_none, put_stops, still_in_hand}
use Rattle.spool_show.proofs.Putting.{shown_on}
use Rattle.spool_show.proofs.listing.put_further.Goals as goal

pub loop-part-init : goal.loop-part-init
loop-part-init g c = (put_none {members = g.D.Disk} c.args.spool.now c.args.head.now c.args.page.now.bytes.items, omega arith)

pub put_part-requires-clause-rests : goal.put_part-requires-clause-rests
put_part-requires-clause-rests g c = still_in_hand g.D.Disk _ c.requires.rests _ _ c.loop-part.invariant.0.shown

pub put_part-requires-clause-listed : goal.put_part-requires-clause-listed
put_part-requires-clause-listed g c s is = c.requires.listed s (sym c.loop-part.invariant.0.shown.told ∙ is)

pub loop-part-preserved : goal.loop-part-preserved
loop-part-preserved g c =
    let left = c.saturating_sub-left.ensures in
    let here : c.saturating_sub-left.result ≡ c.args.head.now.len - 4081 * (c.loop-part.part + 1) =
    omega (arith, left, c.loop-part.invariant.1) in (
      put_more {members = g.D.Disk} c.args.spool.now c.loop-part.spool c.put_part.new.spool c.args.head.now c.loop-part.part
          _ _ c.requires.rests c.loop-part.invariant.0 _ _ _ c.saturating_sub-left.result here c.in-Done.ensures.read
          c.in-Done.ensures.piece,
      here,
    )

pub returns-in_default : goal.returns-in_default
returns-in_default g c =
    let left = c.saturating_sub-left.ensures in
    let here : c.saturating_sub-left.result ≡ c.args.head.now.len - 4081 * (c.loop-part.part + 1) =
    omega (arith, left, c.loop-part.invariant.1) in
    record {
      read = shown_on c.args.spool.now c.loop-part.spool c.put_part.new.spool c.put_part.result
          c.loop-part.invariant.0.shown c.put_part.ensures.read;
      pieces = put_stops {members = g.D.Disk} c.args.spool.now c.loop-part.spool c.put_part.new.spool c.args.head.now
          c.loop-part.part _ _ c.requires.rests c.loop-part.invariant.0 _ _ _ c.saturating_sub-left.result here
          (slots_for c.args.head.now.len - 1) c.put_part.result (omega (arith, c.loop-part-test.true))
          c.in_default.not-Done c.put_part.ensures.piece;
    }

pub returns : goal.returns
returns g c =
    let end : c.loop-part.part ≡ slots_for c.args.head.now.len - 1 =
    omega (arith, c.loop-part-test.false, c.loop-part.auto.part-end) in
    record {
      read = c.loop-part.invariant.0.shown;
      pieces = subst (λ (n : ℕ). Puts (g.D.Disk.told c.args.spool.now.disk)
          (pieces_of (c.args.head.now.len - 4081) (c.args.head.now.number + 1) n)
          (sink_told g.W.Sink c.args.out.now c.loop-part.out) c.args.page.now.bytes.items c.loop-part.page.bytes.items Done)
          end c.loop-part.invariant.0.pieces;
    }
