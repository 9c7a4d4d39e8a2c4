-- What the assembly stands for after one entry more.
use Rattle.std.proofs.Common.{◌≡◌, refl, sym, ◌∙◌, ap, subst, ℕ, ◌+◌, List, [], ◌∷◌, ◌++◌, map, min, Option, Some, None, reverse}
use Rattle.std.specs.List.{find, position_or_len, reduce, remove}
use Rattle.std.proofs.lemmas.List.{reverse-append, reverse-reverse}
use Rattle.block_codec.specs.Block.{BlockView}
use Rattle.block_codec.specs.declared.header.Header.{Header}
use Rattle.message_flow.specs.declared.flow.Flow.{Flow}
use Rattle.message_flow.specs.declared.partial.Partial.{Partial}
use Rattle.message_flow.specs.Assembly.{AssemblyView, check_so_far, flow_of, has_key, flow_to, header_so_far, is_due, partials_after, with_block, without_due, without_key}
use Rattle.message_flow.specs.Deadlines.{IsDeadlineAfter, dropped_after}
use Rattle.message_flow.specs.Entries.{FlowEntry, StandsFor, flow_kept, kept_after}
use Rattle.message_flow.specs.Entries.FlowEntry.{Dropped, Given}
use Rattle.message_flow.specs.History.{checked_at, flow_at, met_of, open_blocks, text_check}
use Rattle.message_flow.specs.Laws.{StandingGoesOn}
use Rattle.message_flow.proofs.Agreement.{agrees-after, flow-same}
use Rattle.message_flow.proofs.Arrivals.{flow-back}
use Rattle.message_flow.proofs.Deadlines.{deadline_stands, dropped_stands}
use Rattle.message_flow.proofs.Distinct.{AreDistinct, distinct-after, due-dropped}
use Rattle.message_flow.proofs.Kept.{kept_push}

kept_flow :
    (assembly : AssemblyView) (entries : List FlowEntry) (block : BlockView) → StandsFor assembly entries
    → flow_of assembly.receiver assembly.last assembly.partials block ≡ flow_kept assembly.receiver entries block
kept_flow assembly entries block stands = rw (stands.last, stands.partials) refl

pub flow_stands :
    (assembly : AssemblyView) (entries : List FlowEntry) (block : BlockView) → StandsFor assembly entries
    → flow_of assembly.receiver assembly.last assembly.partials block ≡ flow_at assembly.receiver entries block
flow_stands assembly entries block stands =
    kept_flow assembly entries block stands
    ∙ flow-same assembly.receiver (kept_after assembly.receiver entries)
    (met_of assembly.receiver (reverse entries)) block
    (agrees-after assembly.receiver entries)

pub checked_stands :
    (assembly : AssemblyView) (entries : List FlowEntry) (header : Header) → StandsFor assembly entries
    → check_so_far (find (has_key header) assembly.partials) ≡ checked_at assembly.receiver entries header
checked_stands assembly entries header stands =
    ap (λ (ps : List Partial). check_so_far (find (has_key header) ps)) stands.partials
    ∙ ((agrees-after assembly.receiver entries).each header).check

pub stands_given :
    (old new : AssemblyView) (entries : List FlowEntry) (block : BlockView) (now : ℕ) (flow : Flow)
    → StandsFor old entries
    → flow ≡ flow_of old.receiver old.last old.partials block → new.receiver ≡ old.receiver
    → new.last ≡ Some block.header
    → new.partials ≡ partials_after old.partials block (now + old.receiver.t4) flow
    → StandsFor new (entries ++ Given block now ∷ [])
stands_given old new entries block now flow stands judged receiver last partials = record {
  last = rw (receiver, kept_push old.receiver entries (Given block now)) last;
  partials = rw (receiver, kept_push old.receiver entries (Given block now))
      (partials
      ∙ ap (partials_after old.partials block (now + old.receiver.t4)) (judged ∙ kept_flow old entries block stands)
      ∙ ap (λ (ps : List Partial). partials_after ps block (now + old.receiver.t4)
      (flow_kept old.receiver entries block)) stands.partials);
}

pub stands_dropped :
    (old new : AssemblyView) (entries : List FlowEntry) (now : ℕ) (due : Partial) → StandsFor old entries
    → find (is_due now) old.partials ≡ Some due → new.receiver ≡ old.receiver → new.last ≡ old.last
    → new.partials ≡ remove old.partials (position_or_len (is_due now) old.partials)
    → StandsFor new (entries ++ Dropped due.header now ∷ [])
stands_dropped old new entries now due stands found receiver last partials =
    let distinct : AreDistinct old.partials = rw stands.partials (distinct-after old.receiver entries) in
    record {
      last = rw (receiver, kept_push old.receiver entries (Dropped due.header now)) (last ∙ stands.last);
      partials = rw (receiver, kept_push old.receiver entries (Dropped due.header now))
          (partials ∙ due-dropped now old.partials due distinct found ∙ ap (without_key due.header) stands.partials);
    }

-- ---- the newest first

record IsDue (found : Option Partial) (header : Header) : Type 0 where
  pub partial : Partial
  pub is : found ≡ Some partial
  pub its : partial.header ≡ header

is-due : (found : Option Partial) (header : Header) → header_so_far found ≡ Some header → IsDue found header
is-due None header e = absurd (cc)
is-due (Some partial) header e = record { partial = partial; is = refl; its = cc }

one-in-front :
    (assembly : AssemblyView) (entries : List FlowEntry) (entry : FlowEntry)
    → StandsFor assembly (reverse entries ++ entry ∷ [])
    → StandsFor assembly (reverse (entry ∷ entries))
one-in-front assembly entries entry stands =
    subst (StandsFor assembly) (sym (reverse-append (entry ∷ []) entries)) stands

pub goes-on : StandingGoesOn
goes-on = λ assembly entries stands.
    let back = reverse-reverse entries in
    let due : (now : ℕ) → header_so_far (find (is_due now) assembly.partials)
    ≡ dropped_after assembly.receiver (met_of assembly.receiver entries) now =
    λ now. dropped_stands assembly (reverse entries) now stands
    ∙ ap (λ (es : List FlowEntry). dropped_after assembly.receiver (met_of assembly.receiver es) now) back in
    record {
      flow = λ block. flow_stands assembly (reverse entries) block stands ∙ flow-back assembly.receiver entries block;
      given = λ block now.
          one-in-front (with_block assembly block now) entries (Given block now)
          (stands_given assembly _ (reverse entries) block now (flow_to assembly block) stands refl refl refl refl);
      checked = λ header.
          checked_stands assembly (reverse entries) header stands
          ∙ ap (λ (es : List FlowEntry). text_check (open_blocks header (met_of assembly.receiver es))) back;
      due = due;
      dropped = λ now header e.
          let found = is-due (find (is_due now) assembly.partials) header (due now ∙ e) in
          rw (← found.its)
          (one-in-front (without_due now assembly) entries (Dropped found.partial.header now)
          (stands_dropped assembly _ (reverse entries) now found.partial stands found.is refl refl refl));
      deadline =
          subst (λ (es : List FlowEntry). IsDeadlineAfter assembly.receiver (met_of assembly.receiver es)
          (reduce min (map (λ (p : Partial). p.deadline) assembly.partials))) back
          (deadline_stands assembly (reverse entries) stands);
    }
