-- Events that fit may happen to a tool and a host, which may lose its power or not, and bring bytes.
use Rattle.std.proofs.Common.{◌≡◌, Bool, false, true, List, sym, subst}
use Rattle.std.specs.Prelude.{All}
use Rattle.std.proofs.lemmas.List.Elements.{All-weaker}
use Rattle.line_schedule.specs.declared.event.Event.{Event}
use Rattle.line_schedule.specs.declared.event.Event.TheVariants as event
use Rattle.line_schedule.specs.Events.{EventFitsIn}
use Rattle.trace_log.specs.Commands.{HostCommandFits, ToolCommandFits}
use Rattle.end_pair.specs.Kept.{MayHappen}
use Rattle.end_pair.specs.Laws.{HasBytes}

-- a host that has no disk
pub no-loss : false ≡ true → ⊥
no-loss is = cc

module _ (host_loses : Bool) (Loses : Type 0) (may : host_loses ≡ true → Loses) where
  abbrev pub Happens : Event → Type 0
  Happens = MayHappen ToolCommandFits HostCommandFits (Unit {0}) Loses

  happens : (one : Event) → EventFitsIn host_loses one → Happens one
  happens (event.To side n) fits = tt
  happens (event.Lose side n) fits = tt
  happens (event.Change side place byte) fits = tt
  happens (event.Add side byte) fits = tt
  happens event.Settle fits = tt
  happens (event.Wait ms) fits = fits.1
  happens (event.Tool command) fits = fits.1
  happens (event.Host command) fits = fits.1
  happens (event.Cut call choice) fits = tt
  happens (event.HostCut call choice) fits = may fits.0

  pub all-happen : (events : List Event) → All (EventFitsIn host_loses) events → All Happens events
  all-happen events fits = All-weaker (EventFitsIn host_loses) Happens happens events fits

  -- the same of a row's slice
  pub slice-happens : (slice events : List Event) → slice ≡ events → All (EventFitsIn host_loses) events
      → All Happens slice
  slice-happens slice events same fits = subst (All Happens) (sym same) (all-happen events fits)

has : (host_loses : Bool) (one : Event) → EventFitsIn host_loses one → HasBytes one
has host_loses (event.To side n) fits = tt
has host_loses (event.Lose side n) fits = tt
has host_loses (event.Change side place byte) fits = fits.1
has host_loses (event.Add side byte) fits = fits.1
has host_loses event.Settle fits = tt
has host_loses (event.Wait ms) fits = tt
has host_loses (event.Tool command) fits = tt
has host_loses (event.Host command) fits = tt
has host_loses (event.Cut call choice) fits = tt
has host_loses (event.HostCut call choice) fits = tt

pub all-have : (host_loses : Bool) (events : List Event) → All (EventFitsIn host_loses) events → All HasBytes events
all-have host_loses events fits = All-weaker (EventFitsIn host_loses) HasBytes (has host_loses) events fits
