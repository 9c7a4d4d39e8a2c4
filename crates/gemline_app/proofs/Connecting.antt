-- A link is asked for one connection at most.
use Rattle.std.proofs.Common.{ℕ, List, inl, inr, refl, ap}
use Rattle.gl_base.specs.declared.link.Link as trait
use Rattle.gl_base.specs.declared.side.Side.{Side}
use Rattle.end_run.specs.Calls.{HasConnected}
use Rattle.gemline_app.specs.LinkTold.{ConnectsOnce, link_told}

module _ {L : Type 0} (members : trait.Ghosts L) (side : Side) (address : List ℕ) where
  -- a link that was left as it is
  pub uncalled : (link : L) → ConnectsOnce side address (link_told members link link)
  uncalled link = inl (record { told = refl; moment = refl; health = refl; connected = refl })

  -- and one over which an end was run
  pub once : (before after : L) → HasConnected side address members before after
      → ConnectsOnce side address (link_told members before after)
  once before after (inl same) = inl (record {
    told = ap (λ (l : L). members.told l) same;
    moment = ap (λ (l : L). members.moment l) same;
    health = ap (λ (l : L). members.health l) same;
    connected = ap (λ (l : L). members.connected l) same;
  })
  once before after (inr is) = inr is
