-- A spool that was taken apart, and joined again with one that a keep has changed, or not.
use Rattle.std.proofs.Common.{◌≡◌, sym, ap, subst, ◌∙◌, inl, inr, ℕ, List, Bool, Ok, Err}
use Rattle.disk_base.specs.declared.disk.Disk as disk
use Rattle.gem_spool.specs.declared.spool.GemSpool.{GemSpool}
use Rattle.setup_store.specs.OnDisk.{HoldsKept, Keeps}
use Rattle.setup_store.specs.declared.store.Keeping.{Keeping}
use Rattle.setup_store.specs.declared.store.Keeping.TheVariants as keeping
use Rattle.spool_slots.specs.Spool.{SpoolView}
use Rattle.spool_works.specs.KeptSetup.{KeepsSetup}

module _ {D : Type 0} (members : disk.Ghosts D) (g h : GemSpool D) (apart : SpoolView D × Bool) (w : SpoolView D)
    (apart_is : apart ≡ (g.spool, g.active)) (joined : h ≡ record { spool = w; active = apart.1 }) where
  with_spool : SpoolView D → GemSpool D
  with_spool v = record { spool = v; active = g.active }

  pub joined-keeps : (bytes : List ℕ) → Keeps members apart.0 bytes (Ok w) → KeepsSetup members g bytes (Ok h)
  joined-keeps bytes keeps =
      subst (λ (x : GemSpool D). KeepsSetup members g bytes (Ok x)) (sym joined)
      (inl (
        subst (λ (p : SpoolView D × Bool). Keeps members p.0 bytes (Ok w)) apart_is keeps,
        ap (λ (p : SpoolView D × Bool). p.1) apart_is,
      ))

  pub joined-holds : HoldsKept members w → HoldsKept members h.spool
  joined-holds holds = subst (λ (x : GemSpool D). HoldsKept members x.spool) (sym joined) holds

  -- no area: the reason that came back holds the spool as it stood
  module _ (why : Keeping D) (why_is : why ≡ keeping.NoArea w) (bytes : List ℕ) (
      keeps : Keeps members apart.0 bytes (Err why)
      ) where
    at-spool : Keeps members g.spool bytes (Err (keeping.NoArea w))
    at-spool =
        subst (λ (x : Keeping D). Keeps members g.spool bytes (Err x)) why_is
        (subst (λ (p : SpoolView D × Bool). Keeps members p.0 bytes (Err why)) apart_is keeps)

    stays : h ≡ g
    stays =
        joined
        ∙ ap (λ (v : SpoolView D). record { spool = v; active = apart.1 }) at-spool.1
        ∙ ap (λ (p : SpoolView D × Bool). record { spool = g.spool; active = p.1 }) apart_is

    pub joined-without : KeepsSetup members g bytes (Ok h)
    joined-without = inr (at-spool.0, stays)

    pub without-holds : HoldsKept members g.spool → HoldsKept members h.spool
    without-holds holds = subst (λ (x : GemSpool D). HoldsKept members x.spool) (sym stays) holds
