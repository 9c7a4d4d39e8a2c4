-- What an end has heard of the other one, and which messages are told apart there.
use Rattle.std.proofs.Common.{◌≡◌, refl, sym, ap, ◌∙◌, subst, ◌⊎◌, inl, inr, ℕ, List, [], ◌∷◌, All}
use Rattle.std.proofs.lemmas.List.Elements.{All-cons, All-nil}
use Rattle.block_codec.specs.Block.{BlockView}
use Rattle.block_codec.specs.declared.header.Header.{Header}
use Rattle.message_end.specs.Own.{Has}
use Rattle.message_end.specs.Plan.{EndPlan}
use Rattle.message_flow.specs.Entries.{FlowEntry, blocks_in}
use Rattle.message_flow.specs.Entries.FlowEntry.{Dropped, Given}
use Rattle.message_flow.specs.Message.{is_primary}
use Rattle.message_flow.specs.Receiver.{Receiver}
use Rattle.delivery.proofs.Facts.{AreApart, IsHearing, IsHearingOf, IsLive, IsViewIn}
use Rattle.delivery.proofs.Facts.IsLive.{past, present}
use Rattle.delivery.proofs.Tags.{Arrives, TaggedBlock, TaggedHearing, TaggedMessage}

pub hearing-none :
    (plan : EndPlan) (given : List TaggedBlock) (receiver : Receiver) → IsHearing plan given receiver [] []
hearing-none plan given receiver = record {
  heard_are = λ h has. absurd has;
  last = refl;
  rise = record {};
  entered = λ view has. absurd has;
}

pub hearing-gave :
    (plan : EndPlan) (given : List TaggedBlock) (receiver : Receiver) (heard : List TaggedHearing)
    (entries : List FlowEntry) (block : TaggedBlock) → IsHearing plan given receiver heard entries
    → IsHearing plan (block ∷ given) receiver heard entries
hearing-gave plan given receiver heard entries block is = record {
  heard_are = λ h has. let of = is.heard_are h has in record { is_given = inr of.is_given; is = of.is };
  last = is.last;
  rise = is.rise;
  entered = is.entered;
}

pub hearing-heard :
    (plan : EndPlan) (given frames : List TaggedBlock) (receiver : Receiver) (heard : List TaggedHearing)
    (entries : List FlowEntry) (block : TaggedBlock) (view : BlockView) (now after : ℕ)
    → Has given block → Arrives plan frames heard block view → IsHearing plan given receiver heard entries
    → IsHearing plan given receiver (record { block = block; view = view; after = after } ∷ heard)
    (Given view now ∷ entries)
hearing-heard plan given frames receiver heard entries block view now after is_given arrives is = record {
  heard_are = heard_are;
  last = refl;
  rise = (arrives.order, is.rise);
  entered = entered;
}
  where
    hearing : TaggedHearing
    hearing = record { block = block; view = view; after = after }

    heard_are : (h : TaggedHearing) → Has (hearing ∷ heard) h → IsHearingOf plan given h
    heard_are h (inl e) = rw e (record { is_given = is_given; is = arrives.is })
    heard_are h (inr has) = is.heard_are h has

    entered : (v : BlockView) → Has (view ∷ blocks_in entries) v → IsViewIn (hearing ∷ heard) v
    entered v (inl e) = record { hearing = hearing; has = inl refl; is = e }
    entered v (inr has) =
        let in_heard = is.entered v has in
        record { hearing = in_heard.hearing; has = inr in_heard.has; is = in_heard.is }

pub hearing-dropped :
    (plan : EndPlan) (given : List TaggedBlock) (receiver : Receiver) (heard : List TaggedHearing)
    (entries : List FlowEntry) (header : Header) (now : ℕ) → IsHearing plan given receiver heard entries
    → IsHearing plan given receiver heard (Dropped header now ∷ entries)
hearing-dropped plan given receiver heard entries header now is = record {
  heard_are = is.heard_are;
  last = is.last;
  rise = is.rise;
  entered = is.entered;
}

-- ---- messages are apart where fewer are live

pub apart-fewer :
    (sent fewer : List TaggedMessage) (heard less : List TaggedHearing)
    → ((m : TaggedMessage) → IsLive fewer less m → IsLive sent heard m) → AreApart sent heard → AreApart fewer less
apart-fewer sent fewer heard less live apart =
    λ a b live_a live_b system parity. apart a b (live a live_a) (live b live_b) system parity

pub live-heard :
    (sent : List TaggedMessage) (heard : List TaggedHearing) (hearing : TaggedHearing) → Has sent hearing.block.of
    → (m : TaggedMessage) → IsLive sent (hearing ∷ heard) m → IsLive sent heard m
live-heard sent heard hearing of_sent m (present has) = present has
live-heard sent heard hearing of_sent m (past h (inl e) of) =
    let same : hearing.block.of ≡ m = sym (ap (λ (k : TaggedHearing). k.block.of) e) ∙ of in
    present (subst (λ (t : TaggedMessage). Has sent t) same of_sent)
live-heard sent heard hearing of_sent m (past h (inr has) of) = past h has of

-- the sender has started anew
pub live-restarted :
    (sent : List TaggedMessage) (heard : List TaggedHearing) (m : TaggedMessage) → IsLive [] heard m
    → IsLive sent heard m
live-restarted sent heard m (present has) = absurd has
live-restarted sent heard m (past h has of) = past h has of

-- the receiver has
pub live-unheard :
    (sent : List TaggedMessage) (heard : List TaggedHearing) (m : TaggedMessage) → IsLive sent [] m
    → IsLive sent heard m
live-unheard sent heard m (present has) = present has
live-unheard sent heard m (past h has of) = absurd has

-- a message more, with other system bytes than each live one of its parity
pub apart-sent :
    (sent : List TaggedMessage) (heard : List TaggedHearing) (message : TaggedMessage)
    → ((m : TaggedMessage) → IsLive sent heard m → m.message.system ≡ message.message.system
    → is_primary m.message ≡ is_primary message.message → ⊥)
    → AreApart sent heard → AreApart (message ∷ sent) heard
apart-sent sent heard message new apart =
    λ a b live_a live_b system parity. go a b (which a live_a) (which b live_b) system parity
  where
    which : (m : TaggedMessage) → IsLive (message ∷ sent) heard m → (m ≡ message) ⊎ IsLive sent heard m
    which m (present (inl e)) = inl e
    which m (present (inr has)) = inr (present has)
    which m (past h has of) = inr (past h has of)

    system_of : (a b : TaggedMessage) → a ≡ b → a.message.system ≡ b.message.system
    system_of a b e = ap (λ (t : TaggedMessage). t.message.system) e

    parity_of : (a b : TaggedMessage) → a ≡ b → is_primary a.message ≡ is_primary b.message
    parity_of a b e = ap (λ (t : TaggedMessage). is_primary t.message) e

    go : (a b : TaggedMessage) → (a ≡ message) ⊎ IsLive sent heard a → (b ≡ message) ⊎ IsLive sent heard b
        → a.message.system ≡ b.message.system → is_primary a.message ≡ is_primary b.message → a ≡ b
    go a b (inl e) (inl f) system parity = e ∙ sym f
    go a b (inl e) (inr live) system parity =
        absurd (new b live (sym system ∙ system_of a message e) (sym parity ∙ parity_of a message e))
    go a b (inr live) (inl f) system parity =
        absurd (new a live (system ∙ system_of b message f) (parity ∙ parity_of b message f))
    go a b (inr live) (inr other) system parity = apart a b live other system parity

-- ---- what all members of a list have

pub all-of : {X : Type 0} (P : X → Type 0) (xs : List X) → ((x : X) → Has xs x → P x) → All P xs
all-of P [] each = All-nil P
all-of P (x ∷ xs) each = All-cons P x xs (each x (inl refl)) (all-of P xs (λ y has. each y (inr has)))
