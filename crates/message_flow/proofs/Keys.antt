-- Headers with the same key.
use Rattle.std.proofs.Common.{◌≡◌, refl, sym, ◌∙◌, Bool, true, false}
use Rattle.std.specs.Bool.{beq}
use Rattle.std.proofs.lemmas.Bool.{and_parts, eqb-true, eq-eqb}
use Rattle.block_codec.specs.declared.header.Header.{Header}
use Rattle.message_flow.specs.Key.{same_key}

pub record IsSameKey (a b : Header) : Type 0 where
  pub from_equipment : a.from_equipment ≡ b.from_equipment
  pub device : a.device ≡ b.device
  pub stream : a.stream ≡ b.stream
  pub wait : a.wait ≡ b.wait
  pub function : a.function ≡ b.function
  pub system : a.system ≡ b.system

pub beq-true : (x y : Bool) → beq x y ≡ true → x ≡ y
beq-true true true h = refl
beq-true true false h = cc
beq-true false true h = cc
beq-true false false h = refl

pub beq-self : (x : Bool) → beq x x ≡ true
beq-self true = refl
beq-self false = refl

pub key-same : (a b : Header) → same_key a b ≡ true → IsSameKey a b
key-same a b h =
    let system = and_parts _ _ h in
    let function = and_parts _ _ system.0 in
    let wait = and_parts _ _ function.0 in
    let stream = and_parts _ _ wait.0 in
    let device = and_parts _ _ stream.0 in
    record {
      from_equipment = beq-true _ _ device.0;
      device = eqb-true _ _ device.1;
      stream = eqb-true _ _ stream.1;
      wait = beq-true _ _ wait.1;
      function = eqb-true _ _ function.1;
      system = eqb-true _ _ system.1;
    }

pub key-self : (a : Header) → same_key a a ≡ true
key-self a =
    rw (
      beq-self a.from_equipment,
      eq-eqb a.device a.device refl,
      eq-eqb a.stream a.stream refl,
      beq-self a.wait,
      eq-eqb a.function a.function refl,
      eq-eqb a.system a.system refl,
    )

-- headers with the same key agree with the same others
pub key-left : (a b c : Header) → same_key a b ≡ true → same_key a c ≡ same_key b c
key-left a b c h =
    let same = key-same a b h in
    rw (same.from_equipment, same.device, same.stream, same.wait, same.function, same.system)

pub key-right : (a b c : Header) → same_key b c ≡ true → same_key a b ≡ same_key a c
key-right a b c h =
    let same = key-same b c h in
    rw (same.from_equipment, same.device, same.stream, same.wait, same.function, same.system)

-- a header with the key of one that another lacks lacks the other's
pub key-turned : (a b c : Header) → same_key a c ≡ true → same_key a b ≡ false → same_key b c ≡ false
key-turned a b c h differ = go (same_key b c) refl
  where
    go : (t : Bool) → same_key b c ≡ t → t ≡ false
    go false is = refl
    go true is = sym h ∙ sym (key-right a b c is) ∙ differ
