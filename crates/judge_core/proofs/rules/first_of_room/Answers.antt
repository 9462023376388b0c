use Rattle.std.proofs.Common.{◌≡◌, ◌≤◌, ◌<◌, ◌-◌, ◌^◌, ℕ, List, [], ◌∷◌, ◌++◌, length, Option, Some, None, inl, inr, sym, subst, arith}
use Rattle.der_core.specs.Asked.{asked}
use Rattle.module_record.specs.declared.module.Module.{Module}
use Rattle.package_rules.specs.Conditions.{overflow_conditions}
use Rattle.sha2.specs.Sha256.{sha256}
use Rattle.config_table.specs.State.{State, offer_of, with_package}
use Rattle.config_table.specs.Stored.{Stored, lengths}
use Rattle.package_attrs.specs.Description.{Description, description}
use Rattle.judge_core.specs.Conditions.{blocks_taken, installed_with, room_conditions}
use Rattle.judge_core.specs.Steps.{Tells}
use Rattle.judge_core.proofs.TellsLemmas.{behind, in_front}
use Rattle.judge_core.proofs.LengthLemmas.{stored, limits_told}
use Rattle.judge_core.proofs.rules.first_of_room.Goals as goal

-- the blocks of an image of this length are those of the image
of_image : (d : Description) (state : State Stored) (octets : List ℕ) (image blocks : ℕ) → length octets ≡ image
    → ((digest : List ℕ) → blocks ≡ blocks_taken (with_package (offer_of d) digest image (lengths state)))
    → blocks ≡ blocks_taken (installed_with d octets (lengths state))
of_image d state octets image blocks is taken =
    subst (λ n. blocks ≡ blocks_taken (with_package (offer_of d) (sha256 octets) n (lengths state))) (sym is)
    (taken (sha256 octets))

-- the numbers of an image that isn't empty, and has room
module _ (holder : Module) (sequence : ℕ) (d : Description) (state : State Stored) (octets : List ℕ) where
  -- what is told from condition 39 on
  later : (told : Option ℕ) → 1 ≤ length octets → blocks_taken (installed_with d octets (lengths state)) ≤ holder.capacity
      → Tells told (overflow_conditions (installed_with d octets (lengths state)) ++ asked 41 (sequence < 2 ^ 64 - 1) ∷ [])
      → Tells told (room_conditions holder sequence (installed_with d octets (lengths state)) octets)
  later None some fits told = (some, (fits, told))
  later (Some n) some fits told = inr (some, inr (fits, told))

pub returns-in-Some : goal.returns-in-Some
returns-in-Some c = record {
  told = λ octets is.
      let d = description c.args.offered.now in
      let state = c.args.state.now in
      let taken = of_image d state octets c.args.image c.blocks_with.result is c.blocks_with.ensures.taken in
      later c.args.owner.now c.args.sequence d state octets (Some c.in-Some.failing)
      (omega (arith, is, c.if-image-eq0.false)) (omega (arith, taken, c.from.ensures, c.if-blocks_with-from.false))
      (in_front (overflow_conditions (installed_with d octets (lengths state)))
      (asked 41 (c.args.sequence < 2 ^ 64 - 1) ∷ []) c.in-Some.failing
      (limits_told d octets state (Some c.in-Some.failing) (c.in-Some.ensures.hold (sha256 octets) (stored (length octets)))
      (c.in-Some.ensures.first (sha256 octets) (stored (length octets)))));
}

pub returns-then-sequence-eq18446744073709551615 : goal.returns-then-sequence-eq18446744073709551615
returns-then-sequence-eq18446744073709551615 c = record {
  told = λ octets is.
      let d = description c.args.offered.now in
      let state = c.args.state.now in
      let taken = of_image d state octets c.args.image c.blocks_with.result is c.blocks_with.ensures.taken in
      let after = installed_with d octets (lengths state) in
      let number = c.numbered-then-sequence-eq18446744073709551615.result in
      later c.args.owner.now c.args.sequence d state octets (Some number) (omega (arith, is, c.if-image-eq0.false))
      (omega (arith, taken, c.from.ensures, c.if-blocks_with-from.false))
      (behind (overflow_conditions after) (asked 41 (c.args.sequence < 2 ^ 64 - 1) ∷ []) (Some number)
      (limits_told d octets state None (c.in_default.ensures.hold (sha256 octets) (stored (length octets))) tt)
      (inl (c.numbered-then-sequence-eq18446744073709551615.ensures.value, λ low. omega (arith, low, c.if-sequence-eq18446744073709551615.true))));
}

pub returns : goal.returns
returns c = record {
  told = λ octets is.
      let d = description c.args.offered.now in
      let state = c.args.state.now in
      let taken = of_image d state octets c.args.image c.blocks_with.result is c.blocks_with.ensures.taken in
      let after = installed_with d octets (lengths state) in
      later c.args.owner.now c.args.sequence d state octets None (omega (arith, is, c.if-image-eq0.false))
      (omega (arith, taken, c.from.ensures, c.if-blocks_with-from.false))
      (behind (overflow_conditions after) (asked 41 (c.args.sequence < 2 ^ 64 - 1) ∷ []) None
      (limits_told d octets state None (c.in_default.ensures.hold (sha256 octets) (stored (length octets))) tt)
      (omega (arith, c.ranges.sequence.fits, c.if-sequence-eq18446744073709551615.false), tt));
}
