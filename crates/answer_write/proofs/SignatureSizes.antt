-- How many octets a signature has.
use Rattle.std.proofs.Common.{◌≡◌, ℕ, ◌+◌, List, [], ◌∷◌, ◌++◌, length, ap, ◌∙◌, arith}
use Rattle.std.specs.List.{flat_map}
use Rattle.std.proofs.lemmas.List.{length-append}
use Rattle.lms_verify.specs.declared.kind.LmsKind.{LmsKind}
use Rattle.lms_verify.specs.declared.kind.OtsKind.{OtsKind}
use Rattle.lms_verify.specs.Kinds.{lms_number}
use Rattle.lms_verify.specs.Digits.{u32str}
use Rattle.lms_verify.specs.Signatures.{LmsSignature, Spells, signature_size}
use Rattle.hss_chain.specs.Chains.{HssHolds, SignedKey, signed_key_text, EachHolds}
use Rattle.lms_sign.specs.declared.key.SignKey.{SignKey}
use Rattle.lms_sign.specs.PublicKeys.{hss_signature_size}
use Rattle.lms_sign.specs.Roots.{public_key}

spelled_size : (kind : LmsKind) (ots : OtsKind) (s : LmsSignature) (octets : List ℕ) → Spells kind ots s octets
    → length octets ≡ signature_size kind ots
spelled_size kind ots s octets spells =
    ap length spells.text ∙ omega (
      arith,
      length-append s.randomizer s.values,
      length-append (s.randomizer ++ s.values) (u32str (lms_number kind)),
      length-append ((s.randomizer ++ s.values) ++ u32str (lms_number kind)) s.path,
      spells.randomizer,
      spells.values,
      spells.path,
    )

-- a signature that holds under a key of one level has the size of its signatures
pub held_size : (key : SignKey) (message octets : List ℕ) → HssHolds (public_key key) message octets
    → length octets ≡ hss_signature_size key
held_size key message octets holds = by_signed holds.signed holds.levels holds.text holds.holds
  where
    by_signed : (signed : List SignedKey) → length signed + 1 ≡ 1
        → octets ≡ u32str 0 ++ flat_map signed_key_text signed ++ holds.last
        → EachHolds (public_key key).top signed message holds.last → length octets ≡ hss_signature_size key
    by_signed [] levels is each =
        omega (arith, ap length is, spelled_size key.kind key.ots each.signature holds.last each.spells)
    by_signed (one ∷ more) levels is each = absurd (omega (arith, levels))
