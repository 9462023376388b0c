use Rattle.std.proofs.Common.{ℕ, List, [], ◌∷◌, zero, suc, is_some, true, ◌≡◌, ◌<◌, refl, arith}
use Rattle.der_core.specs.Reading.{subidentifiers_of, subidentifiers_after, subidentifier_step}
use Rattle.der_core.proofs.Digits.{AreOctets}
use Rattle.der_core.proofs.Objects.{is_oid}
use Rattle.fwload_top.proofs.identity.Identity.new.Goals as goal

-- no octets, and one octet more in front
no_octets : AreOctets []
no_octets i = omega arith

octets_more : (octet : ℕ) (octets : List ℕ) → octet < 256 → AreOctets octets → AreOctets (octet ∷ octets)
octets_more octet octets small rest zero = small
octets_more octet octets small rest (suc i) = rest i

hw_type_reads : is_some (subidentifiers_of (0x2A ∷ 3 ∷ [])) ≡ true
unfolding subidentifiers_after subidentifier_step
hw_type_reads = refl

community_reads : is_some (subidentifiers_of (0x2A ∷ 3 ∷ 100 ∷ [])) ≡ true
unfolding subidentifiers_after subidentifier_step
community_reads = refl

pub identifier-requires : goal.identifier-requires
identifier-requires c =
    is_oid (0x2A ∷ 3 ∷ []) (octets_more 0x2A (3 ∷ []) (omega arith) (octets_more 3 [] (omega arith) no_octets))
    (omega arith) (omega arith) hw_type_reads

pub identifier-requires-2 : goal.identifier-requires-2
identifier-requires-2 c =
    is_oid (0x2A ∷ 3 ∷ 100 ∷ []) (octets_more 0x2A (3 ∷ 100 ∷ []) (omega arith)
    (octets_more 3 (100 ∷ []) (omega arith) (octets_more 100 [] (omega arith) no_octets))) (omega arith)
    (omega arith) community_reads
