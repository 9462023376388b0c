-- TargetHardwareIdentifiers: its values and their texts (RFC 4108, section 2.2.4).
--
--   TargetHardwareIdentifiers ::= SEQUENCE OF OBJECT IDENTIFIER
--
-- The list may be empty.
use Rattle.std.specs.Prelude.{ℕ, ◌<◌, ◌^◌, List, length}
use Rattle.std.specs.List.{AllByRecursion, flat_map}
use Rattle.der_core.specs.Element.{enc}
use Rattle.der_core.specs.Objects.{IsOid}

-- the contents of the SEQUENCE: the OBJECT IDENTIFIERs of the hardware types
abbrev pub targets_contents : List (List ℕ) → List ℕ
targets_contents hw_types = flat_map (enc 0x06) hw_types

-- the whole of it
abbrev pub targets_text : List (List ℕ) → List ℕ
targets_text hw_types = enc 0x30 (targets_contents hw_types)

-- identifiers that have a text: an element has room for them
pub record AreTargets (hw_types : List (List ℕ)) : Type 0 where
  pub each : AllByRecursion IsOid hw_types
  pub fits : length (targets_contents hw_types) < 2 ^ 32
