-- Trust anchors (RFC 5280, section 6.1.1, input (d); RFC 6010, section 4): a name and a key, with a key identifier to be
-- chosen by, and content constraints where there are any.
use Rattle.std.specs.Prelude.{◌≡◌, ℕ, List, length, Option, IfSome, option_map}
use Rattle.der_core.specs.Element.{IsTagged}
use Rattle.cert_fields.specs.Constraints.{ContentConstraint, constraints_text, AreConstraints}
use Rattle.cert_fields.specs.Extensions.{IsKeyIdentifier}

-- A trust anchor.
pub record TrustAnchor : Type 0 where
  -- the name, a whole element
  pub subject : List ℕ
  pub key_id : List ℕ
  -- the octets of an HSS key, of which nothing is asked here but their number
  pub key : List ℕ
  pub constraints : Option (List ContentConstraint)

pub record IsAnchor (a : TrustAnchor) : Type 0 where
  pub subject : IsTagged 0x30 a.subject
  pub key_id : IsKeyIdentifier a.key_id
  pub key : length a.key ≡ 60
  pub constraints : IfSome a.constraints AreConstraints

-- the anchor has these parts, and its constraints this text where it has any
pub record HasParts (a : TrustAnchor) (name id octets : List ℕ) (text : Option (List ℕ)) : Type 0 where
  pub anchor : IsAnchor a
  pub subject : a.subject ≡ name
  pub key_id : a.key_id ≡ id
  pub key : a.key ≡ octets
  pub constraints : option_map constraints_text a.constraints ≡ text
