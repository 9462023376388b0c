-- What an item says that is a signed firmware package.
use Rattle.std.specs.Prelude.{◌≡◌, ℕ, List}
use Rattle.cms_signed.specs.Cut.{firmware_package}
use Rattle.cms_signed.specs.Message.{Message, message_text, IsMessage}
use Rattle.package_attrs.specs.Attributes.{Describes}
use Rattle.package_attrs.specs.Description.{Description}

-- its signed data, and what its signed attributes describe
pub record Values : Type 0 where
  pub message : Message
  pub described : Description

-- The item is the text of signed data with a firmware package, whose signed attributes describe it (RFC 5652, sections 3
-- and 5; RFC 4108, section 2.2).
pub record Spells (item : List ℕ) (v : Values) : Type 0 where
  pub valid : IsMessage firmware_package v.message
  pub text : item ≡ message_text v.message
  pub described : Describes v.message.signer.signed_attributes v.described
