-- A trust anchor of the code as its value.
use Rattle.std.specs.Prelude.{◌≡◌, ℕ, List, [], Option, IfSome, option_map}
use Rattle.std.specs.Option.{unwrap_or}
use Rattle.std.specs.Global.{Vec}
use Rattle.cert_fields.specs.Anchor.{TrustAnchor}
use Rattle.cert_fields.specs.Constraints.{ContentConstraint, constraints_text, AreConstraints}
use Rattle.cert_fields.specs.ConstraintsReading.{entries_of}

abbrev pub text_view : Option (Vec ℕ) → Option (List ℕ)
text_view text = option_map (λ octets. octets.items) text

-- the constraints whose text the octets are
abbrev pub kept_constraints : List ℕ → List ContentConstraint
kept_constraints octets = unwrap_or (entries_of octets) []

abbrev pub anchor_view : List ℕ → List ℕ → List ℕ → Option (List ℕ) → TrustAnchor
anchor_view subject key_id key text =
    record { subject = subject; key_id = key_id; key = key; constraints = option_map kept_constraints text }

-- octets that are a text of constraints, where there are any
abbrev pub MayConstrain : Option (List ℕ) → Type 0
MayConstrain text =
    (entries : Option (List ContentConstraint)) × IfSome entries AreConstraints
    × (option_map constraints_text entries ≡ text)
