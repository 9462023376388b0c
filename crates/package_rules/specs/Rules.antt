-- The rules by which a module takes a firmware package, over what the package says (RFC 4108, section 2.2).
use Rattle.std.specs.Prelude.{IfSome, IsTrue, nat_eq, bytes_eq}
use Rattle.std.specs.List.{list_any}
use Rattle.package_attrs.specs.Description.{Description}
use Rattle.package_rules.specs.Module.{Module}
use Rattle.package_rules.specs.Communities.{holds_module}

-- the module's hardware type is among the target hardware identifiers (2.2.4)
abbrev pub IsForHardware : Module → Description → Type 0
IsForHardware m described = IsTrue (list_any (λ target. bytes_eq target m.hw_type) described.targets)

-- there is no community attribute, or one of its communities holds the module; without communities none does (2.2.8)
abbrev pub IsInCommunity : Module → Description → Type 0
IsInCommunity m described = IfSome described.communities (λ communities. IsTrue (list_any (holds_module m) communities))

-- there is no package type, or the module lists it (2.2.9)
abbrev pub IsOfListedKind : Module → Description → Type 0
IsOfListedKind m described =
    IfSome described.info.kind (λ kind. IsTrue (list_any (λ listed. nat_eq listed kind) m.kinds))
