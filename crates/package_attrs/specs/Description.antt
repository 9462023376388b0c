-- What the signed attributes of a firmware package say, as values (RFC 4108, section 2.2).
use Rattle.std.specs.Prelude.{ℕ, List, Option}
use Rattle.package_attrs.specs.declared.community.Community.{Community}
use Rattle.package_attrs.specs.declared.package.Info.{Info}
use Rattle.package_attrs.specs.declared.package.Package.{Package}
use Rattle.package_attrs.specs.Identifier.{Named, view}

-- the content's type and digest, what the package is called, which modules it is for, and its type and dependencies
pub record Description : Type 0 where
  pub content : List ℕ
  pub digest : List ℕ
  pub identifier : Named
  pub targets : List (List ℕ)
  pub communities : Option (List Community)
  pub info : Info

-- what a package says
abbrev pub description : Package → Description
description p = record {
  content = p.content;
  digest = p.digest;
  identifier = view p.identifier;
  targets = p.targets;
  communities = p.communities;
  info = p.info;
}
