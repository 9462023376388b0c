-- Communities as a packager names them: those of RFC 4108, section 2.2.8, with one serial entry for each hardware type.
use Rattle.std.specs.Prelude.{[], ◌∷◌}
use Rattle.package_attrs.specs.declared.community.Community.{Community}
use Rattle.package_attrs.specs.declared.community.Community.TheVariants as communities
use Rattle.attribute_write.specs.declared.communities.NamedCommunity.{NamedCommunity}
use Rattle.attribute_write.specs.declared.communities.NamedCommunity.TheVariants as named

-- the community that is named
abbrev pub community_of : NamedCommunity → Community
community_of (named.Group id) = communities.Group id
community_of (named.Modules hw_type serial) = communities.Modules hw_type (serial ∷ [])
