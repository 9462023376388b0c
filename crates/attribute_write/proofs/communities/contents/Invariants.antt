use Rattle.std.proofs.Common.{◌≡◌, ◌*◌, ◌≤◌, length, take}
use Rattle.std.specs.List.{flat_map}
use Rattle.package_attrs.specs.Communities.{community_text}
use Rattle.attribute_write.specs.Communities.{community_of}
use Rattle.attribute_write.proofs.communities.contents.Given as goal

-- the communities so far
abbrev pub invariant-loop-community : goal.invariant-loop-community
invariant-loop-community l = record {
  texts : l.all.items ≡ flat_map (λ c. community_text (community_of c)) (take l.community-index l.communities);
  most : length l.all.items ≤ 234 * l.community-index;
}
