use Rattle.package_attrs.specs.Communities.{communities_text, AreCommunities}
use Rattle.package_attrs.specs.AttributeTypes.{community_identifiers}
use Rattle.package_attrs.proofs.PackageLaws.{missing_lacks, sound_text}
use Rattle.package_attrs.proofs.assemble.communities_in.Goals as goal

pub returns-in-None-clause-sound : goal.returns-in-None-clause-sound
returns-in-None-clause-sound c =
    missing_lacks community_identifiers c.args.attrs.now c.requires c.in-None.ensures.exact

pub returns-in_ok-read_communities-in-Some-clause-sound : goal.returns-in_ok-read_communities-in-Some-clause-sound
returns-in_ok-read_communities-in-Some-clause-sound c =
    sound_text communities_text AreCommunities community_identifiers c.args.attrs.now
    c.in-Some.values.now c.in_ok-read_communities-in-Some.field-0 c.in-Some.ensures.exact
    ((c.read_communities.ensures.spelled c.in_ok-read_communities-in-Some.field-0).0 c.in_ok-read_communities-in-Some.was)
