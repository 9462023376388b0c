use Rattle.std.proofs.Common.{ap, sym, ◌∙◌, arith}
use Rattle.std.specs.List.{flat_map}
use Rattle.std.proofs.lemmas.List.{take_all}
use Rattle.std.proofs.lemmas.List.Folds.{flat_map-map}
use Rattle.package_attrs.specs.Communities.{community_text}
use Rattle.attribute_write.specs.Communities.{community_of}
use Rattle.attribute_write.proofs.communities.contents.Goals as goal

pub returns-clause-ok : goal.returns-clause-ok
returns-clause-ok c =
    let all = c.args.communities.now in
    c.loop-community.invariant.texts
    ∙ ap (λ front. flat_map (λ one. community_text (community_of one)) front) (take_all c.loop-community.community-index all (omega arith))
    ∙ sym (flat_map-map community_text community_of all)
