use Rattle.std.proofs.Common.{rules}
use Rattle.std.specs.Cmp.Lexicographic.{slice_cmp}
use Rattle.std.specs.Ordering.{is_lt, nat_cmp}
use Rattle.std.proofs.lemmas.List.Sorted.{IsPartitionPoint-from_clause}
use Rattle.der_core.specs.declared.attribute.Attr.{Attr}
use Rattle.explain_text.proofs.Groups.{parted_lt}
use Rattle.explain_text.proofs.group.first_of.Goals as goal

pub returns-clause-parted : goal.returns-clause-parted
returns-clause-parted c =
    IsPartitionPoint-from_clause (λ a. is_lt (slice_cmp nat_cmp a.kind c.args.kind.now)) c.args.attributes.now
    c.partition_point.result c.partition_point.ensures.partitioned
    (parted_lt (λ (a : Attr). a.kind) c.args.attributes.now c.args.kind.now c.requires.ordered)
    (λ a r q k. search rules)
