use Rattle.std.proofs.Common.{rules}
use Rattle.std.specs.Cmp.Lexicographic.{slice_cmp}
use Rattle.std.specs.Ordering.{is_le, nat_cmp}
use Rattle.std.proofs.lemmas.List.Sorted.{IsPartitionPoint-from_clause}
use Rattle.constraint_meet.specs.Places.{Key}
use Rattle.explain_text.proofs.Groups.{parted_le}
use Rattle.explain_text.proofs.Numbered.{ids_ascend}
use Rattle.explain_text.proofs.keys.end_of.Goals as goal

pub returns-clause-parted : goal.returns-clause-parted
returns-clause-parted c =
    IsPartitionPoint-from_clause (λ (key : Key). is_le (slice_cmp nat_cmp key.0 c.args.id.now)) c.args.keys.now
    c.partition_point.result c.partition_point.ensures.partitioned
    (parted_le (λ (key : Key). key.0) c.args.keys.now c.args.id.now (ids_ascend c.args.keys.now c.requires.ordered))
    (λ a r q k. search rules)
