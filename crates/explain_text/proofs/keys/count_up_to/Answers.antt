use Rattle.std.proofs.Common.{rules}
use Rattle.std.specs.Ordering.{is_le}
use Rattle.std.proofs.lemmas.List.Sorted.{IsPartitionPoint-from_clause}
use Rattle.constraint_meet.specs.Places.{key_cmp}
use Rattle.explain_text.proofs.Numbered.{parted_up_to}
use Rattle.explain_text.proofs.keys.count_up_to.Goals as goal

pub returns-clause-parted : goal.returns-clause-parted
returns-clause-parted c =
    IsPartitionPoint-from_clause (λ key. is_le (key_cmp key (c.args.id.now, c.args.number))) c.args.keys.now
    c.partition_point.result c.partition_point.ensures.partitioned
    (parted_up_to c.args.keys.now c.requires.ordered (c.args.id.now, c.args.number)) (λ a r q k. search rules)
