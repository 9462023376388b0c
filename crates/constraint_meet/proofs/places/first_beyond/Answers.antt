use Rattle.std.proofs.Common.{rules}
use Rattle.std.specs.Ordering.{is_le}
use Rattle.std.proofs.lemmas.List.Sorted.{IsPartitionPoint-from_clause}
use Rattle.constraint_meet.specs.Places.{key_at, key_cmp}
use Rattle.constraint_meet.proofs.Searches.{partitioned}
use Rattle.constraint_meet.proofs.places.first_beyond.Goals as goal

pub returns-clause-parted : goal.returns-clause-parted
returns-clause-parted c =
    IsPartitionPoint-from_clause
    (λ place. is_le (key_cmp (key_at c.args.part c.args.octets.now place) (c.args.it.now, c.args.after)))
    c.args.places.now c.partition_point.result c.partition_point.ensures.partitioned
    (partitioned c.args.part c.args.octets.now c.args.places.now c.args.it.now c.args.after c.requires.ordered)
    (λ a r q k. search rules)
