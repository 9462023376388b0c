use Rattle.std.proofs.Common.{◌≡◌, [], true, ℕ, List, unwrap_or, All, rules}
use Rattle.block_pool.specs.Numbers.{IsApart}
use Rattle.block_pool.specs.Pools.{IsFree, marked}
use Rattle.package_attrs.specs.Description.{description}
use Rattle.store_rows.proofs.Preparing.{can_prepare}
use Rattle.store_rows.proofs.run.takes_blocks.Goals as goal

pub returns-in-Some-clause-can : goal.returns-in-Some-clause-can
returns-in-Some-clause-can c held =
    let s = c.args.store.now in
    let numbers : List ℕ = unwrap_or c.args.streamed.now.blocks [] in
    let room = c.takes_in.ensures.room c.if-not-takes_in.false in
    let free : All (IsFree s.pool) numbers × IsApart numbers = search rules in
    let after : c.hold.new.self ≡ marked true numbers s.pool = search rules in
    can_prepare s (description c.args.offered.now) c.requires.plain c.args.streamed.now.image_digest room.digest_size
    c.args.streamed.now.length numbers c.requires.valid c.requires.quiet room.sequence room.some room.blocks free.0 free.1
    room.fit room.packages room.stale c.taken_blocks_are_live_too.ensures c.hold.new.self after
