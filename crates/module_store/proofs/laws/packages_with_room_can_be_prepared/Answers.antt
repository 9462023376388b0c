use Rattle.module_store.specs.Store.{manifest_of}
use Rattle.module_store.proofs.Keeping.{can_keep}
use Rattle.module_store.proofs.Room.{can_prepare, described_offer, finds_blocks}
use Rattle.module_store.proofs.laws.packages_with_room_can_be_prepared.Goals as goal

pub returns-clause-offer : goal.returns-clause-offer
returns-clause-offer c = described_offer

pub returns-clause-kept : goal.returns-clause-kept
returns-clause-kept c = λ s valid. can_keep s.module.capacity s.running (manifest_of s) valid.manifest

pub returns-clause-blocks : goal.returns-clause-blocks
returns-clause-blocks c = λ s offer digest size pool valid quiet room.
    finds_blocks s offer digest size pool valid quiet room c.half_of_the_blocks_are_free.ensures

pub returns-clause-ready : goal.returns-clause-ready
returns-clause-ready c = λ s offer digest size pool numbers valid quiet is digest_size room sequence taken.
    can_prepare s offer digest size pool valid quiet room numbers taken c.free_blocks_are_apart.ensures.apart
    c.free_blocks_are_apart.ensures.free c.taken_blocks_are_live_too.ensures c.installed_states_are_kept.ensures.asked
    is digest_size sequence
