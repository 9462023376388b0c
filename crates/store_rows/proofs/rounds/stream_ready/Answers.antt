use Rattle.package_attrs.specs.Description.{description}
use Rattle.store_rows.proofs.InStep.{still_held, streamed_can_be_prepared}
use Rattle.store_rows.proofs.rounds.stream_ready.Goals as goal

pub prepare-requires-clause-can : goal.prepare-requires-clause-can
prepare-requires-clause-can c =
    streamed_can_be_prepared c.args.store.now c.args.board.now c.stream_image.new.board c.requires.in_step
    c.stream_image.new.pool c.in-Some.streamed.blocks (c.takes_in.ensures.stored c.if-not-takes_in.false)
    c.in-Some.ensures.streams c.free_blocks_are_apart.ensures.free c.taken_blocks_are_live_too.ensures
    c.free_blocks_are_apart.ensures.apart (description c.args.offered.now) c.requires.plain
    c.in-Some.streamed.image_digest c.in-Some.streamed.length (c.takes_in.ensures.room c.if-not-takes_in.false)

pub returns-in-Ok-clause-holds : goal.returns-in-Ok-clause-holds
returns-in-Ok-clause-holds c =
    still_held c.args.store.now c.args.board.now c.stream_image.new.board c.requires.in_step c.stream_image.new.pool
    c.in-Some.streamed.blocks c.in-Some.ensures.streams (c.streams_have_no_say.ensures.stream tt)
