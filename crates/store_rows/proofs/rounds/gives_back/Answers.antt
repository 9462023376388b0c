use Rattle.store_rows.proofs.InStep.{all_live, given_back}
use Rattle.store_rows.proofs.rounds.gives_back.Goals as goal

pub give-requires : goal.give-requires
give-requires c = record {
  live = all_live c.args.store.now c.args.board.now c.stream_most.new.board c.requires.in_step c.stream_most.new.pool
      c.in-Some.blocks c.in-Some.ensures.streams c.free_blocks_are_apart.ensures.free c.taken_blocks_are_live_too.ensures;
}

pub returns-in-Some : goal.returns-in-Some
returns-in-Some c = record {
  in_step = λ done. given_back c.args.store.now c.args.board.now c.stream_most.new.board c.requires.in_step
      c.stream_most.new.pool c.in-Some.blocks c.in-Some.ensures.streams c.free_blocks_are_apart.ensures.free
      (c.streams_have_no_say.ensures.stream tt) c.giving_undoes_taking.ensures c.give.new.self c.give.ensures.after;
}
