use Rattle.module_store.proofs.Advancing.{gone_live, gone_apart, next_valid, quiet_after, live_after, size_after}
use Rattle.module_store.proofs.installing.advance.Goals as goal

pub retire_replaced-requires-clause-live : goal.retire_replaced-requires-clause-live
retire_replaced-requires-clause-live c = gone_live c.args.store.now c.args.ready c.requires.ready

pub retire_replaced-requires-clause-apart : goal.retire_replaced-requires-clause-apart
retire_replaced-requires-clause-apart c = gone_apart c.args.store.now c.args.ready c.requires.ready

pub returns-clause-valid : goal.returns-clause-valid
returns-clause-valid c = record {
  owner = c.requires.ready.can.valid.owner;
  manifest = next_valid c.args.store.now c.args.ready c.requires.ready c.installed_states_are_kept.ensures.kept;
  blocks = size_after c.args.store.now c.args.ready c.requires.ready c.retired_blocks_leave_the_others.ensures _
      c.retire_replaced.ensures.after;
  live = live_after c.args.store.now c.args.ready c.requires.ready c.retired_blocks_leave_the_others.ensures _
      c.retire_replaced.ensures.after;
}

pub returns-clause-quiet : goal.returns-clause-quiet
returns-clause-quiet c =
    quiet_after c.args.store.now c.args.ready c.requires.ready c.retired_blocks_leave_the_others.ensures _
    c.retire_replaced.ensures.after
