use Rattle.std.proofs.Common.{length, suc, sym, ap, ◌∙◌, if◌then◌else◌}
use Rattle.package_attrs.specs.Description.{description}
use Rattle.config_table.specs.State.{offer_of}
use Rattle.package_rules.proofs.RoomLemmas.{stale_after, same_room, one_more_room}
use Rattle.package_rules.proofs.overflow.has_room_for_stale.Goals as goal

pub returns-then-adds_stale_entry : goal.returns-then-adds_stale_entry
returns-then-adds_stale_entry c = record {
  room = λ digest image.
      let count = length c.args.state.now.stale in
      one_more_room c.stale_entries.result count _ 256 c.stale_entries.ensures.count
      (stale_after (offer_of (description c.args.offered.now)) digest image c.args.state.now
      ∙ ap (λ b. if b then suc count else count) (sym c.adds_stale_entry.ensures.adds ∙ c.if-adds_stale_entry.true));
}

pub returns-else-adds_stale_entry : goal.returns-else-adds_stale_entry
returns-else-adds_stale_entry c = record {
  room = λ digest image.
      let count = length c.args.state.now.stale in
      same_room c.stale_entries-else-adds_stale_entry.result count _ 256
      c.stale_entries-else-adds_stale_entry.ensures.count
      (stale_after (offer_of (description c.args.offered.now)) digest image c.args.state.now
      ∙ ap (λ b. if b then suc count else count) (sym c.adds_stale_entry.ensures.adds ∙ c.if-adds_stale_entry.false));
}
