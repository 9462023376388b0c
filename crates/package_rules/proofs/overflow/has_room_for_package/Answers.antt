use Rattle.std.proofs.Common.{length, refl, sym, true≢false}
use Rattle.package_attrs.specs.Description.{description}
use Rattle.config_table.specs.State.{offer_of}
use Rattle.package_rules.proofs.RoomLemmas.{packages_if_installed, packages_if_new, same_room, one_more_room}
use Rattle.package_rules.proofs.overflow.has_room_for_package.Goals as goal

pub returns-in-Some : goal.returns-in-Some
returns-in-Some c = record {
  room = λ digest image.
      same_room c.packages.result (length c.args.state.now.packages) _ 64 c.packages.ensures.count
      (packages_if_installed (offer_of (description c.args.offered.now)) digest image c.args.state.now
      (c.in-Some.ensures.found.0 refl));
}

pub returns-in-None : goal.returns-in-None
returns-in-None c = record {
  room = λ digest image.
      one_more_room c.packages-in-None.result (length c.args.state.now.packages) _ 64 c.packages-in-None.ensures.count
      (packages_if_new (offer_of (description c.args.offered.now)) digest image c.args.state.now
      (λ there. true≢false (sym (c.in-None.ensures.found.1 there))));
}
