use Rattle.std.proofs.Common.{◌≡◌, ◌+◌, ◌<◌, ◌^◌, [], length, sym, subst, rules, unwrap_or}
use Rattle.config_table.specs.State.{State, offer_of, with_package}
use Rattle.config_table.specs.Stored.{Stored}
use Rattle.package_attrs.specs.Description.{description}
use Rattle.bank_layout.specs.declared.format.Format.TheVariants.{Two}
use Rattle.bank_layout.specs.Manifest.{manifest_contents}
use Rattle.module_store.proofs.Advancing.{prepared_valid}
use Rattle.module_store.proofs.installing.prepare.Goals as goal

pub put_manifest-requires : goal.put_manifest-requires
put_manifest-requires c =
    let s = c.args.store.now in
    let offer = offer_of (description c.args.offered.now) in
    let stored : Stored = record { length = c.args.streamed.length; blocks = unwrap_or c.args.streamed.blocks [] } in
    let is : c.in_ok-state.state ≡ with_package offer c.args.streamed.image_digest stored s.state = search rules in
    record {
      room = subst (λ (state : State Stored). length
          (manifest_contents Two (record { sequence = s.sequence + 1; state = state })) < 2 ^ 32) (sym is)
          (c.manifests_fit.ensures.room Two s.module.capacity _
          (prepared_valid c.installed_states_are_kept.ensures.kept s offer c.args.streamed.image_digest stored
          c.requires.can));
    }
