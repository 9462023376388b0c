use Rattle.std.proofs.Common.{ℕ, List, sym, subst}
use Rattle.std.specs.List.{flat_map}
use Rattle.der_core.specs.Element.{HasRoom}
use Rattle.package_attrs.specs.declared.name.PackageName.{PackageName}
use Rattle.package_attrs.specs.Identifier.{name_text}
use Rattle.config_table.specs.Stored.{entry_of}
use Rattle.bank_layout.specs.declared.format.Format.TheVariants.{Two}
use Rattle.bank_layout.specs.Manifest.{blocks_contents}
use Rattle.bank_layout.proofs.Rooms.{blocks_room, needs_room}
use Rattle.bank_layout.proofs.writing.package_contents.Goals as goal

pub put_blocks-requires : goal.put_blocks-requires
put_blocks-requires c = record {
  room = subst (λ (blocks : List ℕ). HasRoom (blocks_contents blocks)) (sym c.as_slice.ensures.numbers)
      (blocks_room Two (entry_of c.args.installed.now) c.requires.room);
}

pub put_info-requires : goal.put_info-requires
put_info-requires c = record {
  room = subst (λ (needs : List PackageName). HasRoom (flat_map name_text needs)) (sym c.as_slice-2.ensures.names)
      (needs_room (entry_of c.args.installed.now) c.requires.room);
}
