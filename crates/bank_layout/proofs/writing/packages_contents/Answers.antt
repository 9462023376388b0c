use Rattle.bank_layout.specs.declared.format.Format.TheVariants.{Two}
use Rattle.bank_layout.specs.Manifest.{entry_text}
use Rattle.bank_layout.proofs.Rooms.{package_room}
use Rattle.der_write.proofs.Contents.{text_more}
use Rattle.bank_layout.proofs.writing.packages_contents.Goals as goal

pub put_package-requires : goal.put_package-requires
put_package-requires c = record {
  room = package_room Two c.args.state.now.packages c.loop-place.place _ c.requires.room c.in-Some.ensures.entry;
}

pub loop-place-preserved : goal.loop-place-preserved
loop-place-preserved c =
    text_more (entry_text Two) c.args.state.now.packages c.loop-place.place _ _ _ c.in-Some.ensures.entry
    c.loop-place.invariant c.in_ok-put_package.ensures.ok
