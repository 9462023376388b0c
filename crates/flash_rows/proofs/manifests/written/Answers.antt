use Rattle.std.proofs.Common.{refl}
use Rattle.bank_layout.specs.declared.format.Format.TheVariants.{Two}
use Rattle.bank_layout.specs.Manifest.{Manifest}
use Rattle.flash_rows.proofs.manifests.written.Goals as goal

pub put_manifest-requires : goal.put_manifest-requires
put_manifest-requires c =
    let m : Manifest = record { sequence = c.in-Some.sequence; state = c.in-Some.state } in
    let spelled = rw c.in-Some.is at c.in_ok-sequence.ensures.spelled in
    record { room = c.manifests_fit.ensures.room Two 16 m ((spelled m).0 refl).valid }
