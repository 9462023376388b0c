use Rattle.bank_layout.proofs.Sizes.{manifest_size, manifest_room, manifest_stands}
use Rattle.bank_layout.proofs.laws.manifests_fit.Goals as goal

pub returns-clause-size : goal.returns-clause-size
returns-clause-size c = manifest_size

pub returns-clause-room : goal.returns-clause-room
returns-clause-room c = manifest_room

pub returns-clause-stands : goal.returns-clause-stands
returns-clause-stands c = manifest_stands
