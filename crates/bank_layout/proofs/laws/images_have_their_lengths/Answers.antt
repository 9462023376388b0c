use Rattle.bank_layout.proofs.ImageLengths.{lengths_stand}
use Rattle.bank_layout.proofs.laws.images_have_their_lengths.Goals as goal

pub returns : goal.returns
returns c = record { lengths = lengths_stand }
