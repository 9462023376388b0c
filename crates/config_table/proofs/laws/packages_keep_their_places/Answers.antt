use Rattle.config_table.proofs.StateLemmas.{place_made}
use Rattle.config_table.proofs.laws.packages_keep_their_places.Goals as goal

pub returns : goal.returns
returns c = record { place = place_made }
