use Rattle.receipt_writer.proofs.Images.{same_error}
use Rattle.receipt_writer.proofs.laws.errors_see_no_image.Goals as goal

pub returns-clause-octets : goal.returns-clause-octets
returns-clause-octets c = same_error

pub returns-clause-numbers : goal.returns-clause-numbers
returns-clause-numbers c = same_error
