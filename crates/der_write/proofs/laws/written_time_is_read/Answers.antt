use Rattle.std.proofs.Common.{◌≡◌, ℕ, List, ◌++◌, Some, refl}
use Rattle.der_core.specs.Element.{enc, IsElement}
use Rattle.der_core.specs.Shapes.{element}
use Rattle.der_core.specs.Time.{time_tag, time_contents}
use Rattle.der_core.specs.TimeReading.{time_of}
use Rattle.der_core.proofs.Fronts.{tagged_again}
use Rattle.der_core.proofs.Times.{written_again}
use Rattle.der_core.proofs.TimeValues.{written_element}
use Rattle.der_write.proofs.laws.written_time_is_read.Goals as goal

-- what is read from the contents is read from the element
read_back : (tag moment : ℕ) (contents rest : List ℕ) → IsElement tag contents → time_of tag contents ≡ Some moment
    → element tag (time_of tag) (enc tag contents ++ rest) ≡ Some (moment, rest)
read_back tag moment contents rest is reads = rw (tagged_again tag contents rest is, reads) refl

pub returns : goal.returns
returns c = λ moment rest is.
    read_back (time_tag moment) moment (time_contents moment) rest (written_element moment) (written_again moment is)
