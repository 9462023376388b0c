-- Reading a key, a message and a signature, by the shapes of `der_core`. That this is the triple
-- whose text the octets are is proved in the contract of `read_triple`.
use Rattle.der_core.specs.Shapes.{Whole, element, alone, before, mapped, anything}
use Rattle.fwload_top.specs.declared.triple.Triple.{Triple as Slices}
use Rattle.fwload_top.specs.Sigcheck.{Triple}

-- a triple as its octets
abbrev pub view : Slices → Triple
view t = record { key = t.key.now; message = t.message.now; signature = t.signature.now }

unfoldable pub fields_of : Whole Triple
fields_of =
    mapped (λ x. record { key = x.0; message = x.1.0; signature = x.1.1 })
    (before (element 0x04 anything) (before (element 0x04 anything) (alone (element 0x04 anything))))

unfoldable pub triple_of : Whole Triple
triple_of = alone (element 0x30 fields_of)
