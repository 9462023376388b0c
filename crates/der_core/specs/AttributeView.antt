-- An attribute of the code as octets.
use Rattle.der_core.specs.Attribute.{Attribute}
use Rattle.der_core.specs.declared.attribute.Attr.{Attr}

abbrev pub attribute_view : Attr → Attribute
attribute_view a = record { kind = a.kind; values = a.values.now }
