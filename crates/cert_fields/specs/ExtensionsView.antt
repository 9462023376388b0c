-- An extension of the code as its value.
use Rattle.cert_fields.specs.Extensions.{Extension}
use Rattle.cert_fields.specs.declared.extension_list.ExtensionItem.{ExtensionItem}

abbrev pub extension_view : ExtensionItem → Extension
extension_view e = record { kind = e.kind; critical = e.critical; value = e.value.now }
