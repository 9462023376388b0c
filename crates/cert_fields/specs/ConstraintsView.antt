-- Entries of the code as values.
use Rattle.cert_fields.specs.Constraints.{ContentConstraint}
use Rattle.cert_fields.specs.declared.entries.CccEntry.{CccEntry}

abbrev pub entry_view : CccEntry → ContentConstraint
entry_view e = record { content = e.content; can_source = e.can_source; attributes = e.attributes }
