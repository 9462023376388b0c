-- What is read of a module record by the code, as the parts of its texts.
use Rattle.cert_fields.specs.View.{part_view}
use Rattle.module_record.specs.Reading.{view}
use Rattle.module_record.specs.ModuleReading.{AnchorParts, ListParts, ModuleParts}
use Rattle.module_record.specs.declared.anchor_reading.AnchorFields.{AnchorFields}
use Rattle.module_record.specs.declared.module_reading.Lists.{Lists}
use Rattle.module_record.specs.declared.module_reading.Fields.{Fields}

abbrev pub anchor_parts : AnchorFields → AnchorParts
anchor_parts f = record {
  subject = f.subject.now;
  key_id = f.key_id;
  key = f.key;
  constraints = part_view f.constraints;
}

abbrev pub list_parts : Lists → ListParts
list_parts l = record {
  communities = l.communities.now;
  kinds = l.kinds.now;
  capacity = l.capacity;
  anchors = l.anchors.now;
  key = view l.key;
}

abbrev pub module_parts : Fields → ModuleParts
module_parts f = record { hw_type = f.hw_type; serial = f.serial; lists = list_parts f.lists }
