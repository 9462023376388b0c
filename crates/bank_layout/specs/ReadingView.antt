-- What the code's values say, in the words of the reading.
use Rattle.bank_layout.specs.Reading.{PackageParts, ManifestParts}
use Rattle.bank_layout.specs.declared.package.Parts.{Parts}
use Rattle.bank_layout.specs.declared.reading.Fields.{Fields}

abbrev pub package_parts : Parts → PackageParts
package_parts p = record {
  name = p.name;
  digest = p.digest;
  length = p.length;
  blocks = p.blocks.now;
  kind = p.kind;
  needs = p.needs.now;
}

abbrev pub manifest_parts : Fields → ManifestParts
manifest_parts f = record {
  format = f.format;
  sequence = f.sequence;
  packages = f.packages.now;
  stale = f.stale.now;
}
