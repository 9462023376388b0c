-- What the parts of a signature, as the code cuts them, say.
use Rattle.lms_verify.specs.declared.signature.Parts.{Parts}
use Rattle.lms_verify.specs.Signatures.{LmsSignature}

-- the signature of these parts
abbrev pub signature_of : Parts → LmsSignature
signature_of parts = record {
  q = parts.q;
  randomizer = parts.randomizer.now;
  values = parts.values.now;
  path = parts.path.now;
}
