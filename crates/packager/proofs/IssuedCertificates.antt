-- The certificate of a plan has a text.
use Rattle.std.proofs.Common.{◌≡◌, ℕ, ◌+◌, ◌≤◌, ◌^◌, Bool, true, false, List, [], ◌∷◌, ◌++◌, length, cond, leb, IfSome, refl, arith, lit<}
use Rattle.std.specs.List.{flat_map}
use Rattle.std.proofs.lemmas.Bool.{and_parts, leb-true}
use Rattle.std.proofs.lemmas.List.{length-append}
use Rattle.der_core.specs.BitString.{bits_contents, IsBits}
use Rattle.der_core.specs.Element.{enc, HasRoom}
use Rattle.der_core.specs.Moment.{IsMoment, year}
use Rattle.der_core.specs.Number.{number_contents}
use Rattle.der_core.specs.Shapes.{text_if, IsOneElement}
use Rattle.der_core.specs.Time.{IsTime, IsInForm, time_text, has_utc, time_tag, time_contents}
use Rattle.der_core.specs.declared.time_value.TimeForm.TheVariants.{Utc, Generalized}
use Rattle.der_core.proofs.Lengths.{length-enc-le, length-number-le}
use Rattle.der_core.proofs.Times.{length-time_contents-le}
use Rattle.cert_fields.specs.Algorithms.{signature_algorithm}
use Rattle.cert_fields.specs.Certificate.{IsSignedPart, IsCertificate, signed_contents, signed_text}
use Rattle.cert_fields.specs.Certificate.{bits_text, key_text, validity_text}
use Rattle.cert_fields.specs.Extensions.{Extension, extension_text, extensions_text}
use Rattle.hss_chain.specs.declared.key.HssKey.{HssKey}
use Rattle.hss_chain.specs.Keys.{IsHssKey, hss_key_text}
use Rattle.packager.specs.CertificatePlan.{CertificatePlan, time_of, planned_part, planned_certificate, planned_extensions, written_extensions}
use Rattle.packager.specs.ReadPlans.{IsCertificatePlan}
use Rattle.packager.proofs.Messages.{signature_algorithm_is, signature_algorithm_size}
use Rattle.packager.proofs.PlannedExtensions.{all_size}

-- ---- parts

-- octets of whole bits
whole_bits : (octets : List ℕ) → IsBits (0, octets)
whole_bits octets = record { unused = omega arith; none = λ none. refl; zeros = omega arith }

bits_size : (octets : List ℕ) → length octets ≤ 2 ^ 30 → length (bits_text (0, octets)) ≤ length octets + 7
unfolding bits_contents
bits_size octets few = omega (arith, few, length-enc-le 0x03 (0 ∷ octets) (omega (arith, few)))

key_size : (key : HssKey) → IsHssKey key → length (hss_key_text key) ≡ 60
key_size key valid = omega (arith, length-append key.top.id key.top.root, valid.top.id, valid.top.root)

time_is : (moment : ℕ) → IsMoment moment → IsTime (time_of moment)
time_is moment valid = by_case (has_utc moment) refl
  where
    by_case : (utc : Bool) → has_utc moment ≡ utc → IsInForm (cond utc Utc Generalized) moment
    by_case true is =
        let parts = and_parts (leb 1950 (year moment)) (leb (year moment) 2049) is in
        record { valid = valid; least = leb-true 1950 (year moment) parts.0; most = leb-true (year moment) 2049 parts.1 }
    by_case false is = valid

time_size : (moment : ℕ) → length (time_text (time_of moment)) ≤ 21
time_size moment =
    let size = length-time_contents-le moment in
    omega (arith, size, length-enc-le (time_tag moment) (time_contents moment) (omega (arith, size)))

validity_size : (from to : ℕ) → length (validity_text (time_of from, time_of to)) ≤ 48
validity_size from to =
    let first = time_size from in
    let second = time_size to in
    let both = length-append (time_text (time_of from)) (time_text (time_of to)) in
    omega (
      arith,
      first,
      second,
      both,
      length-enc-le 0x30 (time_text (time_of from) ++ time_text (time_of to)) (omega (arith, first, second, both)),
    )

-- the key and its algorithm
key_contents_size : (key : HssKey) → IsHssKey key
    → length (signature_algorithm ++ bits_text (0, hss_key_text key)) ≤ 82
key_contents_size key valid =
    omega (
      arith,
      key_size key valid,
      signature_algorithm_size,
      length-append signature_algorithm (bits_text (0, hss_key_text key)),
      bits_size (hss_key_text key) (omega (arith, key_size key valid)),
    )

-- extensions, where there are any
written_is : (es : List Extension) → length (flat_map extension_text es) ≤ 2 ^ 31 + 3000
    → IfSome (written_extensions es) IsOneElement
written_is [] few = tt
written_is (e ∷ es) few = (
  0x30,
  flat_map extension_text (e ∷ es),
  record { octet = omega arith; low_bits = omega arith; fits = omega (arith, few) },
  refl,
)

written_fits : (es : List Extension) → length (flat_map extension_text es) ≤ 2 ^ 31 + 3000
    → IfSome (written_extensions es) HasRoom
written_fits [] few = tt
written_fits (e ∷ es) few =
    omega (arith, few, length-enc-le 0x30 (flat_map extension_text (e ∷ es)) (omega (arith, few)))

written_size : (es : List Extension) → length (flat_map extension_text es) ≤ 2 ^ 31 + 3000
    → length (text_if (enc 0xA3) (written_extensions es)) ≤ 2 ^ 31 + 3012
written_size [] few = omega arith
written_size (e ∷ es) few =
    let inner = length-enc-le 0x30 (flat_map extension_text (e ∷ es)) (omega (arith, few)) in
    omega (arith, few, inner, length-enc-le 0xA3 (extensions_text (e ∷ es)) (omega (arith, few, inner)))

-- ---- the whole of it

module _ (p : CertificatePlan) (plan : IsCertificatePlan p) where
  abbrev es : List Extension
  es = planned_extensions p

  contents_size : length (signed_contents (planned_part p)) ≤ 2 ^ 31 + 2 ^ 17 + 4000
  contents_size =
      let version = enc 0xA0 (enc 0x02 (number_contents 2)) in
      let two : length (number_contents 2) ≤ 17 = length-number-le 2 (lit< tt) in
      let inner = length-enc-le 0x02 (number_contents 2) (omega (arith, two)) in
      let serial = enc 0x02 p.serial in
      let validity = validity_text (time_of p.from, time_of p.to) in
      let key = key_text (signature_algorithm, (0, hss_key_text p.key)) in
      let optional = text_if (enc 0xA3) (written_extensions es) in
      let key_inner = key_contents_size p.key plan.key in
      omega (
        arith,
        two,
        inner,
        length-enc-le 0xA0 (enc 0x02 (number_contents 2)) (omega (arith, two, inner)),
        plan.serial.most,
        length-enc-le 0x02 p.serial (omega (arith, plan.serial.most)),
        signature_algorithm_size,
        plan.short.issuer,
        plan.short.subject,
        validity_size p.from p.to,
        key_inner,
        length-enc-le 0x30 (signature_algorithm ++ bits_text (0, hss_key_text p.key)) (omega (arith, key_inner)),
        written_size es (all_size p plan),
        length-append version (serial ++ (signature_algorithm ++ (p.issuer ++ (validity ++ (p.subject ++ (key ++ optional)))))),
        length-append serial (signature_algorithm ++ (p.issuer ++ (validity ++ (p.subject ++ (key ++ optional))))),
        length-append signature_algorithm (p.issuer ++ (validity ++ (p.subject ++ (key ++ optional)))),
        length-append p.issuer (validity ++ (p.subject ++ (key ++ optional))),
        length-append validity (p.subject ++ (key ++ optional)),
        length-append p.subject (key ++ optional),
        length-append key optional,
      )

  part_is : IsSignedPart (planned_part p)
  part_is = record {
    version = omega arith;
    serial = plan.serial;
    algorithm = signature_algorithm_is;
    issuer = plan.issuer;
    subject = plan.subject;
    from = time_is p.from plan.from;
    to = time_is p.to plan.to;
    key_algorithm = signature_algorithm_is;
    key = whole_bits (hss_key_text p.key);
    key_fits = omega (arith, key_contents_size p.key plan.key);
    issuer_unique = tt;
    subject_unique = tt;
    extensions = written_is es (all_size p plan);
    extensions_fit = written_fits es (all_size p plan);
    third = λ some. refl;
    fits = omega (arith, contents_size);
  }

  pub certificate_is : (signature : List ℕ) → length signature ≤ 2 ^ 20 → IsCertificate (planned_certificate p signature)
  certificate_is signature few = record {
    signed = part_is;
    algorithm = signature_algorithm_is;
    signature = whole_bits signature;
    fits = omega (
      arith,
      few,
      contents_size,
      length-enc-le 0x30 (signed_contents (planned_part p)) (omega (arith, contents_size)),
      signature_algorithm_size,
      bits_size signature (omega (arith, few)),
      length-append (signed_text (planned_part p)) (signature_algorithm ++ bits_text (0, signature)),
      length-append signature_algorithm (bits_text (0, signature)),
    );
  }
