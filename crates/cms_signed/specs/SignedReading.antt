-- Reading what stands around a content: of octets, and of octets with a gap, in the same steps. A bridge between the
-- code and the texts: nothing here has to be believed.
use Rattle.std.specs.Prelude.{ℕ, Bool, List, length, nat_le, ◌==◌, if◌then◌else◌, not, bytes_eq, Option}
use Rattle.std.specs.Prelude.{Some, None, Result, Ok, Err}
use Rattle.der_core.specs.Reading.{◌>>?◌, front_of, number_of, oid_of}
use Rattle.der_core.specs.Shapes.{Whole, element, alone, before, optional, tested, anything, kept, mapped}
use Rattle.der_core.specs.Shapes.{maybe_before}
use Rattle.cms_signed.specs.Cut.{signed_data}
use Rattle.cms_signed.specs.Signed.{ContentInfo, Tail, SignedData, EncapsulatedContentInfo, is_version}
use Rattle.cms_signed.specs.Signed.{encrypted_data, compressed_data}
use Rattle.cms_signed.specs.Gapped.{Gapped, GappedWhole, gapped_element, gapped_alone, gapped_before}
use Rattle.cms_signed.specs.Gapped.{gapped_optional, gapped_anything, gapped_one_element, solidly}

-- octets that are one element
abbrev pub one_element : Whole (List ℕ)
one_element bytes = front_of bytes >>? λ x. if length x.1.1 == 0 then Some bytes else None

-- ---- of octets

-- what is read of a ContentInfo, a SignedData and an EncapsulatedContentInfo, as those values
abbrev pub info_made : List ℕ × List ℕ → ContentInfo
info_made i = record { content_type = i.0; content = i.1 }

abbrev pub signed_made : ℕ × (List ℕ × (List ℕ × List ℕ)) → SignedData
signed_made s = record { version = s.0; digest_algorithms = s.1.0; encapsulated = s.1.1.0; tail = s.1.1.1 }

abbrev pub encapsulated_made : List ℕ × Option (List ℕ) → EncapsulatedContentInfo
encapsulated_made e = record { content_type = e.0; content = e.1 }

abbrev pub tail_made : Option (List ℕ) × (Option (List ℕ) × List ℕ) → Tail
tail_made t = record { certificates = t.0; crls = t.1.0; signer_infos = t.1.1 }

unfoldable pub info_of : Whole (List ℕ × List ℕ)
info_of = alone (element 0x30 (before (element 0x06 oid_of) (alone (element 0xA0 one_element))))

unfoldable pub tail_fields : Whole (Option (List ℕ) × (Option (List ℕ) × List ℕ))
tail_fields = maybe_before 0xA0 (element 0xA0 anything)
    (maybe_before 0xA1 (element 0xA1 anything) (alone (element 0x31 anything)))

unfoldable pub tail_of : Whole Tail
tail_of = mapped tail_made tail_fields

unfoldable pub version_of : Whole ℕ
version_of = tested is_version number_of

unfoldable pub signed_of : Whole (ℕ × (List ℕ × (List ℕ × List ℕ)))
signed_of = alone (element 0x30
    (before (element 0x02 version_of) (before (element 0x31 anything) (before (element 0x30 anything) (kept tail_of)))))

unfoldable pub encapsulated_of : Whole (List ℕ × Option (List ℕ))
encapsulated_of = before (element 0x06 oid_of) (optional (alone (element 0xA0 (alone (element 0x04 anything)))))

-- ---- of octets with a gap

unfoldable pub gapped_info : GappedWhole (List ℕ × Gapped)
gapped_info = gapped_alone (gapped_element 0x30 (gapped_before (gapped_element 0x06 (solidly oid_of)) (gapped_alone (gapped_element 0xA0 gapped_one_element))))

unfoldable pub gapped_signed : GappedWhole (ℕ × (List ℕ × (Gapped × List ℕ)))
gapped_signed = gapped_alone (gapped_element 0x30
    (gapped_before (gapped_element 0x02 (solidly version_of)) (gapped_before (gapped_element 0x31 (solidly anything))
    (gapped_before (gapped_element 0x30 gapped_anything) (solidly (kept tail_of))))))

unfoldable pub gapped_encapsulated : GappedWhole (List ℕ × Option Gapped)
gapped_encapsulated = gapped_before (gapped_element 0x06 (solidly oid_of))
    (gapped_optional (gapped_alone (gapped_element 0xA0 (gapped_alone (gapped_element 0x04 gapped_anything)))))

-- ---- the conditions, one after the other; C stands for what the octets of a content are kept as

-- goes on with a value, or fails by this condition
unfoldable pub or_fails : {A B : Type 0} → ℕ → Option A → (A → Result B ℕ) → Result B ℕ
or_fails number None next = Err number
or_fails number (Some x) next = next x

unfoldable pub unless : {B : Type 0} → ℕ → Bool → Result B ℕ → Result B ℕ
unless number good next = if good then next else Err number

-- the conditions on a type, a content and the octets behind
abbrev pub inner : {C : Type 0} → List ℕ → List ℕ × Option C → List ℕ → Result (C × List ℕ) ℕ
inner kind e tail =
    unless 7 (not (bytes_eq e.0 encrypted_data)) (unless 8 (not (bytes_eq e.0 compressed_data))
    (unless 9 (bytes_eq e.0 kind) (or_fails 10 e.1 (λ content.
    unless 11 (nat_le (length tail) 1048576) (Ok (content, tail))))))

-- all of them, by the readings of the three shapes
abbrev pub outer : {O C : Type 0} → (O → Option (List ℕ × O)) → (O → Option (ℕ × (List ℕ × (O × List ℕ))))
    → (O → Option (List ℕ × Option C)) → List ℕ → O → Result (C × List ℕ) ℕ
outer info signed encapsulated kind item =
    or_fails 3 (info item) (λ i. unless 4 (bytes_eq i.0 signed_data)
    (or_fails 5 (signed i.1) (λ s. or_fails 6 (encapsulated s.1.1.0) (λ e. inner kind e s.1.1.1))))

unfoldable pub outer_of : List ℕ → List ℕ → Result (List ℕ × List ℕ) ℕ
outer_of kind item = outer info_of signed_of encapsulated_of kind item

unfoldable pub gapped_outer : List ℕ → Gapped → Result (Gapped × List ℕ) ℕ
gapped_outer kind item = outer gapped_info gapped_signed gapped_encapsulated kind item
