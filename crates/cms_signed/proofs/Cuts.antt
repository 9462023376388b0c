-- Where octets have their cut.
use Rattle.std.proofs.Common.{◌≡◌, ℕ, ◌+◌, ◌-◌, ◌<◌, ◌≤◌, ◌^◌, List, [], ◌∷◌, ◌++◌, length, Ok}
use Rattle.std.proofs.Common.{Err, refl, sym, ap, subst, ◌∙◌, arith}
use Rattle.std.proofs.lemmas.List.{length-append}
use Rattle.std.specs.Prelude.{◌↔◌, Option, Some, None, IsTrue, is_some}
use Rattle.der_core.specs.Integer.{IsInteger}
use Rattle.der_core.specs.LeafReading.{integer_of}
use Rattle.der_core.proofs.Leaves.{int_octets-whole}
use Rattle.der_core.proofs.Digits.{AreOctets}
use Rattle.cms_signed.specs.declared.cut.Missing.{Missing}
use Rattle.cms_signed.specs.Cut.{HasCut, before_content, AreParts, Opens, HeadPart}
use Rattle.cms_signed.specs.CutReading.{CanCome, parts_at}
use Rattle.cms_signed.proofs.CutLemmas.{parts_takes, parts_again, parts_goes}

-- the test of a version in a head
pub is_integer : (contents : List ℕ) → AreOctets contents → IsTrue (is_some (integer_of contents)) ↔ IsInteger contents
is_integer contents octets =
    (λ some. by_case (integer_of contents) refl some, λ h. rw (int_octets-whole.again contents h) refl)
  where
    by_case : (o : Option (List ℕ)) → integer_of contents ≡ o → IsTrue (is_some o) → IsInteger contents
    by_case None e some = absurd cc
    by_case (Some v) e some =
        let t = int_octets-whole.takes contents v octets e in subst IsInteger (sym t.1) t.0

pub cut_found : (bytes : List ℕ) (size : ℕ) (rest : List ℕ) → AreOctets bytes
    → parts_at before_content (2 ^ 33) bytes ≡ Ok (size, rest)
    → HasCut bytes (length bytes - length rest) size × (length rest ≤ length bytes)
cut_found bytes size rest octets e =
    let t = parts_takes before_content (2 ^ 33) bytes (size, rest) octets e in
    let long : length bytes ≡ length t.0 + length rest = ap length t.2 ∙ length-append t.0 rest in
    (record { head = t.0; rest = rest; before = t.1; text = t.2; placed = omega (arith, long) }, omega (arith, long))

pub cut_again : (item : List ℕ) (place size : ℕ) (h : HasCut item place size)
    → parts_at before_content (2 ^ 33) item ≡ Ok (size, h.rest)
cut_again item place size h =
    ap (parts_at before_content (2 ^ 33)) h.text ∙ parts_again before_content (2 ^ 33) h.head size h.rest h.before

pub cut_missing : (bytes : List ℕ) (m : Missing) → AreOctets bytes
    → parts_at before_content (2 ^ 33) bytes ≡ Err m
    → (more : List ℕ) (place size : ℕ) → HasCut (bytes ++ more) place size → CanCome m (length more)
cut_missing bytes m octets e more place size h =
    parts_goes before_content (2 ^ 33) bytes m more (size, h.rest) octets e (cut_again (bytes ++ more) place size h)

-- the size that parts leave, where the last of them opens an element, is that of an element
opened : (parts : List HeadPart) (tag left : ℕ) (octets : List ℕ) (after : ℕ)
    → AreParts (parts ++ Opens tag ∷ []) left octets after → after < 2 ^ 32
opened [] tag left octets after (front, between, rest, h, (none, is), text) = omega (arith, is, h.0.fits)
opened (part ∷ parts) tag left octets after (front, between, rest, h, more, text) =
    opened parts tag between rest after more

abbrev front_of : List HeadPart → List HeadPart
front_of [] = []
front_of (p ∷ []) = []
front_of (p ∷ (q ∷ ps)) = p ∷ front_of (q ∷ ps)

pub fits : (item : List ℕ) (place size : ℕ) → HasCut item place size → size < 2 ^ 32
fits item place size h = opened (front_of before_content) 0x04 (2 ^ 33) h.head size h.before
