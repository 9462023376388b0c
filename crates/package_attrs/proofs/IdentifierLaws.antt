-- Names and identifiers are read exactly.
use Rattle.std.proofs.Common.{◌≡◌, ℕ, ◌^◌, ◌<◌, ◌≤◌, List, ◌++◌, length, Option, Some, None, refl, inl, inr, ◌⊎◌, arith}
use Rattle.std.specs.Prelude.{IsTrue, IfSome}
use Rattle.std.proofs.lemmas.List.{length-append}
use Rattle.der_core.specs.Element.{enc}
use Rattle.der_core.specs.Number.{number_contents}
use Rattle.der_core.specs.Objects.{IsOid}
use Rattle.der_core.specs.Shapes.{text_if, IsFront, IsWhole}
use Rattle.der_core.proofs.Places.{length-enc}
use Rattle.der_core.proofs.Shapes.{is_tag, element-front, same-front, alone-whole, before-whole, optional-whole}
use Rattle.der_core.proofs.Shapes.{choice-elements, mapped-whole, tested-whole, number-whole, oid-whole, octets-whole}
use Rattle.der_core.proofs.Shapes.{length-enc-le, length-number-le}
use Rattle.package_attrs.specs.declared.name.PackageName.{PackageName}
use Rattle.package_attrs.specs.declared.name.PackageName.TheVariants as names
use Rattle.package_attrs.specs.declared.name.Stale.{Stale}
use Rattle.package_attrs.specs.declared.name.Stale.TheVariants as stales
use Rattle.package_attrs.specs.Identifier.{Named, name_text, stale_text, identifier_text, HasOneTo64, IsName, IsStale}
use Rattle.package_attrs.specs.Identifier.{IsIdentifier}
use Rattle.package_attrs.specs.Kinds.{kinds_match}
use Rattle.package_attrs.specs.Reading.{pair_of, name_at, stale_at, fields_of, identifier_of}

-- ---- names

-- an identifier and a version
abbrev pair_text : List ℕ × ℕ → List ℕ
pair_text x = enc 6 x.0 ++ enc 2 (number_contents x.1)

abbrev IsPair : List ℕ × ℕ → Type 0
IsPair x = IsOid x.0 × (x.1 < 2 ^ 128)

number_fits : (n : ℕ) → n < 2 ^ 128 → length (number_contents n) < 2 ^ 32
number_fits n h = omega (arith, length-number-le n h)

pair-whole : IsWhole pair_text IsPair pair_of
unfolding pair_of
pair-whole =
    before-whole (element-front 6 (is_tag 6 refl) (λ id h. omega (arith, h.most)) oid-whole)
    (alone-whole (element-front 2 (is_tag 2 refl) number_fits number-whole))

pair_length : (x : List ℕ × ℕ) → IsPair x → length (pair_text x) ≤ 93
pair_length x h =
    omega (
      arith,
      h.0.most,
      length-append (enc 6 x.0) (enc 2 (number_contents x.1)),
      length-enc-le 6 x.0
          (omega (arith, h.0.most)),
      length-enc-le 2 (number_contents x.1) (number_fits x.1 h.1),
      length-number-le x.1 h.1,
    )

pub name-front : IsFront name_text IsName name_at
unfolding name_at
name-front =
    choice-elements 48 4 (λ x. names.Preferred x.0 x.1) (λ octets. names.Legacy octets) (is_tag 48 refl)
    (is_tag 4 refl) (λ e. omega (arith, e))
    (λ x h. (h, omega (arith, pair_length x h), refl)) (λ octets h. (h, omega (arith, h.1), refl)) cases pair-whole
    octets-whole
  where
    cases : (n : PackageName) → IsName n → ((x : List ℕ × ℕ) × IsPair x × (names.Preferred x.0 x.1 ≡ n)) ⊎
        ((o : List ℕ) × HasOneTo64 o × (names.Legacy o ≡ n))
    cases (names.Preferred id version) h = inl ((id, version), h, refl)
    cases (names.Legacy octets) h = inr (octets, h, refl)

pub name_length : (n : PackageName) → IsName n → length (name_text n) ≤ 99
name_length (names.Preferred id version) h =
    let size = pair_length (id, version) h in
    omega (arith, size, length-enc-le 48 (pair_text (id, version)) (omega (arith, size)))
name_length (names.Legacy octets) h = omega (arith, h.1, length-enc-le 4 octets (omega (arith, h.1)))

-- ---- stale values

stale-front : IsFront stale_text IsStale stale_at
unfolding stale_at
stale-front =
    choice-elements 2 4 (λ n. stales.Upto n) (λ octets. stales.Legacy octets) (is_tag 2 refl) (is_tag 4 refl)
    (λ e. omega (arith, e))
    (λ n h. (h, number_fits n h, refl)) (λ octets h. (h, omega (arith, h.1), refl)) cases number-whole octets-whole
  where
    cases : (s : Stale) → IsStale s → ((n : ℕ) × (n < 2 ^ 128) × (stales.Upto n ≡ s)) ⊎
        ((o : List ℕ) × HasOneTo64 o × (stales.Legacy o ≡ s))
    cases (stales.Upto n) h = inl (n, h, refl)
    cases (stales.Legacy octets) h = inr (octets, h, refl)

stale_some : (s : Stale) → IsStale s → 0 < length (stale_text s)
stale_some (stales.Upto n) h = omega (arith, length-enc 2 (number_contents n))
stale_some (stales.Legacy octets) h = omega (arith, length-enc 4 octets)

stale_length : (o : Option Stale) → IfSome o IsStale → length (text_if stale_text o) ≤ 70
stale_length None h = omega arith
stale_length (Some (stales.Upto n)) h =
    omega (arith, length-enc-le 2 (number_contents n) (number_fits n h), length-number-le n h)
stale_length (Some (stales.Legacy octets)) h = omega (arith, h.1, length-enc-le 4 octets (omega (arith, h.1)))

-- ---- identifiers

abbrev fields_text : Named → List ℕ
fields_text i = name_text i.name ++ text_if stale_text i.stale

abbrev AreFields : Named → Type 0
AreFields i = (IsName i.name × IfSome i.stale IsStale) × IsTrue (kinds_match i.name i.stale)

fields-whole : IsWhole fields_text AreFields fields_of
unfolding fields_of
fields-whole =
    tested-whole (λ i. kinds_match i.name i.stale) (mapped-whole (λ x. record { name = x.0; stale = x.1 })
    (λ x h. (h, refl)) (λ i h. ((i.name, i.stale), h, refl))
    (before-whole name-front (optional-whole stale_some (alone-whole stale-front))))

fields_fit : (i : Named) → AreFields i → length (fields_text i) < 2 ^ 32
fields_fit i h =
    omega (
      arith,
      length-append (name_text i.name) (text_if stale_text i.stale),
      name_length i.name h.0.0,
      stale_length i.stale h.0.1,
    )

pub identifier-whole : IsWhole identifier_text IsIdentifier identifier_of
unfolding identifier_of
identifier-whole =
    alone-whole (same-front (λ i h. (record { name = h.0.0; stale = h.0.1; alike = h.1 }, refl))
    (λ i h. ((h.name, h.stale), h.alike)) (element-front 48 (is_tag 48 refl) fields_fit fields-whole))
