-- The laws of parts that are kept as octets, and of a component with a DEFAULT.
use Rattle.std.proofs.Common.{◌≡◌, ℕ, Bool, true, false, not, List, ◌++◌, Option, Some, None, refl, sym, ap}
use Rattle.std.proofs.Common.{subst, inl, inr}
use Rattle.std.specs.Prelude.{IsTrue, IfSome}
use Rattle.std.specs.Option.{option_map_or}
use Rattle.std.proofs.lemmas.Bool.{cases_Bool}
use Rattle.der_core.specs.Element.{enc, HasRoom, IsTagged}
use Rattle.der_core.specs.Reading.{◌>>?◌, tagged_of}
use Rattle.der_core.specs.Shapes.{Front, Whole, element, anything, whole_element, kept, defaulted, begins_with}
use Rattle.der_core.specs.Shapes.{text_if, text_unless, IsFront, IsWhole}
use Rattle.der_core.proofs.Numbers.{some_bind, some_is}
use Rattle.der_core.proofs.Fronts.{tagged_takes, tagged_again, IsTag, Begins, enc-begins}
use Rattle.der_core.proofs.Shapes.{mapped-whole, tested-whole, maybe_before-whole}

-- an element of any contents that it has room for
pub raw-front : (tag : ℕ) → IsTag tag → IsFront (λ contents. enc tag contents) HasRoom (element tag anything)
raw-front tag tag-is = record {
  takes = λ bytes x octets e.
      let c = some_bind (tagged_of tag bytes) (λ x. anything x.0 >>? λ v. Some (v, x.1)) x e in
      let t = tagged_takes tag bytes c.0 octets c.1 in
      subst (λ (y : List ℕ × List ℕ). HasRoom y.0 × (bytes ≡ enc tag y.0 ++ y.1)) (some_is c.0 x c.2) (t.0.fits, t.1);
  again = λ contents rest room. rw (tagged_again tag contents rest
      (record { octet = tag-is.octet; low_bits = tag-is.low_bits; fits = room })) refl;
}

-- one element of this tag, kept as its octets
pub whole_element-front : (tag : ℕ) → IsFront (λ (octets : List ℕ). octets) (IsTagged tag) (whole_element tag)
whole_element-front tag = record {
  takes = λ bytes x octets e.
      let c = some_bind (tagged_of tag bytes) (λ x. Some (enc tag x.0, x.1)) x e in
      let t = tagged_takes tag bytes c.0 octets c.1 in
      subst (λ (y : List ℕ × List ℕ). IsTagged tag y.0 × (bytes ≡ y.0 ++ y.1)) (some_is (enc tag c.0.0, c.0.1) x c.2)
      (record { contents = c.0.0; element = t.0; text = refl }, t.1);
  again = λ octets rest h. rw (h.text, tagged_again tag h.contents rest h.element) refl;
}

-- its first octet is the tag
pub tagged-begins : (tag : ℕ) (octets : List ℕ) → IsTagged tag octets → Begins tag octets
tagged-begins tag octets h = subst (Begins tag) (sym h.text) (enc-begins tag h.contents)

-- octets that read as a value, kept as octets
pub kept-whole : {V : Type 0} {text : V → List ℕ} {IsValid : V → Type 0} {read : Whole V} → IsWhole text IsValid read
    → IsWhole (λ (octets : List ℕ). octets) (λ octets. (v : V) × IsValid v × (octets ≡ text v)) (kept read)
kept-whole {V} {text} {IsValid} {read} laws = record {
  takes = λ bytes octets are e.
      let c = some_bind (read bytes) (λ _. Some bytes) octets e in
      let t = laws.takes bytes c.0 are c.1 in
      subst (λ (y : List ℕ). ((v : V) × IsValid v × (y ≡ text v)) × (bytes ≡ y)) (some_is bytes octets c.2)
      ((c.0, t.0, t.1), refl);
  again = λ octets h. rw (h.2, laws.again h.0 h.1) refl;
}

-- a component with a DEFAULT, which one test tells from every other value
pub defaulted-whole : {V W : Type 0} {text : V → List ℕ} {IsValid : V → Type 0} {read : Front V}
    {text' : W → List ℕ} {IsValid' : W → Type 0} {read' : Whole W} (tag : ℕ) (is_default : V → Bool) (default : V)
    → ((v : V) → is_default v ≡ true → v ≡ default) → is_default default ≡ true
    → ((v : V) → IsValid v → Begins tag (text v)) → ((w : W) → IsValid' w → begins_with tag (text' w) ≡ false)
    → IsValid default → IsFront text IsValid read → IsWhole text' IsValid' read'
    → IsWhole (λ x. text_unless is_default text x.0 ++ text' x.1) (λ x. IsValid x.0 × IsValid' x.1)
    (defaulted tag is_default default read read')
defaulted-whole {V} {W} {text} {IsValid} {read} {text'} {IsValid'} {read'} tag is_default default only is
    begins differs valid first second =
    mapped-whole (λ (x : Option V × W). (option_map_or (λ v. v) x.0 default, x.1)) forth back
    (tested-whole (λ (x : Option V × W). option_map_or (λ v. not (is_default v)) x.0 true)
    (maybe_before-whole tag begins differs first second))
  where
    Parts : Option V × W → Type 0
    Parts x = (IfSome x.0 IsValid × IsValid' x.1) × IsTrue (option_map_or (λ v. not (is_default v)) x.0 true)

    not_false : (b : Bool) → not b ≡ true → b ≡ false
    not_false true e = absurd cc
    not_false false e = refl

    forth : (x : Option V × W) → (IfSome x.0 IsValid × IsValid' x.1)
        × IsTrue (option_map_or (λ v. not (is_default v)) x.0 true)
        → (IsValid (option_map_or (λ v. v) x.0 default) × IsValid' x.1)
        × (text_if text x.0 ++ text' x.1
        ≡ text_unless is_default text (option_map_or (λ v. v) x.0 default) ++ text' x.1)
    forth (None, w) h = ((valid, h.0.1), rw is refl)
    forth (Some v, w) h = ((h.0.0, h.0.1), rw (not_false (is_default v) h.1) refl)

    back : (y : V × W) → IsValid y.0 × IsValid' y.1
        → (x : Option V × W) × ((IfSome x.0 IsValid × IsValid' x.1)
        × IsTrue (option_map_or (λ v. not (is_default v)) x.0 true))
        × ((option_map_or (λ v. v) x.0 default, x.1) ≡ y)
    back (v, w) h = elim (cases_Bool (is_default v)) [
      | inl same ↦ ((None, w), ((tt, h.1), refl), ap (λ (d : V). (d, w)) (sym (only v same)))
      | inr other ↦ ((Some v, w), ((h.0, h.1), rw other refl), refl)
    ]
