-- An element at the front of octets: what is read there, that it takes octets, and that one whose contents read
-- exactly reads exactly.
use Rattle.std.proofs.Common.{◌≡◌, ℕ, suc, ◌%◌, ◌^◌, ◌<◌, ◌≤◌, cond, eqb}
use Rattle.std.proofs.Common.{ltb, ◌&&◌, ◌||◌, List, [], ◌∷◌, ◌++◌, length, Some, None, refl, sym, ap}
use Rattle.std.proofs.Common.{subst, ◌∙◌, arith, inl, inr}
use Rattle.std.specs.Prelude.{IsTrue}
use Rattle.std.proofs.lemmas.Bool.{eqb-true, eq-eqb, ltb-true, lt-ltb, le-ltb, and_parts, cases_lt}
use Rattle.std.proofs.lemmas.Option.{cond_some}
use Rattle.std.proofs.Common.{Result, Ok, Err}
use Rattle.der_core.specs.declared.fault.DerFault.{DerFault}
use Rattle.der_core.specs.Element.{length_octets, enc, IsElement}
use Rattle.der_core.specs.Reading.{◌>>?◌, ◌>>=◌, length_at, long_length_at, contents_at, element_at, front_of}
use Rattle.der_core.specs.Reading.{tagged_of}
use Rattle.der_core.specs.Shapes.{Front, Whole, element}
use Rattle.der_core.specs.Shapes.{IsFront, IsWhole}
use Rattle.der_core.proofs.Digits.{AreOctets, AreOctets-left, AreOctets-right}
use Rattle.std.proofs.Common.{◌-◌, take, drop}
use Rattle.std.specs.Int.Digits.{number_from_digits}
use Rattle.std.proofs.lemmas.List.{length-drop}
use Rattle.der_core.specs.declared.fault.DerFault.TheVariants.{Short, Malformed}
use Rattle.der_core.proofs.Element.{guard, bind_ok, ok_is, element_takes, element_again}
use Rattle.der_core.proofs.Numbers.{some_bind, some_is}

pub front_take : (bytes : List ℕ) (x : ℕ × (List ℕ × List ℕ)) → front_of bytes ≡ Some x → element_at bytes ≡ Ok x
unfolding front_of
front_take bytes x e = by_case (element_at bytes) e
  where
    by_case : (r : Result (ℕ × (List ℕ × List ℕ)) DerFault) → elim r [ Ok x ↦ Some x | Err e ↦ None ] ≡ Some x
        → r ≡ Ok x
    by_case (Ok y) e = ap (λ (z : ℕ × (List ℕ × List ℕ)). Ok z) (some_is y x e)
    by_case (Err f) e = absurd cc

pub tagged_takes : (tag : ℕ) (bytes : List ℕ) (x : List ℕ × List ℕ) → AreOctets bytes
    → tagged_of tag bytes ≡ Some x → IsElement tag x.0 × (bytes ≡ enc tag x.0 ++ x.1)
unfolding tagged_of
tagged_takes tag bytes x octets e =
    let b = some_bind (front_of bytes) (λ x. cond (eqb x.0 tag) (Some x.1) None) x e in
    let g = cond_some (eqb b.0.0 tag) b.0.1 x b.2 in
    let t = element_takes bytes b.0 octets (front_take bytes b.0 b.1) in
    subst (λ (k : ℕ). IsElement k x.0 × (bytes ≡ enc k x.0 ++ x.1)) (eqb-true _ _ g.0)
    (subst (λ (y : List ℕ × List ℕ). IsElement b.0.0 y.0 × (bytes ≡ enc b.0.0 y.0 ++ y.1)) g.1 t)

pub front_again : (bytes : List ℕ) (x : ℕ × (List ℕ × List ℕ)) → element_at bytes ≡ Ok x → front_of bytes ≡ Some x
unfolding front_of
front_again bytes x e = rw (e, front_of) refl

pub front_of-enc : (tag : ℕ) (contents rest : List ℕ) → IsElement tag contents
    → front_of (enc tag contents ++ rest) ≡ Some (tag, (contents, rest))
front_of-enc tag contents rest h =
    front_again (enc tag contents ++ rest) (tag, (contents, rest)) (element_again tag contents rest h)

pub tagged_again : (tag : ℕ) (contents rest : List ℕ) → IsElement tag contents
    → tagged_of tag (enc tag contents ++ rest) ≡ Some (contents, rest)
unfolding tagged_of
tagged_again tag contents rest h =
    rw (
      front_again (enc tag contents ++ rest) (tag, (contents, rest)) (element_again tag contents rest h),
      eq-eqb tag tag refl,
    ) refl

pub contents_octets : (tag : ℕ) (contents rest bytes : List ℕ) → AreOctets bytes → bytes ≡ enc tag contents ++ rest
    → AreOctets contents
unfolding enc
contents_octets tag contents rest bytes octets e =
    let whole : AreOctets ((tag ∷ (length_octets (length contents) ++ contents)) ++ rest) = subst AreOctets e octets in
    AreOctets-right (tag ∷ length_octets (length contents)) contents
    (AreOctets-left (tag ∷ (length_octets (length contents) ++ contents)) rest whole)

long_falls : (k : ℕ) (bytes : List ℕ) (n : ℕ × List ℕ) → long_length_at k bytes ≡ Ok n → length n.1 ≤ length bytes
unfolding long_length_at
long_falls k [] n e = absurd cc
long_falls k (d ∷ ds) n e =
    let g = guard (eqb d 0 || (eqb k 1 && ltb d 128)) Malformed
    (cond (ltb (suc (length ds)) k) (Err Short)
    (Ok (number_from_digits 256 (take k (d ∷ ds)), drop k (d ∷ ds)))) n e in
    let h = guard (ltb (suc (length ds)) k) Short
    (Ok (number_from_digits 256 (take k (d ∷ ds)), drop k (d ∷ ds))) n g.1 in
    let made : ℕ × List ℕ = (number_from_digits 256 (take k (d ∷ ds)), drop k (d ∷ ds)) in
    subst (λ (m : ℕ × List ℕ). length m.1 ≤ suc (length ds)) (ok_is {E = DerFault} made n h.1)
    (omega (arith, length-drop k (d ∷ ds)))

length_falls : (bytes : List ℕ) (n : ℕ × List ℕ) → length_at bytes ≡ Ok n → length n.1 < length bytes
unfolding length_at
length_falls [] n e = absurd cc
length_falls (b ∷ bs) n e = elim (cases_lt b 128) [
  | inl lt ↦
      let made : ℕ × List ℕ = (b, bs) in
      let e' : ◌≡◌ {A = Result (ℕ × List ℕ) DerFault} (Ok (b, bs)) (Ok n) = rw (lt-ltb b 128 lt) at e in
      subst (λ (m : ℕ × List ℕ). length m.1 < suc (length bs)) (ok_is {E = DerFault} made n e') (omega arith)
  | inr le ↦
      let g = guard (eqb b 128 || ltb 132 b) Malformed (long_length_at (b - 128) bs) n (rw (le-ltb b 128 le) at e) in
      omega (arith, long_falls (b - 128) bs n g.1)
]

element_falls : (bytes : List ℕ) (x : ℕ × (List ℕ × List ℕ)) → element_at bytes ≡ Ok x → length x.1.1 < length bytes
unfolding element_at contents_at
element_falls [] x e = absurd cc
element_falls (tag ∷ bytes) x e =
    let g = guard (eqb (tag % 32) 31) Malformed (length_at bytes >>= contents_at tag) x e in
    let n = bind_ok (length_at bytes) (contents_at tag) x g.1 in
    let h = guard (ltb (length n.0.1) n.0.0) Short (Ok (tag, (take n.0.0 n.0.1, drop n.0.0 n.0.1))) x n.2 in
    let made : ℕ × (List ℕ × List ℕ) = (tag, (take n.0.0 n.0.1, drop n.0.0 n.0.1)) in
    subst (λ (y : ℕ × (List ℕ × List ℕ)). length y.1.1 < suc (length bytes)) (ok_is {E = DerFault} made x h.1)
    (omega (arith, length_falls bytes n.0 n.1, length-drop n.0.0 n.0.1))

tagged_falls : (tag : ℕ) (bytes : List ℕ) (x : List ℕ × List ℕ) → tagged_of tag bytes ≡ Some x
    → length x.1 < length bytes
unfolding tagged_of
tagged_falls tag bytes x e =
    let b = some_bind (front_of bytes) (λ x. cond (eqb x.0 tag) (Some x.1) None) x e in
    let g = cond_some (eqb b.0.0 tag) b.0.1 x b.2 in
    subst (λ (y : List ℕ × List ℕ). length y.1 < length bytes) g.1
    (element_falls bytes b.0 (front_take bytes b.0 b.1))

-- a tag whose low five bits aren't all ones
pub record IsTag (tag : ℕ) : Type 0 where
  pub octet : tag < 256
  pub low_bits : tag % 32 < 31

pub is_tag : (tag : ℕ) → IsTrue (ltb tag 256 && ltb (tag % 32) 31) → IsTag tag
is_tag tag h =
    let a = and_parts (ltb tag 256) (ltb (tag % 32) 31) h in
    record { octet = ltb-true _ _ a.0; low_bits = ltb-true _ _ a.1 }

pub element-front : {V : Type 0} {text : V → List ℕ} {IsValid : V → Type 0} {read : Whole V} (tag : ℕ)
    → IsTag tag → ((v : V) → IsValid v → length (text v) < 2 ^ 32)
    → IsWhole text IsValid read → IsFront (λ v. enc tag (text v)) IsValid (element tag read)
element-front {V} {text} {IsValid} {read} tag is-tag fits laws = record {
  takes = λ bytes x octets e.
      let b = some_bind (tagged_of tag bytes) (λ y. read y.0 >>? λ v. Some (v, y.1)) x e in
      let c = some_bind (read b.0.0) (λ v. Some (v, b.0.1)) x b.2 in
      let t = tagged_takes tag bytes b.0 octets b.1 in
      let in-contents = contents_octets tag b.0.0 b.0.1 bytes octets t.1 in
      let w = laws.takes b.0.0 c.0 in-contents c.1 in
      subst (λ (y : V × List ℕ). IsValid y.0 × (bytes ≡ enc tag (text y.0) ++ y.1)) (some_is (c.0, b.0.1) x c.2)
      (w.0, t.1 ∙ ap (λ (z : List ℕ). enc tag z ++ b.0.1) w.1);
  again = λ v rest valid. rw (
    tagged_again tag (text v) rest
        (record { octet = is-tag.octet; low_bits = is-tag.low_bits; fits = fits v valid }),
    laws.again v valid,
  ) refl;
}

-- the same where nothing else bounds the contents: the value's text exists only where they have fewer than 2^32
-- octets
pub sized-element-front : {V : Type 0} {text : V → List ℕ} {IsValid : V → Type 0} {read : Whole V} (tag : ℕ)
    → IsTag tag
    → IsWhole text IsValid read
    → IsFront (λ v. enc tag (text v)) (λ v. IsValid v × (length (text v) < 2 ^ 32)) (element tag read)
sized-element-front {V} {text} {IsValid} {read} tag is-tag laws = record {
  takes = λ bytes x octets e.
      let b = some_bind (tagged_of tag bytes) (λ y. read y.0 >>? λ v. Some (v, y.1)) x e in
      let c = some_bind (read b.0.0) (λ v. Some (v, b.0.1)) x b.2 in
      let t = tagged_takes tag bytes b.0 octets b.1 in
      let w = laws.takes b.0.0 c.0 (contents_octets tag b.0.0 b.0.1 bytes octets t.1) c.1 in
      subst (λ (y : V × List ℕ). (IsValid y.0 × (length (text y.0) < 2 ^ 32))
      × (bytes ≡ enc tag (text y.0) ++ y.1)) (some_is (c.0, b.0.1) x c.2) (
        (w.0, subst (λ (z : List ℕ). length z < 2 ^ 32) w.1 t.0.fits),
        t.1
            ∙ ap (λ (z : List ℕ). enc tag z ++ b.0.1) w.1,
      );
  again = λ v rest valid. rw (
    tagged_again tag (text v) rest
        (record { octet = is-tag.octet; low_bits = is-tag.low_bits; fits = valid.1 }),
    laws.again v valid.0,
  ) refl;
}

-- other words for the text and the valid values
pub same-front : {V : Type 0} {text text' : V → List ℕ} {IsValid IsValid' : V → Type 0} {read : Front V}
    → ((v : V) → IsValid v → IsValid' v × (text v ≡ text' v)) → ((v : V) → IsValid' v → IsValid v)
    → IsFront text IsValid read → IsFront text' IsValid' read
same-front {V} {text} {text'} {IsValid} {IsValid'} {read} forth back laws = record {
  takes = λ bytes x octets e.
      let t = laws.takes bytes x octets e in
      let u = forth x.0 t.0 in
      (u.0, t.1 ∙ ap (λ (z : List ℕ). z ++ x.1) u.1);
  again = λ v rest valid.
      let w = back v valid in
      ap (λ (z : List ℕ). read (z ++ rest)) (sym (forth v w).1) ∙ laws.again v rest w;
}

-- an element of any tag takes octets
pub element-falls : {V : Type 0} (tag : ℕ) (whole : Whole V) → (bytes : List ℕ) (x : V × List ℕ)
    → element tag whole bytes ≡ Some x → length x.1 < length bytes
element-falls {V} tag whole bytes x e =
    let c = some_bind (tagged_of tag bytes) (λ c. whole c.0 >>? λ v. Some (v, c.1)) x e in
    let r = some_bind (whole c.0.0) (λ v. Some (v, c.0.1)) x c.2 in
    subst (λ (y : V × List ℕ). length y.1 < length bytes) (some_is (r.0, c.0.1) x r.2)
    (tagged_falls tag bytes c.0 c.1)

-- the text begins with this octet
abbrev pub Begins : ℕ → List ℕ → Type 0
Begins tag text = (rest : List ℕ) × (text ≡ tag ∷ rest)

pub enc-begins : (tag : ℕ) (contents : List ℕ) → Begins tag (enc tag contents)
unfolding enc
enc-begins tag contents = (_, refl)
