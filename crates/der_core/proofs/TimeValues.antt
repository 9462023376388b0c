-- Times as values: a form and a moment that it spells.
use Rattle.std.proofs.Common.{◌≡◌, ℕ, ◌^◌, ◌<◌, eqb, List, [], ◌++◌, length, Option, Some, None, refl, sym, ap, subst, ◌∙◌, arith, inl, inr}
use Rattle.std.specs.Prelude.{◌↔◌}
use Rattle.std.proofs.lemmas.Bool.{cases_Bool, eqb-true}
use Rattle.std.proofs.lemmas.Option.{none-some}
use Rattle.der_core.specs.declared.time_value.Time.{Time}
use Rattle.der_core.specs.declared.time_value.TimeForm.{TimeForm}
use Rattle.der_core.specs.declared.time_value.TimeForm.TheVariants.{Utc, Generalized}
use Rattle.der_core.specs.Element.{enc, IsElement}
use Rattle.der_core.specs.Reading.{◌>>?◌, front_of}
use Rattle.der_core.specs.Reads.{Answers}
use Rattle.der_core.specs.Shapes.{IsFront, IsWhole}
use Rattle.der_core.specs.Time.{form_tag, form_contents, IsInForm, IsTime, time_text, written_form, time_tag, time_contents}
use Rattle.der_core.specs.TimeReading.{time_of, form_of, form_and_moment_of, time_at}
use Rattle.der_core.proofs.Digits.{AreOctets}
use Rattle.der_core.proofs.Element.{element_takes}
use Rattle.der_core.proofs.Fronts.{front_take, front_of-enc, contents_octets}
use Rattle.der_core.proofs.Numbers.{some_bind, some_is}
use Rattle.der_core.proofs.Times.{utc_time-whole, generalized_time-whole, length-utc, length-generalized}

form_again : (form : TimeForm) → form_of (form_tag form) ≡ Some form
form_again Utc = refl
form_again Generalized = refl

form_take : (tag : ℕ) (form : TimeForm) → form_of tag ≡ Some form → tag ≡ form_tag form
form_take tag form e = elim (cases_Bool (eqb tag 0x17)) [
  | inl utc ↦
      subst (λ (f : TimeForm). tag ≡ form_tag f) (form_is Utc form (rw utc at e)) (eqb-true tag 0x17 utc)
  | inr other ↦ elim (cases_Bool (eqb tag 0x18)) [
    | inl generalized ↦
        subst (λ (f : TimeForm). tag ≡ form_tag f) (form_is Generalized form (rw generalized at (rw other at e)))
        (eqb-true tag 0x18 generalized)
    | inr none ↦ absurd (none-some form (rw none at (rw other at e)))
  ]
]
  where
    form_is : (f g : TimeForm) → ◌≡◌ {A = Option TimeForm} (Some f) (Some g) → f ≡ g
    form_is f g e = cc

in_form-whole : (form : TimeForm) → IsWhole (form_contents form) (IsInForm form) (time_of (form_tag form))
in_form-whole Utc = utc_time-whole
in_form-whole Generalized = generalized_time-whole

length-form_contents : (form : TimeForm) (moment : ℕ) → length (form_contents form moment) < 2 ^ 32
length-form_contents Utc moment = omega (arith, length-utc moment)
length-form_contents Generalized moment = omega (arith, length-generalized moment)

time_element : (time : Time) → IsElement (form_tag time.form) (form_contents time.form time.moment)
time_element time = of_form time.form time.moment
  where
    of_form : (form : TimeForm) (moment : ℕ) → IsElement (form_tag form) (form_contents form moment)
    of_form Utc moment =
        record { octet = omega arith; low_bits = omega arith; fits = length-form_contents Utc moment }
    of_form Generalized moment =
        record { octet = omega arith; low_bits = omega arith; fits = length-form_contents Generalized moment }

-- ---- by tag and contents

value_take : (tag : ℕ) (contents : List ℕ) (time : Time) → AreOctets contents
    → form_and_moment_of tag contents ≡ Some time
    → IsTime time × (tag ≡ form_tag time.form) × (contents ≡ form_contents time.form time.moment)
unfolding form_and_moment_of
value_take tag contents time octets e =
    let f = some_bind (form_of tag)
    (λ form. time_of tag contents >>? λ moment. Some (record { form = form; moment = moment })) time e in
    let m = some_bind (time_of tag contents) (λ moment. Some (record { form = f.0; moment = moment })) time f.2 in
    let tag-is = form_take tag f.0 f.1 in
    let t = (in_form-whole f.0).takes contents m.0 octets (ap (λ (k : ℕ). time_of k contents) (sym tag-is) ∙ m.1) in
    subst (λ (u : Time). IsTime u × (tag ≡ form_tag u.form) × (contents ≡ form_contents u.form u.moment))
    (some_is (record { form = f.0; moment = m.0 }) time m.2) (t.0, tag-is, t.1)

value_again : (time : Time) → IsTime time
    → form_and_moment_of (form_tag time.form) (form_contents time.form time.moment) ≡ Some time
unfolding form_and_moment_of
value_again time valid =
    rw (form_again time.form, (in_form-whole time.form).again time.moment valid) refl

pub value_says : (tag : ℕ) (contents : List ℕ) (result : Option Time) → AreOctets contents
    → Answers (λ time. time) result (form_and_moment_of tag contents) → (time : Time)
    → (result ≡ Some time)
    ↔ (IsTime time × (tag ≡ form_tag time.form) × (contents ≡ form_contents time.form time.moment))
value_says tag contents result octets e time = (
  λ is. value_take tag contents time octets (same result e ∙ is),
  λ h. sym (same result e)
      ∙ rw (h.1, h.2) (value_again time h.0),
)
  where
    same : (result : Option Time) → Answers (λ time. time) result (form_and_moment_of tag contents)
        → form_and_moment_of tag contents ≡ result
    same (Some t) e = e
    same None e = e

-- ---- the element at the front

enc_same : (tag tag' : ℕ) (contents contents' rest : List ℕ) → tag ≡ tag' → contents ≡ contents'
    → enc tag contents ++ rest ≡ enc tag' contents' ++ rest
enc_same tag tag' contents contents' rest e f = rw (e, f) refl

pub time-front : IsFront time_text IsTime time_at
unfolding time_at
time-front = record {
  takes = λ bytes x octets e.
      let b = some_bind (front_of bytes) (λ y. form_and_moment_of y.0 y.1.0 >>? λ time. Some (time, y.1.1)) x e in
      let c = some_bind (form_and_moment_of b.0.0 b.0.1.0) (λ time. Some (time, b.0.1.1)) x b.2 in
      let t = element_takes bytes b.0 octets (front_take bytes b.0 b.1) in
      let v = value_take b.0.0 b.0.1.0 c.0 (contents_octets b.0.0 b.0.1.0 b.0.1.1 bytes octets t.1) c.1 in
      subst (λ (y : Time × List ℕ). IsTime y.0 × (bytes ≡ time_text y.0 ++ y.1)) (some_is (c.0, b.0.1.1) x c.2)
      (v.0, t.1 ∙ enc_same _ _ _ _ b.0.1.1 v.1 v.2);
  again = λ time rest valid.
      rw (
        front_of-enc (form_tag time.form) (form_contents time.form time.moment) rest (time_element time),
        value_again time valid,
      ) refl;
}

pub one_text : (t u : Time) → IsTime t → IsTime u → time_text t ≡ time_text u → t ≡ u
one_text t u h k e = ap (λ (x : Time × List ℕ). x.0)
    (some_is (t, []) (u, []) (sym (time-front.again t [] h) ∙ ap (λ (x : List ℕ). time_at (x ++ [])) e
    ∙ time-front.again u [] k))

-- the element of a moment that is written
pub written_element : (moment : ℕ) → IsElement (time_tag moment) (time_contents moment)
written_element moment = time_element (record { form = written_form moment; moment = moment })
