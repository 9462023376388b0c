-- The laws of shapes: put together from parts that read exactly, they read exactly.
-- Those of elements at the front stand in Fronts, those of lists in Listed, and lengths in Lengths; they are passed
-- on here.
use Rattle.std.proofs.Common.{◌≡◌, ◌≢◌, ℕ, suc, ◌^◌, ◌<◌, ◌≤◌, Bool, true, false, cond, eqb}
use Rattle.std.proofs.Common.{ltb, ◌&&◌, List, [], ◌∷◌, ◌++◌, length, Option, Some, None, refl, sym, ap}
use Rattle.std.proofs.Common.{subst, ◌∙◌, arith, inl, inr, ◌⊎◌}
use Rattle.std.specs.Prelude.{IsTrue, IfSome, option_map}
use Rattle.std.proofs.lemmas.Bool.{eqb-true, eq-eqb, ne_eqb, ltb-true, lt-ltb, and_parts, cases_Bool}
use Rattle.std.proofs.lemmas.List.{append-nil, nil_from_length}
use Rattle.std.proofs.lemmas.Option.{cond_some, none-some}
use Rattle.der_core.specs.Element.{enc}
use Rattle.der_core.specs.Reading.{◌>>?◌, front_of}
use Rattle.der_core.specs.Reading.{tagged_of, number_of, oid_of, octets_of}
use Rattle.der_core.specs.Number.{number_contents}
use Rattle.der_core.specs.Objects.{IsOid}
use Rattle.der_core.specs.Reads.{Reads, Answers}
use Rattle.der_core.specs.Shapes.{Front, Whole, element, alone, before, optional, begins_with, choice, mapped}
use Rattle.der_core.specs.Shapes.{tested, text_if, anything, any_element, maybe_before, IsOneElement}
use Rattle.der_core.specs.Shapes.{IsFront, IsWhole}
use Rattle.der_core.proofs.Digits.{AreOctets, AreOctets-right}
use Rattle.der_core.proofs.Element.{element_takes, element_again}
use Rattle.der_core.proofs.Numbers.{some_bind, some_is, number_takes, number_again}
use Rattle.der_core.proofs.Objects.{oid_take, oid_again}
use Rattle.der_core.proofs.Fronts.{front_take, front_again}
pub use Rattle.der_core.proofs.Fronts.{tagged_takes, front_of-enc, tagged_again, IsTag, is_tag, element-front}
pub use Rattle.der_core.proofs.Fronts.{sized-element-front, same-front, element-falls, Begins, enc-begins}
pub use Rattle.der_core.proofs.Listed.{listed_more, listed_none, listed_end, listed-whole}
pub use Rattle.der_core.proofs.Lengths.{length-enc-le, length-number-le}

-- ---- one after the other

pub alone-whole : {V : Type 0} {text : V → List ℕ} {IsValid : V → Type 0} {read : Front V}
    → IsFront text IsValid read → IsWhole text IsValid (alone read)
alone-whole {V} {text} {IsValid} {read} laws = record {
  takes = λ bytes v octets e.
      let b = some_bind (read bytes) (λ x. cond (eqb (length x.1) 0) (Some x.0) None) v e in
      let g = cond_some (eqb (length b.0.1) 0) b.0.0 v b.2 in
      let t = laws.takes bytes b.0 octets b.1 in
      let nothing : b.0.1 ≡ [] = nil_from_length b.0.1 (eqb-true _ _ g.0) in
      subst (λ (x : V). IsValid x × (bytes ≡ text x)) g.1
      (t.0, t.1 ∙ ap (λ (rest : List ℕ). text b.0.0 ++ rest) nothing ∙ append-nil (text b.0.0));
  again = λ v valid. ap (alone read) (sym (append-nil (text v))) ∙ rw (laws.again v [] valid) refl;
}

pub before-whole : {V W : Type 0} {text : V → List ℕ} {IsValid : V → Type 0} {read : Front V}
    {text' : W → List ℕ} {IsValid' : W → Type 0} {read' : Whole W}
    → IsFront text IsValid read → IsWhole text' IsValid' read'
    → IsWhole (λ x. text x.0 ++ text' x.1) (λ x. IsValid x.0 × IsValid' x.1) (before read read')
before-whole {V} {W} {text} {IsValid} {read} {text'} {IsValid'} {read'} first second = record {
  takes = λ bytes x octets e.
      let b = some_bind (read bytes) (λ x. read' x.1 >>? λ w. Some (x.0, w)) x e in
      let c = some_bind (read' b.0.1) (λ w. Some (b.0.0, w)) x b.2 in
      let t = first.takes bytes b.0 octets b.1 in
      let u = second.takes b.0.1 c.0 (AreOctets-right (text b.0.0) b.0.1 (subst AreOctets t.1 octets)) c.1 in
      subst (λ (y : V × W). (IsValid y.0 × IsValid' y.1) × (bytes ≡ text y.0 ++ text' y.1))
      (some_is (b.0.0, c.0) x c.2)
      ((t.0, u.0), t.1 ∙ ap (λ (rest : List ℕ). text b.0.0 ++ rest) u.1);
  again = λ x valid. rw (first.again x.0 (text' x.1) valid.0, second.again x.1 valid.1) refl;
}

-- ---- parts that may be absent

pub optional-whole : {V : Type 0} {text : V → List ℕ} {IsValid : V → Type 0} {read : Whole V}
    → ((v : V) → IsValid v → 0 < length (text v))
    → IsWhole text IsValid read → IsWhole (text_if text) (λ o. IfSome o IsValid) (optional read)
optional-whole {V} {text} {IsValid} {read} some laws = record { takes = takes; again = again }
  where
    takes : (bytes : List ℕ) (o : Option V) → AreOctets bytes → optional read bytes ≡ Some o
        → IfSome o IsValid × (bytes ≡ text_if text o)
    takes [] o octets e =
        subst (λ (x : Option V). IfSome x IsValid × ([] ≡ text_if text x)) (some_is None o e) (tt, refl)
    takes (b ∷ bs) o octets e =
        let c = some_bind (read (b ∷ bs)) (λ v. Some (Some v)) o
        (rw (ne_eqb (suc (length bs)) 0 (λ e. omega arith)) at e) in
        subst (λ (x : Option V). IfSome x IsValid × (b ∷ bs ≡ text_if text x)) (some_is (Some c.0) o c.2)
        (laws.takes (b ∷ bs) c.0 octets c.1)

    again : (o : Option V) → IfSome o IsValid → optional read (text_if text o) ≡ Some o
    again None valid = refl
    again (Some v) valid =
        rw (ne_eqb (length (text v)) 0 (λ e. omega (arith, some v valid, e)), laws.again v valid) refl

-- ---- one of two

pub choice-front : {V : Type 0} {text : V → List ℕ} {This Other : V → Type 0} {this other : Front V} (tag : ℕ)
    → ((v : V) → This v → Begins tag (text v)) → ((v : V) → Other v → (b : ℕ) × (b ≢ tag) × Begins b (text v))
    → IsFront text This this → IsFront text Other other → IsFront text (λ v. This v ⊎ Other v) (choice tag this other)
choice-front {V} {text} {This} {Other} {this} {other} tag begins differs first second =
    record { takes = takes; again = again }
  where
    takes : (bytes : List ℕ) (x : V × List ℕ) → AreOctets bytes → choice tag this other bytes ≡ Some x
        → (This x.0 ⊎ Other x.0) × (bytes ≡ text x.0 ++ x.1)
    takes bytes x octets e = elim (cases_Bool (begins_with tag bytes)) [
      | inl is ↦ let t = first.takes bytes x octets (rw is at e) in (inl t.0, t.1)
      | inr isnt ↦ let t = second.takes bytes x octets (rw isnt at e) in (inr t.0, t.1)
    ]

    starts : (b : ℕ) (text rest : List ℕ) → Begins b text → begins_with tag (text ++ rest) ≡ eqb b tag
    starts b text rest h = rw h.1 refl

    again : (v : V) (rest : List ℕ) → This v ⊎ Other v → choice tag this other (text v ++ rest) ≡ Some (v, rest)
    again v rest (inl valid) =
        rw (starts tag (text v) rest (begins v valid), eq-eqb tag tag refl) (first.again v rest valid)
    again v rest (inr valid) =
        let d = differs v valid in
        rw (starts d.0 (text v) rest d.2, ne_eqb d.0 tag d.1) (second.again v rest valid)

-- ---- values in another form, and a test

pub mapped-whole : {V W : Type 0} {text : V → List ℕ} {IsValid : V → Type 0} {read : Whole V}
    {text' : W → List ℕ} {IsValid' : W → Type 0} (f : V → W)
    → ((v : V) → IsValid v → IsValid' (f v) × (text v ≡ text' (f v)))
    → ((w : W) → IsValid' w → (v : V) × IsValid v × (f v ≡ w))
    → IsWhole text IsValid read → IsWhole text' IsValid' (mapped f read)
mapped-whole {V} {W} {text} {IsValid} {read} {text'} {IsValid'} f forth back laws = record {
  takes = λ bytes w octets e.
      let b = some_bind (read bytes) (λ v. Some (f v)) w e in
      let t = laws.takes bytes b.0 octets b.1 in
      let u = forth b.0 t.0 in
      subst (λ (x : W). IsValid' x × (bytes ≡ text' x)) (some_is (f b.0) w b.2) (u.0, t.1 ∙ u.1);
  again = λ w valid.
      let b = back w valid in
      subst (λ (x : W). mapped f read (text' x) ≡ Some x) b.2
      (ap (mapped f read) (sym (forth b.0 b.1).1) ∙ rw (laws.again b.0 b.1) refl);
}

pub tested-whole : {V : Type 0} {text : V → List ℕ} {IsValid : V → Type 0} {read : Whole V} (p : V → Bool)
    → IsWhole text IsValid read → IsWhole text (λ v. IsValid v × IsTrue (p v)) (tested p read)
tested-whole {V} {text} {IsValid} {read} p laws = record {
  takes = λ bytes v octets e.
      let b = some_bind (read bytes) (λ x. cond (p x) (Some x) None) v e in
      let g = cond_some (p b.0) b.0 v b.2 in
      let t = laws.takes bytes b.0 octets b.1 in
      subst (λ (x : V). (IsValid x × IsTrue (p x)) × (bytes ≡ text x)) g.1 ((t.0, g.0), t.1);
  again = λ v valid. rw (laws.again v valid.0, valid.1) refl;
}

element_made : {V : Type 0} (tag : ℕ) (read : Whole V) (bytes : List ℕ) (c : List ℕ × List ℕ) (v : V)
    → tagged_of tag bytes ≡ Some c → read c.0 ≡ Some v → element tag read bytes ≡ Some (v, c.1)
element_made tag read bytes c v found is = rw (found, is) refl

-- one of two elements, told apart by their tags; f and g are the two kinds of value
pub choice-elements : {A B V : Type 0} {text : V → List ℕ} {IsValid : V → Type 0}
    {text-a : A → List ℕ} {IsValid-a : A → Type 0} {read-a : Whole A}
    {text-b : B → List ℕ} {IsValid-b : B → Type 0} {read-b : Whole B}
    (tag-a tag-b : ℕ) (f : A → V) (g : B → V) → IsTag tag-a → IsTag tag-b → (tag-b ≢ tag-a)
    → ((a : A) → IsValid-a a → IsValid (f a) × (length (text-a a) < 2 ^ 32) × (enc tag-a (text-a a) ≡ text (f a)))
    → ((b : B) → IsValid-b b → IsValid (g b) × (length (text-b b) < 2 ^ 32) × (enc tag-b (text-b b) ≡ text (g b)))
    → ((v : V) → IsValid v → ((a : A) × IsValid-a a × (f a ≡ v)) ⊎ ((b : B) × IsValid-b b × (g b ≡ v)))
    → IsWhole text-a IsValid-a read-a → IsWhole text-b IsValid-b read-b
    → IsFront text IsValid (choice tag-a (element tag-a (mapped f read-a)) (element tag-b (mapped g read-b)))
choice-elements {A} {B} {V} {text} {IsValid} {text-a} {IsValid-a} {read-a} {text-b} {IsValid-b} {read-b}
    tag-a tag-b f g is-a is-b apart of-a of-b cases laws-a laws-b =
    record { takes = takes; again = again }
  where
    front-a : IsFront (λ a. enc tag-a (text-a a)) IsValid-a (element tag-a read-a)
    front-a = element-front tag-a is-a (λ a h. (of-a a h).1) laws-a

    front-b : IsFront (λ b. enc tag-b (text-b b)) IsValid-b (element tag-b read-b)
    front-b = element-front tag-b is-b (λ b h. (of-b b h).1) laws-b

    -- the value of an element in another form
    inside : {X : Type 0} (tag : ℕ) (h : X → V) (read : Whole X) (bytes : List ℕ) (x : V × List ℕ)
        → element tag (mapped h read) bytes ≡ Some x
        → (y : X × List ℕ) × (element tag read bytes ≡ Some y) × ((h y.0, y.1) ≡ x)
    inside {X} tag h read bytes x e =
        let c = some_bind (tagged_of tag bytes) (λ c. mapped h read c.0 >>? λ v. Some (v, c.1)) x e in
        let m = some_bind (mapped h read c.0.0) (λ v. Some (v, c.0.1)) x c.2 in
        let r = some_bind (read c.0.0) (λ y. Some (h y)) m.0 m.1 in
        let same : (h r.0, c.0.1) ≡ x =
        subst (λ (v : V). (v, c.0.1) ≡ x) (sym (some_is (h r.0) m.0 r.2)) (some_is (m.0, c.0.1) x m.2) in
        ((r.0, c.0.1), element_made tag read bytes c.0 r.0 c.1 r.1, same)

    mapped_is : {X : Type 0} (h : X → V) (read : Whole X) (bytes : List ℕ) (v : X) → read bytes ≡ Some v
        → mapped h read bytes ≡ Some (h v)
    mapped_is h read bytes v e = rw e refl

    outside : {X : Type 0} (tag : ℕ) (h : X → V) (read : Whole X) (bytes : List ℕ) (y : X × List ℕ)
        → element tag read bytes ≡ Some y → element tag (mapped h read) bytes ≡ Some (h y.0, y.1)
    outside {X} tag h read bytes y e =
        let c = some_bind (tagged_of tag bytes) (λ c. read c.0 >>? λ v. Some (v, c.1)) y e in
        let r = some_bind (read c.0.0) (λ v. Some (v, c.0.1)) y c.2 in
        let same : (r.0, c.0.1) ≡ y = some_is (r.0, c.0.1) y r.2 in
        subst (λ (z : X × List ℕ). element tag (mapped h read) bytes ≡ Some (h z.0, z.1)) same
        (element_made tag (mapped h read) bytes c.0 (h r.0) c.1 (mapped_is h read c.0.0 r.0 r.1))

    takes : (bytes : List ℕ) (x : V × List ℕ) → AreOctets bytes
        → choice tag-a (element tag-a (mapped f read-a)) (element tag-b (mapped g read-b)) bytes ≡ Some x
        → IsValid x.0 × (bytes ≡ text x.0 ++ x.1)
    takes bytes x octets e = elim (cases_Bool (begins_with tag-a bytes)) [
      | inl is ↦
          let i = inside tag-a f read-a bytes x (rw is at e) in
          let t = front-a.takes bytes i.0 octets i.1 in
          let o = of-a i.0.0 t.0 in
          subst (λ (y : V × List ℕ). IsValid y.0 × (bytes ≡ text y.0 ++ y.1)) i.2
          (o.0, t.1 ∙ ap (λ (z : List ℕ). z ++ i.0.1) o.2)
      | inr isnt ↦
          let i = inside tag-b g read-b bytes x (rw isnt at e) in
          let t = front-b.takes bytes i.0 octets i.1 in
          let o = of-b i.0.0 t.0 in
          subst (λ (y : V × List ℕ). IsValid y.0 × (bytes ≡ text y.0 ++ y.1)) i.2
          (o.0, t.1 ∙ ap (λ (z : List ℕ). z ++ i.0.1) o.2)
    ]

    starts : (tag tag' : ℕ) (contents rest : List ℕ) → begins_with tag (enc tag' contents ++ rest) ≡ eqb tag' tag
    starts tag tag' contents rest = rw (enc-begins tag' contents).1 refl

    again : (v : V) (rest : List ℕ) → IsValid v
        → choice tag-a (element tag-a (mapped f read-a)) (element tag-b (mapped g read-b))
        (text v ++ rest) ≡ Some (v, rest)
    again v rest valid = elim (cases v valid) [
      | inl h ↦
          subst (λ
          (w : V). choice tag-a (element tag-a (mapped f read-a)) (element tag-b (mapped g read-b))
          (text w ++ rest) ≡ Some (w, rest)) h.2 (of-this h.0 h.1)
      | inr h ↦
          subst (λ
          (w : V). choice tag-a (element tag-a (mapped f read-a)) (element tag-b (mapped g read-b))
          (text w ++ rest) ≡ Some (w, rest)) h.2 (of-other h.0 h.1)
    ]
      where
        of-this : (a : A) → IsValid-a a
            → choice tag-a (element tag-a (mapped f read-a)) (element tag-b (mapped g read-b))
            (text (f a) ++ rest) ≡ Some (f a, rest)
        of-this a h =
            rw (← (of-a a h).2, starts tag-a tag-a (text-a a) rest, eq-eqb tag-a tag-a refl)
            (outside tag-a f read-a (enc tag-a (text-a a) ++ rest) (a, rest) (front-a.again a rest h))

        of-other : (b : B) → IsValid-b b
            → choice tag-a (element tag-a (mapped f read-a)) (element tag-b (mapped g read-b))
            (text (g b) ++ rest) ≡ Some (g b, rest)
        of-other b h =
            rw (← (of-b b h).2, starts tag-a tag-b (text-b b) rest, ne_eqb tag-b tag-a apart)
            (outside tag-b g read-b (enc tag-b (text-b b) ++ rest) (b, rest) (front-b.again b rest h))

-- ---- a reader that answers so reads exactly

pub IsWhole-reads : {V : Type 0} {text : V → List ℕ} {IsValid : V → Type 0} {read : Whole V} (bytes : List ℕ)
    (result : Option V) → IsWhole text IsValid read → AreOctets bytes → result ≡ read bytes
    → Reads text IsValid bytes result
IsWhole-reads bytes result laws octets e v =
    (λ is. laws.takes bytes v octets (sym e ∙ is), λ h. e ∙ rw h.1 (laws.again v h.0))

pub Answers-reads : {R V : Type 0} {text : V → List ℕ} {IsValid : V → Type 0} {read : Whole V} (view : R → V)
    (bytes : List ℕ) (result : Option R)
    → IsWhole text IsValid read → AreOctets bytes → Answers view result (read bytes)
    → Reads text IsValid bytes (option_map view result)
Answers-reads view bytes (Some x) laws octets e = IsWhole-reads bytes (Some (view x)) laws octets (sym e)
Answers-reads view bytes None laws octets e = IsWhole-reads bytes None laws octets (sym e)

-- ---- leaves

pub number-whole : IsWhole number_contents (λ n. n < 2 ^ 128) number_of
number-whole =
    record { takes = λ bytes n octets e. number_takes bytes n octets e; again = λ n small. number_again n small }

pub oid-whole : IsWhole (λ (id : List ℕ). id) IsOid oid_of
oid-whole = record { takes = λ bytes id octets e. oid_take bytes id octets e; again = λ id h. oid_again id h }

-- octets of 1 to 64
pub octets-whole : IsWhole (λ (octets : List ℕ). octets)
    (λ octets. (0 < length octets) × (length octets ≤ 64)) octets_of
unfolding octets_of
octets-whole = record {
  takes = λ bytes octets are e.
      let g = cond_some (ltb 0 (length bytes) && ltb (length bytes) 65) bytes octets e in
      let b = and_parts (ltb 0 (length bytes)) (ltb (length bytes) 65) g.0 in
      subst (λ (x : List ℕ). ((0 < length x) × (length x ≤ 64)) × (bytes ≡ x)) g.1
      ((ltb-true _ _ b.0, omega (arith, ltb-true _ _ b.1)), refl);
  again = λ octets h. rw (lt-ltb 0 (length octets) h.0, lt-ltb (length octets) 65 (omega (arith, h.1))) refl;
}

pub IsWhole-answers : {V : Type 0} {text : V → List ℕ} {IsValid : V → Type 0} {read : Whole V} (bytes : List ℕ)
    (result : Option V)
    → IsWhole text IsValid read → AreOctets bytes → Answers (λ v. v) result (read bytes)
    → Reads text IsValid bytes result
IsWhole-answers bytes (Some x) laws octets e = IsWhole-reads bytes (Some x) laws octets (sym e)
IsWhole-answers bytes None laws octets e = IsWhole-reads bytes None laws octets (sym e)

-- ---- what a caller has from an exact reader

pub Reads-some : {V : Type 0} {text : V → List ℕ} {IsValid : V → Type 0} (bytes : List ℕ) (v : V)
    → Reads text IsValid bytes (Some v) → IsValid v × (bytes ≡ text v)
Reads-some bytes v reads = (reads v).0 refl

pub Reads-none : {V : Type 0} {text : V → List ℕ} {IsValid : V → Type 0} (bytes : List ℕ)
    → Reads text IsValid bytes None → (v : V) → IsValid v → bytes ≡ text v → ⊥
Reads-none bytes reads v valid is = let wrong = (reads v).1 (valid, is) in none-some v wrong

-- ---- parts that are kept as octets

pub anything-whole : IsWhole (λ (octets : List ℕ). octets) (λ _. Unit {0}) anything
anything-whole = record { takes = λ bytes v octets e. (tt, some_is bytes v e); again = λ v valid. refl }

pub any_element-front : IsFront (λ (octets : List ℕ). octets) IsOneElement any_element
any_element-front = record { takes = takes; again = again }
  where
    takes : (bytes : List ℕ) (x : List ℕ × List ℕ) → AreOctets bytes → any_element bytes ≡ Some x
        → IsOneElement x.0 × (bytes ≡ x.0 ++ x.1)
    takes bytes x octets e =
        let b = some_bind (front_of bytes) (λ y. Some (enc y.0 y.1.0, y.1.1)) x e in
        let t = element_takes bytes b.0 octets (front_take bytes b.0 b.1) in
        subst (λ (y : List ℕ × List ℕ). IsOneElement y.0 × (bytes ≡ y.0 ++ y.1))
        (some_is (enc b.0.0 b.0.1.0, b.0.1.1) x b.2) ((b.0.0, b.0.1.0, t.0, refl), t.1)

    again : (v rest : List ℕ) → IsOneElement v → any_element (v ++ rest) ≡ Some (v, rest)
    again v rest (tag, contents, h, is) =
        rw (
          is,
          front_again (enc tag contents ++ rest) (tag, (contents, rest))
              (element_again tag contents rest h),
        ) refl

-- ---- a part with a tag of its own that may be absent, before others

pub maybe_before-whole : {V W : Type 0} {text : V → List ℕ} {IsValid : V → Type 0} {read : Front V}
    {text' : W → List ℕ} {IsValid' : W → Type 0} {read' : Whole W} (tag : ℕ)
    → ((v : V) → IsValid v → Begins tag (text v)) → ((w : W) → IsValid' w → begins_with tag (text' w) ≡ false)
    → IsFront text IsValid read → IsWhole text' IsValid' read'
    → IsWhole (λ x. text_if text x.0 ++ text' x.1) (λ x. IfSome x.0 IsValid × IsValid' x.1)
    (maybe_before tag read read')
maybe_before-whole {V} {W} {text} {IsValid} {read} {text'} {IsValid'} {read'} tag begins differs first second =
    record { takes = takes; again = λ x valid. again x.0 x.1 valid.0 valid.1 }
  where
    takes : (bytes : List ℕ) (x : Option V × W) → AreOctets bytes → maybe_before tag read read' bytes ≡ Some x
        → (IfSome x.0 IsValid × IsValid' x.1) × (bytes ≡ text_if text x.0 ++ text' x.1)
    takes bytes x octets e = elim (cases_Bool (begins_with tag bytes)) [
      | inl is ↦
          let b = some_bind (read bytes) (λ x. read' x.1 >>? λ w. Some (Some x.0, w)) x (rw is at e) in
          let c = some_bind (read' b.0.1) (λ w. Some (Some b.0.0, w)) x b.2 in
          let t = first.takes bytes b.0 octets b.1 in
          let u = second.takes b.0.1 c.0 (AreOctets-right (text b.0.0) b.0.1 (subst AreOctets t.1 octets)) c.1 in
          subst (λ (y : Option V × W). (IfSome y.0 IsValid × IsValid' y.1)
          × (bytes ≡ text_if text y.0 ++ text' y.1)) (some_is (Some b.0.0, c.0) x c.2)
          ((t.0, u.0), t.1 ∙ ap (λ (rest : List ℕ). text b.0.0 ++ rest) u.1)
      | inr isnt ↦
          let c = some_bind (read' bytes) (λ w. Some (None, w)) x (rw isnt at e) in
          let u = second.takes bytes c.0 octets c.1 in
          subst (λ (y : Option V × W). (IfSome y.0 IsValid × IsValid' y.1)
          × (bytes ≡ text_if text y.0 ++ text' y.1)) (some_is (None, c.0) x c.2) ((tt, u.0), u.1)
    ]

    starts : (text rest : List ℕ) → Begins tag text → begins_with tag (text ++ rest) ≡ true
    starts text rest h = rw h.1 (eq-eqb tag tag refl)

    again : (o : Option V) (w : W) → IfSome o IsValid → IsValid' w
        → maybe_before tag read read' (text_if text o ++ text' w) ≡ Some (o, w)
    again None w valid valid' = rw (differs w valid', second.again w valid') refl
    again (Some v) w valid valid' =
        rw (starts (text v) (text' w) (begins v valid), first.again v (text' w) valid, second.again w valid') refl
