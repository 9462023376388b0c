-- The parts before a content are read where they stand, and only there; and what is missing.
use Rattle.std.proofs.Common.{◌≡◌, ℕ, ◌+◌, ◌-◌, ◌≤◌, Bool, true, false, cond, eqb, ltb, leb}
use Rattle.std.proofs.Common.{◌&&◌, List, [], ◌∷◌, ◌++◌, length, take, drop, Result, Ok, Err, refl, sym, ap, subst}
use Rattle.std.proofs.Common.{◌∙◌, append_assoc, arith, inl, inr, ◌⊎◌}
use Rattle.std.proofs.lemmas.Bool.{cases_Bool, and_parts, eqb-true, eq-eqb, ltb-true, ltb-false, le-ltb}
use Rattle.std.proofs.lemmas.Bool.{leb-true, le-leb}
use Rattle.std.proofs.lemmas.List.{length-append, length-take, take-append-drop, take_at, drop_at}
use Rattle.std.proofs.lemmas.List.{append-nil}
use Rattle.der_core.specs.declared.fault.DerFault.{DerFault}
use Rattle.der_core.specs.declared.fault.DerFault.TheVariants.{Short, Malformed}
use Rattle.der_core.specs.Element.{enc, IsElement, length_octets}
use Rattle.der_core.specs.Head.{head_octets, IsHead, head_at}
use Rattle.der_core.specs.Reading.{◌>>=◌}
use Rattle.der_core.proofs.Digits.{AreOctets, AreOctets-right}
use Rattle.der_core.proofs.Element.{bind_ok}
use Rattle.der_core.proofs.HeadLemmas.{head_takes, head_again, head_malformed}
use Rattle.cms_signed.specs.declared.cut.Missing.{Missing}
use Rattle.cms_signed.specs.declared.cut.Missing.TheVariants.{More, Never}
use Rattle.cms_signed.specs.Cut.{HeadPart, Opens, Has, IsPart, AreParts}
use Rattle.cms_signed.specs.CutReading.{CanCome, open_from, open_at, contents_from, contents_of, has_from, has_at}
use Rattle.cms_signed.specs.CutReading.{part_at, parts_at}

-- ---- results

abbrev Answer : Type 0
Answer = Result (ℕ × List ℕ) Missing

-- a test that did not fail
passed : {A E : Type 0} (b : Bool) (x y : A) (e : E) → cond b (Ok x) (Err e) ≡ Ok y → (b ≡ true) × (x ≡ y)
passed true x y e is = (refl, cc)
passed false x y e is = absurd cc

failed : {A E : Type 0} (b : Bool) (x : A) (d e : E) → cond b (Ok x) (Err d) ≡ Err e → (b ≡ false) × (d ≡ e)
failed true x d e is = absurd cc
failed false x d e is = (refl, cc)

both : {A E : Type 0} (r : Result A E) (x : A) (e : E) → r ≡ Ok x → r ≡ Err e → ⊥
both {A} {E} r x e is isnt = let wrong : ◌≡◌ {A = Result A E} (Ok x) (Err e) = sym is ∙ isnt in cc

-- what fails on octets and not on more of them has more
some_more : {A : Type 0} (read : List ℕ → Result A Missing) (bytes more : List ℕ) (m : Missing) (x : A)
    → read bytes ≡ Err m → read (bytes ++ more) ≡ Ok x → 1 ≤ length more
some_more read bytes [] m x e is = absurd (both (read (bytes ++ [])) x m is (ap read (append-nil bytes) ∙ e))
some_more read bytes (o ∷ more) m x e is = omega arith

-- ---- one step

-- reads what stands at the front as Is says, and tells how many more octets are missing at least
pub record IsStep (read : List ℕ → Answer) (Is : List ℕ → ℕ → Type 0) : Type 0 where
  pub takes : (bytes : List ℕ) (x : ℕ × List ℕ) → AreOctets bytes → read bytes ≡ Ok x
      → (front : List ℕ) × Is front x.0 × (bytes ≡ front ++ x.1)
  pub again : (front : List ℕ) (after : ℕ) (rest : List ℕ) → Is front after → read (front ++ rest) ≡ Ok (after, rest)
  pub goes : (bytes : List ℕ) (m : Missing) (more : List ℕ) (x : ℕ × List ℕ) → AreOctets bytes → read bytes ≡ Err m
      → read (bytes ++ more) ≡ Ok x → CanCome m (length more)
  pub some : (bytes : List ℕ) (m : Missing) → read bytes ≡ Err m → CanCome m 0 → ⊥

-- ---- a head

head-length : (bytes rest : List ℕ) (tag size : ℕ) → bytes ≡ head_octets tag size ++ rest
    → length bytes - length rest ≡ length (head_octets tag size)
head-length bytes rest tag size e =
    omega (arith, ap length e, length-append (head_octets tag size) rest)

pub open_takes : (tag left : ℕ) (bytes : List ℕ) (x : ℕ × List ℕ) → AreOctets bytes → open_at tag left bytes ≡ Ok x
    → IsHead tag x.0 × (length (head_octets tag x.0) + x.0 ≤ left) × (bytes ≡ head_octets tag x.0 ++ x.1)
unfolding open_at
open_takes tag left bytes x octets e = by_case (head_at bytes) refl e
  where
    by_case : (r : Result (ℕ × (ℕ × List ℕ)) DerFault) → head_at bytes ≡ r
        → open_from tag left (length bytes) r ≡ Ok x
        → IsHead tag x.0 × (length (head_octets tag x.0) + x.0 ≤ left) × (bytes ≡ head_octets tag x.0 ++ x.1)
    by_case (Err Short) was e = absurd cc
    by_case (Err Malformed) was e = absurd cc
    by_case (Ok y) was e =
        let p = passed (eqb y.0 tag && leb ((length bytes - length y.1.1) + y.1.0) left) y.1 x Never e in
        let tests = and_parts (eqb y.0 tag) (leb ((length bytes - length y.1.1) + y.1.0) left) p.0 in
        let t = head_takes bytes y octets was in
        let tag-is : y.0 ≡ tag = eqb-true y.0 tag tests.0 in
        let fits = leb-true _ _ tests.1 in
        let made : IsHead y.0 y.1.0 × (length (head_octets y.0 y.1.0) + y.1.0 ≤ left)
        × (bytes ≡ head_octets y.0 y.1.0 ++ y.1.1)
        = (t.0, omega (arith, fits, head-length bytes y.1.1 y.0 y.1.0 t.1), t.1) in
        subst (λ (z : ℕ × List ℕ). IsHead tag z.0 × (length (head_octets tag z.0) + z.0 ≤ left)
        × (bytes ≡ head_octets tag z.0 ++ z.1)) p.1
        (subst (λ (k : ℕ). IsHead k y.1.0 × (length (head_octets k y.1.0) + y.1.0 ≤ left)
        × (bytes ≡ head_octets k y.1.0 ++ y.1.1)) tag-is made)

pub open_again : (tag left size : ℕ) (rest : List ℕ) → IsHead tag size
    → length (head_octets tag size) + size ≤ left → open_at tag left (head_octets tag size ++ rest) ≡ Ok (size, rest)
unfolding open_at
open_again tag left size rest h fits =
    let same = head-length (head_octets tag size ++ rest) rest tag size refl in
    rw (
      head_again tag size rest h,
      eq-eqb tag tag refl,
      same,
      le-leb (length (head_octets tag size) + size) left fits,
    ) refl

open_again_on : (tag left : ℕ) (bytes more : List ℕ) (x : ℕ × List ℕ) → AreOctets bytes → open_at tag left bytes ≡ Ok x
    → open_at tag left (bytes ++ more) ≡ Ok (x.0, x.1 ++ more)
open_again_on tag left bytes more x octets e =
    let t = open_takes tag left bytes x octets e in
    ap (open_at tag left) (ap (λ (y : List ℕ). y ++ more) t.2 ∙ append_assoc (head_octets tag x.0) x.1 more)
    ∙ open_again tag left x.0 (x.1 ++ more) t.0 t.1

open_never : (tag left : ℕ) (bytes more : List ℕ) (x : ℕ × List ℕ) → AreOctets bytes
    → open_at tag left bytes ≡ Err Never → open_at tag left (bytes ++ more) ≡ Ok x → ⊥
unfolding open_at
open_never tag left bytes more x octets e is = by_case (head_at bytes) refl e
  where
    by_case : (r : Result (ℕ × (ℕ × List ℕ)) DerFault) → head_at bytes ≡ r
        → open_from tag left (length bytes) r ≡ Err Never → ⊥
    by_case (Err Short) was e = cc
    by_case (Err Malformed) was e =
        let wrong : ◌≡◌ {A = Answer} (Err Never) (Ok x) = rw (head_malformed bytes more was) at is in cc
    by_case (Ok y) was e =
        let f = failed (eqb y.0 tag && leb ((length bytes - length y.1.1) + y.1.0) left) y.1 Never Never e in
        let t = head_takes bytes y octets was in
        let on : head_at (bytes ++ more) ≡ Ok (y.0, (y.1.0, y.1.1 ++ more)) =
        ap head_at (ap (λ (z : List ℕ). z ++ more) t.1 ∙ append_assoc (head_octets y.0 y.1.0) y.1.1 more)
        ∙ head_again y.0 y.1.0 (y.1.1 ++ more) t.0 in
        let same : length (bytes ++ more) - length (y.1.1 ++ more) ≡ length bytes - length y.1.1 =
        omega (arith, length-append bytes more, length-append y.1.1 more) in
        let wrong : ◌≡◌ {A = Answer} (Err Never) (Ok x) = rw f.0 at (rw same at (rw on at is)) in cc

open_more : (tag left : ℕ) (bytes : List ℕ) (m : Missing) → open_at tag left bytes ≡ Err m
    → (m ≡ More 1) ⊎ (m ≡ Never)
unfolding open_at
open_more tag left bytes m e = by_case (head_at bytes) e
  where
    by_case : (r : Result (ℕ × (ℕ × List ℕ)) DerFault)
        → open_from tag left (length bytes) r ≡ Err m → (m ≡ More 1) ⊎ (m ≡ Never)
    by_case (Err Short) e = inl (cc)
    by_case (Err Malformed) e = inr (cc)
    by_case (Ok y) e =
        inr (sym (failed (eqb y.0 tag && leb ((length bytes - length y.1.1) + y.1.0) left) y.1 Never m e).1)

open_goes : (tag left : ℕ) (bytes : List ℕ) (m : Missing) (more : List ℕ) (x : ℕ × List ℕ) → AreOctets bytes
    → open_at tag left bytes ≡ Err m → open_at tag left (bytes ++ more) ≡ Ok x → CanCome m (length more)
open_goes tag left bytes m more x octets e is = elim (open_more tag left bytes m e) [
  | inl one ↦ subst (λ (z : Missing). CanCome z (length more)) (sym one)
      (some_more (open_at tag left) bytes more m x e is)
  | inr never ↦ absurd (open_never tag left bytes more x octets (e ∙ ap (λ (z : Missing). Err z) never) is)
]

can_none : (m : Missing) → (m ≡ More 1) ⊎ (m ≡ Never) → CanCome m 0 → ⊥
can_none m (inl is) can = let wrong : 1 ≤ 0 = subst (λ (z : Missing). CanCome z 0) is can in omega arith
can_none m (inr is) can = subst (λ (z : Missing). CanCome z 0) is can

-- ---- an element

contents_takes : (tag left : ℕ) (bytes : List ℕ) (x : List ℕ × List ℕ) → AreOctets bytes
    → contents_of tag left bytes ≡ Ok x
    → IsElement tag x.0 × (length (enc tag x.0) ≤ left) × (bytes ≡ enc tag x.0 ++ x.1)
unfolding contents_of enc
contents_takes tag left bytes x octets e =
    let b = bind_ok (open_at tag left bytes)
    contents_from x e in
    let o = open_takes tag left bytes b.0 octets b.1 in
    let g = unfailed (ltb (length b.0.1) b.0.0) (More (b.0.0 - length b.0.1)) (take b.0.0 b.0.1, drop b.0.0 b.0.1) x b.2 in
    let enough : b.0.0 ≤ length b.0.1 = ltb-false _ _ g.0 in
    let size : length (take b.0.0 b.0.1) ≡ b.0.0 = omega (arith, length-take b.0.0 b.0.1) in
    let text : bytes ≡ (tag ∷ (length_octets (length (take b.0.0 b.0.1)) ++ take b.0.0 b.0.1)) ++ drop b.0.0 b.0.1
    = o.2 ∙ ap (λ (y : List ℕ). tag ∷ y)
    (rw (size, append_assoc (length_octets b.0.0) (take b.0.0 b.0.1) (drop b.0.0 b.0.1), take-append-drop b.0.0 b.0.1) refl)
    in
    let room : length (tag ∷ (length_octets (length (take b.0.0 b.0.1)) ++ take b.0.0 b.0.1)) ≤ left =
    rw size (omega (arith, o.1, length-append (length_octets b.0.0) (take b.0.0 b.0.1), size)) in
    subst (λ (y : List ℕ × List ℕ). IsElement tag y.0 × (length (tag ∷ (length_octets (length y.0) ++ y.0)) ≤ left)
    × (bytes ≡ (tag ∷ (length_octets (length y.0) ++ y.0)) ++ y.1)) g.1
    (record { octet = o.0.octet; low_bits = o.0.low_bits; fits = omega (arith, size, o.0.fits) }, room, text)
  where
    unfailed : (b : Bool) (m : Missing) (x y : List ℕ × List ℕ)
        → ◌≡◌ {A = Result (List ℕ × List ℕ) Missing} (cond b (Err m) (Ok x)) (Ok y) → (b ≡ false) × (x ≡ y)
    unfailed true m x y e = absurd cc
    unfailed false m x y e = (refl, cc)

contents_again : (tag left : ℕ) (contents rest : List ℕ) → IsElement tag contents → length (enc tag contents) ≤ left
    → contents_of tag left (enc tag contents ++ rest) ≡ Ok (contents, rest)
unfolding contents_of enc
contents_again tag left contents rest h fits =
    let head : IsHead tag (length contents) =
    record { octet = h.octet; low_bits = h.low_bits; fits = h.fits } in
    let grouped : (tag ∷ (length_octets (length contents) ++ contents)) ++ rest
    ≡ (tag ∷ length_octets (length contents)) ++ (contents ++ rest)
    = ap (λ (y : List ℕ). tag ∷ y) (append_assoc (length_octets (length contents)) contents rest) in
    let room : length (tag ∷ length_octets (length contents)) + length contents ≤ left =
    omega (arith, fits, length-append (length_octets (length contents)) contents) in
    let long : ltb (length (contents ++ rest)) (length contents) ≡ false =
    le-ltb _ _ (omega (arith, length-append contents rest)) in
    ap (contents_of tag left) grouped
    ∙ rw (
      open_again tag left (length contents) (contents ++ rest) head room,
      long,
      take_at contents rest (length contents) refl,
      drop_at contents rest (length contents) refl,
    ) refl

contents_goes : (tag left : ℕ) (bytes : List ℕ) (m : Missing) (more : List ℕ) (x : List ℕ × List ℕ) → AreOctets bytes
    → contents_of tag left bytes ≡ Err m → contents_of tag left (bytes ++ more) ≡ Ok x → CanCome m (length more)
unfolding contents_of
contents_goes tag left bytes m more x octets e is = by_case (open_at tag left bytes) refl e
  where
    by_case : (r : Answer) → open_at tag left bytes ≡ r
        → (r >>= contents_from)
        ≡ Err m → CanCome m (length more)
    by_case (Err f) was e =
        let b = bind_ok (open_at tag left (bytes ++ more))
        contents_from x is in
        let same : f ≡ m = cc in
        subst (λ (z : Missing). CanCome z (length more)) same
        (open_goes tag left bytes f more b.0 octets was b.1)
    by_case (Ok y) was e = elim (cases_Bool (ltb (length y.1) y.0)) [
      | inr isnt ↦ let wrong : ◌≡◌ {A = Result (List ℕ × List ℕ) Missing} (Ok (take y.0 y.1, drop y.0 y.1)) (Err m) =
          rw isnt at e in absurd cc
      | inl few ↦
          let e' : ◌≡◌ {A = Result (List ℕ × List ℕ) Missing} (Err (More (y.0 - length y.1))) (Err m) = rw few at e in
          let same : More (y.0 - length y.1) ≡ m = cc in
          let on = open_again_on tag left bytes more y octets was in
          elim (cases_Bool (ltb (length (y.1 ++ more)) y.0)) [
            | inl still ↦ let wrong : ◌≡◌ {A = Result (List ℕ × List ℕ) Missing} (Err (More (y.0 - length (y.1 ++ more)))) (Ok x) =
                rw still at (rw on at is) in absurd cc
            | inr enough ↦
                subst (λ (z : Missing). CanCome z (length more)) same
                (omega (arith, ltb-false _ _ enough, length-append y.1 more))
          ]
    ]

contents_some : (tag left : ℕ) (bytes : List ℕ) (m : Missing) → contents_of tag left bytes ≡ Err m → CanCome m 0 → ⊥
unfolding contents_of
contents_some tag left bytes m e = by_case (open_at tag left bytes) refl e
  where
    by_case : (r : Answer) → open_at tag left bytes ≡ r
        → (r >>= contents_from)
        ≡ Err m → CanCome m 0 → ⊥
    by_case (Err f) was e can =
        let same : f ≡ m = cc in
        can_none f (open_more tag left bytes f was) (subst (λ (z : Missing). CanCome z 0) (sym same) can)
    by_case (Ok y) was e can = elim (cases_Bool (ltb (length y.1) y.0)) [
      | inr isnt ↦ let wrong : ◌≡◌ {A = Result (List ℕ × List ℕ) Missing} (Ok (take y.0 y.1, drop y.0 y.1)) (Err m) =
          rw isnt at e in absurd cc
      | inl few ↦
          let e' : ◌≡◌ {A = Result (List ℕ × List ℕ) Missing} (Err (More (y.0 - length y.1))) (Err m) = rw few at e in
          let same : More (y.0 - length y.1) ≡ m = cc in
          let none : y.0 - length y.1 ≤ 0 = subst (λ (z : Missing). CanCome z 0) (sym same) can in
          omega (arith, ltb-true _ _ few)
    ]

-- ---- one part

tested : {A : Type 0} (b : Bool) (x y : A) → ◌≡◌ {A = Result A Missing} (cond b (Ok x) (Err Never)) (Ok y)
    → (b ≡ true) × (x ≡ y)
tested b x y e = passed b x y Never e

part_takes : (part : HeadPart) (left : ℕ) (bytes : List ℕ) (x : ℕ × List ℕ) → AreOctets bytes
    → part_at part left bytes ≡ Ok x → (front : List ℕ) × IsPart part left front x.0 × (bytes ≡ front ++ x.1)
unfolding has_at
part_takes (Opens tag) left bytes x octets e =
    let t = open_takes tag left bytes x octets e in (head_octets tag x.0, (t.0, t.1, refl), t.2)
part_takes (Has tag test) left bytes x octets e =
    let b = bind_ok (contents_of tag left bytes)
    (has_from test left (length bytes)) x e in
    let t = contents_takes tag left bytes b.0 octets b.1 in
    let p = tested (test b.0.0) (left - (length bytes - length b.0.1), b.0.1) x b.2 in
    let size : length bytes ≡ length (enc tag b.0.0) + length b.0.1 =
    ap length t.2 ∙ length-append (enc tag b.0.0) b.0.1 in
    let after : length (enc tag b.0.0) + (left - (length bytes - length b.0.1)) ≡ left = omega (arith, t.1, size) in
    subst (λ (y : ℕ × List ℕ). (front : List ℕ) × IsPart (Has tag test) left front y.0 × (bytes ≡ front ++ y.1)) p.1
    (enc tag b.0.0, (b.0.0, t.0, p.0, after, refl), t.2)

part_again : (part : HeadPart) (left : ℕ) (front : List ℕ) (after : ℕ) (rest : List ℕ) → IsPart part left front after
    → part_at part left (front ++ rest) ≡ Ok (after, rest)
unfolding has_at
part_again (Opens tag) left front after rest (h, fits, text) =
    let size : length (head_octets tag after) + after ≤ left = omega (arith, fits, ap length text) in
    ap (λ (y : List ℕ). open_at tag left (y ++ rest)) text ∙ open_again tag left after rest h size
part_again (Has tag test) left front after rest (contents, h, good, fits, text) =
    let size : length front ≡ length (enc tag contents) = ap length text in
    let width : left - (length (enc tag contents ++ rest) - length rest) ≡ after =
    omega (arith, fits, size, length-append (enc tag contents) rest) in
    let is : test contents ≡ true = good in
    ap (λ (y : List ℕ). has_at tag test left (y ++ rest)) text
    ∙ rw (contents_again tag left contents rest h (omega (arith, fits, size)), is, width) refl

part_goes : (part : HeadPart) (left : ℕ) (bytes : List ℕ) (m : Missing) (more : List ℕ) (x : ℕ × List ℕ)
    → AreOctets bytes → part_at part left bytes ≡ Err m → part_at part left (bytes ++ more) ≡ Ok x
    → CanCome m (length more)
unfolding has_at
part_goes (Opens tag) left bytes m more x octets e is = open_goes tag left bytes m more x octets e is
part_goes (Has tag test) left bytes m more x octets e is = by_case (contents_of tag left bytes) refl e
  where
    on : (r : Result (List ℕ × List ℕ) Missing) → contents_of tag left (bytes ++ more) ≡ r
        → (r >>= has_from test left (length (bytes ++ more))) ≡ Ok x
        → (y : List ℕ × List ℕ) × (contents_of tag left (bytes ++ more) ≡ Ok y) × (test y.0 ≡ true)
    on (Ok y) was e = (y, was, (tested (test y.0) (left - (length (bytes ++ more) - length y.1), y.1) x e).0)
    on (Err f) was e = absurd cc

    by_case : (r : Result (List ℕ × List ℕ) Missing) → contents_of tag left bytes ≡ r
        → (r >>= has_from test left (length bytes)) ≡ Err m
        → CanCome m (length more)
    by_case (Err f) was e =
        let o = on (contents_of tag left (bytes ++ more)) refl is in
        let same : f ≡ m = cc in
        subst (λ (z : Missing). CanCome z (length more)) same (contents_goes tag left bytes f more o.0 octets was o.1)
    by_case (Ok y) was e =
        let o = on (contents_of tag left (bytes ++ more)) refl is in
        let f = failed (test y.0) (left - (length bytes - length y.1), y.1) Never m e in
        let t = contents_takes tag left bytes y octets was in
        let again : contents_of tag left (bytes ++ more) ≡ Ok (y.0, y.1 ++ more) =
        ap (contents_of tag left)
        (ap (λ (z : List ℕ). z ++ more) t.2 ∙ append_assoc (enc tag y.0) y.1 more)
        ∙ contents_again tag left y.0 (y.1 ++ more) t.0 t.1 in
        let same : ◌≡◌ {A = Result (List ℕ × List ℕ) Missing} (Ok o.0) (Ok (y.0, y.1 ++ more)) = sym o.1 ∙ again in
        let pair : o.0 ≡ (y.0, y.1 ++ more) = cc in
        let first : o.0.0 ≡ y.0 = ap (λ (z : List ℕ × List ℕ). z.0) pair in
        let wrong : true ≡ false = sym o.2 ∙ ap test first ∙ f.0 in
        absurd cc

part_some : (part : HeadPart) (left : ℕ) (bytes : List ℕ) (m : Missing) → part_at part left bytes ≡ Err m → CanCome m 0 → ⊥
unfolding has_at
part_some (Opens tag) left bytes m e can = can_none m (open_more tag left bytes m e) can
part_some (Has tag test) left bytes m e can = by_case (contents_of tag left bytes) refl e
  where
    by_case : (r : Result (List ℕ × List ℕ) Missing) → contents_of tag left bytes ≡ r
        → (r >>= has_from test left (length bytes)) ≡ Err m → ⊥
    by_case (Err f) was e =
        let same : f ≡ m = cc in
        contents_some tag left bytes f was (subst (λ (z : Missing). CanCome z 0) (sym same) can)
    by_case (Ok y) was e =
        let f = failed (test y.0) (left - (length bytes - length y.1), y.1) Never m e in
        subst (λ (z : Missing). CanCome z 0) (sym f.1) can

-- ---- parts one after the other

pub parts_takes : (parts : List HeadPart) (left : ℕ) (bytes : List ℕ) (x : ℕ × List ℕ) → AreOctets bytes
    → parts_at parts left bytes ≡ Ok x → (front : List ℕ) × AreParts parts left front x.0 × (bytes ≡ front ++ x.1)
parts_takes [] left bytes x octets e =
    let same : (left, bytes) ≡ x = cc in
    subst (λ (y : ℕ × List ℕ). (front : List ℕ) × AreParts [] left front y.0 × (bytes ≡ front ++ y.1)) same
    ([], (refl, refl), refl)
parts_takes (part ∷ parts) left bytes x octets e =
    let b = bind_ok (part_at part left bytes) (λ x. parts_at parts x.0 x.1) x e in
    let t = part_takes part left bytes b.0 octets b.1 in
    let inner : AreOctets b.0.1 = AreOctets-right t.0 b.0.1 (subst AreOctets t.2 octets) in
    let u = parts_takes parts b.0.0 b.0.1 x inner b.2 in
    (t.0 ++ u.0, (t.0, b.0.0, u.0, t.1, u.1, refl), t.2 ∙ ap (λ (y : List ℕ). t.0 ++ y) u.2 ∙ sym (append_assoc t.0 u.0 x.1))

pub parts_again : (parts : List HeadPart) (left : ℕ) (front : List ℕ) (after : ℕ) (rest : List ℕ)
    → AreParts parts left front after → parts_at parts left (front ++ rest) ≡ Ok (after, rest)
parts_again [] left front after rest (none, is) =
    rw (none, is) refl
parts_again (part ∷ parts) left front after rest (first, between, others, h, more, text) =
    ap (λ (y : List ℕ). parts_at (part ∷ parts) left (y ++ rest)) text
    ∙ ap (parts_at (part ∷ parts) left) (append_assoc first others rest)
    ∙ rw (part_again part left first between (others ++ rest) h) (parts_again parts between others after rest more)

parts_by : (parts : List HeadPart) (part : HeadPart) (left : ℕ) (bytes : List ℕ) (m : Missing) (more : List ℕ)
    (x : ℕ × List ℕ) → AreOctets bytes
    → ((y : ℕ × List ℕ) → AreOctets y.1 → parts_at parts y.0 y.1 ≡ Err m → parts_at parts y.0 (y.1 ++ more) ≡ Ok x
    → CanCome m (length more)) → (part_at part left (bytes ++ more) >>= λ x. parts_at parts x.0 x.1) ≡ Ok x
    → (r : Answer) → part_at part left bytes ≡ r → (r >>= λ x. parts_at parts x.0 x.1) ≡ Err m
    → CanCome m (length more)
parts_by parts part left bytes m more x octets goes is (Err f) was e =
    let b = bind_ok (part_at part left (bytes ++ more)) (λ x. parts_at parts x.0 x.1) x is in
    let same : f ≡ m = cc in
    subst (λ (z : Missing). CanCome z (length more)) same (part_goes part left bytes f more b.0 octets was b.1)
parts_by parts part left bytes m more x octets goes is (Ok y) was e =
    let t = part_takes part left bytes y octets was in
    let on : part_at part left (bytes ++ more) ≡ Ok (y.0, y.1 ++ more) =
    ap (part_at part left) (ap (λ (z : List ℕ). z ++ more) t.2 ∙ append_assoc t.0 y.1 more)
    ∙ part_again part left t.0 y.0 (y.1 ++ more) t.1 in
    goes y (AreOctets-right t.0 y.1 (subst AreOctets t.2 octets)) e
    (subst (λ (r : Answer). (r >>= λ x. parts_at parts x.0 x.1) ≡ Ok x) on is)

pub parts_goes : (parts : List HeadPart) (left : ℕ) (bytes : List ℕ) (m : Missing) (more : List ℕ) (x : ℕ × List ℕ)
    → AreOctets bytes → parts_at parts left bytes ≡ Err m → parts_at parts left (bytes ++ more) ≡ Ok x
    → CanCome m (length more)
parts_goes [] left bytes m more x octets e is = absurd cc
parts_goes (part ∷ parts) left bytes m more x octets e is =
    parts_by parts part left bytes m more x octets (λ y inner e is. parts_goes parts y.0 y.1 m more x inner e is) is
    (part_at part left bytes) refl e

parts_some_by : (parts : List HeadPart) (part : HeadPart) (left : ℕ) (bytes : List ℕ) (m : Missing)
    → ((y : ℕ × List ℕ) → parts_at parts y.0 y.1 ≡ Err m → ⊥) → CanCome m 0
    → (r : Answer) → part_at part left bytes ≡ r → (r >>= λ x. parts_at parts x.0 x.1) ≡ Err m → ⊥
parts_some_by parts part left bytes m goes can (Err f) was e =
    let same : f ≡ m = cc in
    part_some part left bytes f was (subst (λ (z : Missing). CanCome z 0) (sym same) can)
parts_some_by parts part left bytes m goes can (Ok y) was e = goes y e

pub parts_some : (parts : List HeadPart) (left : ℕ) (bytes : List ℕ) (m : Missing) → parts_at parts left bytes ≡ Err m
    → CanCome m 0 → ⊥
parts_some [] left bytes m e can = absurd cc
parts_some (part ∷ parts) left bytes m e can =
    parts_some_by parts part left bytes m (λ y e. parts_some parts y.0 y.1 m e can) can (part_at part left bytes) refl e
