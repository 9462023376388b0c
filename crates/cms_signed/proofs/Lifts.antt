-- What is read of octets with a gap is what is read of them with any content in it.
use Rattle.std.proofs.Common.{◌≡◌, ℕ, ◌+◌, ◌-◌, ◌%◌, ◌<◌, ◌≤◌, Bool, true, false, cond, eqb, ltb}
use Rattle.std.proofs.Common.{List, [], ◌∷◌, ◌++◌, length, take, drop, Option, Some, None, Result, Ok, Err}
use Rattle.std.proofs.Common.{refl, sym, ap, subst, ◌∙◌, append_assoc, arith, inl, inr}
use Rattle.std.specs.Prelude.{option_map}
use Rattle.std.proofs.lemmas.Bool.{cases_Bool, cases_lt, le-ltb, lt-ltb}
use Rattle.std.proofs.lemmas.List.{length-append, length-take, take-append-drop, take_all, drop_all}
use Rattle.std.proofs.lemmas.List.{append-nil, take_at, drop_at}
use Rattle.der_core.specs.declared.fault.DerFault.{DerFault}
use Rattle.der_core.specs.Element.{enc, IsElement, length_octets}
use Rattle.der_core.specs.Head.{head_octets, IsHead, head_at}
use Rattle.der_core.specs.Reading.{◌>>=◌, length_at, contents_at, element_at, front_of}
use Rattle.der_core.proofs.HeadLemmas.{head_again}
use Rattle.der_core.proofs.Fronts.{front_of-enc}
use Rattle.der_core.proofs.Numbers.{some_is}
use Rattle.cms_signed.specs.Cut.{HeadPart, Opens, Has, AreParts}
use Rattle.cms_signed.specs.Gapped.{Gapped, filled, solid, element_from, gapped_front}

-- ---- where octets stand

abbrev pub IsSolid : Gapped → Type 0
IsSolid g = (g.gap ≡ 0) × (g.back ≡ [])

-- these parts lead to a gap for this content
abbrev pub Leads : List ℕ → List HeadPart → Gapped → Type 0
Leads content parts g = (g.gap ≡ length content) × ((left : ℕ) × AreParts parts left g.front g.gap)

-- there is nothing but the gap for this content
abbrev pub IsHole : List ℕ → Gapped → Type 0
IsHole content g = (g.front ≡ []) × (g.gap ≡ length content) × (g.back ≡ [])

pub solid_is : (g : Gapped) → IsSolid g → g ≡ solid g.front
solid_is g s =
    ap (λ (k : ℕ). record { front = g.front; gap = k; back = g.back }) s.0
    ∙ ap (λ (x : List ℕ). record { front = g.front; gap = 0; back = x }) s.1

-- ---- heads

abbrev tagged_result : ℕ → Result (ℕ × List ℕ) DerFault → Result (ℕ × (ℕ × List ℕ)) DerFault
tagged_result tag r = r >>= λ n. Ok (tag, n)

element_head : (bytes : List ℕ) → element_at bytes ≡ (head_at bytes >>= λ h. contents_at h.0 h.1)
unfolding element_at head_at
element_head [] = refl
element_head (tag ∷ bytes) = elim (cases_Bool (eqb (tag % 32) 31)) [
  | inl is ↦ rw is refl
  | inr isnt ↦ rw isnt (by_case (length_at bytes))
]
  where
    by_case : (r : Result (ℕ × List ℕ) DerFault)
        → (r >>= contents_at tag)
        ≡ (tagged_result tag r >>= λ h. contents_at h.0 h.1)
    by_case (Ok n) = refl
    by_case (Err f) = refl

head_of_element : (tag : ℕ) (contents rest : List ℕ) → IsElement tag contents
    → head_at (enc tag contents ++ rest) ≡ Ok (tag, (length contents, contents ++ rest))
unfolding enc
head_of_element tag contents rest h =
    ap head_at (ap (λ (x : List ℕ). tag ∷ x) (append_assoc (length_octets (length contents)) contents rest))
    ∙ head_again tag (length contents) (contents ++ rest)
    (record { octet = h.octet; low_bits = h.low_bits; fits = h.fits })

head_more : (tag size : ℕ) (rest more : List ℕ) → IsHead tag size
    → head_at ((head_octets tag size ++ rest) ++ more) ≡ Ok (tag, (size, rest ++ more))
head_more tag size rest more h =
    ap head_at (append_assoc (head_octets tag size) rest more) ∙ head_again tag size (rest ++ more) h

-- ---- one element, where there is no gap

abbrev fill-solid : ℕ × (List ℕ × List ℕ) → ℕ × (Gapped × Gapped)
fill-solid x = (x.0, (solid x.1.0, solid x.1.1))

front_solid : (octets : List ℕ) → gapped_front (solid octets) ≡ option_map fill-solid (front_of octets)
unfolding gapped_front front_of contents_at
front_solid octets =
    by_case (head_at octets)
    ∙ ap (λ (r : Result (ℕ × (List ℕ × List ℕ)) DerFault). option_map fill-solid (elim r [ Ok x ↦ Some x | Err e ↦ None ]))
    (sym (element_head octets))
  where
    by_case : (r : Result (ℕ × (ℕ × List ℕ)) DerFault)
        → element_from (solid octets) r
        ≡ option_map fill-solid (elim (r >>= λ h. contents_at h.0 h.1) [ Ok x ↦ Some x | Err e ↦ None ])
    by_case (Err f) = refl
    by_case (Ok x) = elim (cases_lt x.1.0 (length x.1.1)) [
      | inl lt ↦
          rw (
            lt-ltb x.1.0 (length x.1.1 + 0) (omega arith),
            le-ltb (length x.1.1) x.1.0 (omega arith),
          ) refl
      | inr ge ↦ elim (cases_lt (length x.1.1) x.1.0) [
        | inl gt ↦
            rw (
              le-ltb x.1.0 (length x.1.1 + 0) (omega arith),
              lt-ltb 0 (x.1.0 - (length x.1.1 + 0)) (omega arith),
              lt-ltb (length x.1.1) x.1.0 (omega arith),
            ) refl
        | inr le ↦
            let none : x.1.0 - (length x.1.1 + 0) ≡ 0 = omega arith in
            rw (
              le-ltb x.1.0 (length x.1.1 + 0) (omega arith),
              none,
              le-ltb (length x.1.1) x.1.0 (omega arith),
              take_all x.1.0 x.1.1 (omega arith),
              drop_all x.1.0 x.1.1 (omega arith),
            ) refl
      ]
    ]

-- ---- one element before the gap, and one that reaches over it

front_has : (tag : ℕ) (contents rest : List ℕ) (gap : ℕ) (back : List ℕ) → IsElement tag contents
    → 0 < length rest + gap
    → gapped_front (record { front = enc tag contents ++ rest; gap = gap; back = back })
    ≡ Some (tag, (solid contents, record { front = rest; gap = gap; back = back }))
unfolding gapped_front
front_has tag contents rest gap back h some =
    rw (
      head_of_element tag contents rest h,
      lt-ltb (length contents) (length (contents ++ rest) + gap) (omega (arith, length-append contents rest)),
      le-ltb (length (contents ++ rest)) (length contents) (omega (arith, length-append contents rest)),
      take_at contents rest (length contents) refl,
      drop_at contents rest (length contents) refl,
    ) refl

front_opens : (tag size : ℕ) (rest : List ℕ) (gap : ℕ) (back : List ℕ) → IsHead tag size → length rest + gap ≤ size
    → gapped_front (record { front = head_octets tag size ++ rest; gap = gap; back = back })
    ≡ cond (ltb (length back) (size - (length rest + gap))) None
    (Some (
      tag,
      (
        record { front = rest; gap = gap; back = take (size - (length rest + gap)) back },
        solid (drop (size - (length rest + gap)) back),
      ),
    ))
unfolding gapped_front
front_opens tag size rest gap back h within =
    rw (head_again tag size rest h, le-ltb size (length rest + gap) within) refl

-- the same with the content in the gap
full_has : (tag : ℕ) (contents rest more : List ℕ) → IsElement tag contents
    → front_of ((enc tag contents ++ rest) ++ more) ≡ Some (tag, (contents, rest ++ more))
full_has tag contents rest more h =
    ap front_of (append_assoc (enc tag contents) rest more) ∙ front_of-enc tag contents (rest ++ more) h

full_opens : (tag size : ℕ) (rest mid back : List ℕ) → IsHead tag size → length rest + length mid ≤ size
    → front_of ((head_octets tag size ++ rest) ++ (mid ++ back))
    ≡ cond (ltb (length back) (size - (length rest + length mid))) None
    (Some (
      tag,
      (
        rest ++ (mid ++ take (size - (length rest + length mid)) back),
        drop (size - (length rest + length mid)) back,
      ),
    ))
unfolding front_of contents_at
full_opens tag size rest mid back h within =
    ap (λ (r : Result (ℕ × (List ℕ × List ℕ)) DerFault). elim r [ Ok x ↦ Some x | Err e ↦ None ])
    (element_head ((head_octets tag size ++ rest) ++ (mid ++ back)))
    ∙ rw (head_more tag size rest (mid ++ back) h) (elim (cases_lt (length back) (size - (length rest + length mid))) [
      | inl lt ↦
          rw (
            lt-ltb (length back) (size - (length rest + length mid)) lt,
            lt-ltb (length (rest ++ (mid ++ back))) size
                (omega (arith, length-append rest (mid ++ back), length-append mid back)),
          ) refl
      | inr ge ↦
          let k : ℕ = size - (length rest + length mid) in
          let wide : length (rest ++ (mid ++ take (size - (length rest + length mid)) back)) ≡ size =
          omega (
            arith,
            length-append rest (mid ++ take (size - (length rest + length mid)) back),
            length-append mid (take (size - (length rest + length mid)) back),
            length-take (size - (length rest + length mid)) back,
          ) in
          let split : rest ++ (mid ++ back)
          ≡ (rest ++ (mid ++ take (size - (length rest + length mid)) back)) ++ drop (size - (length rest + length mid)) back
          = ap (λ (x : List ℕ). rest ++ (mid ++ x)) (sym (take-append-drop (size - (length rest + length mid)) back))
          ∙ ap (λ (x : List ℕ). rest ++ x)
          (sym (append_assoc mid (take (size - (length rest + length mid)) back) (drop (size - (length rest + length mid)) back)))
          ∙ sym (append_assoc rest (mid ++ take (size - (length rest + length mid)) back)
          (drop (size - (length rest + length mid)) back)) in
          rw (
            le-ltb (length back) (size - (length rest + length mid)) ge,
            le-ltb (length (rest ++ (mid ++ back))) size
                (omega (arith, length-append rest (mid ++ back), length-append mid back)),
          ) (ap (λ (x : List ℕ × List ℕ). Some (tag, x))
          (ap (λ (x : List ℕ). (take size x, drop size x)) split
          ∙ rw (
            take_at (rest ++ (mid ++ take (size - (length rest + length mid)) back))
                (drop (size - (length rest + length mid)) back) size wide,
            drop_at (rest ++ (mid ++ take (size - (length rest + length mid)) back))
                (drop (size - (length rest + length mid)) back) size wide,
          ) refl))
    ])

-- ---- parts

-- with what follows them they end within what is left
pub reach : (parts : List HeadPart) (left : ℕ) (octets : List ℕ) (after : ℕ) → AreParts parts left octets after
    → length octets + after ≤ left
reach [] left octets after (none, is) = omega (arith, ap length none, is)
reach (Opens tag ∷ parts) left octets after (front, between, rest, h, more, text) =
    omega (arith, reach parts between rest after more, h.1, ap length text, length-append front rest)
reach (Has tag test ∷ parts) left octets after (front, between, rest, h, more, text) =
    omega (arith, reach parts between rest after more, h.3, ap length text, length-append front rest)

-- a part has octets
some_octets : (part : HeadPart) (parts : List HeadPart) (left : ℕ) (octets : List ℕ) (after : ℕ)
    → AreParts (part ∷ parts) left octets after → 0 < length octets
unfolding enc
some_octets (Opens tag) parts left octets after (front, between, rest, h, more, text) =
    omega (arith, ap length text, length-append front rest, ap length h.2)
some_octets (Has tag test) parts left octets after (front, between, rest, h, more, text) =
    omega (arith, ap length text, length-append front rest, ap length h.4)

-- ---- the element at the front, of parts

abbrev pub fill-parts : List ℕ → ℕ × (Gapped × Gapped) → ℕ × (List ℕ × List ℕ)
fill-parts content x = (x.0, (filled x.1.0 content, filled x.1.1 content))

-- what is read at the front is read with the content too, and where its parts stand
pub record LiftsParts (content : List ℕ) (At Inner Next : Gapped → Type 0) : Type 0 where
  pub same : (g : Gapped) → At g → front_of (filled g content) ≡ option_map (fill-parts content) (gapped_front g)
  pub post : (g : Gapped) (x : ℕ × (Gapped × Gapped)) → At g → gapped_front g ≡ Some x → Inner x.1.0 × Next x.1.1

is_solid : (octets : List ℕ) → IsSolid (solid octets)
is_solid octets = (refl, refl)

pub filled-solid : (octets content : List ℕ) → filled (solid octets) content ≡ octets
filled-solid octets content = append-nil octets

-- of octets without a gap
same_solid : (content : List ℕ) (g : Gapped) → IsSolid g
    → front_of (filled g content) ≡ option_map (fill-parts content) (gapped_front g)
same_solid content g s =
    subst (λ (h : Gapped). front_of (filled h content) ≡ option_map (fill-parts content) (gapped_front h))
    (sym (solid_is g s))
    (ap front_of (filled-solid g.front content)
    ∙ by_case (front_of g.front)
    ∙ ap (option_map (fill-parts content)) (sym (front_solid g.front)))
  where
    by_case : (o : Option (ℕ × (List ℕ × List ℕ))) → o ≡ option_map (fill-parts content) (option_map fill-solid o)
    by_case None = refl
    by_case (Some x) =
        ap (λ (y : List ℕ × List ℕ). Some (x.0, y))
        (sym (ap (λ (z : List ℕ). (z, filled (solid x.1.1) content)) (filled-solid x.1.0 content)
        ∙ ap (λ (z : List ℕ). (x.1.0, z)) (filled-solid x.1.1 content)))

post_solid : (g : Gapped) (x : ℕ × (Gapped × Gapped)) → IsSolid g → gapped_front g ≡ Some x
    → IsSolid x.1.0 × IsSolid x.1.1
post_solid g x s e = by_case (front_of g.front)
    (sym (front_solid g.front) ∙ sym (ap gapped_front (solid_is g s)) ∙ e)
  where
    by_case : (o : Option (ℕ × (List ℕ × List ℕ))) → option_map fill-solid o ≡ Some x → IsSolid x.1.0 × IsSolid x.1.1
    by_case None e = absurd cc
    by_case (Some y) e =
        subst (λ (z : ℕ × (Gapped × Gapped)). IsSolid z.1.0 × IsSolid z.1.1) (some_is (fill-solid y) x e)
        (is_solid y.1.0, is_solid y.1.1)

-- a whole element
pub has_parts : (content : List ℕ) (tag : ℕ) (test : List ℕ → Bool) (part : HeadPart) (parts : List HeadPart)
    → LiftsParts content (Leads content (Has tag test ∷ (part ∷ parts))) IsSolid (Leads content (part ∷ parts))
has_parts content tag test part parts = record { same = same; post = post }
  where
    read : (g : Gapped) → g.gap ≡ length content → (left : ℕ) → (a : AreParts (Has tag test ∷ (part ∷ parts)) left g.front g.gap)
        → gapped_front g ≡ Some (tag, (solid a.3.0, record { front = a.2; gap = g.gap; back = g.back }))
    read g le left (front, between, rest, (contents, h, good, width, is), more, text) =
        ap (λ (x : List ℕ). gapped_front (record { front = x; gap = g.gap; back = g.back }))
        (text ∙ ap (λ (x : List ℕ). x ++ rest) is)
        ∙ front_has tag contents rest g.gap g.back h (omega (arith, some_octets part parts between rest g.gap more))

    same : (g : Gapped) → Leads content (Has tag test ∷ (part ∷ parts)) g
        → front_of (filled g content) ≡ option_map (fill-parts content) (gapped_front g)
    same g (le, (left, (front, between, rest, (contents, h, good, width, is), more, text))) =
        ap (λ (x : List ℕ). front_of (x ++ (take g.gap content ++ g.back))) (text ∙ ap (λ (x : List ℕ). x ++ rest) is)
        ∙ full_has tag contents rest (take g.gap content ++ g.back) h
        ∙ ap (λ (z : List ℕ). Some (tag, (z, rest ++ (take g.gap content ++ g.back))))
        (sym (filled-solid contents content))
        ∙ ap (option_map (fill-parts content))
        (sym (read g le left (front, between, rest, (contents, h, good, width, is), more, text)))

    post : (g : Gapped) (x : ℕ × (Gapped × Gapped)) → Leads content (Has tag test ∷ (part ∷ parts)) g
        → gapped_front g ≡ Some x → IsSolid x.1.0 × Leads content (part ∷ parts) x.1.1
    post g x (le, (left, (front, between, rest, (contents, h, good, width, is), more, text))) e =
        subst (λ (z : ℕ × (Gapped × Gapped)). IsSolid z.1.0 × Leads content (part ∷ parts) z.1.1)
        (some_is _ x (sym (read g le left (front, between, rest, (contents, h, good, width, is), more, text)) ∙ e))
        (is_solid contents, (le, (between, more)))

-- an element that reaches over the gap
pub opens_parts : (content : List ℕ) (tag : ℕ) (parts : List HeadPart)
    → LiftsParts content (Leads content (Opens tag ∷ parts)) (Leads content parts) IsSolid
opens_parts content tag parts = record { same = same; post = post }
  where
    read : (g : Gapped) (front : List ℕ) (between : ℕ) (rest : List ℕ) → IsHead tag between
        → front ≡ head_octets tag between → AreParts parts between rest g.gap → g.front ≡ front ++ rest
        → gapped_front g ≡ cond (ltb (length g.back) (between - (length rest + g.gap))) None
        (Some (
          tag,
          (
            record { front = rest; gap = g.gap; back = take (between - (length rest + g.gap)) g.back },
            solid (drop (between - (length rest + g.gap)) g.back),
          ),
        ))
    read g front between rest h is more text =
        ap (λ (x : List ℕ). gapped_front (record { front = x; gap = g.gap; back = g.back }))
        (text ∙ ap (λ (x : List ℕ). x ++ rest) is)
        ∙ front_opens tag between rest g.gap g.back h (reach parts between rest g.gap more)

    same : (g : Gapped) → Leads content (Opens tag ∷ parts) g
        → front_of (filled g content) ≡ option_map (fill-parts content) (gapped_front g)
    same g (le, (left, (front, between, rest, (h, width, is), more, text))) =
        let wide : length (take g.gap content) ≡ g.gap = omega (arith, length-take g.gap content) in
        let full : front_of ((head_octets tag between ++ rest) ++ (take g.gap content ++ g.back))
        ≡ cond (ltb (length g.back) (between - (length rest + length (take g.gap content)))) None
        (Some (
          tag,
          (
            rest ++ (take g.gap content ++ take (between - (length rest + length (take g.gap content))) g.back),
            drop (between - (length rest + length (take g.gap content))) g.back,
          ),
        ))
        = full_opens tag between rest (take g.gap content) g.back h
        (omega (arith, reach parts between rest g.gap more, wide)) in
        let full' = rw wide at full in
        ap (λ (x : List ℕ). front_of (x ++ (take g.gap content ++ g.back))) (text ∙ ap (λ (x : List ℕ). x ++ rest) is)
        ∙ full'
        ∙ by_case g rest (between - (length rest + g.gap)) (ltb (length g.back) (between - (length rest + g.gap)))
        ∙ ap (option_map (fill-parts content)) (sym (read g front between rest h is more text))
      where
        by_case : (g : Gapped) (rest : List ℕ) (k : ℕ) (b : Bool)
            → cond b None (Some (tag, (rest ++ (take g.gap content ++ take k g.back), drop k g.back)))
            ≡ option_map (fill-parts content) (cond b None (Some (
              tag,
              (record { front = rest; gap = g.gap; back = take k g.back }, solid (drop k g.back)),
            )))
        by_case g rest k true = refl
        by_case g rest k false =
            ap (λ (z : List ℕ). Some (tag, (rest ++ (take g.gap content ++ take k g.back), z)))
            (sym (filled-solid (drop k g.back) content))

    post : (g : Gapped) (x : ℕ × (Gapped × Gapped)) → Leads content (Opens tag ∷ parts) g
        → gapped_front g ≡ Some x → Leads content parts x.1.0 × IsSolid x.1.1
    post g x (le, (left, (front, between, rest, (h, width, is), more, text))) e =
        by_case (ltb (length g.back) (between - (length rest + g.gap)))
        (sym (read g front between rest h is more text) ∙ e)
      where
        by_case : (b : Bool) → cond b None (Some (
          tag,
          (
            record { front = rest; gap = g.gap; back = take (between - (length rest + g.gap)) g.back },
            solid (drop (between - (length rest + g.gap)) g.back),
          ),
        )) ≡ Some x
            → Leads content parts x.1.0 × IsSolid x.1.1
        by_case true e = absurd cc
        by_case false e =
            subst (λ (z : ℕ × (Gapped × Gapped)). Leads content parts z.1.0 × IsSolid z.1.1) (some_is _ x e)
            ((le, (between, more)), is_solid (drop (between - (length rest + g.gap)) g.back))

-- the content's own element: nothing but the gap stands in it
pub content_parts : (content : List ℕ) (tag : ℕ) → LiftsParts content (Leads content (Opens tag ∷ [])) (IsHole content) IsSolid
content_parts content tag = record { same = opens.same; post = post }
  where
    opens : LiftsParts content (Leads content (Opens tag ∷ [])) (Leads content []) IsSolid
    opens = opens_parts content tag []

    post : (g : Gapped) (x : ℕ × (Gapped × Gapped)) → Leads content (Opens tag ∷ []) g
        → gapped_front g ≡ Some x → IsHole content x.1.0 × IsSolid x.1.1
    post g x (le, (left, (front, between, rest, (h, width, is), (none, all), text))) e =
        by_case (ltb (length g.back) (between - (length rest + g.gap))) (sym read ∙ e)
      where
        read : gapped_front g ≡ cond (ltb (length g.back) (between - (length rest + g.gap))) None
            (Some (
              tag,
              (
                record { front = rest; gap = g.gap; back = take (between - (length rest + g.gap)) g.back },
                solid (drop (between - (length rest + g.gap)) g.back),
              ),
            ))
        read =
            ap (λ (x : List ℕ). gapped_front (record { front = x; gap = g.gap; back = g.back }))
            (text ∙ ap (λ (x : List ℕ). x ++ rest) is)
            ∙ front_opens tag between rest g.gap g.back h (omega (arith, ap length none, all))

        by_case : (b : Bool) → cond b None (Some (
          tag,
          (
            record { front = rest; gap = g.gap; back = take (between - (length rest + g.gap)) g.back },
            solid (drop (between - (length rest + g.gap)) g.back),
          ),
        )) ≡ Some x
            → IsHole content x.1.0 × IsSolid x.1.1
        by_case true e = absurd cc
        by_case false e =
            let zero-left : between - (length rest + g.gap) ≡ 0 = omega (arith, ap length none, all) in
            subst (λ (z : ℕ × (Gapped × Gapped)). IsHole content z.1.0 × IsSolid z.1.1) (some_is _ x e)
            ((none, le, ap (λ (k : ℕ). take k g.back) zero-left), is_solid (drop (between - (length rest + g.gap)) g.back))

-- octets without a gap
pub solid_parts : (content : List ℕ) → LiftsParts content IsSolid IsSolid IsSolid
solid_parts content = record { same = λ g s. same_solid content g s; post = λ g x s e. post_solid g x s e }
