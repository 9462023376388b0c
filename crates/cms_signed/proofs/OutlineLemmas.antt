-- What an outline sees of an item goes on to what it sees of more of it.
use Rattle.std.proofs.Common.{◌≡◌, ℕ, zero, suc, ◌+◌, ◌-◌, ◌<◌, ◌≤◌, min, List, [], ◌∷◌, ◌++◌, length, take}
use Rattle.std.proofs.Common.{drop, Option, Some, None, refl, sym, ap, subst, ◌∙◌, append_assoc}
use Rattle.std.proofs.Common.{arith, inl, inr}
use Rattle.std.proofs.lemmas.Bool.{cases_lt}
use Rattle.std.proofs.lemmas.List.{length-append, length-take, length-drop, drop-drop, take-append-drop, append-nil}
use Rattle.std.proofs.lemmas.List.{take_at, take_all, drop_at, drop_all, take-append-le, drop-append-le}
use Rattle.std.specs.Prelude.{MatchOption}
use Rattle.cms_signed.specs.declared.cut.Missing.{Missing}
use Rattle.cms_signed.specs.declared.outline.Part.TheVariants.{Frame, Content}
use Rattle.cms_signed.specs.Cut.{HasCut}
use Rattle.cms_signed.specs.CutReading.{CanCome, open_at}
use Rattle.der_core.specs.Head.{head_at}
use Rattle.cms_signed.specs.Outline.{Seen, NoCut, Sees, IsOf, content_of}
use Rattle.cms_signed.proofs.Cuts.{cut_again}
use Rattle.der_core.proofs.Element.{ok_is}

-- ---- cuts

pub cut_more : (item more : List ℕ) (place size : ℕ) → HasCut item place size → HasCut (item ++ more) place size
cut_more item more place size h = record {
  head = h.head;
  rest = h.rest ++ more;
  before = h.before;
  text = ap (λ (x : List ℕ). x ++ more) h.text ∙ append_assoc h.head h.rest more;
  placed = h.placed;
}

pub cut_place : (item : List ℕ) (place size : ℕ) → HasCut item place size → place ≤ length item
cut_place item place size h = omega (arith, h.placed, ap length h.text, length-append h.head h.rest)

-- an item has one cut at most
pub one_cut : (item : List ℕ) (place size other length' : ℕ) → HasCut item place size → HasCut item other length'
    → (place ≡ other) × (size ≡ length')
one_cut item place size other length' h g =
    let same : (size, h.rest) ≡ (length', g.rest) =
    ok_is {E = Missing} (size, h.rest) (length', g.rest)
    (sym (cut_again item place size h) ∙ cut_again item other length' g) in
    let sizes : size ≡ length' = ap (λ (x : ℕ × List ℕ). x.0) same in
    let rests : h.rest ≡ g.rest = ap (λ (x : ℕ × List ℕ). x.1) same in (
      omega (
        arith,
        h.placed,
        g.placed,
        ap length h.text,
        ap length g.text,
        length-append h.head h.rest,
        length-append g.head g.rest,
        ap length rests,
      ),
      sizes,
    )

-- the head stands in every front of the item that is long enough
pub cut_front : (item more : List ℕ) (place size : ℕ) → HasCut (item ++ more) place size → place ≤ length item
    → HasCut item place size
cut_front item more place size h le =
    let heads : h.head ≡ take place item =
    sym (take_at h.head h.rest place (sym h.placed)) ∙ ap (take place) (sym h.text) ∙ take-append-le place item more le in
    record {
      head = h.head;
      rest = drop place item;
      before = h.before;
      text = sym (take-append-drop place item) ∙ ap (λ (x : List ℕ). x ++ drop place item) (sym heads);
      placed = h.placed;
    }

-- none stands at the front of no octets
pub none_yet : NoCut []
unfolding open_at head_at
none_yet place size h = let e = cut_again [] place size h in cc

pub never : (item : List ℕ) (m : Missing)
    → ((more : List ℕ) (place size : ℕ) → HasCut (item ++ more) place size → CanCome m (length more))
    → (CanCome m 0 → ⊥) → NoCut item
never item m missing some place size h =
    some (missing [] place size (subst (λ (x : List ℕ). HasCut x place size) (sym (append-nil item)) h))

-- ---- an item whose head isn't whole

-- before so many octets of the piece none is
pub not_yet : (frame piece : List ℕ) (m : Missing) (n : ℕ)
    → ((more : List ℕ) (place size : ℕ) → HasCut (frame ++ more) place size → CanCome m (length more))
    → n ≤ length piece → ((count : ℕ) → CanCome m count → n ≤ count)
    → (i : ℕ) → i < n → NoCut (frame ++ take i piece)
not_yet frame piece m n missing le least i lt place size h =
    omega (arith, least (length (take i piece)) (missing (take i piece) place size h), length-take i piece)

-- a head that is whole then ends there
pub ends_there : (frame piece : List ℕ) (n place size : ℕ) → NoCut frame → n ≤ length piece
    → ((i : ℕ) → i < n → NoCut (frame ++ take i piece)) → HasCut (frame ++ take n piece) place size
    → place ≡ length (frame ++ take n piece)
ends_there frame piece zero place size none le before h =
    absurd (none place size (subst (λ (x : List ℕ). HasCut x place size) (append-nil frame) h))
ends_there frame piece (suc n) place size none le before h = elim (cases_lt place (length (frame ++ take (suc n) piece))) [
  | inr ge ↦ omega (arith, ge, cut_place (frame ++ take (suc n) piece) place size h)
  | inl lt ↦
      let split : take (suc n) piece ≡ take n piece ++ drop n (take (suc n) piece) =
      sym (take-append-drop n (take (suc n) piece))
      ∙ ap (λ (x : List ℕ). x ++ drop n (take (suc n) piece)) (take_less n piece) in
      let whole : frame ++ take (suc n) piece ≡ (frame ++ take n piece) ++ drop n (take (suc n) piece) =
      ap (λ (x : List ℕ). frame ++ x) split ∙ sym (append_assoc frame (take n piece) (drop n (take (suc n) piece))) in
      let room : place ≤ length (frame ++ take n piece) =
      omega (
        arith,
        lt,
        le,
        length-append frame (take n piece),
        length-append frame (take (suc n) piece),
        length-take n piece,
        length-take (suc n) piece,
      ) in
      absurd (before n (omega arith) place size
      (cut_front (frame ++ take n piece) (drop n (take (suc n) piece)) place size
      (subst (λ (x : List ℕ). HasCut x place size) whole h) room))
]
  where
    take_less : (n : ℕ) (xs : List ℕ) → take n (take (suc n) xs) ≡ take n xs
    take_less zero xs = refl
    take_less (suc n) [] = refl
    take_less (suc n) (x ∷ xs) = ap (λ (y : List ℕ). x ∷ y) (take_less n xs)

pub sees_head : (item : List ℕ) (place size : ℕ) → HasCut item place size → place ≡ length item
    → Sees (record { frame = item; cut = Some (place, size); count = 0 }) item
sees_head item place size h all = (
  h,
  sym (ap (λ (x : List ℕ). x ++ drop (place + size) item) (take_all place item (omega arith))
      ∙ ap (λ (x : List ℕ). item ++ x) (drop_all (place + size) item (omega arith))
      ∙ append-nil item),
  omega arith,
)

pub sees_none : (item : List ℕ) → NoCut item → Sees (record { frame = item; cut = None; count = 0 }) item
sees_none item none = (none, refl, refl)

pub no_content : (item : List ℕ) → NoCut item → IsOf Frame item
no_content item none (place, size, h, lt) = none place size h

-- what is known of a frame that is the item
pub before_all : (frame item piece : List ℕ) (n : ℕ) → frame ≡ item → NoCut item
    → (NoCut frame → (i : ℕ) → i < n → NoCut (frame ++ take i piece))
    → (i : ℕ) → i < n → NoCut (item ++ take i piece)
before_all frame item piece n is none before i lt =
    subst (λ (x : List ℕ). NoCut (x ++ take i piece)) is (before (subst NoCut (sym is) none) i lt)

pub head_whole : (item piece : List ℕ) (n place size : ℕ) (frame : List ℕ) → frame ≡ item ++ take n piece → NoCut item
    → n ≤ length piece → ((i : ℕ) → i < n → NoCut (item ++ take i piece))
    → HasCut (item ++ take n piece) place size
    → Sees (record { frame = frame; cut = Some (place, size); count = 0 }) (item ++ take n piece)
head_whole item piece n place size frame is none le before h =
    subst (λ (x : List ℕ). Sees (record { frame = x; cut = Some (place, size); count = 0 }) (item ++ take n piece))
    (sym is) (sees_head (item ++ take n piece) place size h (ends_there item piece n place size none le before h))

pub head_none : (item piece : List ℕ) (n : ℕ) (frame : List ℕ) (cut : Option (ℕ × ℕ)) (count : ℕ)
    → frame ≡ item ++ take n piece → cut ≡ None → count ≡ 0 → NoCut (item ++ take n piece)
    → Sees (record { frame = frame; cut = cut; count = count }) (item ++ take n piece)
head_none item piece n frame cut count is absent start none =
    subst (λ (o : Option (ℕ × ℕ)). Sees (record { frame = frame; cut = o; count = count }) (item ++ take n piece))
    (sym absent) (none, is, start)

-- ---- an item whose head is whole

pub sees_content : (frame : List ℕ) (place size count : ℕ) (item more : List ℕ)
    → Sees (record { frame = frame; cut = Some (place, size); count = count }) item
    → length more ≤ size - count → count < size
    → Sees (record { frame = frame; cut = Some (place, size); count = count + length more }) (item ++ more)
sees_content frame place size count item more (h, text, counts) le lt =
    let within = cut_place item place size h in (
      cut_more item more place size h,
      text
          ∙ ap (λ (x : List ℕ). take place item ++ x) (drop_all (place + size) item (omega arith))
          ∙ sym (ap (λ (x : List ℕ). x ++ drop (place + size) (item ++ more))
          (take-append-le place item more within)
          ∙ ap (λ (x : List ℕ). take place item ++ x)
          (drop_all (place + size) (item ++ more) (omega (arith, length-append item more)))),
      omega (arith, length-append item more),
    )

pub is_content : (frame : List ℕ) (place size count : ℕ) (item more : List ℕ)
    → Sees (record { frame = frame; cut = Some (place, size); count = count }) item
    → length more < size - count → IsOf Content (item ++ more)
is_content frame place size count item more (h, text, counts) lt =
    (place, size, cut_more item more place size h, omega (arith, length-append item more, cut_place item place size h))

pub sees_rest : (frame : List ℕ) (place size count : ℕ) (item more : List ℕ)
    → Sees (record { frame = frame; cut = Some (place, size); count = count }) item → size ≤ count
    → Sees (record { frame = frame ++ more; cut = Some (place, size); count = count }) (item ++ more)
sees_rest frame place size count item more (h, text, counts) le =
    let within = cut_place item place size h in (
      cut_more item more place size h,
      ap (λ (x : List ℕ). x ++ more) text
          ∙ append_assoc (take place item) (drop (place + size) item) more
          ∙ sym (ap (λ (x : List ℕ). x ++ drop (place + size) (item ++ more)) (take-append-le place item more within)
          ∙ ap (λ (x : List ℕ). take place item ++ x) (drop-append-le (place + size) item more (omega arith))),
      omega (arith, length-append item more),
    )

pub is_rest : (frame : List ℕ) (place size count : ℕ) (item more : List ℕ)
    → Sees (record { frame = frame; cut = Some (place, size); count = count }) item → size ≤ count
    → IsOf Frame (item ++ more)
is_rest frame place size count item more (h, text, counts) le (other, length', g, lt) =
    let same = one_cut (item ++ more) other length' place size g (cut_more item more place size h) in
    omega (arith, length-append item more, cut_place item place size h)

-- ---- the same, for a cut that is known

pub at_cut : (frame : List ℕ) (cut : Option (ℕ × ℕ)) (count : ℕ) (item : List ℕ) (place size : ℕ)
    → cut ≡ Some (place, size) → Sees (record { frame = frame; cut = cut; count = count }) item
    → Sees (record { frame = frame; cut = Some (place, size); count = count }) item
at_cut frame cut count item place size is sees =
    subst (λ (o : Option (ℕ × ℕ)). Sees (record { frame = frame; cut = o; count = count }) item) is sees

pub from_cut : (frame : List ℕ) (cut : Option (ℕ × ℕ)) (count : ℕ) (item : List ℕ) (place size : ℕ)
    → cut ≡ Some (place, size) → Sees (record { frame = frame; cut = Some (place, size); count = count }) item
    → Sees (record { frame = frame; cut = cut; count = count }) item
from_cut frame cut count item place size is sees =
    subst (λ (o : Option (ℕ × ℕ)). Sees (record { frame = frame; cut = o; count = count }) item) (sym is) sees

pub at_none : (seen : Seen) (item : List ℕ) → seen.cut ≡ None → Sees seen item
    → NoCut item × (seen.frame ≡ item) × (seen.count ≡ 0)
at_none seen item is sees =
    subst (λ (o : Option (ℕ × ℕ)). MatchOption o (NoCut item × (seen.frame ≡ item) × (seen.count ≡ 0))
    (λ cut. HasCut item cut.0 cut.1 × (seen.frame ≡ take cut.0 item ++ drop (cut.0 + cut.1) item)
    × (seen.count ≡ min cut.1 (length item - cut.0)))) is sees

-- ---- the item put together again

pub put_together : (frame : List ℕ) (place size count : ℕ) (item : List ℕ)
    → Sees (record { frame = frame; cut = Some (place, size); count = count }) item
    → (length (take size (drop place item)) ≡ count)
    × (item ≡ take place frame ++ (take size (drop place item) ++ drop place frame))
put_together frame place size count item (h, text, counts) =
    let within = cut_place item place size h in
    let wide : length (take place item) ≡ place = omega (arith, length-take place item) in
    let front : take place frame ≡ take place item =
    ap (take place) text ∙ take_at (take place item) (drop (place + size) item) place wide in
    let back : drop place frame ≡ drop (place + size) item =
    ap (drop place) text ∙ drop_at (take place item) (drop (place + size) item) place wide in (
      omega (arith, length-take size (drop place item), length-drop place item),
      sym (take-append-drop place item)
          ∙ ap (λ (x : List ℕ). take place item ++ x)
          (sym (take-append-drop size (drop place item))
          ∙ ap (λ (x : List ℕ). take size (drop place item) ++ x) (drop-drop size place item))
          ∙ rw (front, back) refl,
    )

pub frame_cut : (frame : List ℕ) (place size count : ℕ) (item : List ℕ)
    → Sees (record { frame = frame; cut = Some (place, size); count = count }) item → HasCut frame place size
frame_cut frame place size count item (h, text, counts) =
    let within = cut_place item place size h in
    let wide : length (take place item) ≡ place = omega (arith, length-take place item) in
    let head : HasCut (take place item) place size =
    cut_front (take place item) (drop place item) place size
    (subst (λ (x : List ℕ). HasCut x place size) (sym (take-append-drop place item)) h) (omega arith) in
    subst (λ (x : List ℕ). HasCut x place size) (sym text)
    (cut_more (take place item) (drop (place + size) item) place size head)

pub one_view : (seen other : Seen) (item : List ℕ) → Sees seen item → Sees other item → seen ≡ other
one_view seen other item h g = by_cut seen.cut other.cut refl refl
  where
    made : seen.frame ≡ other.frame → seen.cut ≡ other.cut → seen.count ≡ other.count → seen ≡ other
    made f c n =
        ap (λ (x : List ℕ). record { frame = x; cut = seen.cut; count = seen.count }) f
        ∙ ap (λ (x : Option (ℕ × ℕ)). record { frame = other.frame; cut = x; count = seen.count }) c
        ∙ ap (λ (x : ℕ). record { frame = other.frame; cut = other.cut; count = x }) n

    by_cut : (a b : Option (ℕ × ℕ)) → seen.cut ≡ a → other.cut ≡ b → seen ≡ other
    by_cut None None is-a is-b =
        let x = at_none seen item is-a h in
        let y = at_none other item is-b g in
        made (x.1 ∙ sym y.1) (is-a ∙ sym is-b) (x.2 ∙ sym y.2)
    by_cut None (Some b) is-a is-b =
        let x = at_none seen item is-a h in
        let y = at_cut other.frame other.cut other.count item b.0 b.1 is-b g in
        absurd (x.0 b.0 b.1 y.0)
    by_cut (Some a) None is-a is-b =
        let x = at_cut seen.frame seen.cut seen.count item a.0 a.1 is-a h in
        let y = at_none other item is-b g in
        absurd (y.0 a.0 a.1 x.0)
    by_cut (Some a) (Some b) is-a is-b =
        let x = at_cut seen.frame seen.cut seen.count item a.0 a.1 is-a h in
        let y = at_cut other.frame other.cut other.count item b.0 b.1 is-b g in
        let same = one_cut item a.0 a.1 b.0 b.1 x.0 y.0 in
        let cuts : a ≡ b =
        ap (λ (n : ℕ). (n, a.1)) same.0 ∙ ap (λ (n : ℕ). (b.0, n)) same.1 in
        made
        (x.1 ∙ ap (λ (c : ℕ × ℕ). take c.0 item ++ drop (c.0 + c.1) item) cuts ∙ sym y.1)
        (is-a ∙ ap (λ (c : ℕ × ℕ). Some c) cuts ∙ sym is-b)
        (x.2 ∙ ap (λ (c : ℕ × ℕ). min c.1 (length item - c.0)) cuts ∙ sym y.2)

-- ---- the content so far

drop_append : (place : ℕ) (item more : List ℕ) → place ≤ length item → drop place (item ++ more) ≡ drop place item ++ more
drop_append place item more le = drop-append-le place item more le

pub content_more : (place size : ℕ) (item more : List ℕ) → place ≤ length item → (length item - place) + length more ≤ size
    → take size (drop place (item ++ more)) ≡ take size (drop place item) ++ more
content_more place size item more le room =
    ap (take size) (drop_append place item more le)
    ∙ take_all size (drop place item ++ more) (omega (arith, length-append (drop place item) more, length-drop place item))
    ∙ ap (λ (x : List ℕ). x ++ more) (sym (take_all size (drop place item) (omega (arith, length-drop place item))))

pub content_whole : (place size : ℕ) (item more : List ℕ) → place ≤ length item → size ≤ length item - place
    → take size (drop place (item ++ more)) ≡ take size (drop place item) ++ []
content_whole place size item more le all =
    ap (take size) (drop_append place item more le)
    ∙ take-append-le size (drop place item) more (omega (arith, length-drop place item))
    ∙ sym (append-nil (take size (drop place item)))

pub content_none : (place size : ℕ) (item : List ℕ) → place ≡ length item → take size (drop place item) ≡ []
content_none place size item all =
    ap (take size) (drop_all place item (omega arith)) ∙ take_all size [] (omega arith)

-- of cuts that are known
pub at_known : (cut : Option (ℕ × ℕ)) (place size : ℕ) (item : List ℕ) → cut ≡ Some (place, size)
    → content_of cut item ≡ take size (drop place item)
at_known cut place size item is = ap (λ (o : Option (ℕ × ℕ)). content_of o item) is

pub at_no_cut : (cut : Option (ℕ × ℕ)) (item : List ℕ) → cut ≡ None → content_of cut item ≡ []
at_no_cut cut item is = ap (λ (o : Option (ℕ × ℕ)). content_of o item) is
