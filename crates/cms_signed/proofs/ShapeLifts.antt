-- The shapes: put together from parts that read with a gap as with any content in it, they do so too.
use Rattle.std.proofs.Common.{◌≡◌, ℕ, zero, suc, ◌+◌, ◌≤◌, Bool, true, false, cond, eqb, ◌&&◌}
use Rattle.std.proofs.Common.{List, [], ◌∷◌, ◌++◌, length, take, Option, Some, None, Result, Ok, Err, refl, sym}
use Rattle.std.proofs.Common.{ap, subst, ◌∙◌, arith, inl, inr}
use Rattle.std.specs.Prelude.{option_map, IfSome}
use Rattle.std.proofs.lemmas.Bool.{cases_eq, eq-eqb, ne_eqb}
use Rattle.std.proofs.lemmas.List.{length-append, length-take}
use Rattle.std.proofs.lemmas.Option.{cond_some}
use Rattle.der_core.specs.Reading.{◌>>?◌, front_of, tagged_of, oid_of}
use Rattle.der_core.specs.Shapes.{Whole, Front, element, alone, before, optional, anything, kept}
use Rattle.der_core.proofs.Numbers.{some_bind, some_is}
use Rattle.cms_signed.specs.Cut.{HeadPart, Opens, Has, before_content, signed_data, firmware_package}
use Rattle.std.specs.Prelude.{bytes_eq, is_some}
use Rattle.der_core.specs.LeafReading.{integer_of}
use Rattle.cms_signed.specs.Gapped.{Gapped, filled, gapped_front, GappedFront, GappedWhole, is_nothing}
use Rattle.cms_signed.specs.Gapped.{gapped_tagged, gapped_element, gapped_alone, gapped_before, gapped_optional}
use Rattle.cms_signed.specs.Gapped.{gapped_anything, solidly, gapped_one_element}
use Rattle.cms_signed.specs.SignedReading.{one_element, info_of, tail_of, version_of, signed_of, encapsulated_of}
use Rattle.cms_signed.specs.SignedReading.{gapped_info, gapped_signed, gapped_encapsulated, or_fails, unless, inner}
use Rattle.cms_signed.specs.SignedReading.{outer_of, gapped_outer}
use Rattle.cms_signed.proofs.Lifts.{IsSolid, IsHole, Leads, LiftsParts, fill-parts, solid_is, filled-solid, has_parts}
use Rattle.cms_signed.proofs.Lifts.{opens_parts, content_parts, solid_parts}
use Rattle.der_core.proofs.Element.{ok_is}

pub record LiftsWhole {V W : Type 0} (content : List ℕ) (fill : W → V) (At : Gapped → Type 0) (Post : W → Type 0)
    (read : Whole V) (read' : GappedWhole W) : Type 0 where
  pub same : (g : Gapped) → At g → read (filled g content) ≡ option_map fill (read' g)
  pub post : (g : Gapped) (w : W) → At g → read' g ≡ Some w → Post w

pub record LiftsFront {V W : Type 0} (content : List ℕ) (fill : W → V) (At : Gapped → Type 0) (Post : W → Type 0)
    (Next : Gapped → Type 0) (read : Front V) (read' : GappedFront W) : Type 0 where
  pub same : (g : Gapped) → At g
      → read (filled g content) ≡ option_map (λ x. (fill x.0, filled x.1 content)) (read' g)
  pub post : (g : Gapped) (x : W × Gapped) → At g → read' g ≡ Some x → Post x.0 × Next x.1

-- ---- steps

pub bind_same : {A B C D : Type 0} (o : Option A) (o' : Option C) (f : C → A) (h : D → B) (k : A → Option B)
    (k' : C → Option D) → o ≡ option_map f o' → ((x : C) → o' ≡ Some x → k (f x) ≡ option_map h (k' x))
    → (o >>? k) ≡ option_map h (o' >>? k')
bind_same {A} {B} {C} {D} o None f h k k' e next = ap (λ (z : Option A). z >>? k) e
bind_same {A} {B} {C} {D} o (Some x) f h k k' e next = ap (λ (z : Option A). z >>? k) e ∙ next x refl

if_same : {A B : Type 0} (b c : Bool) (x : A) (h : A → B) → b ≡ c
    → cond b (Some (h x)) None ≡ option_map h (cond c (Some x) None)
if_same {A} {B} b c x h e = ap (λ (z : Bool). cond z (Some (h x)) None) e ∙ by_case c
  where
    by_case : (c : Bool) → cond c (Some (h x)) None ≡ option_map h (cond c (Some x) None)
    by_case true = refl
    by_case false = refl

-- ---- no octets

-- the content has octets enough
pub record IsWide (content : List ℕ) (At : Gapped → Type 0) : Type 0 where
  pub wide : (g : Gapped) → At g → g.gap ≤ length content

pub solid-wide : (content : List ℕ) → IsWide content IsSolid
solid-wide content = record { wide = λ g s. omega (arith, s.0) }

pub leads-wide : (content : List ℕ) (parts : List HeadPart) → IsWide content (Leads content parts)
leads-wide content parts = record { wide = λ g at. omega (arith, at.0) }

sum_nothing : (n a b c : ℕ) → n ≡ a + (b + c) → eqb n 0 ≡ (eqb a 0 && (eqb b 0 && eqb c 0))
sum_nothing n a b c e = elim (cases_eq a 0) [
  | inr some ↦ rw (ne_eqb n 0 (λ z. some (omega arith)), ne_eqb a 0 some) refl
  | inl a-none ↦ elim (cases_eq b 0) [
    | inr some ↦ rw (ne_eqb n 0 (λ z. some (omega arith)), eq-eqb a 0 a-none, ne_eqb b 0 some) refl
    | inl b-none ↦ elim (cases_eq c 0) [
      | inr some ↦
          rw (ne_eqb n 0 (λ z. some (omega arith)), eq-eqb a 0 a-none, eq-eqb b 0 b-none, ne_eqb c 0 some) refl
      | inl c-none ↦
          rw (eq-eqb n 0 (omega arith), eq-eqb a 0 a-none, eq-eqb b 0 b-none, eq-eqb c 0 c-none) refl
    ]
  ]
]

nothing_same : (content : List ℕ) (At : Gapped → Type 0) → IsWide content At → (g : Gapped) → At g
    → eqb (length (filled g content)) 0 ≡ is_nothing g
nothing_same content At w g at =
    sum_nothing (length (filled g content)) (length g.front) g.gap (length g.back)
    (omega (
      arith,
      w.wide g at,
      length-append g.front (take g.gap content ++ g.back),
      length-append (take g.gap content) g.back,
      length-take g.gap content,
    ))

-- ---- shapes

pub element_lifts : {V W : Type 0} {content : List ℕ} {fill : W → V} {At Inner Next : Gapped → Type 0}
    {Post : W → Type 0} {read : Whole V} {read' : GappedWhole W} (tag : ℕ) → LiftsParts content At Inner Next
    → LiftsWhole content fill Inner Post read read'
    → LiftsFront content fill At Post Next (element tag read) (gapped_element tag read')
unfolding tagged_of gapped_tagged
element_lifts {V} {W} {content} {fill} {At} {Inner} {Next} {Post} {read} {read'} tag parts laws =
    record { same = same; post = post }
  where
    tagged_same : (g : Gapped) → At g
        → tagged_of tag (filled g content) ≡ option_map (λ x. (filled x.0 content, filled x.1 content)) (gapped_tagged tag g)
    tagged_same g at =
        bind_same (front_of (filled g content)) (gapped_front g) (fill-parts content)
        (λ x. (filled x.0 content, filled x.1 content)) (λ x. cond (eqb x.0 tag) (Some x.1) None)
        (λ x. cond (eqb x.0 tag) (Some x.1) None) (parts.same g at)
        (λ x is. if_same (eqb x.0 tag) (eqb x.0 tag) x.1 (λ x. (filled x.0 content, filled x.1 content)) refl)

    tagged_post : (g : Gapped) (x : Gapped × Gapped) → At g → gapped_tagged tag g ≡ Some x → Inner x.0 × Next x.1
    tagged_post g x at e =
        let b = some_bind (gapped_front g) (λ x. cond (eqb x.0 tag) (Some x.1) None) x e in
        let p = parts.post g b.0 at b.1 in
        subst (λ (z : Gapped × Gapped). Inner z.0 × Next z.1) (cond_some (eqb b.0.0 tag) b.0.1 x b.2).1 p

    same : (g : Gapped) → At g → element tag read (filled g content)
        ≡ option_map (λ x. (fill x.0, filled x.1 content)) (gapped_element tag read' g)
    same g at =
        bind_same (tagged_of tag (filled g content)) (gapped_tagged tag g)
        (λ x. (filled x.0 content, filled x.1 content)) (λ x. (fill x.0, filled x.1 content))
        (λ x. read x.0 >>? λ v. Some (v, x.1)) (λ x. read' x.0 >>? λ v. Some (v, x.1)) (tagged_same g at)
        (λ x is. bind_same (read (filled x.0 content)) (read' x.0) fill (λ x. (fill x.0, filled x.1 content))
        (λ v. Some (v, filled x.1 content)) (λ v. Some (v, x.1)) (laws.same x.0 (tagged_post g x at is).0)
        (λ v is. refl))

    post : (g : Gapped) (x : W × Gapped) → At g → gapped_element tag read' g ≡ Some x → Post x.0 × Next x.1
    post g x at e =
        let b = some_bind (gapped_tagged tag g) (λ x. read' x.0 >>? λ v. Some (v, x.1)) x e in
        let c = some_bind (read' b.0.0) (λ v. Some (v, b.0.1)) x b.2 in
        let p = tagged_post g b.0 at b.1 in
        subst (λ (z : W × Gapped). Post z.0 × Next z.1) (some_is (c.0, b.0.1) x c.2)
        (laws.post b.0.0 c.0 p.0 c.1, p.1)

pub alone_lifts : {V W : Type 0} {content : List ℕ} {fill : W → V} {At Next : Gapped → Type 0} {Post : W → Type 0}
    {read : Front V} {read' : GappedFront W} → IsWide content Next → LiftsFront content fill At Post Next read read'
    → LiftsWhole content fill At Post (alone read) (gapped_alone read')
alone_lifts {V} {W} {content} {fill} {At} {Next} {Post} {read} {read'} wide laws = record {
  same = λ g at. bind_same (read (filled g content)) (read' g) (λ x. (fill x.0, filled x.1 content)) fill
      (λ x. cond (eqb (length x.1) 0) (Some x.0) None) (λ x. cond (is_nothing x.1) (Some x.0) None) (laws.same g at)
      (λ x is. if_same (eqb (length (filled x.1 content)) 0) (is_nothing x.1) x.0 fill
      (nothing_same content Next wide x.1 (laws.post g x at is).1));
  post = λ g w at e.
      let b = some_bind (read' g) (λ x. cond (is_nothing x.1) (Some x.0) None) w e in
      subst Post (cond_some (is_nothing b.0.1) b.0.0 w b.2).1 (laws.post g b.0 at b.1).0;
}

pub before_lifts : {V V' W W' : Type 0} {content : List ℕ} {fill : W → V} {fill' : W' → V'}
    {At Next : Gapped → Type 0} {Post : W → Type 0} {Post' : W' → Type 0} {read : Front V} {read' : GappedFront W}
    {whole : Whole V'} {whole' : GappedWhole W'} → LiftsFront content fill At Post Next read read'
    → LiftsWhole content fill' Next Post' whole whole'
    → LiftsWhole content (λ (x : W × W'). (fill x.0, fill' x.1)) At (λ x. Post x.0 × Post' x.1) (before read whole)
    (gapped_before read' whole')
before_lifts {V} {V'} {W} {W'} {content} {fill} {fill'} {At} {Next} {Post} {Post'} {read} {read'} {whole} {whole'} first second = record {
  same = λ g at. bind_same (read (filled g content)) (read' g) (λ x. (fill x.0, filled x.1 content))
      (λ x. (fill x.0, fill' x.1)) (λ x. whole x.1 >>? λ w. Some (x.0, w)) (λ x. whole' x.1 >>? λ w. Some (x.0, w))
      (first.same g at)
      (λ x is. bind_same (whole (filled x.1 content)) (whole' x.1) fill' (λ x. (fill x.0, fill' x.1))
      (λ w. Some (fill x.0, w)) (λ w. Some (x.0, w)) (second.same x.1 (first.post g x at is).1) (λ w is. refl));
  post = λ g w at e.
      let b = some_bind (read' g) (λ x. whole' x.1 >>? λ w. Some (x.0, w)) w e in
      let c = some_bind (whole' b.0.1) (λ w. Some (b.0.0, w)) w b.2 in
      let p = first.post g b.0 at b.1 in
      subst (λ (z : W × W'). Post z.0 × Post' z.1) (some_is (b.0.0, c.0) w c.2)
      (p.0, second.post b.0.1 c.0 p.1 c.1);
}

pub optional_lifts : {V W : Type 0} {content : List ℕ} {fill : W → V} {At : Gapped → Type 0} {Post : W → Type 0}
    {read : Whole V} {read' : GappedWhole W} → IsWide content At → LiftsWhole content fill At Post read read'
    → LiftsWhole content (option_map fill) At (λ o. IfSome o Post) (optional read) (gapped_optional read')
optional_lifts {V} {W} {content} {fill} {At} {Post} {read} {read'} wide laws = record { same = same; post = post }
  where
    by_case : (b c : Bool) (o : Option V) (o' : Option W) → b ≡ c → o ≡ option_map fill o'
        → cond b (Some None) (o >>? λ v. Some (Some v))
        ≡ option_map (option_map fill) (cond c (Some None) (o' >>? λ v. Some (Some v)))
    by_case true true o o' e same = refl
    by_case true false o o' e same = absurd cc
    by_case false true o o' e same = absurd cc
    by_case false false o o' e same = bind_same o o' fill (option_map fill) (λ v. Some (Some v)) (λ v. Some (Some v)) same (λ x is. refl)

    same : (g : Gapped) → At g → optional read (filled g content) ≡ option_map (option_map fill) (gapped_optional read' g)
    same g at =
        by_case (eqb (length (filled g content)) 0) (is_nothing g) (read (filled g content)) (read' g)
        (nothing_same content At wide g at) (laws.same g at)

    post : (g : Gapped) (w : Option W) → At g → gapped_optional read' g ≡ Some w → IfSome w Post
    post g w at e = of (is_nothing g) e
      where
        of : (b : Bool) → cond b (Some None) (read' g >>? λ v. Some (Some v)) ≡ Some w → IfSome w Post
        of true e = subst (λ (z : Option W). IfSome z Post) (some_is None w e) tt
        of false e =
            let b = some_bind (read' g) (λ v. Some (Some v)) w e in
            subst (λ (z : Option W). IfSome z Post) (some_is (Some b.0) w b.2) (laws.post g b.0 at b.1)

pub solidly_lifts : {V : Type 0} (content : List ℕ) (read : Whole V)
    → LiftsWhole content (λ (v : V). v) IsSolid (λ v. Unit {0}) read (solidly read)
solidly_lifts {V} content read = record { same = same; post = λ g w at e. tt }
  where
    id_map : (o : Option V) → o ≡ option_map (λ (v : V). v) o
    id_map None = refl
    id_map (Some v) = refl

    same : (g : Gapped) → IsSolid g → read (filled g content) ≡ option_map (λ (v : V). v) (solidly read g)
    same g s =
        subst (λ (h : Gapped). read (filled h content) ≡ option_map (λ (v : V). v) (solidly read h)) (sym (solid_is g s))
        (ap read (filled-solid g.front content) ∙ id_map (read g.front))

pub anything_lifts : (content : List ℕ) (At : Gapped → Type 0)
    → LiftsWhole content (λ (w : Gapped). filled w content) At At anything gapped_anything
anything_lifts content At =
    record { same = λ g at. refl; post = λ g w at e. subst At (some_is g w e) at }

pub one_element_lifts : {content : List ℕ} {At Inner : Gapped → Type 0} → LiftsParts content At Inner IsSolid
    → LiftsWhole content (λ (w : Gapped). filled w content) At At one_element gapped_one_element
one_element_lifts {content} {At} {Inner} opens = record {
  same = λ g at. bind_same (front_of (filled g content)) (gapped_front g) (fill-parts content)
      (λ (w : Gapped). filled w content) (λ x. cond (eqb (length x.1.1) 0) (Some (filled g content)) None)
      (λ x. cond (is_nothing x.1.1) (Some g) None) (opens.same g at)
      (λ x is. if_same (eqb (length (filled x.1.1 content)) 0) (is_nothing x.1.1) g (λ (w : Gapped). filled w content)
      (nothing_same content IsSolid (solid-wide content) x.1.1 (opens.post g x at is).1));
  post = λ g w at e.
      let b = some_bind (gapped_front g) (λ x. cond (is_nothing x.1.1) (Some g) None) w e in
      subst At (cond_some (is_nothing b.0.1.1) g w b.2).1 at;
}

-- ---- what stands around a content

abbrev pub behind : ℕ → List HeadPart → List HeadPart
behind zero parts = parts
behind (suc n) [] = []
behind (suc n) (part ∷ parts) = behind n parts

-- where octets stand at each part, and at the content
pub record Route (content : List ℕ) (At : ℕ → Gapped → Type 0) (Last : Gapped → Type 0) : Type 0 where
  pub wide : (n : ℕ) → IsWide content (At n)
  pub info : LiftsParts content (At 0) (At 1) IsSolid
  pub kind : LiftsParts content (At 1) IsSolid (At 2)
  pub explicit : LiftsParts content (At 2) (At 3) IsSolid
  pub signed : LiftsParts content (At 3) (At 4) IsSolid
  pub version : LiftsParts content (At 4) IsSolid (At 5)
  pub digests : LiftsParts content (At 5) IsSolid (At 6)
  pub encapsulated : LiftsParts content (At 6) (At 7) IsSolid
  pub content_kind : LiftsParts content (At 7) IsSolid (At 8)
  pub content_explicit : LiftsParts content (At 8) (At 9) IsSolid
  pub value : LiftsParts content (At 9) Last IsSolid

-- without a gap
pub solid_route : (content : List ℕ) → Route content (λ n. IsSolid) IsSolid
solid_route content =
    let parts = solid_parts content in
    record {
      wide = λ n. solid-wide content;
      info = parts;
      kind = parts;
      explicit = parts;
      signed = parts;
      version = parts;
      digests = parts;
      encapsulated = parts;
      content_kind = parts;
      content_explicit = parts;
      value = parts;
    }

-- to the gap
pub gap_route : (content : List ℕ)
    → Route content (λ n. Leads content (behind n before_content)) (IsHole content)
gap_route content = record {
  wide = λ n. leads-wide content (behind n before_content);
  info = opens_parts content 0x30 (behind 1 before_content);
  kind = has_parts content 0x06 (bytes_eq signed_data) (Opens 0xA0) (behind 3 before_content);
  explicit = opens_parts content 0xA0 (behind 3 before_content);
  signed = opens_parts content 0x30 (behind 4 before_content);
  version = has_parts content 0x02 (λ contents. is_some (integer_of contents)) (Has 0x31 (λ contents. true))
      (behind 6 before_content);
  digests = has_parts content 0x31 (λ contents. true) (Opens 0x30) (behind 7 before_content);
  encapsulated = opens_parts content 0x30 (behind 7 before_content);
  content_kind = has_parts content 0x06 (bytes_eq firmware_package) (Opens 0xA0) (behind 9 before_content);
  content_explicit = opens_parts content 0xA0 (behind 9 before_content);
  value = content_parts content 0x04;
}

info_lifts : {content : List ℕ} {At : ℕ → Gapped → Type 0} {Last : Gapped → Type 0} → Route content At Last
    → LiftsWhole content (λ (x : List ℕ × Gapped). (x.0, filled x.1 content)) (At 0)
    (λ x. Unit {0} × At 3 x.1) info_of gapped_info
unfolding info_of gapped_info
info_lifts {content} {At} {Last} route =
    alone_lifts (solid-wide content) (element_lifts 0x30 route.info
    (before_lifts (element_lifts 0x06 route.kind (solidly_lifts content oid_of))
    (alone_lifts (solid-wide content) (element_lifts 0xA0 route.explicit (one_element_lifts route.signed)))))

signed_lifts : {content : List ℕ} {At : ℕ → Gapped → Type 0} {Last : Gapped → Type 0} → Route content At Last
    → LiftsWhole content (λ (x : ℕ × (List ℕ × (Gapped × List ℕ))). (x.0, (x.1.0, (filled x.1.1.0 content, x.1.1.1))))
    (At 3) (λ x. Unit {0} × (Unit {0} × (At 7 x.1.1.0 × Unit {0}))) signed_of gapped_signed
unfolding signed_of gapped_signed
signed_lifts {content} {At} {Last} route =
    alone_lifts (solid-wide content) (element_lifts 0x30 route.signed
    (before_lifts (element_lifts 0x02 route.version (solidly_lifts content version_of))
    (before_lifts (element_lifts 0x31 route.digests (solidly_lifts content anything))
    (before_lifts (element_lifts 0x30 route.encapsulated (anything_lifts content (At 7)))
    (solidly_lifts content (kept tail_of))))))

encapsulated_lifts : {content : List ℕ} {At : ℕ → Gapped → Type 0} {Last : Gapped → Type 0} → Route content At Last
    → LiftsWhole content (λ (x : List ℕ × Option Gapped). (x.0, option_map (λ w. filled w content) x.1))
    (At 7) (λ x. Unit {0} × IfSome x.1 Last) encapsulated_of gapped_encapsulated
unfolding encapsulated_of gapped_encapsulated
encapsulated_lifts {content} {At} {Last} route =
    before_lifts (element_lifts 0x06 route.content_kind (solidly_lifts content oid_of))
    (optional_lifts (route.wide 8) (alone_lifts (solid-wide content)
    (element_lifts 0xA0 route.content_explicit (alone_lifts (solid-wide content)
    (element_lifts 0x04 route.value (anything_lifts content Last))))))

-- ---- the conditions

abbrev pub result_map : {A B : Type 0} → (A → B) → Result A ℕ → Result B ℕ
result_map f (Ok x) = Ok (f x)
result_map f (Err n) = Err n

or_fails_same : {A B C D : Type 0} (n : ℕ) (o : Option A) (o' : Option C) (f : C → A) (h : D → B) (k : A → Result B ℕ)
    (k' : C → Result D ℕ) → o ≡ option_map f o' → ((x : C) → o' ≡ Some x → k (f x) ≡ result_map h (k' x))
    → or_fails n o k ≡ result_map h (or_fails n o' k')
unfolding or_fails
or_fails_same {A} {B} {C} {D} n o None f h k k' e next = ap (λ (z : Option A). or_fails n z k) e
or_fails_same {A} {B} {C} {D} n o (Some x) f h k k' e next = ap (λ (z : Option A). or_fails n z k) e ∙ next x refl

unless_same : {B D : Type 0} (n : ℕ) (b : Bool) (h : D → B) (r : Result B ℕ) (r' : Result D ℕ) → r ≡ result_map h r'
    → unless n b r ≡ result_map h (unless n b r')
unfolding unless
unless_same n true h r r' e = e
unless_same n false h r r' e = refl

abbrev pub fill-outer : List ℕ → Gapped × List ℕ → List ℕ × List ℕ
fill-outer content x = (filled x.0 content, x.1)

inner_same : (content kind found tail : List ℕ) (o : Option Gapped)
    → inner kind (found, option_map (λ w. filled w content) o) tail
    ≡ result_map (fill-outer content) (inner kind (found, o) tail)
unfolding or_fails
inner_same content kind found tail None =
    unless_same 7 _ (fill-outer content) _ _ (unless_same 8 _ (fill-outer content) _ _
    (unless_same 9 _ (fill-outer content) _ _ refl))
inner_same content kind found tail (Some g) =
    unless_same 7 _ (fill-outer content) _ _ (unless_same 8 _ (fill-outer content) _ _
    (unless_same 9 _ (fill-outer content) _ _ (unless_same 11 _ (fill-outer content) _ _ refl)))

-- what is read around a gap is what is read around any content in it
pub outer_lifts : {content : List ℕ} {At : ℕ → Gapped → Type 0} {Last : Gapped → Type 0} → Route content At Last
    → (kind : List ℕ) (g : Gapped) → At 0 g
    → outer_of kind (filled g content) ≡ result_map (fill-outer content) (gapped_outer kind g)
unfolding outer_of gapped_outer
outer_lifts {content} {At} {Last} route kind g at =
    or_fails_same 3 (info_of (filled g content)) (gapped_info g) (λ (x : List ℕ × Gapped). (x.0, filled x.1 content))
    (fill-outer content) _ _ ((info_lifts route).same g at)
    (λ i is-i. unless_same 4 _ (fill-outer content) _ _
    (or_fails_same 5 (signed_of (filled i.1 content)) (gapped_signed i.1)
    (λ (x : ℕ × (List ℕ × (Gapped × List ℕ))). (x.0, (x.1.0, (filled x.1.1.0 content, x.1.1.1)))) (fill-outer content) _ _
    ((signed_lifts route).same i.1 ((info_lifts route).post g i at is-i).1)
    (λ s is-s. or_fails_same 6 (encapsulated_of (filled s.1.1.0 content)) (gapped_encapsulated s.1.1.0)
    (λ (x : List ℕ × Option Gapped). (x.0, option_map (λ w. filled w content) x.1)) (fill-outer content) _ _
    ((encapsulated_lifts route).same s.1.1.0
    ((signed_lifts route).post i.1 s ((info_lifts route).post g i at is-i).1 is-s).1.1.0)
    (λ e is-e. inner_same content kind e.0 s.1.1.1 e.1))))

or_fails_ok : {A B : Type 0} (n : ℕ) (o : Option A) (k : A → Result B ℕ) (x : B) → or_fails n o k ≡ Ok x
    → (v : A) × (o ≡ Some v) × (k v ≡ Ok x)
unfolding or_fails
or_fails_ok n None k x e = absurd cc
or_fails_ok n (Some v) k x e = (v, refl, e)

unless_ok : {B : Type 0} (n : ℕ) (b : Bool) (r : Result B ℕ) (x : B) → unless n b r ≡ Ok x → r ≡ Ok x
unfolding unless
unless_ok n true r x e = e
unless_ok n false r x e = absurd cc

inner_content : (kind : List ℕ) (e : List ℕ × Option Gapped) (tail : List ℕ) (x : Gapped × List ℕ)
    → inner kind e tail ≡ Ok x → e.1 ≡ Some x.0
inner_content kind e tail x is =
    let c = or_fails_ok 10 e.1 _ x (unless_ok 9 _ _ x (unless_ok 8 _ _ x (unless_ok 7 _ _ x is))) in
    let same : (c.0, tail) ≡ x = ok_is {E = ℕ} (c.0, tail) x (unless_ok 11 _ _ x c.2) in
    c.1 ∙ ap (λ (y : Gapped × List ℕ). Some y.0) same

-- and the content is where it should be
pub outer_post : {content : List ℕ} {At : ℕ → Gapped → Type 0} {Last : Gapped → Type 0} → Route content At Last
    → (kind : List ℕ) (g : Gapped) (x : Gapped × List ℕ) → At 0 g → gapped_outer kind g ≡ Ok x → Last x.0
unfolding gapped_outer
outer_post {content} {At} {Last} route kind g x at is =
    let i = or_fails_ok 3 (gapped_info g) _ x is in
    let s = or_fails_ok 5 (gapped_signed i.0.1) _ x (unless_ok 4 _ _ x i.2) in
    let e = or_fails_ok 6 (gapped_encapsulated s.0.1.1.0) _ x s.2 in
    let at-i = (info_lifts route).post g i.0 at i.1 in
    let at-s = (signed_lifts route).post i.0.1 s.0 at-i.1 s.1 in
    let at-e = (encapsulated_lifts route).post s.0.1.1.0 e.0 at-s.1.1.0 e.1 in
    let found = inner_content kind e.0 s.0.1.1.1 x e.2 in
    subst (λ (o : Option Gapped). IfSome o Last) found at-e.1
