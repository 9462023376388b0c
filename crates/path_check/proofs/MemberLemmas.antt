-- The members of a path, by their places.
use Rattle.std.proofs.Common.{◌≡◌, ◌↔◌, ◌<◌, ◌+◌, ℕ, zero, suc, List, [], ◌∷◌, ◌++◌, Option, None, Some, length, map, take, slice_get, get_or, refl, sym, ap, subst, ◌∙◌, arith}
use Rattle.std.specs.Option.{IsSomeAnd}
use Rattle.std.specs.List.{AllByRecursion, cons_option}
use Rattle.std.proofs.Math.Seq.{take-suc}
use Rattle.std.proofs.lemmas.List.Elements.{filter_map-append}
use Rattle.std.proofs.lemmas.Option.{slice_get_within, slice_get_read, slice_get-get_or}
use Rattle.cert_fields.specs.Anchor.{TrustAnchor}
use Rattle.cert_fields.specs.Certificate.{Certificate}
use Rattle.cert_fields.specs.Extensions.{HasExtensions}
use Rattle.cert_fields.specs.declared.extensions.Extensions.{Extensions}
use Rattle.path_check.specs.First.{HoldsAt}
use Rattle.cert_fields.specs.Sid.{SignerIdentifier}
use Rattle.path_check.specs.Paths.{LeadsTo, PathPlaces, PathOf, HasMembers}
use Rattle.path_check.specs.Conditions.{Reads, members_at}
use Rattle.path_check.proofs.AllLemmas.{all_at}
use Rattle.path_check.specs.Members.{AreExtensionsOf, member_view, IsRead}
use Rattle.path_check.specs.declared.member.Member.{Member}

add_one : (n : ℕ) → n + 1 ≡ suc n
add_one n = omega arith

-- ---- members at places

module _ (certificates : List Certificate) where
  -- one more member
  pub members_more : (places : List ℕ) (n : ℕ) (c : Certificate) → n < length places
      → slice_get certificates (get_or places n 0) ≡ Some c
      → members_at certificates (take (n + 1) places) ≡ members_at certificates (take n places) ++ c ∷ []
  members_more places n c less there =
      ap (λ m. members_at certificates (take m places)) (add_one n)
      ∙ ap (members_at certificates) (take-suc places n 0 less)
      ∙ filter_map-append (slice_get certificates) (take n places) (get_or places n 0 ∷ [])
      ∙ ap (λ o. members_at certificates (take n places) ++ cons_option o []) there

  -- what holds of each member holds of the one at a place
  pub member_among : (P : Certificate → Type 0) (places : List ℕ) (n : ℕ) (c : Certificate) → n < length places
      → slice_get certificates (get_or places n 0) ≡ Some c → AllByRecursion P (members_at certificates places) → P c
  member_among P [] n c less there all = absurd (omega (arith, less))
  member_among P (x ∷ xs) zero c less there all =
      (subst (λ o. AllByRecursion P (cons_option o (members_at certificates xs))) there all).0
  member_among P (x ∷ xs) (suc n) c less there all =
      member_among P xs n c (let fewer : n < length xs = omega (arith, less) in fewer) there
      (others (slice_get certificates x) all)
    where
      others : (o : Option Certificate) → AllByRecursion P (cons_option o (members_at certificates xs))
          → AllByRecursion P (members_at certificates xs)
      others None all = all
      others (Some y) all = all.1

-- what holds of each holds with one more at the end
pub all_push : {A : Type 0} (P : A → Type 0) (xs : List A) (x : A) → AllByRecursion P xs → P x
    → AllByRecursion P (xs ++ x ∷ [])
all_push P [] x all holds = (holds, tt)
all_push P (y ∷ ys) x all holds = (all.0, all_push P ys x all.1 holds)

-- the element at a place that is among them
pub there : {A : Type 0} (xs : List A) (places : List ℕ) (n : ℕ) (x : A) → n < length places
    → AllByRecursion (λ place. place < length xs) places → x ≡ get_or xs (get_or places n 0) x
    → slice_get xs (get_or places n 0) ≡ Some x
there xs places n x less within is =
    slice_get_read xs (length xs) (get_or places n 0) x refl
    (all_at (λ place. place < length xs) places n (get_or places n 0) within (slice_get-get_or places n 0 less)) is

-- ---- places of a path

some_and : {A : Type 0} (o : Option A) (P : A → Type 0) → IsSomeAnd o P → (x : A) × (o ≡ Some x) × P x
some_and None P is = absurd is
some_and (Some x) P is = (x, refl, is)

within : {A : Type 0} (xs : List A) (i : ℕ) (P : A → Type 0) → HoldsAt P xs i → i < length xs
within xs i P holds = let there = some_and (slice_get xs i) P holds in slice_get_within xs i there.0 there.1

-- the places are among the certificates, and the anchor's among the anchors
abbrev pub AreWithin : List Certificate → List TrustAnchor → List ℕ → ℕ → Type 0
AreWithin certificates anchors places anchor =
    AllByRecursion (λ place. place < length certificates) places × (anchor < length anchors)

module _ (certificates : List Certificate) (anchors : List TrustAnchor) where
  leads_within : (below : ℕ) (more : List ℕ) (anchor : ℕ) → LeadsTo certificates anchors below more anchor
      → AreWithin certificates anchors more anchor
  leads_within below [] anchor leads = (tt, within anchors anchor _ leads.fits)
  leads_within below (next ∷ more) anchor leads =
      let rest = leads_within next more anchor leads.2 in
      ((within certificates next _ leads.1.fits, rest.0), rest.1)

  pub path_within : (name : SignerIdentifier) (path : PathPlaces) → PathOf name certificates anchors path
      → AreWithin certificates anchors path.members path.anchor
  path_within name path is = by path.members path.anchor is
    where
      by : (members : List ℕ) (anchor : ℕ) → HasMembers name certificates anchors members anchor
          → AreWithin certificates anchors members anchor
      by [] anchor is = (tt, within anchors anchor _ is.fits)
      by (first ∷ more) anchor is =
          let rest = leads_within first more anchor is.3 in
          ((within certificates first _ is.1.fits, rest.0), rest.1)

-- extensions that don't read
pub reads_none : (c : Certificate) (answer : Option Extensions) → answer ≡ None
    → ((e : Extensions) → (answer ≡ Some e) ↔ HasExtensions c e) → ¬ Reads c
reads_none c answer is reads has = let e : None ≡ Some has.0 = sym is ∙ (reads has.0).1 has.1 in cc

-- and those that do
pub reads_some : (c : Certificate) (answer : Option Extensions) (kept : Extensions) → answer ≡ Some kept
    → ((e : Extensions) → (answer ≡ Some e) ↔ HasExtensions c e) → AreExtensionsOf c kept
reads_some c answer kept is reads e = (
  λ same. (reads e).0 (is ∙ ap Some same),
  λ has. let both : Some kept ≡ Some e = sym is ∙ (reads e).1 has in cc,
)

-- the extensions of members that were read do read
pub reads_each : (members : List Member) → AllByRecursion IsRead members → AllByRecursion Reads (map member_view members)
reads_each [] all = tt
reads_each (m ∷ ms) all = ((m.extensions, (all.0.extensions m.extensions).0 refl), reads_each ms all.1)

-- places of a path, as they stand in the code
pub places_within : (certs : List Certificate) (anchors : List TrustAnchor) (name : SignerIdentifier) (path : PathPlaces)
    (places : List ℕ) → places ≡ path.members → PathOf name certs anchors path
    → AllByRecursion (λ place. place < length certs) places
places_within certs anchors name path places same is =
    subst (AllByRecursion (λ place. place < length certs)) (sym same) (path_within certs anchors name path is).0

pub anchor_within : (certs : List Certificate) (anchors : List TrustAnchor) (name : SignerIdentifier) (path : PathPlaces)
    (anchor : ℕ) → anchor ≡ path.anchor → PathOf name certs anchors path → anchor < length anchors
anchor_within certs anchors name path anchor same is =
    subst (λ n. n < length anchors) (sym same) (path_within certs anchors name path is).1

-- the anchor that is read is the one at its place
pub same_anchor : (anchors : List TrustAnchor) (place other : ℕ) (read anchor : TrustAnchor) → place ≡ other
    → place < length anchors → read ≡ get_or anchors place read → slice_get anchors other ≡ Some anchor → read ≡ anchor
same_anchor anchors place other read anchor same less is at =
    let there = slice_get_read anchors (length anchors) place read refl less is in
    let both : Some read ≡ Some anchor = sym there ∙ ap (slice_get anchors) same ∙ at in cc

-- ---- members by their places

there_is : {A : Type 0} (xs : List A) (n : ℕ) → n < length xs → (x : A) × (slice_get xs n ≡ Some x)
there_is [] n less = absurd (omega (arith, less))
there_is (x ∷ xs) zero less = (x, refl)
there_is (x ∷ xs) (suc n) less = there_is xs n (let fewer : n < length xs = omega (arith, less) in fewer)

module _ (certificates : List Certificate) where
  first_member : (x : ℕ) (xs : List ℕ) (c : Certificate) → slice_get certificates x ≡ Some c
      → members_at certificates (x ∷ xs) ≡ c ∷ members_at certificates xs
  first_member x xs c is = ap (λ o. cons_option o (members_at certificates xs)) is

  -- as many members as places
  pub members_count : (places : List ℕ) → AllByRecursion (λ place. place < length certificates) places
      → length (members_at certificates places) ≡ length places
  members_count [] all = refl
  members_count (x ∷ xs) all =
      let one = there_is certificates x all.0 in
      ap length (first_member x xs one.0 one.1) ∙ ap suc (members_count xs all.1)

  -- and each is the certificate at its place
  pub member_there : (places : List ℕ) (i place : ℕ) → AllByRecursion (λ place. place < length certificates) places
      → slice_get places i ≡ Some place
      → slice_get (members_at certificates places) i ≡ slice_get certificates place
  member_there [] i place all is = absurd (let e : None ≡ Some place = is in cc)
  member_there (x ∷ xs) zero place all is =
      let one = there_is certificates x all.0 in
      let same : x ≡ place = cc in
      ap (λ l. slice_get l 0) (first_member x xs one.0 one.1) ∙ sym one.1 ∙ ap (slice_get certificates) same
  member_there (x ∷ xs) (suc i) place all is =
      let one = there_is certificates x all.0 in
      ap (λ l. slice_get l (suc i)) (first_member x xs one.0 one.1) ∙ member_there xs i place all.1 is
