-- The lines of a package recipe, by their words.
use Rattle.std.proofs.Common.{◌≡◌, ℕ, List, [], ◌∷◌, ◌++◌, Some, None, refl, sym, ◌∙◌}
use Rattle.std.proofs.Common.{ap, codes, subst, inl, inr}
use Rattle.std.specs.Prelude.{IsTrue}
use Rattle.std.specs.List.{AllByRecursion, flat_map}
use Rattle.std.proofs.lemmas.List.Concat.{flat_map-append}
use Rattle.std.proofs.lemmas.Option.{none-some}
use Rattle.attribute_write.specs.declared.communities.NamedCommunity.TheVariants as community_kinds
use Rattle.der_core.proofs.Numbers.{some_is}
use Rattle.package_attrs.specs.Kinds.{kinds_match}
use Rattle.package_attrs.specs.declared.name.PackageName.{PackageName}
use Rattle.package_attrs.specs.declared.name.PackageName.TheVariants as package_names
use Rattle.package_attrs.specs.declared.name.Stale.{Stale}
use Rattle.package_attrs.specs.declared.name.Stale.TheVariants as stale_values
use Rattle.recipe_text.specs.declared.package_line.PackageKind.{PackageKind}
use Rattle.recipe_text.specs.declared.package_line.PackageKind.TheVariants as kinds
use Rattle.recipe_text.specs.PackageReading.{kind_name, kind_named, kind_of, IsValueOf, grow}
use Rattle.recipe_text.specs.PackageRecipe.{PackageEntry, IsPackageFit, IsPackageLine, IsPackageValue, IsWorded}
use Rattle.recipe_text.specs.PackageRecipe.{AreAlike, package_name, package_part, package_parts}
use Rattle.recipe_text.specs.PackageRecipe.PackageEntry.{Named, MakesStale, Target, For, Kind, Needs, Certificate}
use Rattle.recipe_text.specs.PackageRecipe.PackageEntry.{Signer, Wrap, Image}
use Rattle.recipe_text.specs.Reading.{cut}
use Rattle.recipe_text.proofs.Cuts.{Without, cut_takes}
use Rattle.recipe_text.proofs.Names.{without, one_of, cut_is, not_cut, uncut}
use Rattle.recipe_text.proofs.Recipes.{one_more, no_more}

-- ---- kinds

pub named_kind : (kind : PackageKind) → kind_named (kind_name kind) ≡ Some kind
unfolding kind_named
named_kind kinds.Package = refl
named_kind kinds.Legacy = refl
named_kind kinds.Stale = refl
named_kind kinds.LegacyStale = refl
named_kind kinds.Target = refl
named_kind kinds.Community = refl
named_kind kinds.Module = refl
named_kind kinds.Type = refl
named_kind kinds.Depends = refl
named_kind kinds.DependsLegacy = refl
named_kind kinds.Certificate = refl
named_kind kinds.Signer = refl
named_kind kinds.Wrap = refl
named_kind kinds.Image = refl

kind_is : (name : List ℕ) (k : PackageKind) → kind_named name ≡ Some k → name ≡ kind_name k
unfolding kind_named
kind_is name k e =
    one_of kind_name name (codes "package") kinds.Package k _ refl e (λ e.
    one_of kind_name name (codes "legacy") kinds.Legacy k _ refl e (λ e.
    one_of kind_name name (codes "stale") kinds.Stale k _ refl e (λ e.
    one_of kind_name name (codes "legacystale") kinds.LegacyStale k _ refl e (λ e.
    one_of kind_name name (codes "target") kinds.Target k _ refl e (λ e.
    one_of kind_name name (codes "community") kinds.Community k _ refl e (λ e.
    one_of kind_name name (codes "module") kinds.Module k _ refl e (λ e.
    one_of kind_name name (codes "type") kinds.Type k _ refl e (λ e.
    one_of kind_name name (codes "depends") kinds.Depends k _ refl e (λ e.
    one_of kind_name name (codes "dependslegacy") kinds.DependsLegacy k _ refl e (λ e.
    one_of kind_name name (codes "certificate") kinds.Certificate k _ refl e (λ e.
    one_of kind_name name (codes "signer") kinds.Signer k _ refl e (λ e.
    one_of kind_name name (codes "wrap") kinds.Wrap k _ refl e (λ e.
    one_of kind_name name (codes "image") kinds.Image k None refl e (λ e. absurd (none-some k e)))))))))))))))

pub no_space : (kind : PackageKind) → Without 32 (kind_name kind)
no_space kinds.Package = without 32 (kind_name kinds.Package) refl
no_space kinds.Legacy = without 32 (kind_name kinds.Legacy) refl
no_space kinds.Stale = without 32 (kind_name kinds.Stale) refl
no_space kinds.LegacyStale = without 32 (kind_name kinds.LegacyStale) refl
no_space kinds.Target = without 32 (kind_name kinds.Target) refl
no_space kinds.Community = without 32 (kind_name kinds.Community) refl
no_space kinds.Module = without 32 (kind_name kinds.Module) refl
no_space kinds.Type = without 32 (kind_name kinds.Type) refl
no_space kinds.Depends = without 32 (kind_name kinds.Depends) refl
no_space kinds.DependsLegacy = without 32 (kind_name kinds.DependsLegacy) refl
no_space kinds.Certificate = without 32 (kind_name kinds.Certificate) refl
no_space kinds.Signer = without 32 (kind_name kinds.Signer) refl
no_space kinds.Wrap = without 32 (kind_name kinds.Wrap) refl
no_space kinds.Image = without 32 (kind_name kinds.Image) refl

name_is : (e : PackageEntry) → package_name e ≡ kind_name (kind_of e)
name_is (Named (package_names.Preferred id version)) = refl
name_is (Named (package_names.Legacy octets)) = refl
name_is (MakesStale (stale_values.Upto n)) = refl
name_is (MakesStale (stale_values.Legacy octets)) = refl
name_is (Target id) = refl
name_is (For (community_kinds.Group id)) = refl
name_is (For (community_kinds.Modules hw_type serial)) = refl
name_is (Kind n) = refl
name_is (Needs (package_names.Preferred id version)) = refl
name_is (Needs (package_names.Legacy octets)) = refl
name_is (Certificate octets) = refl
name_is (Signer id) = refl
name_is Wrap = refl
name_is (Image octets) = refl

-- ---- lines

pub by_kind : (line : List ℕ) (e : PackageEntry) → IsWorded line e
    → (text : List ℕ) × IsPackageValue text e × (line ≡ kind_name (kind_of e) ++ 32 ∷ text)
by_kind line e h = (h.0, h.1, h.2 ∙ ap (λ (n : List ℕ). n ++ 32 ∷ h.0) (name_is e))

wrap_uncut : cut 32 (codes "wrap") ≡ None
wrap_uncut = uncut 32 (codes "wrap") (no_space kinds.Wrap)

-- a line of the one word says this alone
pub wrap_alone : (line : List ℕ) → line ≡ codes "wrap" → (e : PackageEntry) → IsPackageLine line e → e ≡ Wrap
wrap_alone line is e (inl h) = h.0
wrap_alone line is e (inr h) =
    let b = by_kind line e h in
    absurd (not_cut line (kind_name (kind_of e)) b.0 (ap (cut 32) is ∙ wrap_uncut) (no_space (kind_of e)) b.2)

pub no_line : (line : List ℕ) → (line ≡ codes "wrap" → ⊥) → cut 32 line ≡ None → (e : PackageEntry)
    → IsPackageLine line e → ⊥
no_line line other none e (inl h) = other h.1
no_line line other none e (inr h) =
    let b = by_kind line e h in
    not_cut line (kind_name (kind_of e)) b.0 none (no_space (kind_of e)) b.2

pub no_kind : (line name text : List ℕ) → cut 32 line ≡ Some (name, text) → kind_named name ≡ None
    → (e : PackageEntry) → IsPackageLine line e → ⊥
no_kind line name text is none e (inl h) = none-some (name, text) (sym wrap_uncut ∙ ap (cut 32) (sym h.1) ∙ is)
no_kind line name text is none e (inr h) =
    let b = by_kind line e h in
    let same = cut_is line name text (kind_name (kind_of e)) b.0 is (no_space (kind_of e)) b.2 in
    none-some (kind_of e) (sym none ∙ ap kind_named same.0 ∙ named_kind (kind_of e))

module _ (line name text : List ℕ) (kind : PackageKind) (is : cut 32 line ≡ Some (name, text))
    (named : kind_named name ≡ Some kind) where
  pub value_line : (e : PackageEntry) → IsValueOf kind text e → IsPackageLine line e
  value_line e h =
      let word : name ≡ package_name e = kind_is name kind named ∙ ap kind_name (sym h.0) ∙ sym (name_is e) in
      inr (text, h.1, (cut_takes 32 line (name, text) is).1 ∙ ap (λ (n : List ℕ). n ++ 32 ∷ text) word)

  pub line_value : (e : PackageEntry) → IsPackageLine line e → IsValueOf kind text e
  line_value e (inl h) = absurd (none-some (name, text) (sym wrap_uncut ∙ ap (cut 32) (sym h.1) ∙ is))
  line_value e (inr h) =
      let b = by_kind line e h in
      let same = cut_is line name text (kind_name (kind_of e)) b.0 is (no_space (kind_of e)) b.2 in
      let kinds-is : Some (kind_of e) ≡ Some kind =
      sym (named_kind (kind_of e)) ∙ ap kind_named (sym same.0) ∙ named in
      (some_is (kind_of e) kind kinds-is, subst (λ (t : List ℕ). IsPackageValue t e) (sym same.1) b.1)

-- ---- what lines say

pub parts_more : (es : List PackageEntry) (e : PackageEntry) → package_parts (es ++ e ∷ []) ≡ grow (package_parts es) e
parts_more es e = λ i. record {
  names = one_more (λ (x : PackageEntry). (package_part x).names) es e i;
  stales = one_more (λ (x : PackageEntry). (package_part x).stales) es e i;
  targets = one_more (λ (x : PackageEntry). (package_part x).targets) es e i;
  communities = one_more (λ (x : PackageEntry). (package_part x).communities) es e i;
  kinds = one_more (λ (x : PackageEntry). (package_part x).kinds) es e i;
  dependencies = one_more (λ (x : PackageEntry). (package_part x).dependencies) es e i;
  certificates = one_more (λ (x : PackageEntry). (package_part x).certificates) es e i;
  signers = one_more (λ (x : PackageEntry). (package_part x).signers) es e i;
  wraps = one_more (λ (x : PackageEntry). (package_part x).wraps) es e i;
  images = one_more (λ (x : PackageEntry). (package_part x).images) es e i;
}

all_front : {A : Type 0} (Q : A → Type 0) (xs ys : List A) → AllByRecursion Q (xs ++ ys) → AllByRecursion Q xs
all_front Q [] ys h = tt
all_front Q (x ∷ xs) ys h = (h.0, all_front Q xs ys h.1)

all_weaker : {A : Type 0} (Q R : A → Type 0) → ((x : A) → Q x → R x) → (xs : List A) → AllByRecursion Q xs
    → AllByRecursion R xs
all_weaker Q R weaken [] h = tt
all_weaker Q R weaken (x ∷ xs) h = (weaken x h.0, all_weaker Q R weaken xs h.1)

alike_front : (ns ms : List PackageName) (ss ts : List Stale) → AreAlike (ns ++ ms) (ss ++ ts) → AreAlike ns ss
alike_front ns ms ss ts h =
    all_weaker (λ n. AllByRecursion (λ s. IsTrue (kinds_match n (Some s))) (ss ++ ts))
    (λ n. AllByRecursion (λ s. IsTrue (kinds_match n (Some s))) ss)
    (λ n all. all_front (λ s. IsTrue (kinds_match n (Some s))) ss ts all) ns
    (all_front (λ n. AllByRecursion (λ s. IsTrue (kinds_match n (Some s))) (ss ++ ts)) ns ms h)

pub closed : (front back : List PackageEntry) → IsPackageFit (package_parts (front ++ back))
    → IsPackageFit (package_parts front)
closed front back h = record {
  names = no_more (λ (x : PackageEntry). (package_part x).names) front back 1 h.names;
  stales = no_more (λ (x : PackageEntry). (package_part x).stales) front back 1 h.stales;
  alike =
      let names = λ (es : List PackageEntry). flat_map (λ (x : PackageEntry). (package_part x).names) es in
      let stales = λ (es : List PackageEntry). flat_map (λ (x : PackageEntry). (package_part x).stales) es in
      alike_front (names front) (names back) (stales front) (stales back)
      (subst (λ (ss : List Stale). AreAlike (names front ++ names back) ss)
      (flat_map-append (λ (x : PackageEntry). (package_part x).stales) front back)
      (subst (λ (ns : List PackageName). AreAlike ns (stales (front ++ back)))
      (flat_map-append (λ (x : PackageEntry). (package_part x).names) front back) h.alike));
  targets = no_more (λ (x : PackageEntry). (package_part x).targets) front back 64 h.targets;
  communities = no_more (λ (x : PackageEntry). (package_part x).communities) front back 64 h.communities;
  kinds = no_more (λ (x : PackageEntry). (package_part x).kinds) front back 1 h.kinds;
  dependencies = no_more (λ (x : PackageEntry). (package_part x).dependencies) front back 8 h.dependencies;
  certificates = no_more (λ (x : PackageEntry). (package_part x).certificates) front back 8 h.certificates;
  signers = no_more (λ (x : PackageEntry). (package_part x).signers) front back 1 h.signers;
  wraps = no_more (λ (x : PackageEntry). (package_part x).wraps) front back 1 h.wraps;
  images = no_more (λ (x : PackageEntry). (package_part x).images) front back 1 h.images;
}
