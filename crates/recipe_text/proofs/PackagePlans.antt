-- A package recipe has one plan, within the limits of a package.
use Rattle.std.proofs.Common.{◌≡◌, ℕ, ◌<◌, ◌^◌, ◌≤◌, Bool, true, false, List, [], ◌∷◌, ◌++◌, length, Option, Some, None}
use Rattle.std.proofs.Common.{refl, sym, ◌∙◌, ap, subst, arith, length-append, cond, inl, inr}
use Rattle.std.specs.List.{AllByRecursion, flat_map}
use Rattle.std.specs.Option.{option_to_list}
use Rattle.std.specs.Prelude.{IfSome, IsTrue}
use Rattle.attribute_write.specs.declared.communities.NamedCommunity.TheVariants as community_kinds
use Rattle.der_core.specs.Objects.{IsOid}
use Rattle.package_attrs.specs.Communities.{IsSerialEntry}
use Rattle.package_attrs.specs.Identifier.{HasOneTo64, IsName, IsStale}
use Rattle.package_attrs.specs.Kinds.{kinds_match}
use Rattle.package_attrs.specs.declared.community.SerialEntry.{SerialEntry}
use Rattle.package_attrs.specs.declared.community.SerialEntry.TheVariants.{All, Single, Block}
use Rattle.package_attrs.specs.declared.name.PackageName.{PackageName}
use Rattle.package_attrs.specs.declared.name.PackageName.TheVariants as package_names
use Rattle.package_attrs.specs.declared.name.Stale.{Stale}
use Rattle.package_attrs.specs.declared.name.Stale.TheVariants as stale_values
use Rattle.packager.specs.PackagePlan.{PlannedPackage, IsPackagePlan, IsCertificateText, HasTexts, IsNamed}
use Rattle.recipe_text.specs.PackageRecipe.{PackageEntry, PackageParts, PackageRecipe, IsPackageLine, IsPackageFit, IsPackageWhole}
use Rattle.recipe_text.specs.PackageRecipe.{package_name, package_part, package_rules, plan_parts, AreAlike}
use Rattle.recipe_text.specs.PackageRecipe.{IsNameText, IsSerialText}
use Rattle.recipe_text.specs.PackageRecipe.PackageEntry.{Named, MakesStale, Target, For, Kind, Needs, Certificate, Signer}
use Rattle.recipe_text.specs.PackageRecipe.PackageEntry.{Image}
use Rattle.recipe_text.proofs.CertPlans.{only, only_back, first_of}
use Rattle.recipe_text.proofs.Sizes.{joined, recipe_size, recipe_all, hex_size}

-- ---- one plan

some_wrap : List (Unit {0}) → Bool
some_wrap [] = false
some_wrap (x ∷ xs) = true

wrap_back : (b : Bool) → some_wrap (cond b (tt ∷ []) []) ≡ b
unfolding some_wrap
wrap_back true = refl
wrap_back false = refl

-- the plan of what lines say, where d is a plan
plan_from : PlannedPackage → PackageParts → PlannedPackage
plan_from d p = record {
  identifier = record { name = first_of d.identifier.name p.names; stale = only p.stales };
  targets = p.targets;
  communities = p.communities;
  kind = only p.kinds;
  dependencies = p.dependencies;
  certificates = p.certificates;
  signer = first_of d.signer p.signers;
  wrap = some_wrap p.wraps;
  image = first_of d.image p.images;
}

plan_back : (d v : PlannedPackage) → plan_from d (plan_parts v) ≡ v
unfolding plan_from first_of
plan_back d v = λ i. record {
  identifier = record { name = v.identifier.name; stale = only_back v.identifier.stale i };
  targets = v.targets;
  communities = v.communities;
  kind = only_back v.kind i;
  dependencies = v.dependencies;
  certificates = v.certificates;
  signer = v.signer;
  wrap = wrap_back v.wrap i;
  image = v.image;
}

pub same_plan : (v w : PlannedPackage) → plan_parts v ≡ plan_parts w → v ≡ w
same_plan v w e = sym (plan_back v v) ∙ ap (plan_from v) e ∙ plan_back v w

pub is_whole : (v : PlannedPackage) → 1 ≤ length v.targets → IsPackageWhole (plan_parts v)
is_whole v some = record {
  name = refl;
  targets = some;
  signer = refl;
  image = refl;
}

-- ---- limits

certificate_reads : (line : List ℕ) (e : PackageEntry) → IsPackageLine line e
    → AllByRecursion IsCertificateText (package_part e).certificates
certificate_reads line (Certificate octets) (inl h) = absurd cc
certificate_reads line (Certificate octets) (inr h) = (h.1.text, tt)
certificate_reads line e h = tt

image_short : (line : List ℕ) (e : PackageEntry) → IsPackageLine line e
    → AllByRecursion (λ o. (1 ≤ length o) × (length o ≤ 16777216)) (package_part e).images
image_short line (Image octets) (inl h) = absurd cc
image_short line (Image octets) (inr h) =
    ((omega (arith, hex_size h.0 octets h.1.hex, h.1.hex.0), h.1.most), tt)
image_short line e h = tt

signer_short : (line : List ℕ) (e : PackageEntry) → IsPackageLine line e
    → AllByRecursion HasOneTo64 (package_part e).signers
signer_short line (Signer id) (inl h) = absurd cc
signer_short line (Signer id) (inr h) = ((h.1.some, h.1.most), tt)
signer_short line e h = tt

certificate_size : (line : List ℕ) (e : PackageEntry) → IsPackageLine line e
    → length (joined (package_part e).certificates) ≤ length line
certificate_size line (Certificate octets) (inl h) = absurd cc
certificate_size line (Certificate octets) (inr h) =
    let word : line ≡ package_name (Certificate octets) ++ 32 ∷ h.0 = h.2 in
    omega (
      arith,
      hex_size h.0 octets h.1.hex,
      length-append octets [],
      ap length word,
      length-append (package_name (Certificate octets)) (32 ∷ h.0),
    )
certificate_size line e h = omega arith

pub plan_limits : (text : List ℕ) (plan : PlannedPackage) → length text ≤ 2 ^ 26 → PackageRecipe text plan
    → IsPackagePlan plan
plan_limits text plan small r =
    let fit = subst IsPackageFit r.2 r.1.3 in
    let whole = subst IsPackageWhole r.2 r.1.4 in
    let image = subst (AllByRecursion (λ o. (1 ≤ length o) × (length o ≤ 16777216)))
    (ap (λ (p : PackageParts). p.images) r.2)
    (recipe_all package_rules (λ o. (1 ≤ length o) × (length o ≤ 16777216)) (λ e. (package_part e).images) image_short
    text r.0 r.1) in
    let octets = subst (λ (l : List (List ℕ)). length (joined l) ≤ length text)
    (ap (λ (p : PackageParts). p.certificates) r.2)
    (recipe_size package_rules (λ e. (package_part e).certificates) certificate_size text r.0 r.1) in
    record {
      some_targets = whole.targets;
      targets = fit.targets;
      communities = fit.communities;
      dependencies = fit.dependencies;
      certificates =
          subst (AllByRecursion IsCertificateText) (ap (λ (p : PackageParts). p.certificates) r.2)
          (recipe_all package_rules IsCertificateText (λ e. (package_part e).certificates) certificate_reads text r.0
          r.1);
      certificate_count = fit.certificates;
      certificate_octets = omega (arith, octets, small);
      signer =
          (subst (AllByRecursion HasOneTo64) (ap (λ (p : PackageParts). p.signers) r.2)
          (recipe_all package_rules HasOneTo64 (λ e. (package_part e).signers) signer_short text r.0 r.1)).0;
      some_image = image.0.0;
      image = image.0.1;
    }

-- ---- texts

name_valid : (text : List ℕ) (name : PackageName) → IsNameText text name → IsName name
name_valid text (package_names.Preferred id version) h = (h.2.valid, h.3.0)
name_valid text (package_names.Legacy octets) h = (h.some, h.most)

named_valid : (line : List ℕ) (e : PackageEntry) → IsPackageLine line e → AllByRecursion IsName (package_part e).names
named_valid line (Named name) (inl h) = absurd cc
named_valid line (Named name) (inr h) = (name_valid h.0 name h.1, tt)
named_valid line e h = tt

needs_valid : (line : List ℕ) (e : PackageEntry) → IsPackageLine line e
    → AllByRecursion IsName (package_part e).dependencies
needs_valid line (Needs name) (inl h) = absurd cc
needs_valid line (Needs name) (inr h) = (name_valid h.0 name h.1, tt)
needs_valid line e h = tt

stale_valid : (line : List ℕ) (e : PackageEntry) → IsPackageLine line e → AllByRecursion IsStale (package_part e).stales
stale_valid line (MakesStale (stale_values.Upto n)) (inl h) = absurd cc
stale_valid line (MakesStale (stale_values.Upto n)) (inr h) = (h.1.0, tt)
stale_valid line (MakesStale (stale_values.Legacy octets)) (inl h) = absurd cc
stale_valid line (MakesStale (stale_values.Legacy octets)) (inr h) = ((h.1.some, h.1.most), tt)
stale_valid line e h = tt

target_valid : (line : List ℕ) (e : PackageEntry) → IsPackageLine line e → AllByRecursion IsOid (package_part e).targets
target_valid line (Target id) (inl h) = absurd cc
target_valid line (Target id) (inr h) = (h.1.valid, tt)
target_valid line e h = tt

serial_valid : (text : List ℕ) (serial : SerialEntry) → IsSerialText text serial → IsSerialEntry serial
serial_valid text All h = tt
serial_valid text (Single serial) h = (h.1.some, h.1.most)
serial_valid text (Block low high) h = ((h.1.2.some, h.1.2.most), (h.1.3.some, h.1.3.most))

community_valid : (line : List ℕ) (e : PackageEntry) → IsPackageLine line e
    → AllByRecursion IsNamed (package_part e).communities
community_valid line (For (community_kinds.Group id)) (inl h) = absurd cc
community_valid line (For (community_kinds.Group id)) (inr h) = (h.1.valid, tt)
community_valid line (For (community_kinds.Modules hw_type serial)) (inl h) = absurd cc
community_valid line (For (community_kinds.Modules hw_type serial)) (inr h) =
    ((h.1.2.valid, serial_valid h.1.1 serial h.1.3), tt)
community_valid line e h = tt

abbrev IsSmall : ℕ → Type 0
IsSmall n = n < 2 ^ 128

kind_valid : (line : List ℕ) (e : PackageEntry) → IsPackageLine line e → AllByRecursion IsSmall (package_part e).kinds
kind_valid line (Kind n) (inl h) = absurd cc
kind_valid line (Kind n) (inr h) = (h.1.0, tt)
kind_valid line e h = tt

if_some : {A : Type 0} (P : A → Type 0) (o : Option A) → AllByRecursion P (option_to_list o) → IfSome o P
if_some P None h = tt
if_some P (Some x) h = h.0

alike : (name : PackageName) (stale : Option Stale) → AreAlike (name ∷ []) (option_to_list stale)
    → IsTrue (kinds_match name stale)
alike name None h = refl
alike name (Some stale) h = h.0.0

module _ (text : List ℕ) (plan : PlannedPackage) (r : PackageRecipe text plan) where
  -- what all lines say of one kind
  all_say : {A : Type 0} (P : A → Type 0) (part : PackageParts → List A)
      → ((line : List ℕ) (e : PackageEntry) → IsPackageLine line e → AllByRecursion P (part (package_part e)))
      → flat_map (λ e. part (package_part e)) r.0 ≡ part (plan_parts plan) → AllByRecursion P (part (plan_parts plan))
  all_say P part each is =
      subst (AllByRecursion P) is (recipe_all package_rules P (λ e. part (package_part e)) each text r.0 r.1)

  pub plan_texts : HasTexts plan
  plan_texts =
      let fit = subst IsPackageFit r.2 r.1.3 in
      record {
        identifier = record {
          name = (all_say IsName (λ p. p.names) named_valid (ap (λ (p : PackageParts). p.names) r.2)).0;
          stale =
              if_some IsStale plan.identifier.stale
              (all_say IsStale (λ p. p.stales) stale_valid (ap (λ (p : PackageParts). p.stales) r.2));
          alike = alike plan.identifier.name plan.identifier.stale fit.alike;
        };
        targets = all_say IsOid (λ p. p.targets) target_valid (ap (λ (p : PackageParts). p.targets) r.2);
        communities =
            all_say IsNamed (λ p. p.communities) community_valid (ap (λ (p : PackageParts). p.communities) r.2);
        kind =
            if_some IsSmall plan.kind
            (all_say IsSmall (λ p. p.kinds) kind_valid (ap (λ (p : PackageParts). p.kinds) r.2));
        dependencies =
            all_say IsName (λ p. p.dependencies) needs_valid (ap (λ (p : PackageParts). p.dependencies) r.2);
      }
