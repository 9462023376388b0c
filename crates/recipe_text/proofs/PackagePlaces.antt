-- What each kind of line puts into the draft of a package.
use Rattle.std.proofs.Common.{◌≡◌, ℕ, Bool, true, false, not, ◌&&◌, List, [], ◌∷◌, ◌++◌, length, Option, Some, None}
use Rattle.std.proofs.Common.{refl, sym, ◌∙◌, ap, subst, arith, codes, cond, inl}
use Rattle.std.specs.Prelude.{is_some, IsTrue, nat_lt, Result, Ok, Err, IfOk}
use Rattle.std.specs.List.{AllByRecursion}
use Rattle.std.specs.Option.{option_to_list}
use Rattle.std.proofs.lemmas.Bool.{false≢true}
use Rattle.attribute_write.specs.declared.communities.NamedCommunity.{NamedCommunity}
use Rattle.attribute_write.specs.declared.communities.NamedCommunity.TheVariants as community_kinds
use Rattle.package_attrs.specs.Kinds.{kinds_match}
use Rattle.package_attrs.specs.declared.name.PackageName.{PackageName}
use Rattle.package_attrs.specs.declared.name.PackageName.TheVariants as package_names
use Rattle.package_attrs.specs.declared.name.Stale.{Stale}
use Rattle.package_attrs.specs.declared.name.Stale.TheVariants as stale_values
use Rattle.recipe_text.specs.declared.package_line.PackageKind.{PackageKind}
use Rattle.recipe_text.specs.declared.package_line.PackageKind.TheVariants as kinds
use Rattle.recipe_text.specs.PackageReading.{IsValueOf, IsNameOf, IsStaleOf, IsCommunityOf, AddsCommunity, are_alike}
use Rattle.recipe_text.specs.PackageReading.{grow}
use Rattle.recipe_text.specs.PackageRecipe.{PackageEntry, PackageParts, IsPackageFit, IsPackageLine, IsImageWord, AreAlike}
use Rattle.recipe_text.specs.PackageRecipe.PackageEntry.{Named, MakesStale, Target, For, Kind, Needs, Certificate}
use Rattle.recipe_text.specs.PackageRecipe.PackageEntry.{Signer, Wrap, Image}
use Rattle.recipe_text.specs.Taking.{Takes}
use Rattle.recipe_text.specs.Words.{Exactly, IsNumber, IsOidWord, IsHex64, IsCertificateWord}
use Rattle.recipe_text.proofs.PackageLines.{wrap_alone}
use Rattle.recipe_text.proofs.Taking.{once, once_when, below, two_items}

-- ---- names and stale values

last_alike : (xs : List PackageName) (n : PackageName) (s : Stale) → AreAlike (xs ++ n ∷ []) (s ∷ [])
    → kinds_match n (Some s) ≡ true
last_alike [] n s h = h.0.0
last_alike (x ∷ xs) n s h = last_alike xs n s h.1

last_stale : (n : PackageName) (xs : List Stale) (s : Stale)
    → AllByRecursion (λ t. IsTrue (kinds_match n (Some t))) (xs ++ s ∷ []) → kinds_match n (Some s) ≡ true
last_stale n [] s h = h.0
last_stale n (x ∷ xs) s h = last_stale n xs s h.1

name_alike : (n : PackageName) (stale : Option Stale) → are_alike (Some n) stale ≡ true
    → AreAlike (n ∷ []) (option_to_list stale)
name_alike n None e = (tt, tt)
name_alike n (Some s) e = ((e, tt), tt)

name_unlike : (xs : List PackageName) (n : PackageName) (stale : Option Stale) → are_alike (Some n) stale ≡ false
    → AreAlike (xs ++ n ∷ []) (option_to_list stale) → ⊥
name_unlike xs n None e h = absurd cc
name_unlike xs n (Some s) e h = false≢true (sym e ∙ last_alike xs n s h)

stale_alike : (name : Option PackageName) (s : Stale) → are_alike name (Some s) ≡ true
    → AreAlike (option_to_list name) (s ∷ [])
stale_alike None s e = tt
stale_alike (Some n) s e = ((e, tt), tt)

stale_unlike : (name : Option PackageName) (xs : List Stale) (s : Stale) → are_alike name (Some s) ≡ false
    → AreAlike (option_to_list name) (xs ++ s ∷ []) → ⊥
stale_unlike None xs s e h = absurd cc
stale_unlike (Some n) xs s e h = false≢true (sym e ∙ last_stale n xs s h.0)

-- ---- each kind

module _ (p : PackageParts) (fit : IsPackageFit p) (text : List ℕ) where
  abbrev NameOnce : PackageKind → Bool → Type 0
  NameOnce kind preferred =
      (old value : Option PackageName) (stale : Option Stale) (good : Bool) → p.names ≡ option_to_list old
      → p.stales ≡ option_to_list stale
      → good ≡ (are_alike value stale && (not (is_some old) && is_some value)) → Exactly (IsNameOf preferred text) value
      → Takes (IsValueOf kind text) IsPackageFit grow p (record p { names = option_to_list value }) good

  -- a name, where this is the stale value
  name_once : (kind : PackageKind) (preferred : Bool)
      → ((v : PackageName) → IsNameOf preferred text v → IsValueOf kind text (Named v))
      → ((e : PackageEntry) → IsValueOf kind text e → (v : PackageName) × IsNameOf preferred text v × (e ≡ Named v))
      → NameOnce kind preferred
  name_once kind preferred here only old value stale good names stales is exact =
      once_when (IsValueOf kind text) IsPackageFit grow (IsNameOf preferred text) (λ v. Named v) here only p p.names
      (λ (ys : List PackageName). record p { names = ys }) (λ v. refl) (are_alike value stale) old value good
      (λ v some alike. record {
        names = omega arith;
        alike = subst (AreAlike (v ∷ [])) (sym stales)
            (name_alike v stale (subst (λ (o : Option PackageName). are_alike o stale ≡ true) some alike));
        stales = fit.stales;
        targets = fit.targets;
        communities = fit.communities;
        kinds = fit.kinds;
        dependencies = fit.dependencies;
        certificates = fit.certificates;
        signers = fit.signers;
        wraps = fit.wraps;
        images = fit.images;
      })
      (λ v over. over.names)
      (λ v some unlike over.
      name_unlike p.names v stale (subst (λ (o : Option PackageName). are_alike o stale ≡ false) some unlike)
      (subst (AreAlike (p.names ++ v ∷ [])) stales over.alike))
      names is exact

  here_package : (v : PackageName) → IsNameOf true text v → IsValueOf kinds.Package text (Named v)
  here_package (package_names.Preferred id version) w = (refl, w.1)
  here_package (package_names.Legacy octets) w = absurd (false≢true w.0)

  only_package : (e : PackageEntry) → IsValueOf kinds.Package text e
      → (v : PackageName) × IsNameOf true text v × (e ≡ Named v)
  only_package (Named (package_names.Preferred id version)) s = (package_names.Preferred id version, (refl, s.1), refl)
  only_package (Named (package_names.Legacy octets)) s = absurd cc
  only_package (MakesStale (stale_values.Upto n)) s = absurd cc
  only_package (MakesStale (stale_values.Legacy octets)) s = absurd cc
  only_package (For (community_kinds.Group id)) s = absurd cc
  only_package (For (community_kinds.Modules hw_type serial)) s = absurd cc
  only_package (Needs (package_names.Preferred id version)) s = absurd cc
  only_package (Needs (package_names.Legacy octets)) s = absurd cc
  only_package e s = absurd cc

  pub fill_package : NameOnce kinds.Package true
  fill_package = name_once kinds.Package true here_package only_package

  here_legacy : (v : PackageName) → IsNameOf false text v → IsValueOf kinds.Legacy text (Named v)
  here_legacy (package_names.Preferred id version) w = absurd (false≢true (sym w.0))
  here_legacy (package_names.Legacy octets) w = (refl, w.1)

  only_legacy : (e : PackageEntry) → IsValueOf kinds.Legacy text e
      → (v : PackageName) × IsNameOf false text v × (e ≡ Named v)
  only_legacy (Named (package_names.Legacy octets)) s = (package_names.Legacy octets, (refl, s.1), refl)
  only_legacy (Named (package_names.Preferred id version)) s = absurd cc
  only_legacy (MakesStale (stale_values.Upto n)) s = absurd cc
  only_legacy (MakesStale (stale_values.Legacy octets)) s = absurd cc
  only_legacy (For (community_kinds.Group id)) s = absurd cc
  only_legacy (For (community_kinds.Modules hw_type serial)) s = absurd cc
  only_legacy (Needs (package_names.Preferred id version)) s = absurd cc
  only_legacy (Needs (package_names.Legacy octets)) s = absurd cc
  only_legacy e s = absurd cc

  pub fill_legacy : NameOnce kinds.Legacy false
  fill_legacy = name_once kinds.Legacy false here_legacy only_legacy

  abbrev StaleOnce : PackageKind → Bool → Type 0
  StaleOnce kind upto =
      (old value : Option Stale) (name : Option PackageName) (good : Bool) → p.stales ≡ option_to_list old
      → p.names ≡ option_to_list name
      → good ≡ (are_alike name value && (not (is_some old) && is_some value)) → Exactly (IsStaleOf upto text) value
      → Takes (IsValueOf kind text) IsPackageFit grow p (record p { stales = option_to_list value }) good

  -- a stale value, where this is the name
  stale_once : (kind : PackageKind) (upto : Bool)
      → ((v : Stale) → IsStaleOf upto text v → IsValueOf kind text (MakesStale v))
      → ((e : PackageEntry) → IsValueOf kind text e → (v : Stale) × IsStaleOf upto text v × (e ≡ MakesStale v))
      → StaleOnce kind upto
  stale_once kind upto here only old value name good stales names is exact =
      once_when (IsValueOf kind text) IsPackageFit grow (IsStaleOf upto text) (λ v. MakesStale v) here only p p.stales
      (λ (ys : List Stale). record p { stales = ys }) (λ v. refl) (are_alike name value) old value good
      (λ v some alike. record {
        stales = omega arith;
        alike = subst (λ (ns : List PackageName). AreAlike ns (v ∷ [])) (sym names)
            (stale_alike name v (subst (λ (o : Option Stale). are_alike name o ≡ true) some alike));
        names = fit.names;
        targets = fit.targets;
        communities = fit.communities;
        kinds = fit.kinds;
        dependencies = fit.dependencies;
        certificates = fit.certificates;
        signers = fit.signers;
        wraps = fit.wraps;
        images = fit.images;
      })
      (λ v over. over.stales)
      (λ v some unlike over.
      stale_unlike name p.stales v (subst (λ (o : Option Stale). are_alike name o ≡ false) some unlike)
      (subst (λ (ns : List PackageName). AreAlike ns (p.stales ++ v ∷ [])) names over.alike))
      stales is exact

  here_upto : (v : Stale) → IsStaleOf true text v → IsValueOf kinds.Stale text (MakesStale v)
  here_upto (stale_values.Upto n) w = (refl, w.1)
  here_upto (stale_values.Legacy octets) w = absurd (false≢true w.0)

  only_upto : (e : PackageEntry) → IsValueOf kinds.Stale text e
      → (v : Stale) × IsStaleOf true text v × (e ≡ MakesStale v)
  only_upto (MakesStale (stale_values.Upto n)) s = (stale_values.Upto n, (refl, s.1), refl)
  only_upto (Named (package_names.Preferred id version)) s = absurd cc
  only_upto (Named (package_names.Legacy octets)) s = absurd cc
  only_upto (MakesStale (stale_values.Legacy octets)) s = absurd cc
  only_upto (For (community_kinds.Group id)) s = absurd cc
  only_upto (For (community_kinds.Modules hw_type serial)) s = absurd cc
  only_upto (Needs (package_names.Preferred id version)) s = absurd cc
  only_upto (Needs (package_names.Legacy octets)) s = absurd cc
  only_upto e s = absurd cc

  pub fill_stale : StaleOnce kinds.Stale true
  fill_stale = stale_once kinds.Stale true here_upto only_upto

  here_legacy_stale : (v : Stale) → IsStaleOf false text v → IsValueOf kinds.LegacyStale text (MakesStale v)
  here_legacy_stale (stale_values.Upto n) w = absurd (false≢true (sym w.0))
  here_legacy_stale (stale_values.Legacy octets) w = (refl, w.1)

  only_legacy_stale : (e : PackageEntry) → IsValueOf kinds.LegacyStale text e
      → (v : Stale) × IsStaleOf false text v × (e ≡ MakesStale v)
  only_legacy_stale (MakesStale (stale_values.Legacy octets)) s = (stale_values.Legacy octets, (refl, s.1), refl)
  only_legacy_stale (Named (package_names.Preferred id version)) s = absurd cc
  only_legacy_stale (Named (package_names.Legacy octets)) s = absurd cc
  only_legacy_stale (MakesStale (stale_values.Upto n)) s = absurd cc
  only_legacy_stale (For (community_kinds.Group id)) s = absurd cc
  only_legacy_stale (For (community_kinds.Modules hw_type serial)) s = absurd cc
  only_legacy_stale (Needs (package_names.Preferred id version)) s = absurd cc
  only_legacy_stale (Needs (package_names.Legacy octets)) s = absurd cc
  only_legacy_stale e s = absurd cc

  pub fill_legacy_stale : StaleOnce kinds.LegacyStale false
  fill_legacy_stale = stale_once kinds.LegacyStale false here_legacy_stale only_legacy_stale

  -- a place that is filled once
  abbrev Fills : {V : Type 0} → (V → Type 0) → List V → (List V → PackageParts) → PackageKind → Type 0
  Fills {V} IsWord xs put kind =
      (old value new : Option V) (good : Bool) → xs ≡ option_to_list old
      → good ≡ (not (is_some old) && is_some value) → (good ≡ true → new ≡ value) → Exactly IsWord value
      → Takes (IsValueOf kind text) IsPackageFit grow p (put (option_to_list new)) good

  -- a list that is filled up to a limit
  abbrev Adds : {V : Type 0} → (V → Type 0) → List V → (List V → PackageParts) → ℕ → PackageKind → Type 0
  Adds {V} IsWord xs put most kind =
      (value : Option V) (new : List V) (good : Bool) → good ≡ (nat_lt (length xs) most && is_some value)
      → (good ≡ true → new ≡ xs ++ option_to_list value) → Exactly IsWord value
      → Takes (IsValueOf kind text) IsPackageFit grow p (put new) good

  only_target : (e : PackageEntry) → IsValueOf kinds.Target text e → (v : List ℕ) × IsOidWord text v × (e ≡ Target v)
  only_target (Target id) s = (id, s.1, refl)
  only_target (Named (package_names.Preferred id version)) s = absurd cc
  only_target (Named (package_names.Legacy octets)) s = absurd cc
  only_target (MakesStale (stale_values.Upto n)) s = absurd cc
  only_target (MakesStale (stale_values.Legacy octets)) s = absurd cc
  only_target (For (community_kinds.Group id)) s = absurd cc
  only_target (For (community_kinds.Modules hw_type serial)) s = absurd cc
  only_target (Needs (package_names.Preferred id version)) s = absurd cc
  only_target (Needs (package_names.Legacy octets)) s = absurd cc
  only_target e s = absurd cc

  pub add_target : Adds (IsOidWord text) p.targets (λ (ys : List (List ℕ)). record p { targets = ys }) 64 kinds.Target
  add_target =
      below (IsValueOf kinds.Target text) IsPackageFit grow (IsOidWord text) (λ (v : List ℕ). Target v) (λ v w. (refl, w)) only_target p p.targets
      (λ (ys : List (List ℕ)). record p { targets = ys }) (λ v. refl) 64 (λ ys few. record { names = fit.names; stales = fit.stales; alike = fit.alike; targets = few; communities = fit.communities; kinds = fit.kinds; dependencies = fit.dependencies; certificates = fit.certificates; signers = fit.signers; wraps = fit.wraps; images = fit.images }) (λ v over. over.targets)

  here_group : (v : NamedCommunity) → IsCommunityOf true text v → IsValueOf kinds.Community text (For v)
  here_group (community_kinds.Group id) w = (refl, w.1)
  here_group (community_kinds.Modules hw_type serial) w = absurd (false≢true w.0)

  only_group : (e : PackageEntry) → IsValueOf kinds.Community text e
      → (v : NamedCommunity) × IsCommunityOf true text v × (e ≡ For v)
  only_group (For (community_kinds.Group id)) s = (community_kinds.Group id, (refl, s.1), refl)
  only_group (Named (package_names.Preferred id version)) s = absurd cc
  only_group (Named (package_names.Legacy octets)) s = absurd cc
  only_group (MakesStale (stale_values.Upto n)) s = absurd cc
  only_group (MakesStale (stale_values.Legacy octets)) s = absurd cc
  only_group (For (community_kinds.Modules hw_type serial)) s = absurd cc
  only_group (Needs (package_names.Preferred id version)) s = absurd cc
  only_group (Needs (package_names.Legacy octets)) s = absurd cc
  only_group e s = absurd cc

  here_modules : (v : NamedCommunity) → IsCommunityOf false text v → IsValueOf kinds.Module text (For v)
  here_modules (community_kinds.Modules hw_type serial) w = (refl, w.1)
  here_modules (community_kinds.Group id) w = absurd (false≢true (sym w.0))

  only_modules : (e : PackageEntry) → IsValueOf kinds.Module text e
      → (v : NamedCommunity) × IsCommunityOf false text v × (e ≡ For v)
  only_modules (For (community_kinds.Modules hw_type serial)) s = (community_kinds.Modules hw_type serial, (refl, s.1), refl)
  only_modules (Named (package_names.Preferred id version)) s = absurd cc
  only_modules (Named (package_names.Legacy octets)) s = absurd cc
  only_modules (MakesStale (stale_values.Upto n)) s = absurd cc
  only_modules (MakesStale (stale_values.Legacy octets)) s = absurd cc
  only_modules (For (community_kinds.Group id)) s = absurd cc
  only_modules (Needs (package_names.Preferred id version)) s = absurd cc
  only_modules (Needs (package_names.Legacy octets)) s = absurd cc
  only_modules e s = absurd cc

  pub add_group : Adds (IsCommunityOf true text) p.communities (λ (ys : List NamedCommunity). record p { communities = ys })
      64 kinds.Community
  add_group =
      below (IsValueOf kinds.Community text) IsPackageFit grow (IsCommunityOf true text) (λ (v : NamedCommunity). For v)
      here_group only_group p p.communities (λ (ys : List NamedCommunity). record p { communities = ys }) (λ v. refl) 64
      (λ ys few. record { names = fit.names; stales = fit.stales; alike = fit.alike; targets = fit.targets; communities = few; kinds = fit.kinds; dependencies = fit.dependencies; certificates = fit.certificates; signers = fit.signers; wraps = fit.wraps; images = fit.images }) (λ v over. over.communities)

  pub add_modules : Adds (IsCommunityOf false text) p.communities
      (λ (ys : List NamedCommunity). record p { communities = ys }) 64 kinds.Module
  add_modules =
      below (IsValueOf kinds.Module text) IsPackageFit grow (IsCommunityOf false text) (λ (v : NamedCommunity). For v)
      here_modules only_modules p p.communities (λ (ys : List NamedCommunity). record p { communities = ys }) (λ v. refl) 64
      (λ ys few. record { names = fit.names; stales = fit.stales; alike = fit.alike; targets = fit.targets; communities = few; kinds = fit.kinds; dependencies = fit.dependencies; certificates = fit.certificates; signers = fit.signers; wraps = fit.wraps; images = fit.images }) (λ v over. over.communities)

  only_type : (e : PackageEntry) → IsValueOf kinds.Type text e → (v : ℕ) × IsNumber text v × (e ≡ Kind v)
  only_type (Kind n) s = (n, s.1, refl)
  only_type (Named (package_names.Preferred id version)) s = absurd cc
  only_type (Named (package_names.Legacy octets)) s = absurd cc
  only_type (MakesStale (stale_values.Upto n)) s = absurd cc
  only_type (MakesStale (stale_values.Legacy octets)) s = absurd cc
  only_type (For (community_kinds.Group id)) s = absurd cc
  only_type (For (community_kinds.Modules hw_type serial)) s = absurd cc
  only_type (Needs (package_names.Preferred id version)) s = absurd cc
  only_type (Needs (package_names.Legacy octets)) s = absurd cc
  only_type e s = absurd cc

  pub fill_type : Fills (IsNumber text) p.kinds (λ (ys : List (ℕ)). record p { kinds = ys }) kinds.Type
  fill_type =
      once (IsValueOf kinds.Type text) IsPackageFit grow (IsNumber text) (λ (v : ℕ). Kind v) (λ v w. (refl, w)) only_type p p.kinds
      (λ (ys : List (ℕ)). record p { kinds = ys }) (λ v. refl) (λ ys few. record { names = fit.names; stales = fit.stales; alike = fit.alike; targets = fit.targets; communities = fit.communities; kinds = few; dependencies = fit.dependencies; certificates = fit.certificates; signers = fit.signers; wraps = fit.wraps; images = fit.images }) (λ v over. over.kinds)

  here_depends : (v : PackageName) → IsNameOf true text v → IsValueOf kinds.Depends text (Needs v)
  here_depends (package_names.Preferred id version) w = (refl, w.1)
  here_depends (package_names.Legacy octets) w = absurd (false≢true w.0)

  only_depends : (e : PackageEntry) → IsValueOf kinds.Depends text e → (v : PackageName) × IsNameOf true text v × (e ≡ Needs v)
  only_depends (Needs (package_names.Preferred id version)) s = (package_names.Preferred id version, (refl, s.1), refl)
  only_depends (Named (package_names.Preferred id version)) s = absurd cc
  only_depends (Named (package_names.Legacy octets)) s = absurd cc
  only_depends (MakesStale (stale_values.Upto n)) s = absurd cc
  only_depends (MakesStale (stale_values.Legacy octets)) s = absurd cc
  only_depends (For (community_kinds.Group id)) s = absurd cc
  only_depends (For (community_kinds.Modules hw_type serial)) s = absurd cc
  only_depends (Needs (package_names.Legacy octets)) s = absurd cc
  only_depends e s = absurd cc

  pub add_depends : Adds (IsNameOf true text) p.dependencies (λ (ys : List (PackageName)). record p { dependencies = ys }) 8 kinds.Depends
  add_depends =
      below (IsValueOf kinds.Depends text) IsPackageFit grow (IsNameOf true text) (λ (v : PackageName). Needs v) here_depends only_depends p p.dependencies
      (λ (ys : List (PackageName)). record p { dependencies = ys }) (λ v. refl) 8 (λ ys few. record { names = fit.names; stales = fit.stales; alike = fit.alike; targets = fit.targets; communities = fit.communities; kinds = fit.kinds; dependencies = few; certificates = fit.certificates; signers = fit.signers; wraps = fit.wraps; images = fit.images }) (λ v over. over.dependencies)

  here_depends_legacy : (v : PackageName) → IsNameOf false text v → IsValueOf kinds.DependsLegacy text (Needs v)
  here_depends_legacy (package_names.Legacy octets) w = (refl, w.1)
  here_depends_legacy (package_names.Preferred id version) w = absurd (false≢true (sym w.0))

  only_depends_legacy : (e : PackageEntry) → IsValueOf kinds.DependsLegacy text e → (v : PackageName) × IsNameOf false text v × (e ≡ Needs v)
  only_depends_legacy (Needs (package_names.Legacy octets)) s = (package_names.Legacy octets, (refl, s.1), refl)
  only_depends_legacy (Named (package_names.Preferred id version)) s = absurd cc
  only_depends_legacy (Named (package_names.Legacy octets)) s = absurd cc
  only_depends_legacy (MakesStale (stale_values.Upto n)) s = absurd cc
  only_depends_legacy (MakesStale (stale_values.Legacy octets)) s = absurd cc
  only_depends_legacy (For (community_kinds.Group id)) s = absurd cc
  only_depends_legacy (For (community_kinds.Modules hw_type serial)) s = absurd cc
  only_depends_legacy (Needs (package_names.Preferred id version)) s = absurd cc
  only_depends_legacy e s = absurd cc

  pub add_depends_legacy : Adds (IsNameOf false text) p.dependencies (λ (ys : List (PackageName)). record p { dependencies = ys }) 8 kinds.DependsLegacy
  add_depends_legacy =
      below (IsValueOf kinds.DependsLegacy text) IsPackageFit grow (IsNameOf false text) (λ (v : PackageName). Needs v) here_depends_legacy only_depends_legacy p p.dependencies
      (λ (ys : List (PackageName)). record p { dependencies = ys }) (λ v. refl) 8 (λ ys few. record { names = fit.names; stales = fit.stales; alike = fit.alike; targets = fit.targets; communities = fit.communities; kinds = fit.kinds; dependencies = few; certificates = fit.certificates; signers = fit.signers; wraps = fit.wraps; images = fit.images }) (λ v over. over.dependencies)

  only_certificate : (e : PackageEntry) → IsValueOf kinds.Certificate text e → (v : List ℕ) × IsCertificateWord text v × (e ≡ Certificate v)
  only_certificate (Certificate octets) s = (octets, s.1, refl)
  only_certificate (Named (package_names.Preferred id version)) s = absurd cc
  only_certificate (Named (package_names.Legacy octets)) s = absurd cc
  only_certificate (MakesStale (stale_values.Upto n)) s = absurd cc
  only_certificate (MakesStale (stale_values.Legacy octets)) s = absurd cc
  only_certificate (For (community_kinds.Group id)) s = absurd cc
  only_certificate (For (community_kinds.Modules hw_type serial)) s = absurd cc
  only_certificate (Needs (package_names.Preferred id version)) s = absurd cc
  only_certificate (Needs (package_names.Legacy octets)) s = absurd cc
  only_certificate e s = absurd cc

  pub add_certificate : Adds (IsCertificateWord text) p.certificates (λ (ys : List (List ℕ)). record p { certificates = ys }) 8 kinds.Certificate
  add_certificate =
      below (IsValueOf kinds.Certificate text) IsPackageFit grow (IsCertificateWord text) (λ (v : List ℕ). Certificate v) (λ v w. (refl, w)) only_certificate p p.certificates
      (λ (ys : List (List ℕ)). record p { certificates = ys }) (λ v. refl) 8 (λ ys few. record { names = fit.names; stales = fit.stales; alike = fit.alike; targets = fit.targets; communities = fit.communities; kinds = fit.kinds; dependencies = fit.dependencies; certificates = few; signers = fit.signers; wraps = fit.wraps; images = fit.images }) (λ v over. over.certificates)

  only_signer : (e : PackageEntry) → IsValueOf kinds.Signer text e → (v : List ℕ) × IsHex64 text v × (e ≡ Signer v)
  only_signer (Signer id) s = (id, s.1, refl)
  only_signer (Named (package_names.Preferred id version)) s = absurd cc
  only_signer (Named (package_names.Legacy octets)) s = absurd cc
  only_signer (MakesStale (stale_values.Upto n)) s = absurd cc
  only_signer (MakesStale (stale_values.Legacy octets)) s = absurd cc
  only_signer (For (community_kinds.Group id)) s = absurd cc
  only_signer (For (community_kinds.Modules hw_type serial)) s = absurd cc
  only_signer (Needs (package_names.Preferred id version)) s = absurd cc
  only_signer (Needs (package_names.Legacy octets)) s = absurd cc
  only_signer e s = absurd cc

  pub fill_signer : Fills (IsHex64 text) p.signers (λ (ys : List (List ℕ)). record p { signers = ys }) kinds.Signer
  fill_signer =
      once (IsValueOf kinds.Signer text) IsPackageFit grow (IsHex64 text) (λ (v : List ℕ). Signer v) (λ v w. (refl, w)) only_signer p p.signers
      (λ (ys : List (List ℕ)). record p { signers = ys }) (λ v. refl) (λ ys few. record { names = fit.names; stales = fit.stales; alike = fit.alike; targets = fit.targets; communities = fit.communities; kinds = fit.kinds; dependencies = fit.dependencies; certificates = fit.certificates; signers = few; wraps = fit.wraps; images = fit.images }) (λ v over. over.signers)

  only_image : (e : PackageEntry) → IsValueOf kinds.Image text e → (v : List ℕ) × IsImageWord text v × (e ≡ Image v)
  only_image (Image octets) s = (octets, s.1, refl)
  only_image (Named (package_names.Preferred id version)) s = absurd cc
  only_image (Named (package_names.Legacy octets)) s = absurd cc
  only_image (MakesStale (stale_values.Upto n)) s = absurd cc
  only_image (MakesStale (stale_values.Legacy octets)) s = absurd cc
  only_image (For (community_kinds.Group id)) s = absurd cc
  only_image (For (community_kinds.Modules hw_type serial)) s = absurd cc
  only_image (Needs (package_names.Preferred id version)) s = absurd cc
  only_image (Needs (package_names.Legacy octets)) s = absurd cc
  only_image e s = absurd cc

  pub fill_image : Fills (IsImageWord text) p.images (λ (ys : List (List ℕ)). record p { images = ys }) kinds.Image
  fill_image =
      once (IsValueOf kinds.Image text) IsPackageFit grow (IsImageWord text) (λ (v : List ℕ). Image v) (λ v w. (refl, w)) only_image p p.images
      (λ (ys : List (List ℕ)). record p { images = ys }) (λ v. refl) (λ ys few. record { names = fit.names; stales = fit.stales; alike = fit.alike; targets = fit.targets; communities = fit.communities; kinds = fit.kinds; dependencies = fit.dependencies; certificates = fit.certificates; signers = fit.signers; wraps = fit.wraps; images = few }) (λ v over. over.images)

  pub no_wrap : (e : PackageEntry) → IsValueOf kinds.Wrap text e → ⊥
  no_wrap Wrap s = s.1
  no_wrap (Named (package_names.Preferred id version)) s = absurd cc
  no_wrap (Named (package_names.Legacy octets)) s = absurd cc
  no_wrap (MakesStale (stale_values.Upto n)) s = absurd cc
  no_wrap (MakesStale (stale_values.Legacy octets)) s = absurd cc
  no_wrap (For (community_kinds.Group id)) s = absurd cc
  no_wrap (For (community_kinds.Modules hw_type serial)) s = absurd cc
  no_wrap (Needs (package_names.Preferred id version)) s = absurd cc
  no_wrap (Needs (package_names.Legacy octets)) s = absurd cc
  no_wrap e s = absurd cc

-- ---- the line `wrap`

pub fill_wrap : (p : PackageParts) (fit : IsPackageFit p) (line : List ℕ) → line ≡ codes "wrap" → (wrap good : Bool)
    → p.wraps ≡ cond wrap (tt ∷ []) [] → good ≡ not wrap
    → Takes (IsPackageLine line) IsPackageFit grow p (record p { wraps = tt ∷ [] }) good
fill_wrap p fit line is false good same now =
    subst (Takes (IsPackageLine line) IsPackageFit grow p (record p { wraps = tt ∷ [] })) (sym now) (
      Wrap,
      inl (refl, is),
      wrap_alone line is,
      ap (λ (ys : List (Unit {0})). record p { wraps = ys ++ tt ∷ [] }) (sym same),
      record { names = fit.names; stales = fit.stales; alike = fit.alike; targets = fit.targets; communities = fit.communities; kinds = fit.kinds; dependencies = fit.dependencies; certificates = fit.certificates; signers = fit.signers; wraps = omega arith; images = fit.images },
    )
fill_wrap p fit line is true good same now =
    subst (Takes (IsPackageLine line) IsPackageFit grow p (record p { wraps = tt ∷ [] })) (sym now)
    (λ e said over.
    let one : e ≡ Wrap = wrap_alone line is e said in
    let twice : IsPackageFit (grow p Wrap) = subst (λ (x : PackageEntry). IsPackageFit (grow p x)) one over in
    two_items p.wraps tt tt same twice.wraps)

-- what is taken where it stands is what a place is filled with
pub filled_takes : {E P : Type 0} (IsSaid : E → Type 0) (IsFit : P → Type 0) (grow : P → E → P) (p q filled : P)
    (good : Bool) → (good ≡ true → q ≡ filled) → Takes IsSaid IsFit grow p filled good → Takes IsSaid IsFit grow p q good
filled_takes IsSaid IsFit grow p q filled true is t =
    let same : filled ≡ q = sym (is refl) in
    subst (λ x. Takes IsSaid IsFit grow p x true) same t
filled_takes IsSaid IsFit grow p q filled false is t = λ e said fit. t e said fit

pub wrap_takes : (p q : PackageParts) (fit : IsPackageFit p) (line : List ℕ) → line ≡ codes "wrap" → (wrap good : Bool)
    → p.wraps ≡ cond wrap (tt ∷ []) [] → good ≡ not wrap → (good ≡ true → q ≡ record p { wraps = tt ∷ [] })
    → Takes (IsPackageLine line) IsPackageFit grow p q good
wrap_takes p q fit line is wrap good same now filled =
    filled_takes (IsPackageLine line) IsPackageFit grow p q (record p { wraps = tt ∷ [] }) good filled
    (fill_wrap p fit line is wrap good same now)

pub at_kind : (kind k : PackageKind) (text : List ℕ) (p q : PackageParts) (good : Bool) → kind ≡ k
    → Takes (IsValueOf k text) IsPackageFit grow p q good → Takes (IsValueOf kind text) IsPackageFit grow p q good
at_kind kind k text p q good is t =
    subst (λ (x : PackageKind). Takes (IsValueOf x text) IsPackageFit grow p q good) (sym is) t

-- ---- lists

pub adds_one : {F : Type 0} (group : Bool) (text : List ℕ) (old new : List NamedCommunity) (value : NamedCommunity)
    (r : Result Bool F) → Exactly (IsCommunityOf group text) (Some value)
    → IfOk r (λ added. added ≡ nat_lt (length old) 64) → IfOk r (λ added. IsTrue added → new ≡ old ++ value ∷ [])
    → IfOk r (AddsCommunity group text old new)
adds_one group text old new value (Ok added) exact adds put =
    record { value = Some value; exact = exact; adds = adds ∙ sym (and_true (nat_lt (length old) 64)); put = put }
  where
    and_true : (b : Bool) → (b && true) ≡ b
    and_true true = refl
    and_true false = refl
adds_one group text old new value (Err f) exact adds put = tt

pub adds_none : (group : Bool) (text : List ℕ) (old new : List NamedCommunity)
    → Exactly (IsCommunityOf group text) None → AddsCommunity group text old new false
adds_none group text old new exact = record {
  value = None;
  exact = exact;
  adds = sym (and_false (nat_lt (length old) 64));
  put = λ sure. absurd (false≢true sure);
}
  where
    and_false : (b : Bool) → (b && false) ≡ false
    and_false true = refl
    and_false false = refl

pub if_ok_both : {A F : Type 0} (X Y Z : A → Type 0) (r : Result A F) → ((a : A) → X a → Y a → Z a) → IfOk r X → IfOk r Y
    → IfOk r Z
if_ok_both X Y Z (Ok a) both x y = both a x y
if_ok_both X Y Z (Err f) both x y = tt

pub if_ok_as : {A F : Type 0} (X Z : A → Type 0) (r : Result A F) → ((a : A) → X a → Z a) → IfOk r X → IfOk r Z
if_ok_as X Z (Ok a) change x = change a x
if_ok_as X Z (Err f) change x = tt
