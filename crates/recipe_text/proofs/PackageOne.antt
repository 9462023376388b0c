-- A package recipe has one plan.
use Rattle.std.proofs.Common.{◌≡◌, ℕ, List, [], ◌∷◌, Some, refl, sym, ◌∙◌, ap, subst, arith, codes, length, inl, inr}
use Rattle.std.proofs.lemmas.Option.{none-some}
use Rattle.attribute_write.specs.declared.communities.NamedCommunity.TheVariants as community_kinds
use Rattle.der_core.proofs.Numbers.{some_is}
use Rattle.package_attrs.specs.declared.community.SerialEntry.{SerialEntry}
use Rattle.package_attrs.specs.declared.community.SerialEntry.TheVariants.{All, Single, Block}
use Rattle.package_attrs.specs.declared.name.PackageName.TheVariants as package_names
use Rattle.package_attrs.specs.declared.name.Stale.TheVariants as stale_values
use Rattle.packager.specs.PackagePlan.{PlannedPackage}
use Rattle.recipe_text.specs.declared.package_line.PackageKind.{PackageKind}
use Rattle.recipe_text.specs.declared.package_line.PackageKind.TheVariants as kinds
use Rattle.recipe_text.specs.Lines.{spaced}
use Rattle.recipe_text.specs.PackageReading.{kind_name, kind_of}
use Rattle.recipe_text.specs.PackageRecipe.{PackageEntry, PackageRecipe, IsPackageLine, IsPackageValue, IsSerialText}
use Rattle.recipe_text.specs.PackageRecipe.{package_parts, package_rules}
use Rattle.recipe_text.specs.PackageRecipe.PackageEntry.{Named, MakesStale, Target, For, Kind, Needs, Certificate}
use Rattle.recipe_text.specs.PackageRecipe.PackageEntry.{Signer, Wrap, Image}
use Rattle.recipe_text.specs.Reading.{cut}
use Rattle.recipe_text.specs.Words.{IsHex64, IsNumber, IsOidWord, IsPair}
use Rattle.recipe_text.proofs.Cuts.{Without, cut_again}
use Rattle.recipe_text.proofs.Decimals.{one_number}
use Rattle.recipe_text.proofs.Names.{without, uncut}
use Rattle.recipe_text.proofs.Oids.{oid_spaceless}
use Rattle.recipe_text.proofs.OneSaid.{one_hex, one_hex64, one_oid, one_pair, one_recipe}
use Rattle.recipe_text.proofs.PackageLines.{named_kind, no_space, by_kind, line_value, wrap_alone}
use Rattle.recipe_text.proofs.PackagePlans.{same_plan}
use Rattle.recipe_text.proofs.WordLemmas.{hex64_without}

-- ---- serial numbers

all_only : Without 32 (codes "all")
all_only = without 32 (codes "all") refl

single_only : Without 32 (codes "single")
single_only = without 32 (codes "single") refl

block_only : Without 32 (codes "block")
block_only = without 32 (codes "block") refl

-- a word and what stands behind it
is_cut : (text word behind : List ℕ) → Without 32 word → text ≡ spaced (word ∷ behind ∷ []) → cut 32 text ≡ Some (word, behind)
is_cut text word behind free is = ap (cut 32) is ∙ cut_again 32 word behind free

-- two readings of one text have one first word and one rest
same_cut : (text a x b y : List ℕ) → Without 32 a → Without 32 b → text ≡ spaced (a ∷ x ∷ [])
    → text ≡ spaced (b ∷ y ∷ []) → (a ≡ b) × (x ≡ y)
same_cut text a x b y free no_space is other =
    let both = some_is (a, x) (b, y) (sym (is_cut text a x free is) ∙ is_cut text b y no_space other) in
    (ap (λ (t : List ℕ × List ℕ). t.0) both, ap (λ (t : List ℕ × List ℕ). t.1) both)

-- `all` is one word
not_all : (text word behind : List ℕ) → Without 32 word → text ≡ codes "all" → text ≡ spaced (word ∷ behind ∷ []) → ⊥
not_all text word behind free is other =
    none-some (word, behind)
    (sym (uncut 32 (codes "all") all_only) ∙ ap (cut 32) (sym is) ∙ is_cut text word behind free other)

not_both : (text x y : List ℕ) → text ≡ spaced (codes "single" ∷ x ∷ []) → text ≡ spaced (codes "block" ∷ y ∷ []) → ⊥
not_both text x y is other =
    omega (arith, ap length (same_cut text (codes "single") x (codes "block") y single_only block_only is other).0)

one_serial : (text : List ℕ) (a b : SerialEntry) → IsSerialText text a → IsSerialText text b → a ≡ b
one_serial text All All x y = refl
one_serial text All (Single b) x y = absurd (not_all text (codes "single") y.0 single_only x y.2)
one_serial text All (Block low high) x y = absurd (not_all text (codes "block") y.0 block_only x y.2)
one_serial text (Single a) All x y = absurd (not_all text (codes "single") x.0 single_only y x.2)
one_serial text (Single a) (Single b) x y =
    let same = same_cut text (codes "single") x.0 (codes "single") y.0 single_only single_only x.2 y.2 in
    ap (λ (s : List ℕ). Single s) (one_hex64 y.0 a b (subst (λ (w : List ℕ). IsHex64 w a) same.1 x.1) y.1)
one_serial text (Single a) (Block low high) x y = absurd (not_both text x.0 y.0 x.2 y.2)
one_serial text (Block low high) All x y = absurd (not_all text (codes "block") x.0 block_only y x.2)
one_serial text (Block low high) (Single b) x y = absurd (not_both text y.0 x.0 y.2 x.2)
one_serial text (Block low high) (Block least most) x y =
    let same = same_cut text (codes "block") x.0 (codes "block") y.0 block_only block_only x.2 y.2 in
    ap (λ (ends : List ℕ × List ℕ). Block ends.0 ends.1)
    (one_pair IsHex64 IsHex64 one_hex64 one_hex64 hex64_without y.0 (low, high) (least, most)
    (subst (λ (ends : List ℕ). IsPair IsHex64 IsHex64 ends (low, high)) same.1 x.1) y.1)

-- ---- lines

-- which part of a package a line is about: two kinds of lines give a name, a stale value, a community or a need
part_of : PackageEntry → ℕ
part_of (Named name) = 0
part_of (MakesStale stale) = 1
part_of (Target id) = 2
part_of (For community) = 3
part_of (Kind n) = 4
part_of (Needs name) = 5
part_of (Certificate octets) = 6
part_of (Signer id) = 7
part_of Wrap = 8
part_of (Image octets) = 9

kind_part : PackageKind → ℕ
kind_part kinds.Package = 0
kind_part kinds.Legacy = 0
kind_part kinds.Stale = 1
kind_part kinds.LegacyStale = 1
kind_part kinds.Target = 2
kind_part kinds.Community = 3
kind_part kinds.Module = 3
kind_part kinds.Type = 4
kind_part kinds.Depends = 5
kind_part kinds.DependsLegacy = 5
kind_part kinds.Certificate = 6
kind_part kinds.Signer = 7
kind_part kinds.Wrap = 8
kind_part kinds.Image = 9

part_is : (e : PackageEntry) → part_of e ≡ kind_part (kind_of e)
unfolding part_of kind_part
part_is (Named (package_names.Preferred id version)) = refl
part_is (Named (package_names.Legacy octets)) = refl
part_is (MakesStale (stale_values.Upto n)) = refl
part_is (MakesStale (stale_values.Legacy octets)) = refl
part_is (Target id) = refl
part_is (For (community_kinds.Group id)) = refl
part_is (For (community_kinds.Modules hw_type serial)) = refl
part_is (Kind n) = refl
part_is (Needs (package_names.Preferred id version)) = refl
part_is (Needs (package_names.Legacy octets)) = refl
part_is (Certificate octets) = refl
part_is (Signer id) = refl
part_is Wrap = refl
part_is (Image octets) = refl

one_value : (text : List ℕ) (e f : PackageEntry) → kind_of e ≡ kind_of f → part_of e ≡ part_of f
    → IsPackageValue text e → IsPackageValue text f → e ≡ f
unfolding part_of
one_value text (Named (package_names.Preferred id m)) (Named (package_names.Preferred other n)) k part x y =
    ap (λ (t : List ℕ × ℕ). Named (package_names.Preferred t.0 t.1))
    (one_pair IsOidWord IsNumber one_oid one_number oid_spaceless text (id, m) (other, n) x y)
one_value text (Named (package_names.Legacy a)) (Named (package_names.Legacy b)) k part x y =
    ap (λ (o : List ℕ). Named (package_names.Legacy o)) (one_hex64 text a b x y)
one_value text (MakesStale (stale_values.Upto m)) (MakesStale (stale_values.Upto n)) k part x y =
    ap (λ (v : ℕ). MakesStale (stale_values.Upto v)) (one_number text m n x y)
one_value text (MakesStale (stale_values.Legacy a)) (MakesStale (stale_values.Legacy b)) k part x y =
    ap (λ (o : List ℕ). MakesStale (stale_values.Legacy o)) (one_hex64 text a b x y)
one_value text (Target a) (Target b) k part x y = ap (λ (o : List ℕ). Target o) (one_oid text a b x y)
one_value text (For (community_kinds.Group a)) (For (community_kinds.Group b)) k part x y =
    ap (λ (o : List ℕ). For (community_kinds.Group o)) (one_oid text a b x y)
one_value text (For (community_kinds.Modules a s)) (For (community_kinds.Modules b t)) k part x y =
    ap (λ (m : List ℕ × SerialEntry). For (community_kinds.Modules m.0 m.1))
    (one_pair IsOidWord IsSerialText one_oid one_serial oid_spaceless text (a, s) (b, t) x y)
one_value text (Kind m) (Kind n) k part x y = ap (λ (v : ℕ). Kind v) (one_number text m n x y)
one_value text (Needs (package_names.Preferred id m)) (Needs (package_names.Preferred other n)) k part x y =
    ap (λ (t : List ℕ × ℕ). Needs (package_names.Preferred t.0 t.1))
    (one_pair IsOidWord IsNumber one_oid one_number oid_spaceless text (id, m) (other, n) x y)
one_value text (Needs (package_names.Legacy a)) (Needs (package_names.Legacy b)) k part x y =
    ap (λ (o : List ℕ). Needs (package_names.Legacy o)) (one_hex64 text a b x y)
one_value text (Certificate a) (Certificate b) k part x y = ap (λ (o : List ℕ). Certificate o) (one_hex text a b x.hex y.hex)
one_value text (Signer a) (Signer b) k part x y = ap (λ (o : List ℕ). Signer o) (one_hex64 text a b x y)
one_value text (Image a) (Image b) k part x y = ap (λ (o : List ℕ). Image o) (one_hex text a b x.hex y.hex)
one_value text Wrap f k part x y = absurd x
one_value text e f k part x y = absurd cc

one_line : (line : List ℕ) (e f : PackageEntry) → IsPackageLine line e → IsPackageLine line f → e ≡ f
one_line line e f (inl h) k = h.0 ∙ sym (wrap_alone line h.1 f k)
one_line line e f (inr h) k =
    let b = by_kind line e h in
    let is : cut 32 line ≡ Some (kind_name (kind_of e), b.0) =
    ap (cut 32) b.2 ∙ cut_again 32 (kind_name (kind_of e)) b.0 (no_space (kind_of e)) in
    let other = line_value line (kind_name (kind_of e)) b.0 (kind_of e) is (named_kind (kind_of e)) f k in
    let part : part_of e ≡ part_of f = part_is e ∙ ap kind_part (sym other.0) ∙ sym (part_is f) in
    one_value b.0 e f (sym other.0) part b.1 other.1

-- ---- one plan

pub one_package_plan : (text : List ℕ) (plan other : PlannedPackage) → PackageRecipe text plan
    → PackageRecipe text other → plan ≡ other
one_package_plan text plan other r s =
    same_plan plan other
    (sym r.2 ∙ ap package_parts (one_recipe package_rules one_line text r.0 s.0 r.1 s.1) ∙ s.2)
