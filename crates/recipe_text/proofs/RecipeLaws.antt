-- A recipe has no first bad line, and any other text has one.
use Rattle.std.proofs.Common.{◌≡◌, ℕ, List}
use Rattle.module_record.specs.declared.module.Module.{Module}
use Rattle.packager.specs.CertificatePlan.{CertificatePlan}
use Rattle.packager.specs.PackagePlan.{PlannedPackage}
use Rattle.recipe_text.specs.CertRecipe.{CertEntry, IsCertLine, IsCertFit, IsCertWhole, cert_parts, CertRecipe}
use Rattle.recipe_text.specs.CertRecipe.{FirstBadCertLine}
use Rattle.recipe_text.specs.ModuleRecipe.{ModuleEntry, IsModuleLine, IsModuleFit, IsModuleWhole, module_parts}
use Rattle.recipe_text.specs.ModuleRecipe.{ModuleRecipe, FirstBadModuleLine}
use Rattle.recipe_text.specs.PackageRecipe.{PackageEntry, IsPackageLine, IsPackageFit, IsPackageWhole, package_parts}
use Rattle.recipe_text.specs.PackageRecipe.{PackageRecipe, FirstBadPackageLine}
use Rattle.recipe_text.proofs.CertLines.{closed as cert_closed}
use Rattle.recipe_text.proofs.Entries.{recipe_good, one_first}
use Rattle.recipe_text.proofs.KeyRecipes.{closed as key_closed}
use Rattle.recipe_text.specs.KeyRecipe.{IsKeyLine, IsOneAtMost, IsOne, FirstBadKeyLine}
use Rattle.recipe_text.proofs.ModuleLines.{closed as module_closed}
use Rattle.recipe_text.proofs.PackageLines.{closed as package_closed}

pub certificate_has_no_bad_line : (text : List ℕ) (plan : CertificatePlan) (n : ℕ) → CertRecipe text plan
    → FirstBadCertLine text n → ⊥
certificate_has_no_bad_line text plan n recipe bad =
    recipe_good {IsEntry = IsCertLine} {Fits = λ (es : List CertEntry). IsCertFit (cert_parts es)}
    {Whole = λ (es : List CertEntry). IsCertWhole (cert_parts es)} cert_closed text n recipe.0 recipe.1 bad

pub package_has_no_bad_line : (text : List ℕ) (plan : PlannedPackage) (n : ℕ) → PackageRecipe text plan
    → FirstBadPackageLine text n → ⊥
package_has_no_bad_line text plan n recipe bad =
    recipe_good {IsEntry = IsPackageLine} {Fits = λ (es : List PackageEntry). IsPackageFit (package_parts es)}
    {Whole = λ (es : List PackageEntry). IsPackageWhole (package_parts es)} package_closed text n recipe.0 recipe.1 bad

pub module_has_no_bad_line : (text : List ℕ) (owner : Module) (n : ℕ) → ModuleRecipe text owner
    → FirstBadModuleLine text n → ⊥
module_has_no_bad_line text owner n recipe bad =
    recipe_good {IsEntry = IsModuleLine} {Fits = λ (es : List ModuleEntry). IsModuleFit (module_parts es)}
    {Whole = λ (es : List ModuleEntry). IsModuleWhole (module_parts es)} module_closed text n recipe.0 recipe.1 bad

-- ---- a text has one first bad line

pub one_bad_key_line : (text : List ℕ) (m n : ℕ) → FirstBadKeyLine text m → FirstBadKeyLine text n → m ≡ n
one_bad_key_line text m n x y =
    one_first {IsEntry = IsKeyLine} {Fits = IsOneAtMost} {Whole = IsOne} key_closed text m n x y

pub one_bad_certificate_line : (text : List ℕ) (m n : ℕ) → FirstBadCertLine text m → FirstBadCertLine text n → m ≡ n
one_bad_certificate_line text m n x y =
    one_first {IsEntry = IsCertLine} {Fits = λ (es : List CertEntry). IsCertFit (cert_parts es)}
    {Whole = λ (es : List CertEntry). IsCertWhole (cert_parts es)} cert_closed text m n x y

pub one_bad_package_line : (text : List ℕ) (m n : ℕ) → FirstBadPackageLine text m → FirstBadPackageLine text n → m ≡ n
one_bad_package_line text m n x y =
    one_first {IsEntry = IsPackageLine} {Fits = λ (es : List PackageEntry). IsPackageFit (package_parts es)}
    {Whole = λ (es : List PackageEntry). IsPackageWhole (package_parts es)} package_closed text m n x y

pub one_bad_module_line : (text : List ℕ) (m n : ℕ) → FirstBadModuleLine text m → FirstBadModuleLine text n → m ≡ n
one_bad_module_line text m n x y =
    one_first {IsEntry = IsModuleLine} {Fits = λ (es : List ModuleEntry). IsModuleFit (module_parts es)}
    {Whole = λ (es : List ModuleEntry). IsModuleWhole (module_parts es)} module_closed text m n x y
