use Rattle.std.proofs.Common.{refl}
use Rattle.packager.specs.CertificatePlan.{plan_view}
use Rattle.packager.specs.PackagePlan.{package_view}
use Rattle.packager.specs.declared.certificate_plan.CertPlan.{CertPlan}
use Rattle.packager.specs.declared.package_plan.PackagePlan.{PackagePlan}
use Rattle.packager.specs.SigningRuns.Output.{Certifies, Packs}
use Rattle.fwload_top.specs.declared.signing.Product.TheVariants.{Certificate, Package}
use Rattle.fwload_top.specs.Signing.{IsBadAt}
use Rattle.fwload_top.proofs.BadLineLemmas.{found_bad}
use Rattle.fwload_top.proofs.signing.unsigned.Goals as goal

pub returns-in-Err-clause-bad : goal.returns-in-Err-clause-bad
returns-in-Err-clause-bad c =
    rw c.in-Certificate.is (found_bad CertPlan (IsBadAt Certificate c.args.recipe.now) c.in-Err.fault c.in-Err.ensures.bad)

pub returns-in-Err-read_package_recipe-clause-bad : goal.returns-in-Err-read_package_recipe-clause-bad
returns-in-Err-read_package_recipe-clause-bad c =
    let failed = c.in-Err-read_package_recipe in
    rw c.in-Package.is (found_bad PackagePlan (IsBadAt Package c.args.recipe.now) failed.fault failed.ensures.bad)

pub returns-in_ok-issue-in-Ok-clause-to_sign : goal.returns-in_ok-issue-in-Ok-clause-to_sign
returns-in_ok-issue-in-Ok-clause-to_sign c =
    let plan = plan_view c.in-Ok.plan in
    let issued = c.in_ok-issue-in-Ok in
    rw c.in-Certificate.is (
      Certifies plan,
      record {
        recipe = (c.in-Ok.ensures.good plan).0 refl;
        text = λ leaf unspent.
            c.finished_is_the_output.ensures.certificates plan issued.field-0 c.args.key.now leaf unspent
            issued.ensures.signed issued.ensures.text;
      },
    )

pub returns-in_ok-pack-in-Ok-read_package_recipe-clause-to_sign : goal.returns-in_ok-pack-in-Ok-read_package_recipe-clause-to_sign
returns-in_ok-pack-in-Ok-read_package_recipe-clause-to_sign c =
    let read = c.in-Ok-read_package_recipe in
    let plan = package_view read.plan in
    let packed = c.in_ok-pack-in-Ok-read_package_recipe in
    rw c.in-Package.is (
      Packs plan,
      record {
        recipe = (read.ensures.good plan).0 refl;
        text = λ leaf unspent.
            c.finished_is_the_output.ensures.packages plan packed.field-0 c.args.key.now leaf unspent
            packed.ensures.signed packed.ensures.text;
      },
    )
