use Rattle.package_attrs.specs.Description.{description}
use Rattle.package_attrs.proofs.PackageLaws.{described}
use Rattle.package_attrs.proofs.assemble.read_package.Goals as goal

pub returns-clause-described : goal.returns-clause-described
returns-clause-described c =
    described description c.args.attrs.now c.read_whole.result c.requires.own
    c.read_whole.ensures.exact c.read_whole.ensures.sound
