use Rattle.std.proofs.Common.{refl}
use Rattle.package_attrs.specs.Description.{description}
use Rattle.config_table.specs.State.{offer_of}
use Rattle.dependency_check.proofs.broken.broken_by.Goals as goal

pub returns-clause-unbroken : goal.returns-clause-unbroken
returns-clause-unbroken c = λ digest image.
    c.first_broken.ensures.unbroken (offer_of (description c.args.offered.now)) digest image refl

pub returns-clause-first : goal.returns-clause-first
returns-clause-first c = λ digest image.
    c.first_broken.ensures.first (offer_of (description c.args.offered.now)) digest image refl
