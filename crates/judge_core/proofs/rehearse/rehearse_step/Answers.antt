use Rattle.std.proofs.Common.{◌≡◌, List, [], Option, Some, option_map, refl, ap}
use Rattle.std.specs.Prelude.{◌↔◌}
use Rattle.der_core.specs.Attribute.{Attribute}
use Rattle.sha2.specs.Sha256.{sha256}
use Rattle.package_attrs.specs.declared.package.Package.{Package}
use Rattle.package_attrs.specs.Description.{Description, description}
use Rattle.package_attrs.specs.Attributes.{Describes}
use Rattle.judge_core.specs.Rehearsal.{no_image}
use Rattle.judge_core.proofs.RehearsalLemmas.{refused_by_module, refused_by_room, accepts}
use Rattle.judge_core.proofs.rehearse.rehearse_step.Goals as goal

-- whether something is found that they describe
abbrev Told : Option Package → List Attribute → Type 0
Told found attrs = (d : Description) → (option_map description found ≡ Some d) ↔ Describes attrs d

-- what they describe, where they describe something
describes_of : (attrs : List Attribute) (found : Option Package) (p : Package) → found ≡ Some p → Told found attrs
    → Describes attrs (description p)
describes_of attrs found p is told = (told (description p)).0 (ap (option_map description) is)

pub returns-in-Some-first_refusal : goal.returns-in-Some-first_refusal
returns-in-Some-first_refusal c = record {
  judged =
      let offered = c.in-Some.package in
      refused_by_module c.args.hardware.now c.args.state.now c.args.attributes.now (description offered)
      (describes_of c.args.attributes.now c.read_package.result offered c.in-Some.is c.read_package.ensures.described)
      c.in-Some-first_refusal.failing (c.in-Some-first_refusal.ensures.first (sha256 []) no_image);
}

pub returns-in-Some-first_overflow : goal.returns-in-Some-first_overflow
returns-in-Some-first_overflow c = record {
  judged =
      let offered = c.in-Some.package in
      refused_by_room c.args.hardware.now c.args.state.now c.args.attributes.now (description offered)
      (describes_of c.args.attributes.now c.read_package.result offered c.in-Some.is c.read_package.ensures.described)
      c.in-Some-first_overflow.failing ((c.in_default-first_refusal.ensures.hold (sha256 []) no_image).0 refl)
      (c.in-Some-first_overflow.ensures.first (sha256 []) no_image);
}

pub returns-in-None : goal.returns-in-None
returns-in-None c = record {
  judged =
      let offered = c.in-Some.package in
      accepts c.args.hardware.now c.args.state.now c.args.attributes.now (description offered)
      (describes_of c.args.attributes.now c.read_package.result offered c.in-Some.is c.read_package.ensures.described)
      ((c.in_default-first_refusal.ensures.hold (sha256 []) no_image).0 refl)
      ((c.in-None.ensures.hold (sha256 []) no_image).0 refl);
}
