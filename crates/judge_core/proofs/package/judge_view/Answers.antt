use Rattle.std.proofs.Common.{◌≡◌, ℕ, List, Option, None, Some, option_map, refl, sym, ap, subst, ◌∙◌}
use Rattle.std.specs.Prelude.{◌↔◌}
use Rattle.std.proofs.lemmas.Option.{none-some}
use Rattle.der_core.specs.Attribute.{Attribute}
use Rattle.cms_signed.specs.Message.{Message}
use Rattle.package_attrs.specs.declared.name.PackageName.{PackageName}
use Rattle.package_attrs.specs.declared.package.Package.{Package}
use Rattle.package_attrs.specs.Attributes.{Describes}
use Rattle.package_attrs.specs.Description.{Description, description}
use Rattle.judge_core.specs.declared.fault.Fault.{Fault}
use Rattle.judge_core.specs.declared.fault.Fault.TheVariants.{Fails, Memory}
use Rattle.judge_core.specs.declared.verdict.CutVerdict.{CutVerdict}
use Rattle.judge_core.specs.Verdicts.{Bench, bench}
use Rattle.judge_core.specs.Steps.{IsRefusal, IsSeen, JudgesMessage, Says, Stops, values_of}
use Rattle.judge_core.proofs.ResultLemmas.{if_ok}
use Rattle.judge_core.proofs.package.judge_view.Goals as goal

-- what the message's attributes describe
describes_of : (attrs said : List Attribute) (found : Option Package) (p : Package) → found ≡ Some p
    → ((d : Description) → (option_map description found ≡ Some d) ↔ Describes attrs d) → attrs ≡ said
    → Describes said (description p)
describes_of attrs said found p is told same =
    subst (λ a. Describes a (description p)) same ((told (description p)).0 (ap (option_map description) is))

-- where nothing is found, they describe nothing
describes_none : (attrs said : List Attribute) (found : Option Package) → found ≡ None
    → ((d : Description) → (option_map description found ≡ Some d) ↔ Describes attrs d) → attrs ≡ said
    → (d : Description) → Describes said d → ⊥
describes_none attrs said found is told same d describes =
    none-some d
    (sym (ap (option_map description) is) ∙ (told d).1 (subst (λ a. Describes a d) (sym same) describes))

-- a refusal of a package that is described
refused : (b : Bench) (m : Message) (image : List ℕ) (d : Description) (name : PackageName) (fault : Fault)
    (verdict : CutVerdict) → Describes m.signer.signed_attributes d → name ≡ d.identifier.name
    → IsRefusal fault name verdict → Says fault (Stops b (values_of m d) image) → JudgesMessage b m image verdict
refused b m image d name (Fails n) verdict describes is refusal stops =
    subst (JudgesMessage b m image) (sym refusal) (d, describes, stops, is)
refused b m image d name Memory verdict describes is refusal stops = absurd refusal

pub returns-in_default : goal.returns-in_default
returns-in_default c = record {
  judged = λ m image seen. (
    c.numbered.ensures.value,
    describes_none c.args.view.now.attrs m.signer.signed_attributes c.read_package.result c.in_default.is
        c.read_package.ensures.described seen.shows.attrs,
  );
}

pub returns-in-Ok : goal.returns-in-Ok
returns-in-Ok c = record {
  judged = λ m image seen. (
    describes_of c.args.view.now.attrs m.signer.signed_attributes c.read_package.result c.in-Some.package c.in-Some.is
        c.read_package.ensures.described seen.shows.attrs,
    c.in-Ok.ensures.ok m image seen,
  );
}

pub returns-in-Err : goal.returns-in-Err
returns-in-Err c = record {
  judged =
      if_ok (IsRefusal c.in-Err.fault c.in-Some.package.identifier.name)
      (λ verdict. (m : Message) (image : List ℕ) → IsSeen c.args.view.now c.args.known.now m image
      → JudgesMessage (bench c.args.owner.now c.args.state.now c.args.sequence c.args.at) m image verdict)
      c.refused.result
      (λ verdict refusal m image seen.
      refused (bench c.args.owner.now c.args.state.now c.args.sequence c.args.at) m image
      (description c.in-Some.package) c.in-Some.package.identifier.name c.in-Err.fault verdict
      (describes_of c.args.view.now.attrs m.signer.signed_attributes c.read_package.result c.in-Some.package
      c.in-Some.is c.read_package.ensures.described seen.shows.attrs)
      refl refusal (c.in-Err.ensures.fails m image seen))
      c.refused.ensures.refused;
}
