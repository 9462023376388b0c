use Rattle.std.proofs.Common.{◌≡◌, List, Option, None, Some, IsNone, option_map, sym, ap, subst, ◌∙◌}
use Rattle.std.specs.Prelude.{◌↔◌}
use Rattle.std.proofs.lemmas.Option.{none-some}
use Rattle.der_core.specs.Attribute.{Attribute}
use Rattle.der_core.specs.Asked.{AllHold, FirstFail}
use Rattle.sha2.specs.Sha256.{sha256}
use Rattle.der_core.proofs.AskedLemmas.{not_both}
use Rattle.cert_fields.specs.Sid.{sid_view}
use Rattle.cms_signed.specs.Message.{Message}
use Rattle.cms_signed.specs.SignedAnswer.{Shows}
use Rattle.module_record.specs.declared.module.Module.{Module}
use Rattle.package_attrs.specs.declared.package.Package.{Package}
use Rattle.package_attrs.specs.Attributes.{HaveOwnTypes, Describes}
use Rattle.package_attrs.specs.Description.{Description, description}
use Rattle.path_check.specs.Paths.{PathOf}
use Rattle.judge_core.specs.declared.fault.Fault.{Fault}
use Rattle.judge_core.specs.declared.fault.Fault.TheVariants.{Fails, Memory}
use Rattle.judge_core.specs.Conditions.{certificates_in, value_conditions}
use Rattle.judge_core.specs.Granted.{PathGrant, GrantsMessage, IsGrantOf, IsTold}
use Rattle.judge_core.specs.Steps.{IsFailure, Says, values_of}
use Rattle.judge_core.proofs.GrantLemmas.{told_goes, told_none}
use Rattle.judge_core.proofs.ResultLemmas.{if_ok}
use Rattle.judge_core.proofs.grant.grant_of_view.Goals as goal

-- what the message's attributes describe
describes_of : (attrs said : List Attribute) (found : Option Package) (p : Package) → found ≡ Some p
    → ((d : Description) → (option_map description found ≡ Some d) ↔ Describes attrs d) → attrs ≡ said
    → Describes said (description p)
describes_of attrs said found p is told same =
    subst (λ a. Describes a (description p)) same ((told (description p)).0 (ap (option_map description) is))

-- where nothing is found, they describe nothing
describes_none : (attrs said : List Attribute) (found : Option Package) → found ≡ None
    → ((d : Description) → (option_map description found ≡ Some d) ↔ Describes attrs d) → attrs ≡ said
    → (d : Description) → Describes said d → ⊥
describes_none attrs said found is told same d describes =
    none-some d
    (sym (ap (option_map description) is) ∙ (told d).1 (subst (λ a. Describes a d) (sym same) describes))

-- where one of the conditions 20 to 22 fails, nothing is granted
fails : (owner : Module) (m : Message) (d : Description) (fault : Fault) → IsFailure fault
    → Says fault (FirstFail (value_conditions owner (values_of m d)))
    → ((e : Description) → Describes m.signer.signed_attributes e → e ≡ d)
    → (other : PathGrant) → GrantsMessage owner m other → ⊥
fails owner m d (Fails n) is told one other g =
    not_both (value_conditions owner (values_of m d)) n told
    (subst (λ e. AllHold (value_conditions owner (values_of m e))) (one g.described g.describes) g.values)
fails owner m d Memory is told one other g = absurd is

pub returns-in_default : goal.returns-in_default
returns-in_default c = record {
  told = λ m shows content other g.
      describes_none c.args.view.now.attrs m.signer.signed_attributes c.read_package.result c.in_default.is
      c.read_package.ensures.described shows.attrs g.described g.describes;
}

pub returns : goal.returns
returns c = record {
  told =
      if_ok (λ told. IsNone told × IsFailure c.in-Err.fault)
      (λ told. (m : Message) → Shows c.args.view.now m.certificates m.signer → m.content ≡ c.args.view.now.content.now
      → IsTold (GrantsMessage c.args.owner.now m) told)
      c.nothing.result
      (λ told is m shows content.
      let d = description c.in-Some.package in
      told_none (GrantsMessage c.args.owner.now m) told is.0
      (fails c.args.owner.now m d c.in-Err.fault is.1
      (c.in-Err.ensures.fails m shows (c.known_of.ensures.digest ∙ ap sha256 (sym content)))
      (λ e describes.
      c.one_description.ensures m.signer.signed_attributes e d
      (subst HaveOwnTypes shows.attrs c.requires.own) describes
      (describes_of c.args.view.now.attrs m.signer.signed_attributes c.read_package.result c.in-Some.package
      c.in-Some.is c.read_package.ensures.described shows.attrs))))
      c.nothing.ensures.none;
}

pub returns-in-Ok : goal.returns-in-Ok
returns-in-Ok c = record {
  told =
      if_ok (IsTold (IsGrantOf c.args.owner.now c.deref-in-Ok.result.now c.in-Ok.path))
      (λ told. (m : Message) → Shows c.args.view.now m.certificates m.signer → m.content ≡ c.args.view.now.content.now
      → IsTold (GrantsMessage c.args.owner.now m) told)
      c.grant_at.result
      (λ told is m shows content.
      let owner = c.args.owner.now in
      let certs = c.deref-in-Ok.result.now in
      let same : certs ≡ certificates_in m =
      c.deref-in-Ok.ensures.value ∙ c.in_ok-certs.ensures.kept ∙ shows.certs in
      let path_is : PathOf m.signer.sid (certificates_in m) owner.anchors c.in-Ok.path =
      subst (λ sid. PathOf sid (certificates_in m) owner.anchors c.in-Ok.path) shows.sid
      (subst (λ cs. PathOf (sid_view c.args.view.now.sid) cs owner.anchors c.in-Ok.path)
      (c.deref.ensures.value ∙ c.in_ok-certs.ensures.kept ∙ shows.certs) c.in-Ok.ensures.path) in
      told_goes (IsGrantOf owner certs c.in-Ok.path) (GrantsMessage owner m) told
      (λ t granted. record {
        described = description c.in-Some.package;
        describes =
            describes_of c.args.view.now.attrs m.signer.signed_attributes c.read_package.result c.in-Some.package
            c.in-Some.is c.read_package.ensures.described shows.attrs;
        values = c.in-Ok.ensures.ok m shows (c.known_of.ensures.digest ∙ ap sha256 (sym content));
        path = c.in-Ok.path;
        is_path = path_is;
        told_is = subst (λ cs. IsGrantOf owner cs c.in-Ok.path t) same granted;
      })
      (λ t g.
      let one : g.path ≡ c.in-Ok.path =
      c.one_path.ensures m.signer.sid (certificates_in m) owner.anchors g.path c.in-Ok.path g.is_path path_is in
      subst (λ cs. IsGrantOf owner cs c.in-Ok.path t) (sym same)
      (subst (λ p. IsGrantOf owner (certificates_in m) p t) one g.told_is))
      is)
      c.grant_at.ensures.told;
}
