-- No item is without a verdict.
use Rattle.std.proofs.Common.{◌≡◌, ℕ, List, [], ◌∷◌, inl, inr, refl}
use Rattle.std.specs.Prelude.{Option, Some, None, slice_get}
use Rattle.std.specs.Option.{IsSomeAnd}
use Rattle.der_core.specs.Asked.{Asked, AllHold, FirstFail}
use Rattle.cert_fields.specs.Anchor.{TrustAnchor}
use Rattle.cert_fields.specs.Certificate.{Certificate}
use Rattle.cms_signed.specs.Message.{Message}
use Rattle.module_record.specs.declared.module.Module.{Module}
use Rattle.package_attrs.specs.Image.{IsImage}
use Rattle.path_check.specs.Conditions.{members_at}
use Rattle.path_check.specs.Paths.{PathPlaces, LeadsTo, HasMembers}
use Rattle.judge_core.specs.Values.{Values, Spells}
use Rattle.judge_core.specs.Conditions.{octet_conditions, value_conditions, certificates_in, IsPath, LeadsUp}
use Rattle.judge_core.specs.Verdicts.{Bench, Verdict, accepts, refuses, Judges, FailsLater, later_conditions}

-- a list of conditions isn't without a first that fails, but where all hold
all_or_first : (conditions : List Asked) → ((n : ℕ) → ¬ FirstFail conditions n) → ¬ ¬ AllHold conditions
all_or_first [] none not_all = not_all tt
all_or_first (c ∷ more) none not_all =
    none c.number (inl (
      refl,
      λ holds.
          all_or_first more (λ n f. none n (inr (holds, f))) (λ all. not_all (holds, all)),
    ))

-- condition 19 gives what the octets spell
spelled : (item : List ℕ) → AllHold (octet_conditions item) → (v : Values) × Spells item v
spelled item all = all.1.1.1.1.1.1.1.1.1.1.1.1.1.1.1.1.1.1.0

-- the anchor of a path is there
at_some : {A : Type 0} (P : A → Type 0) (found : Option A) → IsSomeAnd found P → (x : A) × (found ≡ Some x)
at_some P None holds = absurd holds
at_some P (Some x) holds = (x, refl)

leads_anchor : (certificates : List Certificate) (anchors : List TrustAnchor) (below : ℕ) (members : List ℕ)
    (anchor : ℕ) → LeadsTo certificates anchors below members anchor
    → (x : TrustAnchor) × (slice_get anchors anchor ≡ Some x)
leads_anchor certificates anchors below [] anchor leads = at_some _ (slice_get anchors anchor) leads.fits
leads_anchor certificates anchors below (next ∷ more) anchor leads =
    leads_anchor certificates anchors next more anchor leads.2

anchor_there : (m : Module) (message : Message) (members : List ℕ) (anchor : ℕ)
    → HasMembers message.signer.sid (certificates_in message) m.anchors members anchor
    → (x : TrustAnchor) × (slice_get m.anchors anchor ≡ Some x)
anchor_there m message [] anchor path = at_some _ (slice_get m.anchors anchor) path.fits
anchor_there m message (first ∷ more) anchor path =
    leads_anchor (certificates_in message) m.anchors first more anchor path.3

-- a path leads up to an anchor of the module
leads : (m : Module) (message : Message) (path : PathPlaces) → IsPath m message path
    → (anchor : TrustAnchor) × (members : List Certificate) × LeadsUp m message anchor members
leads m message path is_path =
    let found : (x : TrustAnchor) × (slice_get m.anchors path.anchor ≡ Some x) =
    anchor_there m message path.members path.anchor is_path in (
      found.0,
      members_at (certificates_in message) path.members,
      record { path = path; is_path = is_path; anchor_is = found.1; members_are = refl },
    )

-- each content has an image
image_there : (content : List ℕ) → ¬ ((image : List ℕ) → ¬ IsImage content image)
image_there content none = none content (inr ((λ contents string. none contents (inl string)), refl))

pub has_verdict : (b : Bench) (item : List ℕ) → ¬ ((verdict : Verdict) → ¬ Judges b item verdict)
has_verdict b item none =
    all_or_first (octet_conditions item) (λ n f. none (refuses n None) f) (λ octets.
    let spells : (v : Values) × Spells item v = spelled item octets in
    let v : Values = spells.0 in
    let later : (n : ℕ) → ¬ FailsLater b v n =
    λ n fails. none (refuses n (Some v.described.identifier.name)) (octets, (v, spells.1, fails, refl)) in
    all_or_first (value_conditions b.holder v) (λ n f. later n (inl f)) (λ values.
    let path : (p : PathPlaces) × IsPath b.holder v.message p = values.1.1.0 in
    let up : (anchor : TrustAnchor) × (members : List Certificate) × LeadsUp b.holder v.message anchor members =
    leads b.holder v.message path.0 path.1 in
    image_there v.message.content (λ image image_is.
    all_or_first (later_conditions b v image up.0 up.1)
    (λ n f. later n (inr (values, (image, up.0, up.1, image_is, up.2, f)))) (λ others.
    none (accepts v.described v.message.content image up.0.key_id) (
      v,
      up.0,
      record {
        octets = octets;
        spells = spells.1;
        values = values;
        image_is = image_is;
        members = up.1;
        leads = up.2;
        others = others;
      },
      refl,
      refl,
      refl,
    )))))
