-- A certificate recipe has one plan, which is one of a certificate that is read back.
use Rattle.std.proofs.Common.{◌≡◌, ℕ, ◌<◌, ◌^◌, ◌-◌, List, Option, Some, None, sym, ◌∙◌, ap, subst}
use Rattle.std.specs.Prelude.{IfSome}
use Rattle.std.specs.List.{AllByRecursion, flat_map}
use Rattle.std.specs.Option.{option_to_list}
use Rattle.std.proofs.Common.{length}
use Rattle.cert_fields.specs.Certificate.{IsSerialNumber}
use Rattle.cert_fields.specs.Extensions.{IsKeyIdentifier}
use Rattle.der_core.specs.Element.{IsTagged}
use Rattle.der_core.specs.Moment.{IsMoment}
use Rattle.der_core.specs.Objects.{IsOid}
use Rattle.hss_chain.specs.Keys.{IsHssKey, hss_key_text}
use Rattle.hss_chain.specs.declared.key.HssKey.{HssKey}
use Rattle.package_attrs.specs.Identifier.{HasOneTo64}
use Rattle.packager.specs.CertificatePlan.{CertificatePlan}
use Rattle.packager.specs.ReadPlans.{IsCertificatePlan, AreConstraintsText}
use Rattle.packager.specs.declared.certificate_plan.Authority.{Authority}
use Rattle.recipe_text.specs.CertReading.{kind_name, kind_of}
use Rattle.recipe_text.specs.CertRecipe.{CertEntry, CertParts, IsCertLine, IsCertValue, CertRecipe, cert_part, cert_parts}
use Rattle.recipe_text.specs.CertRecipe.{cert_rules, plan_parts, IsPathWord}
use Rattle.recipe_text.specs.CertRecipe.CertEntry.{Serial, Issuer, Subject, From, To, Public, SubjectKey}
use Rattle.recipe_text.specs.CertRecipe.CertEntry.{AuthorityKey, Ca, Usage, Constraint, Hardware}
use Rattle.recipe_text.specs.Reading.{cut}
use Rattle.recipe_text.specs.Words.{IsOidWord, IsHex64}
use Rattle.recipe_text.proofs.Anchors.{name_tagged}
use Rattle.recipe_text.proofs.CertLines.{named_kind, no_space, by_kind, line_value}
use Rattle.recipe_text.proofs.CertPlans.{same_plan, plan_short}
use Rattle.recipe_text.proofs.Cuts.{cut_again}
use Rattle.recipe_text.proofs.OneSaid.{HaveOneText, one_hex, one_hex64, one_at, one_oid, one_path, one_use, one_pair}
use Rattle.recipe_text.proofs.OneSaid.{one_recipe}
use Rattle.recipe_text.proofs.Oids.{oid_spaceless}
use Rattle.recipe_text.proofs.Sizes.{recipe_all}

-- ---- one plan

-- keys with one text are one
abbrev pub KeysHaveOneText : Type 0
KeysHaveOneText = (k l : HssKey) → IsHssKey k → IsHssKey l → hss_key_text k ≡ hss_key_text l → k ≡ l

module _ (moments : HaveOneText) (keys : KeysHaveOneText) where
  one_value : (text : List ℕ) (e f : CertEntry) → kind_of e ≡ kind_of f → IsCertValue text e → IsCertValue text f → e ≡ f
  one_value text (Serial a) (Serial b) k x y = ap (λ (o : List ℕ). Serial o) (one_hex text a b x.hex y.hex)
  one_value text (Issuer a) (Issuer b) k x y = ap (λ (o : List ℕ). Issuer o) (x.stands ∙ sym y.stands)
  one_value text (Subject a) (Subject b) k x y = ap (λ (o : List ℕ). Subject o) (x.stands ∙ sym y.stands)
  one_value text (From a) (From b) k x y = ap (λ (n : ℕ). From n) (one_at moments text a b x y)
  one_value text (To a) (To b) k x y = ap (λ (n : ℕ). To n) (one_at moments text a b x y)
  one_value text (Public a) (Public b) k x y =
      ap (λ (key : HssKey). Public key)
      (keys a b x.valid y.valid (one_hex text (hss_key_text a) (hss_key_text b) x.hex y.hex))
  one_value text (SubjectKey a) (SubjectKey b) k x y = ap (λ (o : List ℕ). SubjectKey o) (one_hex64 text a b x y)
  one_value text (AuthorityKey a) (AuthorityKey b) k x y = ap (λ (o : List ℕ). AuthorityKey o) (one_hex64 text a b x y)
  one_value text (Ca a) (Ca b) k x y =
      ap (λ (path : Option ℕ). Ca (record { path_len = path })) (one_path text a.path_len b.path_len x y)
  one_value text (Usage a) (Usage b) k x y = ap Usage (one_use a b (sym x ∙ y))
  one_value text (Constraint a) (Constraint b) k x y = ap (λ (o : List ℕ). Constraint o) (one_hex text a b x.hex y.hex)
  one_value text (Hardware a s) (Hardware b t) k x y =
      ap (λ (h : List ℕ × List ℕ). Hardware h.0 h.1)
      (one_pair IsOidWord IsHex64 one_oid one_hex64 oid_spaceless text (a, s) (b, t) x y)
  one_value text e f k x y = absurd cc

  one_line : (line : List ℕ) (e f : CertEntry) → IsCertLine line e → IsCertLine line f → e ≡ f
  one_line line e f h k =
      let b = by_kind line e h in
      let is : cut 32 line ≡ Some (kind_name (kind_of e), b.0) =
      ap (cut 32) b.2 ∙ cut_again 32 (kind_name (kind_of e)) b.0 (no_space (kind_of e)) in
      let other = line_value line (kind_name (kind_of e)) b.0 (kind_of e) is (named_kind (kind_of e)) f k in
      one_value b.0 e f (sym other.0) b.1 other.1

  pub one_certificate_plan : (text : List ℕ) (plan other : CertificatePlan) → CertRecipe text plan
      → CertRecipe text other → plan ≡ other
  one_certificate_plan text plan other r s =
      same_plan plan other
      (sym r.2 ∙ ap cert_parts (one_recipe cert_rules one_line text r.0 s.0 r.1 s.1) ∙ s.2)

-- ---- what the plan says has texts that are read back

serial_reads : (line : List ℕ) (e : CertEntry) → IsCertLine line e
    → AllByRecursion IsSerialNumber (cert_part e).serials
serial_reads line (Serial octets) h = (record { integer = h.1.integer; most = h.1.most }, tt)
serial_reads line e h = tt

issuer_reads : (line : List ℕ) (e : CertEntry) → IsCertLine line e
    → AllByRecursion (IsTagged 0x30) (cert_part e).issuers
issuer_reads line (Issuer name) h = (name_tagged h.0 name h.1, tt)
issuer_reads line e h = tt

subject_reads : (line : List ℕ) (e : CertEntry) → IsCertLine line e
    → AllByRecursion (IsTagged 0x30) (cert_part e).subjects
subject_reads line (Subject name) h = (name_tagged h.0 name h.1, tt)
subject_reads line e h = tt

from_reads : (line : List ℕ) (e : CertEntry) → IsCertLine line e → AllByRecursion IsMoment (cert_part e).froms
from_reads line (From at) h = (h.1.0, tt)
from_reads line e h = tt

to_reads : (line : List ℕ) (e : CertEntry) → IsCertLine line e → AllByRecursion IsMoment (cert_part e).tos
to_reads line (To at) h = (h.1.0, tt)
to_reads line e h = tt

key_reads : (line : List ℕ) (e : CertEntry) → IsCertLine line e → AllByRecursion IsHssKey (cert_part e).keys
key_reads line (Public key) h = (h.1.valid, tt)
key_reads line e h = tt

subject_key_reads : (line : List ℕ) (e : CertEntry) → IsCertLine line e
    → AllByRecursion IsKeyIdentifier (cert_part e).subject_keys
subject_key_reads line (SubjectKey id) h = (record { some = h.1.some; most = h.1.most }, tt)
subject_key_reads line e h = tt

authority_key_reads : (line : List ℕ) (e : CertEntry) → IsCertLine line e
    → AllByRecursion IsKeyIdentifier (cert_part e).authority_keys
authority_key_reads line (AuthorityKey id) h = (record { some = h.1.some; most = h.1.most }, tt)
authority_key_reads line e h = tt

abbrev IsShortPath : Authority → Type 0
IsShortPath a = IfSome a.path_len (λ n. n < 2 ^ 128)

path_short : (text : List ℕ) (path : Option ℕ) → IsPathWord text path → IfSome path (λ n. n < 2 ^ 128)
path_short text None h = tt
path_short text (Some n) h = h.0

authority_reads : (line : List ℕ) (e : CertEntry) → IsCertLine line e
    → AllByRecursion IsShortPath (cert_part e).authorities
authority_reads line (Ca a) h = (path_short h.0 a.path_len h.1, tt)
authority_reads line e h = tt

constraint_reads : (line : List ℕ) (e : CertEntry) → IsCertLine line e
    → AllByRecursion AreConstraintsText (cert_part e).constraints
constraint_reads line (Constraint octets) h = (h.1.text, tt)
constraint_reads line e h = tt

abbrev IsHardware : List ℕ × List ℕ → Type 0
IsHardware h = IsOid h.0 × HasOneTo64 h.1

hardware_reads : (line : List ℕ) (e : CertEntry) → IsCertLine line e
    → AllByRecursion IsHardware (cert_part e).hardware
hardware_reads line (Hardware hw_type serial) h = ((h.1.2.valid, (h.1.3.some, h.1.3.most)), tt)
hardware_reads line e h = tt

if_some : {A : Type 0} (P : A → Type 0) (o : Option A) → AllByRecursion P (option_to_list o) → IfSome o P
if_some P None h = tt
if_some P (Some x) h = h.0

module _ (text : List ℕ) (plan : CertificatePlan) (r : CertRecipe text plan) where
  -- what all lines say of one kind
  all_say : {A : Type 0} (P : A → Type 0) (part : CertParts → List A)
      → ((line : List ℕ) (e : CertEntry) → IsCertLine line e → AllByRecursion P (part (cert_part e)))
      → flat_map (λ e. part (cert_part e)) r.0 ≡ part (plan_parts plan) → AllByRecursion P (part (plan_parts plan))
  all_say P part each is =
      subst (AllByRecursion P) is (recipe_all cert_rules P (λ e. part (cert_part e)) each text r.0 r.1)

  pub certificate_plan : length text < 2 ^ 32 - 1 → IsCertificatePlan plan
  certificate_plan small = record {
    short = plan_short text plan small r;
    serial = (all_say IsSerialNumber (λ p. p.serials) serial_reads (ap (λ (p : CertParts). p.serials) r.2)).0;
    issuer = (all_say (IsTagged 0x30) (λ p. p.issuers) issuer_reads (ap (λ (p : CertParts). p.issuers) r.2)).0;
    subject = (all_say (IsTagged 0x30) (λ p. p.subjects) subject_reads (ap (λ (p : CertParts). p.subjects) r.2)).0;
    from = (all_say IsMoment (λ p. p.froms) from_reads (ap (λ (p : CertParts). p.froms) r.2)).0;
    to = (all_say IsMoment (λ p. p.tos) to_reads (ap (λ (p : CertParts). p.tos) r.2)).0;
    key = (all_say IsHssKey (λ p. p.keys) key_reads (ap (λ (p : CertParts). p.keys) r.2)).0;
    subject_key =
        if_some IsKeyIdentifier plan.subject_key
        (all_say IsKeyIdentifier (λ p. p.subject_keys) subject_key_reads (ap (λ (p : CertParts). p.subject_keys) r.2));
    authority_key =
        if_some IsKeyIdentifier plan.authority_key
        (all_say IsKeyIdentifier (λ p. p.authority_keys) authority_key_reads
        (ap (λ (p : CertParts). p.authority_keys) r.2));
    authority =
        if_some IsShortPath plan.authority
        (all_say IsShortPath (λ p. p.authorities) authority_reads (ap (λ (p : CertParts). p.authorities) r.2));
    constraints =
        if_some AreConstraintsText plan.constraints
        (all_say AreConstraintsText (λ p. p.constraints) constraint_reads (ap (λ (p : CertParts). p.constraints) r.2));
    hardware =
        if_some IsHardware plan.hardware
        (all_say IsHardware (λ p. p.hardware) hardware_reads (ap (λ (p : CertParts). p.hardware) r.2));
  }
