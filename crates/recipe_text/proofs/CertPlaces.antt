-- What each kind of line puts into the draft of a certificate.
use Rattle.std.proofs.Common.{◌≡◌, ℕ, Bool, true, not, ◌&&◌, List, Option, refl, sym, subst}
use Rattle.std.specs.Global.{Vec}
use Rattle.std.specs.Prelude.{is_some}
use Rattle.std.specs.Option.{option_to_list}
use Rattle.hss_chain.specs.declared.key.HssKey.{HssKey}
use Rattle.packager.specs.declared.certificate_plan.Authority.{Authority}
use Rattle.packager.specs.declared.certificate_plan.KeyUses.{KeyUses}
use Rattle.recipe_text.specs.declared.cert_line.CertKind.{CertKind}
use Rattle.recipe_text.specs.declared.cert_line.CertKind.TheVariants as kinds
use Rattle.recipe_text.specs.CertReading.{IsValueOf, grow}
use Rattle.recipe_text.specs.CertRecipe.{CertEntry, CertParts, IsCertFit, IsPathWord, IsHardwareText, uses_word}
use Rattle.recipe_text.specs.CertRecipe.CertEntry.{Serial, Issuer, Subject, From, To, Public, SubjectKey}
use Rattle.recipe_text.specs.CertRecipe.CertEntry.{AuthorityKey, Ca, Usage, Constraint, Hardware}
use Rattle.recipe_text.specs.Taking.{Takes}
use Rattle.recipe_text.specs.Words.{Exactly, IsAt, IsHex64, IsSerialWord, IsKeyWord, IsConstraintsWord, IsNameWord}
use Rattle.recipe_text.proofs.Taking.{once}

abbrev pub octets : Vec ℕ → List ℕ
octets v = v.items

pub at_kind : (kind k : CertKind) (text : List ℕ) (p q : CertParts) (good : Bool) → kind ≡ k
    → Takes (IsValueOf k text) IsCertFit grow p q good → Takes (IsValueOf kind text) IsCertFit grow p q good
at_kind kind k text p q good is t =
    subst (λ (x : CertKind). Takes (IsValueOf x text) IsCertFit grow p q good) (sym is) t

-- a place for such values is filled once
abbrev Fills : {V : Type 0} → CertParts → (V → Type 0) → List V → (List V → CertParts) → CertKind → List ℕ → Type 0
Fills {V} p IsWord xs put kind text =
    (old value new : Option V) (good : Bool) → xs ≡ option_to_list old
    → good ≡ (not (is_some old) && is_some value) → (good ≡ true → new ≡ value) → Exactly IsWord value
    → Takes (IsValueOf kind text) IsCertFit grow p (put (option_to_list new)) good

module _ (p : CertParts) (fit : IsCertFit p) (text : List ℕ) where
  only_serial : (e : CertEntry) → IsValueOf kinds.Serial text e → (v : List ℕ) × (IsSerialWord text) v × (e ≡ (λ (octets : List ℕ). Serial octets) v)
  only_serial (Serial octets) s = (octets, s.1, refl)
  only_serial e s = absurd cc

  pub fill_serial : Fills p (IsSerialWord text) p.serials (λ (ys : List (List ℕ)). record p { serials = ys }) kinds.Serial text
  fill_serial =
      once (IsValueOf kinds.Serial text) IsCertFit grow (IsSerialWord text) (λ (octets : List ℕ). Serial octets)
      (λ v w. (refl, w)) only_serial p p.serials (λ (ys : List (List ℕ)). record p { serials = ys }) (λ v. refl)
      (λ ys few. record { serials = few; issuers = fit.issuers; subjects = fit.subjects; froms = fit.froms; tos = fit.tos; keys = fit.keys; subject_keys = fit.subject_keys; authority_keys = fit.authority_keys; authorities = fit.authorities; uses = fit.uses; constraints = fit.constraints; hardware = fit.hardware }) (λ v over. over.serials)

  only_issuer : (e : CertEntry) → IsValueOf kinds.Issuer text e → (v : List ℕ) × (IsNameWord text) v × (e ≡ (λ (name : List ℕ). Issuer name) v)
  only_issuer (Issuer name) s = (name, s.1, refl)
  only_issuer e s = absurd cc

  pub fill_issuer : Fills p (IsNameWord text) p.issuers (λ (ys : List (List ℕ)). record p { issuers = ys }) kinds.Issuer text
  fill_issuer =
      once (IsValueOf kinds.Issuer text) IsCertFit grow (IsNameWord text) (λ (name : List ℕ). Issuer name)
      (λ v w. (refl, w)) only_issuer p p.issuers (λ (ys : List (List ℕ)). record p { issuers = ys }) (λ v. refl)
      (λ ys few. record { serials = fit.serials; issuers = few; subjects = fit.subjects; froms = fit.froms; tos = fit.tos; keys = fit.keys; subject_keys = fit.subject_keys; authority_keys = fit.authority_keys; authorities = fit.authorities; uses = fit.uses; constraints = fit.constraints; hardware = fit.hardware }) (λ v over. over.issuers)

  only_subject : (e : CertEntry) → IsValueOf kinds.Subject text e → (v : List ℕ) × (IsNameWord text) v × (e ≡ (λ (name : List ℕ). Subject name) v)
  only_subject (Subject name) s = (name, s.1, refl)
  only_subject e s = absurd cc

  pub fill_subject : Fills p (IsNameWord text) p.subjects (λ (ys : List (List ℕ)). record p { subjects = ys }) kinds.Subject text
  fill_subject =
      once (IsValueOf kinds.Subject text) IsCertFit grow (IsNameWord text) (λ (name : List ℕ). Subject name)
      (λ v w. (refl, w)) only_subject p p.subjects (λ (ys : List (List ℕ)). record p { subjects = ys }) (λ v. refl)
      (λ ys few. record { serials = fit.serials; issuers = fit.issuers; subjects = few; froms = fit.froms; tos = fit.tos; keys = fit.keys; subject_keys = fit.subject_keys; authority_keys = fit.authority_keys; authorities = fit.authorities; uses = fit.uses; constraints = fit.constraints; hardware = fit.hardware }) (λ v over. over.subjects)

  only_from : (e : CertEntry) → IsValueOf kinds.From text e → (v : ℕ) × (IsAt text) v × (e ≡ (λ (at : ℕ). From at) v)
  only_from (From at) s = (at, s.1, refl)
  only_from e s = absurd cc

  pub fill_from : Fills p (IsAt text) p.froms (λ (ys : List (ℕ)). record p { froms = ys }) kinds.From text
  fill_from =
      once (IsValueOf kinds.From text) IsCertFit grow (IsAt text) (λ (at : ℕ). From at)
      (λ v w. (refl, w)) only_from p p.froms (λ (ys : List (ℕ)). record p { froms = ys }) (λ v. refl)
      (λ ys few. record { serials = fit.serials; issuers = fit.issuers; subjects = fit.subjects; froms = few; tos = fit.tos; keys = fit.keys; subject_keys = fit.subject_keys; authority_keys = fit.authority_keys; authorities = fit.authorities; uses = fit.uses; constraints = fit.constraints; hardware = fit.hardware }) (λ v over. over.froms)

  only_to : (e : CertEntry) → IsValueOf kinds.To text e → (v : ℕ) × (IsAt text) v × (e ≡ (λ (at : ℕ). To at) v)
  only_to (To at) s = (at, s.1, refl)
  only_to e s = absurd cc

  pub fill_to : Fills p (IsAt text) p.tos (λ (ys : List (ℕ)). record p { tos = ys }) kinds.To text
  fill_to =
      once (IsValueOf kinds.To text) IsCertFit grow (IsAt text) (λ (at : ℕ). To at)
      (λ v w. (refl, w)) only_to p p.tos (λ (ys : List (ℕ)). record p { tos = ys }) (λ v. refl)
      (λ ys few. record { serials = fit.serials; issuers = fit.issuers; subjects = fit.subjects; froms = fit.froms; tos = few; keys = fit.keys; subject_keys = fit.subject_keys; authority_keys = fit.authority_keys; authorities = fit.authorities; uses = fit.uses; constraints = fit.constraints; hardware = fit.hardware }) (λ v over. over.tos)

  only_public : (e : CertEntry) → IsValueOf kinds.Public text e → (v : HssKey) × (IsKeyWord text) v × (e ≡ (λ (key : HssKey). Public key) v)
  only_public (Public key) s = (key, s.1, refl)
  only_public e s = absurd cc

  pub fill_public : Fills p (IsKeyWord text) p.keys (λ (ys : List (HssKey)). record p { keys = ys }) kinds.Public text
  fill_public =
      once (IsValueOf kinds.Public text) IsCertFit grow (IsKeyWord text) (λ (key : HssKey). Public key)
      (λ v w. (refl, w)) only_public p p.keys (λ (ys : List (HssKey)). record p { keys = ys }) (λ v. refl)
      (λ ys few. record { serials = fit.serials; issuers = fit.issuers; subjects = fit.subjects; froms = fit.froms; tos = fit.tos; keys = few; subject_keys = fit.subject_keys; authority_keys = fit.authority_keys; authorities = fit.authorities; uses = fit.uses; constraints = fit.constraints; hardware = fit.hardware }) (λ v over. over.keys)

  only_subject_key : (e : CertEntry) → IsValueOf kinds.SubjectKey text e → (v : List ℕ) × (IsHex64 text) v × (e ≡ (λ (id : List ℕ). SubjectKey id) v)
  only_subject_key (SubjectKey id) s = (id, s.1, refl)
  only_subject_key e s = absurd cc

  pub fill_subject_key : Fills p (IsHex64 text) p.subject_keys (λ (ys : List (List ℕ)). record p { subject_keys = ys }) kinds.SubjectKey text
  fill_subject_key =
      once (IsValueOf kinds.SubjectKey text) IsCertFit grow (IsHex64 text) (λ (id : List ℕ). SubjectKey id)
      (λ v w. (refl, w)) only_subject_key p p.subject_keys (λ (ys : List (List ℕ)). record p { subject_keys = ys }) (λ v. refl)
      (λ ys few. record { serials = fit.serials; issuers = fit.issuers; subjects = fit.subjects; froms = fit.froms; tos = fit.tos; keys = fit.keys; subject_keys = few; authority_keys = fit.authority_keys; authorities = fit.authorities; uses = fit.uses; constraints = fit.constraints; hardware = fit.hardware }) (λ v over. over.subject_keys)

  only_authority_key : (e : CertEntry) → IsValueOf kinds.AuthorityKey text e → (v : List ℕ) × (IsHex64 text) v × (e ≡ (λ (id : List ℕ). AuthorityKey id) v)
  only_authority_key (AuthorityKey id) s = (id, s.1, refl)
  only_authority_key e s = absurd cc

  pub fill_authority_key : Fills p (IsHex64 text) p.authority_keys (λ (ys : List (List ℕ)). record p { authority_keys = ys }) kinds.AuthorityKey text
  fill_authority_key =
      once (IsValueOf kinds.AuthorityKey text) IsCertFit grow (IsHex64 text) (λ (id : List ℕ). AuthorityKey id)
      (λ v w. (refl, w)) only_authority_key p p.authority_keys (λ (ys : List (List ℕ)). record p { authority_keys = ys }) (λ v. refl)
      (λ ys few. record { serials = fit.serials; issuers = fit.issuers; subjects = fit.subjects; froms = fit.froms; tos = fit.tos; keys = fit.keys; subject_keys = fit.subject_keys; authority_keys = few; authorities = fit.authorities; uses = fit.uses; constraints = fit.constraints; hardware = fit.hardware }) (λ v over. over.authority_keys)

  only_ca : (e : CertEntry) → IsValueOf kinds.Ca text e → (v : Authority) × (λ (a : Authority). IsPathWord text a.path_len) v × (e ≡ (λ (authority : Authority). Ca authority) v)
  only_ca (Ca authority) s = (authority, s.1, refl)
  only_ca e s = absurd cc

  pub fill_ca : Fills p (λ (a : Authority). IsPathWord text a.path_len) p.authorities (λ (ys : List (Authority)). record p { authorities = ys }) kinds.Ca text
  fill_ca =
      once (IsValueOf kinds.Ca text) IsCertFit grow (λ (a : Authority). IsPathWord text a.path_len) (λ (authority : Authority). Ca authority)
      (λ v w. (refl, w)) only_ca p p.authorities (λ (ys : List (Authority)). record p { authorities = ys }) (λ v. refl)
      (λ ys few. record { serials = fit.serials; issuers = fit.issuers; subjects = fit.subjects; froms = fit.froms; tos = fit.tos; keys = fit.keys; subject_keys = fit.subject_keys; authority_keys = fit.authority_keys; authorities = few; uses = fit.uses; constraints = fit.constraints; hardware = fit.hardware }) (λ v over. over.authorities)

  only_usage : (e : CertEntry) → IsValueOf kinds.Usage text e → (v : KeyUses) × (λ (u : KeyUses). text ≡ uses_word u) v × (e ≡ (λ (uses : KeyUses). Usage uses) v)
  only_usage (Usage uses) s = (uses, s.1, refl)
  only_usage e s = absurd cc

  pub fill_usage : Fills p (λ (u : KeyUses). text ≡ uses_word u) p.uses (λ (ys : List (KeyUses)). record p { uses = ys }) kinds.Usage text
  fill_usage =
      once (IsValueOf kinds.Usage text) IsCertFit grow (λ (u : KeyUses). text ≡ uses_word u) (λ (uses : KeyUses). Usage uses)
      (λ v w. (refl, w)) only_usage p p.uses (λ (ys : List (KeyUses)). record p { uses = ys }) (λ v. refl)
      (λ ys few. record { serials = fit.serials; issuers = fit.issuers; subjects = fit.subjects; froms = fit.froms; tos = fit.tos; keys = fit.keys; subject_keys = fit.subject_keys; authority_keys = fit.authority_keys; authorities = fit.authorities; uses = few; constraints = fit.constraints; hardware = fit.hardware }) (λ v over. over.uses)

  only_constraint : (e : CertEntry) → IsValueOf kinds.Constraint text e → (v : List ℕ) × (IsConstraintsWord text) v × (e ≡ (λ (octets : List ℕ). Constraint octets) v)
  only_constraint (Constraint octets) s = (octets, s.1, refl)
  only_constraint e s = absurd cc

  pub fill_constraint : Fills p (IsConstraintsWord text) p.constraints (λ (ys : List (List ℕ)). record p { constraints = ys }) kinds.Constraint text
  fill_constraint =
      once (IsValueOf kinds.Constraint text) IsCertFit grow (IsConstraintsWord text) (λ (octets : List ℕ). Constraint octets)
      (λ v w. (refl, w)) only_constraint p p.constraints (λ (ys : List (List ℕ)). record p { constraints = ys }) (λ v. refl)
      (λ ys few. record { serials = fit.serials; issuers = fit.issuers; subjects = fit.subjects; froms = fit.froms; tos = fit.tos; keys = fit.keys; subject_keys = fit.subject_keys; authority_keys = fit.authority_keys; authorities = fit.authorities; uses = fit.uses; constraints = few; hardware = fit.hardware }) (λ v over. over.constraints)

  only_hardware : (e : CertEntry) → IsValueOf kinds.Hardware text e → (v : (List ℕ × List ℕ)) × (IsHardwareText text) v × (e ≡ (λ (h : List ℕ × List ℕ). Hardware h.0 h.1) v)
  only_hardware (Hardware hw_type serial) s = ((hw_type, serial), s.1, refl)
  only_hardware e s = absurd cc

  pub fill_hardware : Fills p (IsHardwareText text) p.hardware (λ (ys : List (List ℕ × List ℕ)). record p { hardware = ys }) kinds.Hardware text
  fill_hardware =
      once (IsValueOf kinds.Hardware text) IsCertFit grow (IsHardwareText text) (λ (h : List ℕ × List ℕ). Hardware h.0 h.1)
      (λ v w. (refl, w)) only_hardware p p.hardware (λ (ys : List (List ℕ × List ℕ)). record p { hardware = ys }) (λ v. refl)
      (λ ys few. record { serials = fit.serials; issuers = fit.issuers; subjects = fit.subjects; froms = fit.froms; tos = fit.tos; keys = fit.keys; subject_keys = fit.subject_keys; authority_keys = fit.authority_keys; authorities = fit.authorities; uses = fit.uses; constraints = fit.constraints; hardware = few }) (λ v over. over.hardware)
