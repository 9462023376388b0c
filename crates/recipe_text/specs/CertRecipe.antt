-- The certificate recipe: what a certificate is to say, line by line; this project's own.
use Rattle.std.specs.Prelude.{◌≡◌, ℕ, ◌≤◌, List, [], ◌∷◌, length, Option, Some, None, codes}
use Rattle.std.specs.Option.{option_to_list}
use Rattle.std.specs.List.{flat_map}
use Rattle.hss_chain.specs.declared.key.HssKey.{HssKey}
use Rattle.packager.specs.CertificatePlan.{CertificatePlan}
use Rattle.packager.specs.declared.certificate_plan.Authority.{Authority}
use Rattle.packager.specs.declared.certificate_plan.KeyUses.{KeyUses}
use Rattle.packager.specs.declared.certificate_plan.KeyUses.TheVariants.{Sign, CertSign, Both}
use Rattle.recipe_text.specs.Lines.{spaced, Rules, Recipe, FirstBad}
use Rattle.recipe_text.specs.Words.{IsNumber, IsAt, IsOidWord, IsHex64, IsSerialWord, IsKeyWord, IsConstraintsWord}
use Rattle.recipe_text.specs.Words.{IsPair, IsNameWord}

-- ---- lines

-- What a line says.
pub data CertEntry : Type 0 where
  -- the contents of the serial number's INTEGER
  Serial : List ℕ → CertEntry
  -- names, whole elements
  Issuer : List ℕ → CertEntry
  Subject : List ℕ → CertEntry
  -- the ends of the validity
  From : ℕ → CertEntry
  To : ℕ → CertEntry
  -- the subject's key
  Public : HssKey → CertEntry
  -- key identifiers
  SubjectKey : List ℕ → CertEntry
  AuthorityKey : List ℕ → CertEntry
  -- that the subject is an authority
  Ca : Authority → CertEntry
  -- what the key may be used for
  Usage : KeyUses → CertEntry
  -- the text of content constraints
  Constraint : List ℕ → CertEntry
  -- a hardware module, by the contents of its type's identifier and its serial number
  Hardware : List ℕ → List ℕ → CertEntry

-- the word that a line begins with
abbrev pub cert_name : CertEntry → List ℕ
cert_name (Serial octets) = codes "serial"
cert_name (Issuer name) = codes "issuer"
cert_name (Subject name) = codes "subject"
cert_name (From at) = codes "from"
cert_name (To at) = codes "to"
cert_name (Public key) = codes "public"
cert_name (SubjectKey id) = codes "subjectkey"
cert_name (AuthorityKey id) = codes "authoritykey"
cert_name (Ca authority) = codes "ca"
cert_name (Usage uses) = codes "usage"
cert_name (Constraint text) = codes "constraint"
cert_name (Hardware hw_type serial) = codes "hardware"

-- how many certificates may stand below an authority: N, or `-` for any number
abbrev pub IsPathWord : List ℕ → Option ℕ → Type 0
IsPathWord word None = word ≡ codes "-"
IsPathWord word (Some n) = IsNumber word n

-- the word of a key's uses
abbrev pub uses_word : KeyUses → List ℕ
uses_word Sign = codes "sign"
uses_word CertSign = codes "certsign"
uses_word Both = codes "both"

-- OID HEX
abbrev pub IsHardwareText : List ℕ → List ℕ × List ℕ → Type 0
IsHardwareText text hardware = IsPair IsOidWord IsHex64 text hardware

-- what stands behind that word and a space
abbrev pub IsCertValue : List ℕ → CertEntry → Type 0
IsCertValue text (Serial octets) = IsSerialWord text octets
IsCertValue text (Issuer name) = IsNameWord text name
IsCertValue text (Subject name) = IsNameWord text name
IsCertValue text (From at) = IsAt text at
IsCertValue text (To at) = IsAt text at
IsCertValue text (Public key) = IsKeyWord text key
IsCertValue text (SubjectKey id) = IsHex64 text id
IsCertValue text (AuthorityKey id) = IsHex64 text id
IsCertValue text (Ca authority) = IsPathWord text authority.path_len
IsCertValue text (Usage uses) = text ≡ uses_word uses
IsCertValue text (Constraint octets) = IsConstraintsWord text octets
IsCertValue text (Hardware hw_type serial) = IsHardwareText text (hw_type, serial)

-- the line says this
abbrev pub IsCertLine : List ℕ → CertEntry → Type 0
IsCertLine line e = (text : List ℕ) × IsCertValue text e × (line ≡ spaced (cert_name e ∷ text ∷ []))

-- ---- entries

-- What lines say of each kind, in their order.
pub record CertParts : Type 0 where
  pub serials : List (List ℕ)
  pub issuers : List (List ℕ)
  pub subjects : List (List ℕ)
  pub froms : List ℕ
  pub tos : List ℕ
  pub keys : List HssKey
  pub subject_keys : List (List ℕ)
  pub authority_keys : List (List ℕ)
  pub authorities : List Authority
  pub uses : List KeyUses
  pub constraints : List (List ℕ)
  pub hardware : List (List ℕ × List ℕ)

abbrev pub no_parts : CertParts
no_parts = record {
  serials = [];
  issuers = [];
  subjects = [];
  froms = [];
  tos = [];
  keys = [];
  subject_keys = [];
  authority_keys = [];
  authorities = [];
  uses = [];
  constraints = [];
  hardware = [];
}

-- what one line says
abbrev pub cert_part : CertEntry → CertParts
cert_part (Serial octets) = record no_parts { serials = octets ∷ [] }
cert_part (Issuer name) = record no_parts { issuers = name ∷ [] }
cert_part (Subject name) = record no_parts { subjects = name ∷ [] }
cert_part (From at) = record no_parts { froms = at ∷ [] }
cert_part (To at) = record no_parts { tos = at ∷ [] }
cert_part (Public key) = record no_parts { keys = key ∷ [] }
cert_part (SubjectKey id) = record no_parts { subject_keys = id ∷ [] }
cert_part (AuthorityKey id) = record no_parts { authority_keys = id ∷ [] }
cert_part (Ca authority) = record no_parts { authorities = authority ∷ [] }
cert_part (Usage uses) = record no_parts { uses = uses ∷ [] }
cert_part (Constraint text) = record no_parts { constraints = text ∷ [] }
cert_part (Hardware hw_type serial) = record no_parts { hardware = (hw_type, serial) ∷ [] }

-- what all lines say
abbrev pub cert_parts : List CertEntry → CertParts
cert_parts entries = record {
  serials = flat_map (λ e. (cert_part e).serials) entries;
  issuers = flat_map (λ e. (cert_part e).issuers) entries;
  subjects = flat_map (λ e. (cert_part e).subjects) entries;
  froms = flat_map (λ e. (cert_part e).froms) entries;
  tos = flat_map (λ e. (cert_part e).tos) entries;
  keys = flat_map (λ e. (cert_part e).keys) entries;
  subject_keys = flat_map (λ e. (cert_part e).subject_keys) entries;
  authority_keys = flat_map (λ e. (cert_part e).authority_keys) entries;
  authorities = flat_map (λ e. (cert_part e).authorities) entries;
  uses = flat_map (λ e. (cert_part e).uses) entries;
  constraints = flat_map (λ e. (cert_part e).constraints) entries;
  hardware = flat_map (λ e. (cert_part e).hardware) entries;
}

-- each kind stands once at most
pub record IsCertFit (p : CertParts) : Type 0 where
  pub serials : length p.serials ≤ 1
  pub issuers : length p.issuers ≤ 1
  pub subjects : length p.subjects ≤ 1
  pub froms : length p.froms ≤ 1
  pub tos : length p.tos ≤ 1
  pub keys : length p.keys ≤ 1
  pub subject_keys : length p.subject_keys ≤ 1
  pub authority_keys : length p.authority_keys ≤ 1
  pub authorities : length p.authorities ≤ 1
  pub uses : length p.uses ≤ 1
  pub constraints : length p.constraints ≤ 1
  pub hardware : length p.hardware ≤ 1

-- these stand
pub record IsCertWhole (p : CertParts) : Type 0 where
  pub serial : length p.serials ≡ 1
  pub issuer : length p.issuers ≡ 1
  pub subject : length p.subjects ≡ 1
  pub from : length p.froms ≡ 1
  pub to : length p.tos ≡ 1
  pub key : length p.keys ≡ 1

-- ---- recipes

-- the rules of a certificate recipe
abbrev pub cert_rules : Rules CertEntry
cert_rules = record {
  says = IsCertLine;
  fit = λ entries. IsCertFit (cert_parts entries);
  whole = λ entries. IsCertWhole (cert_parts entries);
}

-- what lines say of a certificate that is to say this
abbrev pub plan_parts : CertificatePlan → CertParts
plan_parts p = record {
  serials = p.serial ∷ [];
  issuers = p.issuer ∷ [];
  subjects = p.subject ∷ [];
  froms = p.from ∷ [];
  tos = p.to ∷ [];
  keys = p.key ∷ [];
  subject_keys = option_to_list p.subject_key;
  authority_keys = option_to_list p.authority_key;
  authorities = option_to_list p.authority;
  uses = option_to_list p.uses;
  constraints = option_to_list p.constraints;
  hardware = option_to_list p.hardware;
}

-- the text is a recipe of a certificate that is to say this
abbrev pub CertRecipe : List ℕ → CertificatePlan → Type 0
CertRecipe text plan =
    (entries : List CertEntry) × Recipe cert_rules text entries × (cert_parts entries ≡ plan_parts plan)

-- the text is no certificate recipe, and its first bad line is line n, counted from 1
abbrev pub FirstBadCertLine : List ℕ → ℕ → Type 0
FirstBadCertLine text n = FirstBad cert_rules text n
