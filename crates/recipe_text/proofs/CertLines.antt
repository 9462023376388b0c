-- The lines of a certificate recipe, by their words.
use Rattle.std.proofs.Common.{◌≡◌, ℕ, List, [], ◌∷◌, ◌++◌, Some, None, refl, sym, ◌∙◌, ap, codes, subst}
use Rattle.std.proofs.lemmas.Option.{none-some}
use Rattle.der_core.proofs.Numbers.{some_is}
use Rattle.recipe_text.specs.declared.cert_line.CertKind.{CertKind}
use Rattle.recipe_text.specs.declared.cert_line.CertKind.TheVariants as kinds
use Rattle.recipe_text.specs.CertReading.{kind_name, kind_named, kind_of, IsValueOf, grow}
use Rattle.recipe_text.specs.CertRecipe.{CertEntry, IsCertFit, IsCertLine, IsCertValue, cert_name, cert_part, cert_parts}
use Rattle.recipe_text.specs.CertRecipe.CertEntry.{Serial, Issuer, Subject, From, To, Public, SubjectKey}
use Rattle.recipe_text.specs.CertRecipe.CertEntry.{AuthorityKey, Ca, Usage, Constraint, Hardware}
use Rattle.recipe_text.specs.Reading.{cut}
use Rattle.recipe_text.proofs.Cuts.{Without, cut_takes}
use Rattle.recipe_text.proofs.Names.{without, one_of, cut_is, not_cut}
use Rattle.recipe_text.proofs.Recipes.{one_more, no_more}

-- ---- kinds

pub named_kind : (kind : CertKind) → kind_named (kind_name kind) ≡ Some kind
unfolding kind_named
named_kind kinds.Serial = refl
named_kind kinds.Issuer = refl
named_kind kinds.Subject = refl
named_kind kinds.From = refl
named_kind kinds.To = refl
named_kind kinds.Public = refl
named_kind kinds.SubjectKey = refl
named_kind kinds.AuthorityKey = refl
named_kind kinds.Ca = refl
named_kind kinds.Usage = refl
named_kind kinds.Constraint = refl
named_kind kinds.Hardware = refl

kind_is : (name : List ℕ) (k : CertKind) → kind_named name ≡ Some k → name ≡ kind_name k
unfolding kind_named
kind_is name k e =
    one_of kind_name name (codes "serial") kinds.Serial k _ refl e (λ e.
    one_of kind_name name (codes "issuer") kinds.Issuer k _ refl e (λ e.
    one_of kind_name name (codes "subject") kinds.Subject k _ refl e (λ e.
    one_of kind_name name (codes "from") kinds.From k _ refl e (λ e.
    one_of kind_name name (codes "to") kinds.To k _ refl e (λ e.
    one_of kind_name name (codes "public") kinds.Public k _ refl e (λ e.
    one_of kind_name name (codes "subjectkey") kinds.SubjectKey k _ refl e (λ e.
    one_of kind_name name (codes "authoritykey") kinds.AuthorityKey k _ refl e (λ e.
    one_of kind_name name (codes "ca") kinds.Ca k _ refl e (λ e.
    one_of kind_name name (codes "usage") kinds.Usage k _ refl e (λ e.
    one_of kind_name name (codes "constraint") kinds.Constraint k _ refl e (λ e.
    one_of kind_name name (codes "hardware") kinds.Hardware k None refl e (λ e. absurd (none-some k e)))))))))))))

pub no_space : (kind : CertKind) → Without 32 (kind_name kind)
no_space kinds.Serial = without 32 (kind_name kinds.Serial) refl
no_space kinds.Issuer = without 32 (kind_name kinds.Issuer) refl
no_space kinds.Subject = without 32 (kind_name kinds.Subject) refl
no_space kinds.From = without 32 (kind_name kinds.From) refl
no_space kinds.To = without 32 (kind_name kinds.To) refl
no_space kinds.Public = without 32 (kind_name kinds.Public) refl
no_space kinds.SubjectKey = without 32 (kind_name kinds.SubjectKey) refl
no_space kinds.AuthorityKey = without 32 (kind_name kinds.AuthorityKey) refl
no_space kinds.Ca = without 32 (kind_name kinds.Ca) refl
no_space kinds.Usage = without 32 (kind_name kinds.Usage) refl
no_space kinds.Constraint = without 32 (kind_name kinds.Constraint) refl
no_space kinds.Hardware = without 32 (kind_name kinds.Hardware) refl

name_is : (e : CertEntry) → cert_name e ≡ kind_name (kind_of e)
name_is (Serial octets) = refl
name_is (Issuer name) = refl
name_is (Subject name) = refl
name_is (From at) = refl
name_is (To at) = refl
name_is (Public key) = refl
name_is (SubjectKey id) = refl
name_is (AuthorityKey id) = refl
name_is (Ca authority) = refl
name_is (Usage uses) = refl
name_is (Constraint text) = refl
name_is (Hardware hw_type serial) = refl

-- ---- lines

pub by_kind : (line : List ℕ) (e : CertEntry) → IsCertLine line e
    → (text : List ℕ) × IsCertValue text e × (line ≡ kind_name (kind_of e) ++ 32 ∷ text)
by_kind line e h = (h.0, h.1, h.2 ∙ ap (λ (n : List ℕ). n ++ 32 ∷ h.0) (name_is e))

pub no_line : (line : List ℕ) → cut 32 line ≡ None → (e : CertEntry) → IsCertLine line e → ⊥
no_line line none e h =
    let b = by_kind line e h in
    not_cut line (kind_name (kind_of e)) b.0 none (no_space (kind_of e)) b.2

pub no_kind : (line name text : List ℕ) → cut 32 line ≡ Some (name, text) → kind_named name ≡ None
    → (e : CertEntry) → IsCertLine line e → ⊥
no_kind line name text is none e h =
    let b = by_kind line e h in
    let same = cut_is line name text (kind_name (kind_of e)) b.0 is (no_space (kind_of e)) b.2 in
    none-some (kind_of e) (sym none ∙ ap kind_named same.0 ∙ named_kind (kind_of e))

module _ (line name text : List ℕ) (kind : CertKind) (is : cut 32 line ≡ Some (name, text))
    (named : kind_named name ≡ Some kind) where
  pub value_line : (e : CertEntry) → IsValueOf kind text e → IsCertLine line e
  value_line e h =
      let word : name ≡ cert_name e = kind_is name kind named ∙ ap kind_name (sym h.0) ∙ sym (name_is e) in
      (text, h.1, (cut_takes 32 line (name, text) is).1 ∙ ap (λ (n : List ℕ). n ++ 32 ∷ text) word)

  pub line_value : (e : CertEntry) → IsCertLine line e → IsValueOf kind text e
  line_value e h =
      let b = by_kind line e h in
      let same = cut_is line name text (kind_name (kind_of e)) b.0 is (no_space (kind_of e)) b.2 in
      let kinds-is : Some (kind_of e) ≡ Some kind =
      sym (named_kind (kind_of e)) ∙ ap kind_named (sym same.0) ∙ named in
      (some_is (kind_of e) kind kinds-is, subst (λ (t : List ℕ). IsCertValue t e) (sym same.1) b.1)

-- ---- what lines say

pub parts_more : (es : List CertEntry) (e : CertEntry) → cert_parts (es ++ e ∷ []) ≡ grow (cert_parts es) e
parts_more es e = λ i. record {
  serials = one_more (λ (x : CertEntry). (cert_part x).serials) es e i;
  issuers = one_more (λ (x : CertEntry). (cert_part x).issuers) es e i;
  subjects = one_more (λ (x : CertEntry). (cert_part x).subjects) es e i;
  froms = one_more (λ (x : CertEntry). (cert_part x).froms) es e i;
  tos = one_more (λ (x : CertEntry). (cert_part x).tos) es e i;
  keys = one_more (λ (x : CertEntry). (cert_part x).keys) es e i;
  subject_keys = one_more (λ (x : CertEntry). (cert_part x).subject_keys) es e i;
  authority_keys = one_more (λ (x : CertEntry). (cert_part x).authority_keys) es e i;
  authorities = one_more (λ (x : CertEntry). (cert_part x).authorities) es e i;
  uses = one_more (λ (x : CertEntry). (cert_part x).uses) es e i;
  constraints = one_more (λ (x : CertEntry). (cert_part x).constraints) es e i;
  hardware = one_more (λ (x : CertEntry). (cert_part x).hardware) es e i;
}

pub closed : (front back : List CertEntry) → IsCertFit (cert_parts (front ++ back)) → IsCertFit (cert_parts front)
closed front back h = record {
  serials = no_more (λ (x : CertEntry). (cert_part x).serials) front back 1 h.serials;
  issuers = no_more (λ (x : CertEntry). (cert_part x).issuers) front back 1 h.issuers;
  subjects = no_more (λ (x : CertEntry). (cert_part x).subjects) front back 1 h.subjects;
  froms = no_more (λ (x : CertEntry). (cert_part x).froms) front back 1 h.froms;
  tos = no_more (λ (x : CertEntry). (cert_part x).tos) front back 1 h.tos;
  keys = no_more (λ (x : CertEntry). (cert_part x).keys) front back 1 h.keys;
  subject_keys = no_more (λ (x : CertEntry). (cert_part x).subject_keys) front back 1 h.subject_keys;
  authority_keys = no_more (λ (x : CertEntry). (cert_part x).authority_keys) front back 1 h.authority_keys;
  authorities = no_more (λ (x : CertEntry). (cert_part x).authorities) front back 1 h.authorities;
  uses = no_more (λ (x : CertEntry). (cert_part x).uses) front back 1 h.uses;
  constraints = no_more (λ (x : CertEntry). (cert_part x).constraints) front back 1 h.constraints;
  hardware = no_more (λ (x : CertEntry). (cert_part x).hardware) front back 1 h.hardware;
}
