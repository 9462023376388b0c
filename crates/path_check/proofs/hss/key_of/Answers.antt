use Rattle.std.proofs.Common.{◌≡◌, ◌≢◌, ℕ, List, [], ◌∷◌, ◌++◌, ◌∙◌, sym, subst}
use Rattle.std.specs.Option.{MatchOption}
use Rattle.std.proofs.lemmas.Slice.Eq.{strip_prefix_is, bytes_eq-Decides}
use Rattle.std.proofs.lemmas.Bool.Decides.{Decides-eqb}
use Rattle.cert_fields.specs.View.{certificate_view}
use Rattle.cert_fields.specs.Algorithms.{signature_algorithm}
use Rattle.path_check.proofs.HssLemmas.{key_in_string, key_as_it_is}
use Rattle.path_check.proofs.hss.key_of.Goals as goal

-- the header of an OCTET STRING of 60 octets
abbrev header : List ℕ
header = 0x04 ∷ 0x3C ∷ []

pub returns-in-Some : goal.returns-in-Some
returns-in-Some c =
    let certificate = certificate_view c.args.cert.now in
    let octets = c.args.cert.now.signed.key.octets.now in
    record {
      exact =
          key_in_string certificate
          (c.is_hss_lms.ensures.exact.0 c.if-not-is_hss_lms.false) c.if-bits-ne0.false c.in-Some.octets.now c.hss_key.result
          (subst (λ r. MatchOption r ((rest : List ℕ) → octets ≢ header ++ rest) (λ x. octets ≡ header ++ x.now))
          c.in-Some.is (strip_prefix_is Decides-eqb octets header c.strip_prefix.result c.strip_prefix.ensures.cases))
          (record {
            read = c.hss_key.ensures.read;
            valid = c.hss_key.ensures.valid;
            found = c.hss_key.ensures.found;
          });
    }

pub returns-in-None : goal.returns-in-None
returns-in-None c =
    let certificate = certificate_view c.args.cert.now in
    let octets = c.args.cert.now.signed.key.octets.now in
    record {
      exact =
          key_as_it_is certificate
          (c.is_hss_lms.ensures.exact.0 c.if-not-is_hss_lms.false) c.if-bits-ne0.false c.hss_key-in-None.result
          (subst (λ r. MatchOption r ((rest : List ℕ) → octets ≢ header ++ rest) (λ x. octets ≡ header ++ x.now))
          c.in-None.is (strip_prefix_is Decides-eqb octets header c.strip_prefix.result c.strip_prefix.ensures.cases))
          (record {
            read = c.hss_key-in-None.ensures.read;
            valid = c.hss_key-in-None.ensures.valid;
            found = c.hss_key-in-None.ensures.found;
          });
    }
