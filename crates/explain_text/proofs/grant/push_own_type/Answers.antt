use Rattle.std.proofs.Common.{List, ℕ, string_bytes, ap, subst, ◌++◌, ◌∙◌, OnOk}
use Rattle.report_text.specs.Dotted.{dotted_of}
use Rattle.explain_text.specs.Granted.{sources_of}
use Rattle.explain_text.specs.GrantText.{AreTypeLines}
use Rattle.explain_text.specs.Ordered.{Adds}
use Rattle.explain_text.proofs.grant.push_own_type.Goals as goal

pub returns : goal.returns
returns c =
    let members = c.args.members.now in
    let start = string_bytes c.args.text.now in
    let end = string_bytes c.push_type.new.text in
    let name = c.deref.ensures ∙ c.in_ok-push_oid.ensures.ok
    ∙ ap (λ (front : List ℕ). front ++ dotted_of c.args.content.now) c.new-name.ensures.bytes in
    let named = subst (λ (octets : List ℕ). OnOk c.push_type.result
    (Adds (AreTypeLines octets (sources_of c.octets.result.now members)) start end)) name c.push_type.ensures.ok in
    record {
      ok =
          subst (λ (octets : List ℕ). OnOk c.push_type.result
          (Adds (AreTypeLines (dotted_of c.args.content.now) (sources_of octets members)) start end))
          c.octets.ensures.value named;
    }
