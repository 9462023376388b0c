use Rattle.std.proofs.Common.{List, Some, ap, sym, ◌∙◌, arith}
use Rattle.cert_fields.specs.Constraints.{ContentConstraint}
use Rattle.cert_fields.specs.ConstraintsReading.{list_of}
use Rattle.cert_fields.proofs.ConstraintLaws.{kept_are, kept_is_list}
use Rattle.cert_fields.proofs.constraints.ccc_of.Goals as goal

pub invariant_of-result-in-Some : goal.invariant_of-result-in-Some
invariant_of-result-in-Some c =
    (kept_are c.args.text.now c.in-Some.octets.now c.requires.0 (λ i. omega (arith, c.type_inv.text i)) c.requires.1
    c.requires.2 (ap list_of (sym c.new.ensures.all) ∙ c.in-Some.ensures.exact)).0

pub returns-in-Some : goal.returns-in-Some
returns-in-Some c =
    ap (λ (entries : List ContentConstraint). Some entries)
    (kept_are c.args.text.now c.in-Some.octets.now c.requires.0 (λ i. omega (arith, c.type_inv.text i)) c.requires.1
    c.requires.2 (ap list_of (sym c.new.ensures.all) ∙ c.in-Some.ensures.exact)).1

pub returns-in-None : goal.returns-in-None
returns-in-None c =
    absurd (kept_is_list c.args.text.now c.requires.0 c.requires.1 c.requires.2
    (ap list_of (sym c.new.ensures.all) ∙ c.in-None.ensures.exact))
