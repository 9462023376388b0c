use Rattle.std.proofs.Common.{sym, ◌∙◌, ap, arith}
use Rattle.std.proofs.lemmas.Bool.{false≢true}
use Rattle.cert_fields.specs.ConstraintsReading.{list_of}
use Rattle.cert_fields.proofs.ConstraintLaws.{reads_some, reads_none, reads_no_list}
use Rattle.cert_fields.proofs.constraints.read_ccc.Goals as goal

pub returns-in_default : goal.returns-in_default
returns-in_default c = record {
  spelled = reads_no_list c.args.bytes.now (ap list_of (sym c.new.ensures.all) ∙ c.in_default.ensures.exact);
}

pub returns-then-branch : goal.returns-then-branch
returns-then-branch c = record {
  spelled = reads_some c.args.bytes.now c.in-Some.octets.now (λ i. omega (arith, c.type_inv.bytes i))
      (ap list_of (sym c.new.ensures.all) ∙ c.in-Some.ensures.exact)
      (c.in_ok-have_own_contents.ensures.0 c.if-branch.true);
}

pub returns-else-branch : goal.returns-else-branch
returns-else-branch c = record {
  spelled = reads_none c.args.bytes.now c.in-Some.octets.now
      (ap list_of (sym c.new.ensures.all) ∙ c.in-Some.ensures.exact)
      (λ own. false≢true (sym c.if-branch.false ∙ c.in_ok-have_own_contents.ensures.1 own));
}
