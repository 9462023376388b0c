use Rattle.path_check.specs.PathRules.{MayBeUsed}
use Rattle.path_check.specs.Members.{member_view}
use Rattle.path_check.proofs.RuleLemmas.{by_kept, then_tells}
use Rattle.path_check.proofs.rules.signer_keeps_rules.Goals as goal

pub returns : goal.returns
returns c = record {
  keeps =
      then_tells c.may_be_used.ensures.used
      (by_kept (member_view c.args.signer.now) c.args.signer.now.extensions (MayBeUsed 0) c.requires.read.extensions);
}
