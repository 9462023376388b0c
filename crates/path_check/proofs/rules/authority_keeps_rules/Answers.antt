use Rattle.path_check.specs.PathRules.{MayIssue}
use Rattle.path_check.specs.Members.{member_view}
use Rattle.path_check.proofs.RuleLemmas.{by_kept, both_true, both_false, then_tells}
use Rattle.path_check.proofs.rules.authority_keeps_rules.Goals as goal

pub returns-then-has_authority : goal.returns-then-has_authority
returns-then-has_authority c =
    record {
      keeps =
          then_tells
          (both_true c.if-has_authority.true c.has_authority.ensures.authority c.may_be_used.ensures.used)
          (by_kept (member_view c.args.member.now) c.args.member.now.extensions (MayIssue c.args.below) c.requires.read.extensions);
    }

pub returns-else-has_authority : goal.returns-else-has_authority
returns-else-has_authority c =
    record {
      keeps =
          then_tells (both_false c.if-has_authority.false c.has_authority.ensures.authority)
          (by_kept (member_view c.args.member.now) c.args.member.now.extensions (MayIssue c.args.below) c.requires.read.extensions);
    }
