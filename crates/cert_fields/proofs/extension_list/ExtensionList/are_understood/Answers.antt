use Rattle.std.proofs.Common.{sym, ◌∙◌}
use Rattle.std.proofs.lemmas.Bool.{false≢true}
use Rattle.cert_fields.specs.Extensions.{IsUnderstood}
use Rattle.cert_fields.specs.ExtensionsView.{extension_view}
use Rattle.cert_fields.proofs.AllWhere.{none_so_far, one_further, not_all, all_good}
use Rattle.cert_fields.proofs.extension_list.ExtensionList.are_understood.Goals as goal

pub loop-one-init : goal.loop-one-init
loop-one-init c = none_so_far IsUnderstood c.args.self.now c.iter-left.result c.iter-left.ensures.same

pub returns-then-not-is_understood : goal.returns-then-not-is_understood
returns-then-not-is_understood c =
    not_all IsUnderstood c.args.self.now c.loop-one.left c.next.new.self (extension_view c.in-Some.one)
    c.loop-one.invariant c.in-Some.ensures.steps
    (λ good. false≢true (sym c.if-not-is_understood.true ∙ c.is_understood.ensures.1 good))

pub loop-one-preserved : goal.loop-one-preserved
loop-one-preserved c =
    one_further IsUnderstood c.args.self.now c.loop-one.left c.next.new.self (extension_view c.in-Some.one)
    c.loop-one.invariant c.in-Some.ensures.steps (c.is_understood.ensures.0 c.if-not-is_understood.false)

pub returns : goal.returns
returns c =
    all_good IsUnderstood c.args.self.now c.loop-one.left c.loop-one.invariant c.in_default.ensures.steps.0
