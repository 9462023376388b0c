use Rattle.std.proofs.Common.{◌≤◌, arith, length, take, subst}
use Rattle.cms_signed.specs.declared.cut.Missing.{Missing}
use Rattle.cms_signed.specs.CutReading.{CanCome}
use Rattle.cms_signed.proofs.OutlineLemmas.{not_yet}
use Rattle.cms_signed.proofs.outline.before_head.Goals as goal

pub returns-in-Err-More-clause-none : goal.returns-in-Err-More-clause-none
returns-in-Err-More-clause-none c none =
    not_yet c.args.frame.now c.args.piece.now c.in-Err-More.field-0 c.min.result c.in-Err-More.ensures.missing
    (omega (arith, c.min.ensures))
    (λ count can. (let least : c.in-Err-More.least ≤ count =
    subst (λ (m : Missing). CanCome m count) c.in-Err-More.field-0-is can in omega (arith, c.min.ensures)))

pub returns-in-Err-Never-clause-none : goal.returns-in-Err-Never-clause-none
returns-in-Err-Never-clause-none c none i lt place size h =
    subst (λ (m : Missing). CanCome m (length (take i c.args.piece.now))) c.in-Err-Never.field-0-is
    (c.in-Err-Never.ensures.missing (take i c.args.piece.now) place size h)
