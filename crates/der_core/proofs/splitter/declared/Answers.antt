use Rattle.std.proofs.Common.{List, ℕ, Some, ap, ◌∙◌, subst, sym}
use Rattle.der_core.specs.Progress.{Progress, Declares}
use Rattle.der_core.proofs.Steps.{declared_is, undeclared, fault_undeclared, some_is}
use Rattle.der_core.proofs.splitter.declared.Goals as goal

pub returns-in-Ok : goal.returns-in-Ok
returns-in-Ok c = record {
  declared = λ item sees size.
      let head-is = c.octets.ensures ∙ ap (λ (p : Progress). p.head) c.splitter.view_is in
      let d = subst (λ (x : List ℕ). Declares x c.in-Ok.size) head-is c.in-Ok.ensures.found.0 in
      let is = declared_is c.args.splitter.now item c.in-Ok.size sees d size in
      (λ e. is.0 (some_is _ _ e), λ e. ap (λ (n : ℕ). Some n) (is.1 e));
}

pub returns-in-Err : goal.returns-in-Err
returns-in-Err c = record {
  declared = λ item sees size.
      let head-is = c.octets.ensures ∙ ap (λ (p : Progress). p.head) c.splitter.view_is in
      let never = undeclared c.args.splitter.now item sees
      (λ n d. fault_undeclared c.in-Err.field-0 c.octets.result.now c.in-Err.ensures.fault n
      (subst (λ (x : List ℕ). Declares x n) (sym head-is) d)) size in
      (λ e. absurd cc, λ d. absurd (never d));
}
