use Rattle.std.proofs.Common.{List, ℕ, Some, ap, ◌∙◌, subst, sym}
use Rattle.der_core.specs.Progress.{Progress, Declares, sequence_size}
use Rattle.der_core.proofs.Sequences.{declares_once}
use Rattle.der_core.proofs.Steps.{fault_undeclared, same_count, count_same}
use Rattle.der_core.proofs.splitter.Splitter.has_ended.Goals as goal

pub returns-in-Ok : goal.returns-in-Ok
returns-in-Ok c =
    let head-is = c.octets.ensures ∙ ap (λ (p : Progress). p.head) c.self.view_is in
    let count-is = ap (λ (p : Progress). p.count) c.self.view_is in
    let d = subst (λ (x : List ℕ). Declares x c.in-Ok.field-0-1) head-is c.in-Ok.ensures.found.0 in
    let some = ap (λ (n : ℕ). Some n) c.in-Ok.ensures.found.1 in (
      λ e. (
        c.in-Ok.field-0-1,
        d,
        sym count-is
            ∙ same_count c.self.inside.count c.in-Ok.size (sym c.eq.ensures ∙ e) ∙ some,
      ),
      λ h. c.eq.ensures ∙ count_same c.self.inside.count c.in-Ok.size
          (count-is ∙ h.2 ∙ ap (λ (n : ℕ). Some (sequence_size n))
          (declares_once c.args.self.now.head h.0 c.in-Ok.field-0-1 h.1 d) ∙ sym some),
    )

pub returns-in-Err : goal.returns-in-Err
returns-in-Err c =
    let head-is = c.octets.ensures ∙ ap (λ (p : Progress). p.head) c.self.view_is in (
      λ e. absurd cc,
      λ h. absurd (fault_undeclared c.in-Err.field-0 c.octets.result.now c.in-Err.ensures.fault h.0
          (subst (λ (x : List ℕ). Declares x h.0) (sym head-is) h.1)),
    )
