use Rattle.std.proofs.Common.{arith}
use Rattle.cms_signed.specs.Cut.{before_content}
use Rattle.cms_signed.proofs.CutLemmas.{parts_some}
use Rattle.cms_signed.proofs.Cuts.{cut_found, cut_missing, fits}
use Rattle.cms_signed.proofs.cut.find_cut.Goals as goal

pub overflow_sub-result : goal.overflow_sub-result
overflow_sub-result c =
    let h = cut_found c.args.bytes.now c.in-Ok.size c.in-Ok.rest.now (λ i. omega (arith, c.type_inv.bytes i)) c.in-Ok.ensures in
    omega (arith, h.1)

pub overflow_cast-result : goal.overflow_cast-result
overflow_cast-result c =
    let h = cut_found c.args.bytes.now c.in-Ok.size c.in-Ok.rest.now (λ i. omega (arith, c.type_inv.bytes i)) c.in-Ok.ensures in
    omega (arith, fits c.args.bytes.now _ c.in-Ok.size h.0)

pub returns-in-Ok-clause-found : goal.returns-in-Ok-clause-found
returns-in-Ok-clause-found c =
    (cut_found c.args.bytes.now c.in-Ok.size c.in-Ok.rest.now (λ i. omega (arith, c.type_inv.bytes i)) c.in-Ok.ensures).0

pub returns-in-Err-clause-missing : goal.returns-in-Err-clause-missing
returns-in-Err-clause-missing c =
    cut_missing c.args.bytes.now c.in-Err.missing (λ i. omega (arith, c.type_inv.bytes i)) c.in-Err.ensures

pub returns-in-Err-clause-some : goal.returns-in-Err-clause-some
returns-in-Err-clause-some c = parts_some before_content _ c.args.bytes.now c.in-Err.missing c.in-Err.ensures
