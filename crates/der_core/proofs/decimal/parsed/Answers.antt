use Rattle.std.proofs.Common.{List, ℕ, sym, subst}
use Rattle.std.specs.Str.Parse.{ParsesUnsigned}
use Rattle.der_core.specs.Reads.{Reads}
use Rattle.std.specs.Fmt.{decimal}
use Rattle.der_core.proofs.Decimals.{IsSmall, reads_parsed, reads_no_text}
use Rattle.der_core.proofs.decimal.parsed.Goals as goal

pub returns-in-Ok : goal.returns-in-Ok
returns-in-Ok c =
    let digits = c.args.digits.now in
    subst (Reads decimal IsSmall digits) (sym c.ok.ensures.value)
    (reads_parsed digits c.parse.result c.requires
    (subst (λ (t : List ℕ). ParsesUnsigned 128 10 t c.parse.result) c.in-Ok.ensures.cases.0 c.parse.ensures.value.0))

pub returns-in-Err : goal.returns-in-Err
returns-in-Err c = reads_no_text c.args.digits.now c.in-Err.ensures.cases.0
