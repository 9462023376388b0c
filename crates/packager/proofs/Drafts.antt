-- What is said of each value that a draft says, said of one of them.
use Rattle.std.proofs.Common.{Result, Ok, Err, IfOk}
use Rattle.signed_write.specs.declared.draft.Draft.{Draft}
use Rattle.signed_write.specs.Written.{Written, IsDraft}

pub of_one : {T E : Type 0} (result : Result T E) (Q : T → Written → Type 0) (d : Draft) (w : Written)
    → IfOk result (λ value. (w' : Written) → IsDraft d w' → Q value w') → IsDraft d w → IfOk result (λ value. Q value w)
of_one (Ok value) Q d w said is = said w is
of_one (Err e) Q d w said is = tt
