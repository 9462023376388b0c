use Rattle.std.proofs.Common.{ℕ, ◌++◌, List, ap}
use Rattle.std.proofs.lemmas.List.{drop-replicate}
use Rattle.der_core.proofs.octets.padded.Goals as goal

pub returns : goal.returns
returns c =
    rw c.copy_from_slice.ensures.after
    (ap (λ (zeros : List ℕ). c.args.octets.now ++ zeros) (drop-replicate {X = ℕ} _ 64 0))
