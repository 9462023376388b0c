use Rattle.std.proofs.Common.{◌≡◌, ◌++◌, length}
use Rattle.cms_signed.proofs.certificates.Certificates.keep.Given as goal

-- those that are kept, and then those that are left
abbrev pub invariant-loop-certificate : goal.invariant-loop-certificate
invariant-loop-certificate l = l.kept.items ++ l.rest ≡ l.initial.rest

abbrev pub decreases-loop-certificate : goal.decreases-loop-certificate
decreases-loop-certificate l = length l.rest
