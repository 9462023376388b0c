use Rattle.std.proofs.Common.{◌++◌}
use Rattle.std.specs.List.{flat_map}
use Rattle.sha2.specs.Hashers.{Holds256}
use Rattle.lms_verify.specs.Digits.{below, u32str}
use Rattle.lms_verify.specs.OneTime.{d_pblc}
use Rattle.lms_sign.specs.Secrets.{whole_chain}
use Rattle.lms_sign.proofs.secrets.one_time_public.Given as goal

-- the ends of the chains so far were hashed
abbrev pub invariant-loop-i : goal.invariant-loop-i
invariant-loop-i l =
    Holds256 l.hasher (l.key.id ++ u32str l.q ++ d_pblc ++ flat_map (whole_chain l.key l.q) (below l.i))
