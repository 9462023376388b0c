use Rattle.std.proofs.Common.{◌++◌}
use Rattle.std.specs.List.{flat_map}
use Rattle.sha2.specs.Hashers.{Holds256}
use Rattle.lms_verify.specs.Digits.{below, u32str}
use Rattle.lms_verify.specs.OneTime.{chain_end, d_pblc}
use Rattle.lms_verify.proofs.one_time.candidate_key.Given as goal

-- the ends of the chains so far were hashed
abbrev pub invariant-loop-i : goal.invariant-loop-i
invariant-loop-i l =
    Holds256 l.hasher (l.id ++ u32str l.q ++ d_pblc
    ++ flat_map (chain_end l.fn.ots l.id l.q l.fn.value l.values) (below l.i))
