use Rattle.std.proofs.Common.{◌≡◌, ℕ, ◌≤◌, ◌∷◌, ◌++◌, length, max}
use Rattle.lms_verify.specs.Digits.{u16str, u32str}
use Rattle.lms_verify.specs.OneTime.{chain}
use Rattle.lms_verify.proofs.chains.chain.Given as goal

-- the octets are those of some place, with the value that the chain has at place j
abbrev pub invariant-loop-j : goal.invariant-loop-j
invariant-loop-j l =
    record {
      octets : (k : ℕ) × (l.octets ≡ (l.id ++ u32str l.q ++ u16str l.i)
          ++ k ∷ chain l.id l.q l.i l.from l.j l.value);
      size : length l.octets ≡ 55;
      within : l.j ≤ max l.from l.to;
    }
