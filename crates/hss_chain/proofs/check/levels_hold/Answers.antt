use Rattle.std.proofs.Common.{◌≡◌, ℕ, suc, ◌+◌, ◌-◌, ◌++◌, List, subst, sym, arith}
use Rattle.std.proofs.lemmas.Bool.{false≢true}
use Rattle.lms_verify.specs.declared.key.LmsKey.{LmsKey}
use Rattle.hss_chain.specs.Levels.{LevelsHold}
use Rattle.hss_chain.proofs.LevelLemmas.{LevelsHold-Signs, Next-LevelsHold, LevelsHold-none}
use Rattle.hss_chain.proofs.check.levels_hold.Goals as goal

pub returns-in_default : goal.returns-in_default
returns-in_default c =
    let message = c.args.first.now ++ c.args.rest.now in
    let n = c.args.count - (c.loop.counter + 1) in
    let more : c.args.count - c.loop.counter ≡ suc n = omega arith in
    let P : ℕ → Type 0 = λ k. LevelsHold c.loop.signer k message c.loop.left.now in (
      λ yes. absurd (false≢true yes),
      λ levels.
          let next = Next-LevelsHold c.loop.signer n message c.loop.left.now
          (subst P more (c.loop.invariant.onward levels)) in
          absurd (c.in_default.ensures.found next.next next.rest next.signs),
    )

pub loop-preserved : goal.loop-preserved
loop-preserved c =
    let message = c.args.first.now ++ c.args.rest.now in
    let n = c.args.count - (c.loop.counter + 1) in
    let more : c.args.count - c.loop.counter ≡ suc n = omega arith in
    let P : ℕ → Type 0 = λ k. LevelsHold c.loop.signer k message c.loop.left.now in
    record {
      onward = λ levels.
          let next = Next-LevelsHold c.loop.signer n message c.loop.left.now
          (subst P more (c.loop.invariant.onward levels)) in
          let same = c.in-Some.ensures.found next.next next.rest next.signs in
          let Q : LmsKey → Type 0 = λ key. LevelsHold key n message next.rest in
          let R : List ℕ → Type 0 = λ left. LevelsHold c.in-Some.next n message left in
          subst R (sym same.1) (subst Q (sym same.0) next.below);
      back = λ below. c.loop.invariant.back (subst P (sym more)
          (LevelsHold-Signs c.loop.signer c.in-Some.next n message c.loop.left.now c.in-Some.behind.now
          c.in-Some.ensures.read below));
    }

pub returns : goal.returns
returns c =
    let message = c.args.first.now ++ c.args.rest.now in
    let none : c.args.count - c.loop.counter ≡ 0 = omega arith in
    let P : ℕ → Type 0 = λ k. LevelsHold c.loop.signer k message c.loop.left.now in
    let last = LevelsHold-none c.loop.signer message c.loop.left.now in (
      λ yes. c.loop.invariant.back (subst P (sym none) (last.1 (c.lms_check.ensures.holds.0 yes))),
      λ levels. c.lms_check.ensures.holds.1 (last.0 (subst P none (c.loop.invariant.onward levels))),
    )
