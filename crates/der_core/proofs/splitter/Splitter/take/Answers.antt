use Rattle.std.proofs.Common.{List, ℕ, Some, None, arith, sym, subst, ◌≡◌, ◌<◌, ◌≤◌, ◌+◌, ◌-◌, length}
use Rattle.der_core.specs.declared.fault.DerFault.{DerFault}
use Rattle.der_core.specs.declared.fault.DerFault.TheVariants.{Short, Malformed}
use Rattle.der_core.specs.declared.splitter.Step.TheVariants.{More, Ends, Rest}
use Rattle.der_core.specs.Progress.{Progress, Sees, Declares, HasEnded, sequence_size}
use Rattle.der_core.specs.Splitter.{IsHeadFault}
use Rattle.der_core.proofs.Steps.{rest_again, rest_now, more_of_head, more_of_contents, ends_now, some_left, reached_step, reached_fact}
use Rattle.der_core.proofs.splitter.Splitter.take.Goals as goal

unended : (seen now : Progress) → seen ≡ now → (HasEnded now → ⊥) → HasEnded seen → ⊥
unended seen now is going h = going (subst HasEnded is h)

before : (seen now : Progress) (so_far : List ℕ) → seen ≡ now → Sees now so_far → Sees seen so_far
before seen now so_far is sees = subst (λ (p : Progress). Sees p so_far) (sym is) sees

fault_of : (fault known : DerFault) (octets head : List ℕ) → fault ≡ known → octets ≡ head
    → IsHeadFault fault octets → IsHeadFault known head
fault_of fault known octets head is same h =
    subst (λ (f : DerFault). IsHeadFault f head) is (subst (IsHeadFault fault) same h)

pub invariant_of-self : goal.invariant_of-self
invariant_of-self c =
    let seen : Progress = record { head = c.self.inside.head; count = c.self.inside.count } in
    reached_step seen (record { head = c.keep.new.self; count = c.self.inside.count }) c.args.piece.now Rest
    (unended seen c.args.self.now c.self.view_is c.requires.goes_on) c.self.invariant
    (λ so_far sees going. rest_again seen c.keep.new.self so_far c.args.piece.now sees c.keep.ensures c.in_default.is)

pub returns-in_default-clause-step : goal.returns-in_default-clause-step
returns-in_default-clause-step c so_far sees going =
    let seen : Progress = record { head = c.self.inside.head; count = c.self.inside.count } in
    rest_again seen c.keep.new.self so_far c.args.piece.now
    (before seen c.args.self.now so_far c.self.view_is sees) c.keep.ensures c.in_default.is

pub invariant_of-self-then-left-piece : goal.invariant_of-self-then-left-piece
invariant_of-self-then-left-piece c =
    let seen : Progress = record { head = c.self.inside.head; count = c.self.inside.count } in
    let d = subst (λ (x : List ℕ). Declares x c.in-Ok.field-0-1) c.octets.ensures c.in-Ok.ensures.found.0 in
    let lt : length c.args.piece.now < sequence_size c.in-Ok.field-0-1 - c.in-Some.count =
    omega (arith, c.saturating_sub-left.ensures, c.in-Ok.ensures.found.1, c.if-left-piece.true) in
    reached_step seen (record
    { head = c.keep.new.self; count = Some (c.in-Some.count + length c.args.piece.now) }) c.args.piece.now
    More (unended seen c.args.self.now c.self.view_is c.requires.goes_on) c.self.invariant
    (λ so_far sees going. more_of_contents seen c.keep.new.self so_far c.args.piece.now c.in-Some.count
    c.in-Ok.field-0-1 sees c.keep.ensures c.in-Some.is d lt)

pub returns-then-left-piece-clause-step : goal.returns-then-left-piece-clause-step
returns-then-left-piece-clause-step c so_far sees going =
    let seen : Progress = record { head = c.self.inside.head; count = c.self.inside.count } in
    let d = subst (λ (x : List ℕ). Declares x c.in-Ok.field-0-1) c.octets.ensures c.in-Ok.ensures.found.0 in
    let lt : length c.args.piece.now < sequence_size c.in-Ok.field-0-1 - c.in-Some.count =
    omega (arith, c.saturating_sub-left.ensures, c.in-Ok.ensures.found.1, c.if-left-piece.true) in
    more_of_contents seen c.keep.new.self so_far c.args.piece.now c.in-Some.count c.in-Ok.field-0-1
    (before seen c.args.self.now so_far c.self.view_is sees) c.keep.ensures c.in-Some.is d lt

pub invariant_of-self-in-Err-Short : goal.invariant_of-self-in-Err-Short
invariant_of-self-in-Err-Short c =
    let seen : Progress = record { head = c.self.inside.head; count = c.self.inside.count } in
    let fault = fault_of c.in-Err-Short.field-0 Short c.octets.result.now c.keep.new.self
    c.in-Err-Short.field-0-is c.octets.ensures c.in-Err-Short.ensures.fault in
    let kept = c.octets-in-Err-Short.ensures in
    reached_step seen (record
    { head = c.keep.new.self; count = Some (length c.octets-in-Err-Short.result.now) }) c.args.piece.now
    More (unended seen c.args.self.now c.self.view_is c.requires.goes_on) c.self.invariant
    (λ so_far sees going. rw kept
    (more_of_head seen c.keep.new.self so_far c.args.piece.now sees c.keep.ensures fault))

pub returns-in-Err-Short-clause-step : goal.returns-in-Err-Short-clause-step
returns-in-Err-Short-clause-step c so_far sees going =
    let seen : Progress = record { head = c.self.inside.head; count = c.self.inside.count } in
    let fault = fault_of c.in-Err-Short.field-0 Short c.octets.result.now c.keep.new.self
    c.in-Err-Short.field-0-is c.octets.ensures c.in-Err-Short.ensures.fault in
    let kept = c.octets-in-Err-Short.ensures in
    rw kept (more_of_head seen c.keep.new.self so_far c.args.piece.now
    (before seen c.args.self.now so_far c.self.view_is sees) c.keep.ensures fault)

pub invariant_of-self-in-Err-Malformed : goal.invariant_of-self-in-Err-Malformed
invariant_of-self-in-Err-Malformed c =
    let seen : Progress = record { head = c.self.inside.head; count = c.self.inside.count } in
    let fault = fault_of c.in-Err-Malformed.field-0 Malformed c.octets.result.now c.keep.new.self
    c.in-Err-Malformed.field-0-is c.octets.ensures c.in-Err-Malformed.ensures.fault in
    reached_step seen (record { head = c.keep.new.self; count = None }) c.args.piece.now Rest
    (unended seen c.args.self.now c.self.view_is c.requires.goes_on) c.self.invariant
    (λ so_far sees going. rest_now seen c.keep.new.self so_far c.args.piece.now sees c.keep.ensures fault)

pub returns-in-Err-Malformed-clause-step : goal.returns-in-Err-Malformed-clause-step
returns-in-Err-Malformed-clause-step c so_far sees going =
    let seen : Progress = record { head = c.self.inside.head; count = c.self.inside.count } in
    let fault = fault_of c.in-Err-Malformed.field-0 Malformed c.octets.result.now c.keep.new.self
    c.in-Err-Malformed.field-0-is c.octets.ensures c.in-Err-Malformed.ensures.fault in
    rest_now seen c.keep.new.self so_far c.args.piece.now
    (before seen c.args.self.now so_far c.self.view_is sees) c.keep.ensures fault

pub invariant_of-self-in-Ok : goal.invariant_of-self-in-Ok
invariant_of-self-in-Ok c =
    let seen : Progress = record { head = c.self.inside.head; count = c.self.inside.count } in
    let d = subst (λ (x : List ℕ). Declares x c.in-Ok.field-0-1) c.octets.ensures c.in-Ok.ensures.found.0 in
    let left : c.saturating_sub-left.result ≡ c.in-Ok.size - c.in-Some.count =
    omega (arith, c.saturating_sub-left.ensures) in
    let few : c.saturating_sub-left.result ≤ length c.args.piece.now = omega (arith, c.if-left-piece.false) in
    reached_step seen (record { head = c.cut.new.self; count = Some c.in-Ok.size }) c.args.piece.now
    (Ends c.saturating_sub-left.result)
    (unended seen c.args.self.now c.self.view_is c.requires.goes_on) c.self.invariant
    (λ so_far sees going. ends_now seen c.keep.new.self c.cut.new.self so_far c.args.piece.now c.in-Some.count
    c.in-Ok.field-0-1 c.in-Ok.size c.saturating_sub-left.result sees going c.keep.ensures c.in-Some.is d
    c.in-Ok.ensures.found.1 c.cut.ensures left few)

pub returns-else-left-piece-clause-step : goal.returns-else-left-piece-clause-step
returns-else-left-piece-clause-step c so_far sees going =
    let seen : Progress = record { head = c.self.inside.head; count = c.self.inside.count } in
    let d = subst (λ (x : List ℕ). Declares x c.in-Ok.field-0-1) c.octets.ensures c.in-Ok.ensures.found.0 in
    let left : c.saturating_sub-left.result ≡ c.in-Ok.size - c.in-Some.count =
    omega (arith, c.saturating_sub-left.ensures) in
    let few : c.saturating_sub-left.result ≤ length c.args.piece.now = omega (arith, c.if-left-piece.false) in
    ends_now seen c.keep.new.self c.cut.new.self so_far c.args.piece.now c.in-Some.count c.in-Ok.field-0-1
    c.in-Ok.size c.saturating_sub-left.result
    (before seen c.args.self.now so_far c.self.view_is sees) going c.keep.ensures c.in-Some.is d
    c.in-Ok.ensures.found.1 c.cut.ensures left few

pub returns-else-left-piece-clause-within : goal.returns-else-left-piece-clause-within
returns-else-left-piece-clause-within c n is =
    let seen : Progress = record { head = c.self.inside.head; count = c.self.inside.count } in
    let d = subst (λ (x : List ℕ). Declares x c.in-Ok.field-0-1) c.octets.ensures c.in-Ok.ensures.found.0 in
    let pos = reached_fact seen 0 c.saturating_sub-left.result
    (unended seen c.args.self.now c.self.view_is c.requires.goes_on) c.self.invariant
    (λ so_far sees going. omega (
      arith,
      c.saturating_sub-left.ensures,
      c.in-Ok.ensures.found.1,
      some_left seen c.keep.new.self so_far c.args.piece.now c.in-Some.count c.in-Ok.field-0-1 sees going
          c.keep.ensures c.in-Some.is d,
    )) in
    let same : c.saturating_sub-left.result ≡ n = cc in
    (omega (arith, pos, same), omega (arith, c.if-left-piece.false, same))
