-- The end of an answer on a board, as that of an item.
use Rattle.std.proofs.Common.{◌≡◌, ℕ, List, Result, Ok, Err, refl, sym, subst, arith}
use Rattle.std.specs.Prelude.{OnOk, IfErr}
use Rattle.std.specs.Result.{IsErrOf}
use Rattle.edge_board.specs.Board.{View, IsSettled}
use Rattle.edge_board.specs.Causes.{HasCause}
use Rattle.edge_board.specs.declared.failed.Failed.{Failed}
use Rattle.bank_gate.specs.States.{RisesAtMost}
use Rattle.module_record.specs.declared.module.Module.{Module}
use Rattle.bank_layout.specs.Recovery.{Standing}
use Rattle.judge_core.specs.Verdicts.{Verdict}
use Rattle.item_answer.specs.Answers.{AnswersItem, EndsAnswer, ended}
use Rattle.item_answer.specs.declared.fault.ItemFault.{ItemFault}
use Rattle.item_answer.specs.declared.fault.ItemFault.TheVariants as faults

-- a fact holds at Ok
pub at_ok : {T E Q : Type 0} (r : Result T E) → Q → OnOk r Q
at_ok (Ok x) q = q
at_ok (Err e) q = tt

pub on_ended : (P : Type 0) (r : Result Unit Failed) → OnOk r P → OnOk (ended r) P
on_ended P (Ok x) p = p
on_ended P (Err e) p = p

pub answers_ended : (tm : Type 0) (m : Module) (at : ℕ) (start : Standing) (item : List ℕ) (verdict : Verdict) (old new : View) (r : Result Unit Failed)
    → AnswersItem tm m at start item verdict old new r → AnswersItem tm m at start item verdict old new (ended r)
answers_ended tm m at start item verdict old new (Ok x) a = record { loads = a.loads; partly = tt; moments = a.moments }
answers_ended tm m at start item verdict old new (Err e) a = record { loads = tt; partly = a.partly; moments = a.moments }

-- ---- causes

abbrev IsMemory : ItemFault → Type 0
IsMemory faults.Memory = Unit {0}
IsMemory faults.Failed = ⊥

not_ok : {T E : Type 0} (x : T) (e : E) → Ok x ≡ Err e → ⊥
not_ok {T} {E} x e is = subst (λ (r : Result T E). OnOk r ⊥) (sym is) tt

abbrev memory_end : Result Unit ItemFault
memory_end = Err faults.Memory

not_memory : memory_end ≡ Err faults.Failed → ⊥
not_memory is = subst (λ (r : Result Unit ItemFault). IfErr r IsMemory) is tt

-- a board's end is no want of memory
pub never_memory : (r : Result Unit Failed) → IsErrOf (ended r) faults.Memory → ⊥
never_memory (Ok x) is = not_ok tt faults.Memory is
never_memory (Err e) is = not_memory (sym is)

pub ends_answer : (told : Type 0) (most : ℕ) (old new : View) (r : Result Unit Failed) → (told → OnOk r (IsSettled new)) → new.blocks ≡ old.blocks
    → RisesAtMost most old.erased new.erased → HasCause old.faults new.faults r → EndsAnswer told most old new (ended r)
ends_answer told most old new (Ok x) settled blocks erased cause = record {
  settled = settled;
  blocks = blocks;
  erased = erased;
  later = cause.later;
  calm = λ no. cause.calm;
  fault = λ is. absurd (not_ok tt faults.Failed is);
}
ends_answer told most old new (Err e) settled blocks erased cause = record {
  settled = λ tells. tt;
  blocks = blocks;
  erased = erased;
  later = cause.later;
  calm = λ no. absurd (no refl);
  fault = λ is. cause.failed;
}

-- want of memory, before anything was done on the board
pub ends_begun : (told : Type 0) (most : ℕ) (v : View) → EndsAnswer told most v v (Err faults.Memory)
ends_begun told most v = record {
  settled = λ tells. tt;
  blocks = refl;
  erased = (omega arith, omega arith);
  later = omega arith;
  calm = λ no. refl;
  fault = λ is. absurd (not_memory is);
}
