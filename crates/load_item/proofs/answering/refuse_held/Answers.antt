use Rattle.std.proofs.Common.{Option, sym, subst, refl}
use Rattle.std.specs.Option.{option_copied}
use Rattle.package_attrs.specs.declared.name.PackageName.{PackageName}
use Rattle.judge_core.specs.Verdicts.{Judges, bench, refuses}
use Rattle.module_store.specs.declared.store.Store.{Store}
use Rattle.load_item.proofs.AnswerLemmas.{at_ok}
use Rattle.load_item.proofs.ReadLemmas.{stands}
use Rattle.load_item.proofs.answering.refuse_held.Goals as goal

pub refuse-requires-clause-valid : goal.refuse-requires-clause-valid
refuse-requires-clause-valid g c =
    let (before, gives, stood) = c.requires.taken in
    (stands (record c.args.store.now { pool = c.give_back.new.pool }) before (c.give_back.ensures.pool before gives) stood).0

pub returns-clause-keeps : goal.returns-clause-keeps
returns-clause-keeps g c =
    let (before, gives, stood) = c.requires.taken in
    let again = stands (record c.args.store.now { pool = c.give_back.new.pool }) before (c.give_back.ensures.pool before gives) stood in
    record {
      owner = refl;
      valid = at_ok c.refuse.result again.0;
      quiet = at_ok c.refuse.result again.1;
      holds = c.refuse.ensures.holds;
      settled = c.refuse.ensures.settled;
      blocks = c.refuse.ensures.blocks;
    }

pub returns-clause-answers : goal.returns-clause-answers
returns-clause-answers g c = λ at item left judges turn.
    let s : Store = c.args.store.now in
    let judged : Judges (bench s.module s.state s.sequence at) item (refuses c.args.failing (option_copied c.as_ref.result)) =
    subst (λ (n : Option PackageName). Judges (bench s.module s.state s.sequence at) item (refuses c.args.failing n)) (sym c.as_ref.ensures.value) judges in
    c.refuse.ensures.answers at item left judged turn refl refl
