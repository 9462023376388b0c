use Rattle.std.proofs.Common.{ℕ, sym, subst, refl}
use Rattle.std.specs.Prelude.{None}
use Rattle.bank_layout.specs.Recovery.{Standing, standing_of}
use Rattle.judge_core.specs.Verdicts.{Judges, bench, refuses}
use Rattle.module_store.specs.declared.store.Store.{Store}
use Rattle.module_store.specs.Store.{manifest_of}
use Rattle.item_intake.specs.ReadItem.{IsItemRead}
use Rattle.item_intake.specs.declared.item.Item.{Item}
use Rattle.load_item.proofs.AnswerLemmas.{answers_end, at_ok}
use Rattle.load_item.proofs.ReadLemmas.{stands}
use Rattle.load_item.proofs.answering.answer.Goals as goal

pub answer_whole-requires-clause-some : goal.answer_whole-requires-clause-some
answer_whole-requires-clause-some g c =
    let (before, octets, left, h, stood) = c.requires.some in
    (before, octets, subst (λ (i : Item). IsItemRead g.B.Board.tells_cells before c.args.store.now.pool (g.B.Board.view c.args.board.now) left octets i) c.in-Whole.is h, stood)

pub returns-in-Whole-clause-answers : goal.returns-in-Whole-clause-answers
returns-in-Whole-clause-answers g c = λ before octets left h stood.
    c.answer_whole.ensures.answers before octets left
    (subst (λ (i : Item). IsItemRead g.B.Board.tells_cells before c.args.store.now.pool (g.B.Board.view c.args.board.now) left octets i) c.in-Whole.is h) stood

pub refuse-requires-clause-valid : goal.refuse-requires-clause-valid
refuse-requires-clause-valid g c =
    let (before, octets, left, h, stood) = c.requires.some in
    let s : Store = c.args.store.now in
    let r = subst (λ (i : Item). IsItemRead g.B.Board.tells_cells before s.pool (g.B.Board.view c.args.board.now) left octets i) c.in-TooLong.is h in
    (stands s before r.2 stood).0

pub returns-in-TooLong-clause-answers : goal.returns-in-TooLong-clause-answers
returns-in-TooLong-clause-answers g c = λ before octets left h stood.
    let s : Store = c.args.store.now in
    let r = subst (λ (i : Item). IsItemRead g.B.Board.tells_cells before s.pool (g.B.Board.view c.args.board.now) left octets i) c.in-TooLong.is h in
    c.refuse.ensures.answers c.args.at octets left
    (subst (λ (n : ℕ). Judges (bench s.module s.state s.sequence c.args.at) octets (refuses n None)) (sym c.numbered-failing.ensures.value)
    (c.unread_items_are_refused.ensures.long (bench s.module s.state s.sequence c.args.at) octets r.1.0 r.0 r.1.1 r.1.2)) r.0 refl refl

pub returns-in-TooLong-clause-keeps : goal.returns-in-TooLong-clause-keeps
returns-in-TooLong-clause-keeps g c =
    let (before, octets, left, h, stood) = c.requires.some in
    let s : Store = c.args.store.now in
    let r = subst (λ (i : Item). IsItemRead g.B.Board.tells_cells before s.pool (g.B.Board.view c.args.board.now) left octets i) c.in-TooLong.is h in
    let again = stands s before r.2 stood in
    record {
      owner = refl;
      valid = at_ok c.refuse.result again.0;
      quiet = at_ok c.refuse.result again.1;
      holds = c.refuse.ensures.holds;
      settled = c.refuse.ensures.settled;
      blocks = c.refuse.ensures.blocks;
    }

pub refuse-requires-in-Unfinished-clause-valid : goal.refuse-requires-in-Unfinished-clause-valid
refuse-requires-in-Unfinished-clause-valid g c =
    let (before, octets, left, h, stood) = c.requires.some in
    let s : Store = c.args.store.now in
    let r = subst (λ (i : Item). IsItemRead g.B.Board.tells_cells before s.pool (g.B.Board.view c.args.board.now) left octets i) c.in-Unfinished.is h in
    (stands s before r.3 stood).0

pub returns-in-Unfinished-clause-answers : goal.returns-in-Unfinished-clause-answers
returns-in-Unfinished-clause-answers g c = λ before octets left h stood.
    let s : Store = c.args.store.now in
    let r = subst (λ (i : Item). IsItemRead g.B.Board.tells_cells before s.pool (g.B.Board.view c.args.board.now) left octets i) c.in-Unfinished.is h in
    c.refuse-in-Unfinished.ensures.answers c.args.at octets left
    (subst (λ (n : ℕ). Judges (bench s.module s.state s.sequence c.args.at) octets (refuses n None)) (sym c.numbered-failing-in-Unfinished.ensures.value)
    (c.unread_items_are_refused.ensures.none (bench s.module s.state s.sequence c.args.at) octets r.1)) (r.0, r.1, r.2) refl refl

pub returns-in-Unfinished-clause-keeps : goal.returns-in-Unfinished-clause-keeps
returns-in-Unfinished-clause-keeps g c =
    let (before, octets, left, h, stood) = c.requires.some in
    let s : Store = c.args.store.now in
    let r = subst (λ (i : Item). IsItemRead g.B.Board.tells_cells before s.pool (g.B.Board.view c.args.board.now) left octets i) c.in-Unfinished.is h in
    let again = stands s before r.3 stood in
    record {
      owner = refl;
      valid = at_ok c.refuse-in-Unfinished.result again.0;
      quiet = at_ok c.refuse-in-Unfinished.result again.1;
      holds = c.refuse-in-Unfinished.ensures.holds;
      settled = c.refuse-in-Unfinished.ensures.settled;
      blocks = c.refuse-in-Unfinished.ensures.blocks;
    }

pub returns-in-End-clause-answers : goal.returns-in-End-clause-answers
returns-in-End-clause-answers g c = λ before octets left h stood.
    let s : Store = c.args.store.now in
    let r = subst (λ (i : Item). IsItemRead g.B.Board.tells_cells before s.pool (g.B.Board.view c.args.board.now) left octets i) c.in-End.is h in
    let v = g.B.Board.view c.args.board.now in
    let start : Standing = standing_of s.module (manifest_of s) v.cells in
    answers_end s.module c.args.at start octets left v (r.0, r.1) (λ tells. (s.running, manifest_of s, c.requires.holds tells, refl))
    (λ t others.
    let tells = (g.met.B.Board.honest c.args.board.now).whole t in
    c.items_follow_each_other.ensures.begun c.args.board.now s.module c.args.at start others (c.requires.settled tells)
    (s.running, manifest_of s, c.requires.holds tells, refl))

pub returns-in-End-clause-keeps : goal.returns-in-End-clause-keeps
returns-in-End-clause-keeps g c =
    let (before, octets, left, h, stood) = c.requires.some in
    let s : Store = c.args.store.now in
    let r = subst (λ (i : Item). IsItemRead g.B.Board.tells_cells before s.pool (g.B.Board.view c.args.board.now) left octets i) c.in-End.is h in
    let again = stands s before r.2 stood in
    record {
      owner = refl;
      valid = again.0;
      quiet = again.1;
      holds = c.requires.holds;
      settled = c.requires.settled;
      blocks = refl;
    }
