use Rattle.std.proofs.Common.{ℕ, List, [], ◌∷◌, Option, Some, subst, refl, inl, arith}
use Rattle.package_attrs.specs.Description.{description}
use Rattle.cms_signed.specs.Outline.{content_of}
use Rattle.content_stream.specs.declared.content_stream.Streamed.{Streamed}
use Rattle.bank_layout.specs.Recovery.{Standing, standing_of}
use Rattle.judge_core.specs.declared.verdict.CutVerdict.{CutVerdict}
use Rattle.judge_core.specs.declared.verdict.CutVerdict.TheVariants as cuts
use Rattle.judge_core.specs.Verdicts.{bench}
use Rattle.module_store.specs.declared.store.Store.{Store}
use Rattle.module_store.specs.Store.{manifest_of}
use Rattle.item_intake.specs.HeldItems.{HasStreamed}
use Rattle.item_intake.specs.declared.item.Held.{Held}
use Rattle.load_item.specs.Judged.{JudgesHeld, MatchesContent}
use Rattle.load_item.proofs.AnswerLemmas.{part_none}
use Rattle.load_item.proofs.HeldLemmas.{accepted_ready, digest_is, gives_back, image_there, length_is, outline_known, some_of, takes}
use Rattle.load_item.proofs.JudgedLemmas.{accepted_has_cut}
use Rattle.load_item.proofs.answering.answer_whole.Goals as goal

pub judge_held-requires-clause-limits : goal.judge_held-requires-clause-limits
judge_held-requires-clause-limits g c = c.requires.some.3.0.owner.limits

pub judge_held-requires-clause-some : goal.judge_held-requires-clause-some
judge_held-requires-clause-some g c =
    let (before, octets, h, stood) = c.requires.some in (
      octets,
      outline_known g.B.Board.tells_cells before c.args.store.now.pool (g.B.Board.view c.args.board.now)
          (record { outline = c.args.outline.now; streamed = c.args.streamed }) octets h,
    )

pub accept-requires-clause-there : goal.accept-requires-clause-there
accept-requires-clause-there g c =
    let (before, octets, h, stood) = c.requires.some in
    let v = g.B.Board.view c.args.board.now in
    let s : Store = c.args.store.now in
    let held : Held = record { outline = c.args.outline.now; streamed = c.args.streamed } in
    let known = outline_known g.B.Board.tells_cells before s.pool v held octets h in
    let j : JudgesHeld (bench s.module s.state s.sequence c.args.at) c.args.outline.now c.args.streamed octets (cuts.Accept c.in-Accept.package c.in-Accept.anchor_key_id) =
    subst (λ (x : CutVerdict). JudgesHeld (bench s.module s.state s.sequence c.args.at) c.args.outline.now c.args.streamed octets x)
    c.in-Accept.is (c.in-Ok.ensures.judges octets known) in
    let both = accepted_has_cut c.messages_have_a_cut.ensures (bench s.module s.state s.sequence c.args.at) c.args.outline.now
    c.args.streamed octets j.image j.judges.0 j.judges.1 known j.judges.2 in
    both.1

pub accept-requires-clause-can : goal.accept-requires-clause-can
accept-requires-clause-can g c streamed is =
    let (before, octets, h, stood) = c.requires.some in
    let v = g.B.Board.view c.args.board.now in
    let s : Store = c.args.store.now in
    let held : Held = record { outline = c.args.outline.now; streamed = c.args.streamed } in
    let known = outline_known g.B.Board.tells_cells before s.pool v held octets h in
    let j : JudgesHeld (bench s.module s.state s.sequence c.args.at) c.args.outline.now c.args.streamed octets (cuts.Accept c.in-Accept.package c.in-Accept.anchor_key_id) =
    subst (λ (x : CutVerdict). JudgesHeld (bench s.module s.state s.sequence c.args.at) c.args.outline.now c.args.streamed octets x)
    c.in-Accept.is (c.in-Ok.ensures.judges octets known) in
    let both = accepted_has_cut c.messages_have_a_cut.ensures (bench s.module s.state s.sequence c.args.at) c.args.outline.now
    c.args.streamed octets j.image j.judges.0 j.judges.1 known j.judges.2 in
    let come : List ℕ = content_of c.args.outline.now.cut octets in
    let matches : MatchesContent c.args.outline.now.cut come j.content j.image (Some streamed) =
    subst (λ (x : Option Streamed). MatchesContent c.args.outline.now.cut come j.content j.image x) is j.matches in
    let there : HasStreamed g.B.Board.tells_cells before s.pool v c.args.outline.now.cut come (Some streamed) =
    subst (λ (x : Option Streamed). HasStreamed g.B.Board.tells_cells before s.pool v c.args.outline.now.cut come x) is h.streamed in
    let digest = digest_is c.one_image.ensures g.B.Board.tells_cells before s.pool v come j.content j.image streamed
    c.args.outline.now.cut both.0 matches in
    accepted_ready (record {
      can = c.accepted_packages_can_be_installed.ensures.can;
      blocks = c.packages_with_room_can_be_prepared.ensures.blocks;
      ready = c.packages_with_room_can_be_prepared.ensures.ready;
    }) s before stood c.args.at octets (description c.in-Accept.package) j.content j.image c.in-Accept.anchor_key_id j.judges streamed
    (takes c.one_image.ensures g.B.Board.tells_cells before s.pool v come j.content j.image streamed c.args.outline.now.cut both.0 there matches)
    digest (length_is c.one_image.ensures g.B.Board.tells_cells before s.pool v come j.content j.image streamed c.args.outline.now.cut both.0 matches)

pub refuse_held-requires-clause-taken : goal.refuse_held-requires-clause-taken
refuse_held-requires-clause-taken g c =
    let (before, octets, h, stood) = c.requires.some in (
      before,
      gives_back g.B.Board.tells_cells before c.args.store.now.pool (g.B.Board.view c.args.board.now) c.args.outline.now.cut
          (content_of c.args.outline.now.cut octets) c.args.streamed h.streamed,
      stood,
    )

pub refuse_held-requires-clause-named : goal.refuse_held-requires-clause-named
refuse_held-requires-clause-named g c =
    let (before, octets, h, stood) = c.requires.some in
    let v = g.B.Board.view c.args.board.now in
    let s : Store = c.args.store.now in
    let held : Held = record { outline = c.args.outline.now; streamed = c.args.streamed } in
    let known = outline_known g.B.Board.tells_cells before s.pool v held octets h in
    let j : JudgesHeld (bench s.module s.state s.sequence c.args.at) c.args.outline.now c.args.streamed octets (cuts.Refuse c.in-Refuse.failing c.in-Refuse.name) =
    subst (λ (x : CutVerdict). JudgesHeld (bench s.module s.state s.sequence c.args.at) c.args.outline.now c.args.streamed octets x)
    c.in-Refuse.is (c.in-Ok.ensures.judges octets known) in
    (c.refusals_have_their_names.ensures.named (bench s.module s.state s.sequence c.args.at) octets c.in-Refuse.failing c.in-Refuse.name j.judges).1

pub returns-in-Refuse-clause-answers : goal.returns-in-Refuse-clause-answers
returns-in-Refuse-clause-answers g c = λ before octets left h stood.
    let v = g.B.Board.view c.args.board.now in
    let s : Store = c.args.store.now in
    let held : Held = record { outline = c.args.outline.now; streamed = c.args.streamed } in
    let known = outline_known g.B.Board.tells_cells before s.pool v held octets h in
    let j : JudgesHeld (bench s.module s.state s.sequence c.args.at) c.args.outline.now c.args.streamed octets (cuts.Refuse c.in-Refuse.failing c.in-Refuse.name) =
    subst (λ (x : CutVerdict). JudgesHeld (bench s.module s.state s.sequence c.args.at) c.args.outline.now c.args.streamed octets x)
    c.in-Refuse.is (c.in-Ok.ensures.judges octets known) in
    c.refuse_held.ensures.answers c.args.at octets left j.judges h.sequence

pub returns-in-Accept-clause-answers : goal.returns-in-Accept-clause-answers
returns-in-Accept-clause-answers g c = λ before octets left h stood.
    let v = g.B.Board.view c.args.board.now in
    let s : Store = c.args.store.now in
    let held : Held = record { outline = c.args.outline.now; streamed = c.args.streamed } in
    let known = outline_known g.B.Board.tells_cells before s.pool v held octets h in
    let j : JudgesHeld (bench s.module s.state s.sequence c.args.at) c.args.outline.now c.args.streamed octets (cuts.Accept c.in-Accept.package c.in-Accept.anchor_key_id) =
    subst (λ (x : CutVerdict). JudgesHeld (bench s.module s.state s.sequence c.args.at) c.args.outline.now c.args.streamed octets x)
    c.in-Accept.is (c.in-Ok.ensures.judges octets known) in
    let both = accepted_has_cut c.messages_have_a_cut.ensures (bench s.module s.state s.sequence c.args.at) c.args.outline.now
    c.args.streamed octets j.image j.judges.0 j.judges.1 known j.judges.2 in
    let (streamed, is) = some_of c.args.streamed both.1 in
    let come : List ℕ = content_of c.args.outline.now.cut octets in
    let matches : MatchesContent c.args.outline.now.cut come j.content j.image (Some streamed) =
    subst (λ (x : Option Streamed). MatchesContent c.args.outline.now.cut come j.content j.image x) is j.matches in
    let there : HasStreamed g.B.Board.tells_cells before s.pool v c.args.outline.now.cut come (Some streamed) =
    subst (λ (x : Option Streamed). HasStreamed g.B.Board.tells_cells before s.pool v c.args.outline.now.cut come x) is h.streamed in
    let digest = digest_is c.one_image.ensures g.B.Board.tells_cells before s.pool v come j.content j.image streamed
    c.args.outline.now.cut both.0 matches in
    let found =
    accepted_ready (record {
      can = c.accepted_packages_can_be_installed.ensures.can;
      blocks = c.packages_with_room_can_be_prepared.ensures.blocks;
      ready = c.packages_with_room_can_be_prepared.ensures.ready;
    }) s before stood c.args.at octets (description c.in-Accept.package) j.content j.image c.in-Accept.anchor_key_id j.judges streamed
    (takes c.one_image.ensures g.B.Board.tells_cells before s.pool v come j.content j.image streamed c.args.outline.now.cut both.0 there matches)
    digest (length_is c.one_image.ensures g.B.Board.tells_cells before s.pool v come j.content j.image streamed c.args.outline.now.cut both.0 matches) in
    c.accept.ensures.answers c.args.at octets j.content j.image left streamed j.judges is digest
    (λ tells. image_there c.one_image.ensures g.B.Board.tells_cells before s.pool v come j.content j.image streamed
    c.args.outline.now.cut both.0 there matches found.0 tells)
    h.sequence

pub returns-in-Err-clause-answers : goal.returns-in-Err-clause-answers
returns-in-Err-clause-answers g c = λ before octets left h stood.
    let v = g.B.Board.view c.args.board.now in
    let s : Store = c.args.store.now in
    let start : Standing = standing_of s.module (manifest_of s) v.cells in
    record {
      is = tt;
      loads = λ tells. tt;
      leaves = λ t others.
          let tells = (g.met.B.Board.honest c.args.board.now).whole t in
          c.items_follow_each_other.ensures.begun c.args.board.now s.module c.args.at start (octets ∷ others) (c.requires.settled tells)
          (s.running, manifest_of s, c.requires.holds tells, refl);
      item_is = inl h.sequence;
      fault = tt;
      nothing = λ tells not. c.items_follow_each_other.ensures.begins c.args.board.now s.module c.args.at start
          (s.running, manifest_of s, c.requires.holds tells, refl);
      partly = λ tells. part_none s.module c.args.at start (octets ∷ []) v v (record { forth = λ s x. x; back = λ s x. x });
      later = omega arith;
      few = tt;
      most = omega arith;
    }

pub returns-in-Err-clause-keeps : goal.returns-in-Err-clause-keeps
returns-in-Err-clause-keeps g c =
    record { owner = refl; valid = tt; quiet = tt; holds = λ tells. tt; settled = λ tells. tt; blocks = refl }
