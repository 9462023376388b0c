use Rattle.std.proofs.Common.{◌≡◌, None, subst}
use Rattle.judge_core.specs.declared.verdict.CutVerdict.TheVariants as cuts
use Rattle.judge_core.specs.FaultOf.{IfFails}
use Rattle.judge_core.specs.Verdicts.{bench, refuses, Judges}
use Rattle.judge_core.specs.Views.{cut_view, verdict_view}
use Rattle.judge_core.specs.Steps.{JudgesMessage}
use Rattle.judge_core.proofs.JudgeLemmas.{anchor_keys, like_itself, fails_read, judged, seen}
use Rattle.judge_core.proofs.ResultLemmas.{if_ok}
use Rattle.judge_core.proofs.whole.judge_item.Goals as goal

pub judge_view-requires-clause-keys : goal.judge_view-requires-clause-keys
judge_view-requires-clause-keys c = anchor_keys c.args.owner.now.anchors c.requires.limits.anchors

pub returns-in-Err : goal.returns-in-Err
returns-in-Err c = record {
  judges =
      let b = bench c.args.owner.now c.args.state.now c.args.sequence c.args.at in
      let item = c.args.item.now in
      if_ok (λ verdict. IfFails c.in-Err.fault (λ number. verdict_view verdict ≡ refuses number None))
      (λ verdict. Judges b item (verdict_view verdict)) c.refused.result
      (λ verdict is.
      fails_read b item (c.in_default.ensures.told item (like_itself item)) c.in-Err.fault (verdict_view verdict)
      c.in-Err.ensures.answer is)
      c.refused.ensures.refused;
}

pub returns-in-Accept : goal.returns-in-Accept
returns-in-Accept c = record {
  judges =
      let b = bench c.args.owner.now c.args.state.now c.args.sequence c.args.at in
      let item = c.args.item.now in
      let content = c.in-Ok.view.content.now in
      let image = c.image_of.result.now in
      let read = c.in-Ok.ensures.answer.1 in
      let m = read.message in
      let known = c.known_of.result in
      let sees = seen c.in-Ok.view known m content image read.shows read.content_is c.known_of.ensures.digest
      c.image_of.ensures.image (c.known_of.ensures.image image c.image_of.ensures.image) in
      let said : JudgesMessage b m image (cuts.Accept c.in-Accept.package c.in-Accept.anchor_key_id) =
      subst (JudgesMessage b m image) c.in-Accept.is (c.in_ok-package.ensures.judged m image sees) in
      let all = judged b item (c.in_default.ensures.told item (like_itself item)) c.in-Ok.ensures.answer.0 m read.valid
      read.text c.one_message.ensures image sees.image_is (cuts.Accept c.in-Accept.package c.in-Accept.anchor_key_id) said in
      subst (λ o. Judges b item (cut_view o image (cuts.Accept c.in-Accept.package c.in-Accept.anchor_key_id)))
      read.content_is all;
}

pub returns-in-Refuse : goal.returns-in-Refuse
returns-in-Refuse c = record {
  judges =
      let b = bench c.args.owner.now c.args.state.now c.args.sequence c.args.at in
      let item = c.args.item.now in
      let content = c.in-Ok.view.content.now in
      let there = c.known_of.ensures.there in
      let read = c.in-Ok.ensures.answer.1 in
      let m = read.message in
      let sees = seen c.in-Ok.view c.known_of.result m content there.0 read.shows read.content_is c.known_of.ensures.digest
      there.1 there.2 in
      let said : JudgesMessage b m there.0 (cuts.Refuse c.in-Refuse.failing c.in-Refuse.name) =
      subst (JudgesMessage b m there.0) c.in-Refuse.is (c.in_ok-package.ensures.judged m there.0 sees) in
      judged b item (c.in_default.ensures.told item (like_itself item)) c.in-Ok.ensures.answer.0 m read.valid
      read.text c.one_message.ensures there.0 sees.image_is (cuts.Refuse c.in-Refuse.failing c.in-Refuse.name) said;
}
