use Rattle.cert_fields.specs.AnchorView.{text_view}
use Rattle.recipe_text.specs.ModuleReading.{words_view}
use Rattle.recipe_text.proofs.Anchors.{no_words, no_name, no_id, no_key, no_constraints, anchor_made}
use Rattle.recipe_text.proofs.PackagePlaces.{if_ok_as}
use Rattle.recipe_text.proofs.anchor_line.anchor_in.Goals as goal

pub returns-in_default : goal.returns-in_default
returns-in_default c = record { exact = no_words c.args.text.now c.in_default.ensures.exact }

pub returns-in_default-2 : goal.returns-in_default-2
returns-in_default-2 c = record {
  exact = no_name c.args.text.now (words_view c.in-Some.words) c.in-Some.ensures.exact
      (rw c.in_default-2.is at c.in_ok-subject.ensures.exact);
}

pub returns-in_default-3 : goal.returns-in_default-3
returns-in_default-3 c = record {
  exact = no_id c.args.text.now (words_view c.in-Some.words) c.in-Some.ensures.exact
      (rw c.in_default-3.is at c.in_ok-key_id.ensures.exact);
}

pub returns-in_default-key_octets_in : goal.returns-in_default-key_octets_in
returns-in_default-key_octets_in c = record {
  exact = no_key c.args.text.now (words_view c.in-Some.words) c.in-Some.ensures.exact
      c.in_default-key_octets_in.ensures.exact;
}

pub returns-in_default-4 : goal.returns-in_default-4
returns-in_default-4 c = record {
  exact = no_constraints c.args.text.now (words_view c.in-Some.words) c.in-Some.ensures.exact
      (rw c.in_default-4.is at c.in_ok-constraints.ensures.exact);
}

pub returns : goal.returns
returns c = record {
  exact = if_ok_as _ _ c.new.result
      (λ answer kept. anchor_made c.args.text.now (words_view c.in-Some.words) c.in-Some.ensures.exact
      c.in-Some-2.subject.items c.in-Some-3.key_id c.in-Some-key_octets_in.key (text_view c.in-Some-4.constraints)
      (rw c.in-Some-2.is at c.in_ok-subject.ensures.exact) (rw c.in-Some-3.is at c.in_ok-key_id.ensures.exact)
      c.in-Some-key_octets_in.ensures.exact (rw c.in-Some-4.is at c.in_ok-constraints.ensures.exact) answer kept)
      c.new.ensures.made;
}
