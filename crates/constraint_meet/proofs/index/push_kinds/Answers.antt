use Rattle.std.proofs.Common.{◌∙◌, ◌+◌, ◌++◌, ◌∷◌, [], List, ℕ, arith, sym, length, ap}
use Rattle.constraint_meet.proofs.PushLemmas.{contents_room, kinds_on, kinds_end}
use Rattle.constraint_meet.proofs.index.push_kinds.Goals as goal

pub overflow_cast-contents : goal.overflow_cast-contents
overflow_cast-contents c =
    omega (
      arith,
      c.requires.fits,
      c.loop-contents.invariant.1,
      ap length c.rest-in-Some.ensures.rest,
      contents_room c.loop-contents.items c.in-Some.contents.now c.tagged.new.self 0x30 c.in-Some.ensures.element.1,
    )

pub loop-contents-preserved : goal.loop-contents-preserved
loop-contents-preserved c = (
  kinds_on _ c.loop-contents.places.items c.push.new.self.items c.args.after c.loop-contents.items c.in-Some.contents.now
      c.tagged.new.self c.loop-contents.invariant.0 c.in-Some.ensures.exact
      (c.in_ok-push.ensures.items ∙ ap (λ (rest : List ℕ). c.loop-contents.places.items
      ++ (length c.in-Some.contents.now + (length rest + c.args.after)) ∷ []) c.rest-in-Some.ensures.rest),
  omega (arith, c.loop-contents.invariant.1, c.in-Some.ensures.shorter),
)

pub returns : goal.returns
returns c =
    sym (kinds_end _ c.loop-contents.places.items c.args.after c.loop-contents.items c.loop-contents.invariant.0
    c.in_default.ensures.exact)
