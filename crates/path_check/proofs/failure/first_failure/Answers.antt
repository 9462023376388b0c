use Rattle.std.proofs.Common.{inl, inr, refl}
use Rattle.path_check.proofs.KeyLemmas.{untrue}
use Rattle.path_check.proofs.MemberLemmas.{reads_each}
use Rattle.path_check.proofs.failure.first_failure.Goals as goal

pub returns-then-not-are_valid_at-clause-first : goal.returns-then-not-are_valid_at-clause-first
returns-then-not-are_valid_at-clause-first c = λ anchor is.
    inr (
      reads_each c.args.members.now c.requires.read,
      inl (c.numbered.ensures.value, untrue c.if-not-are_valid_at.true c.are_valid_at.ensures.valid),
    )

pub returns-then-not-keep_rules-clause-first : goal.returns-then-not-keep_rules-clause-first
returns-then-not-keep_rules-clause-first c = λ anchor is.
    inr (
      reads_each c.args.members.now c.requires.read,
      inr (
        c.are_valid_at.ensures.valid.0 c.if-not-are_valid_at.false,
        inl (c.numbered-then-not-keep_rules.ensures.value, untrue c.if-not-keep_rules.true c.keep_rules.ensures.keep),
      ),
    )

pub returns-then-not-have_keys-clause-first : goal.returns-then-not-have_keys-clause-first
returns-then-not-have_keys-clause-first c = λ anchor is.
    inr (
      reads_each c.args.members.now c.requires.read,
      inr (
        c.are_valid_at.ensures.valid.0 c.if-not-are_valid_at.false,
        inr (
          c.keep_rules.ensures.keep.0 c.if-not-keep_rules.false,
          inl (c.numbered-then-not-have_keys.ensures.value, untrue c.if-not-have_keys.true c.have_keys.ensures.keys),
        ),
      ),
    )

pub returns-then-not-are_signed-clause-first : goal.returns-then-not-are_signed-clause-first
returns-then-not-are_signed-clause-first c = λ anchor is.
    inr (
      reads_each c.args.members.now c.requires.read,
      inr (
        c.are_valid_at.ensures.valid.0 c.if-not-are_valid_at.false,
        inr (
          c.keep_rules.ensures.keep.0 c.if-not-keep_rules.false,
          inr (
            c.have_keys.ensures.keys.0 c.if-not-have_keys.false,
            inl (
              c.numbered-then-not-are_signed.ensures.value,
              untrue c.if-not-are_signed.true (c.are_signed.ensures.signed anchor is),
            ),
          ),
        ),
      ),
    )

pub returns-clause-hold : goal.returns-clause-hold
returns-clause-hold c = λ anchor is. (
  λ none. (
    reads_each c.args.members.now c.requires.read,
    (
      c.are_valid_at.ensures.valid.0 c.if-not-are_valid_at.false,
      (
        c.keep_rules.ensures.keep.0 c.if-not-keep_rules.false,
        (
          c.have_keys.ensures.keys.0 c.if-not-have_keys.false,
          ((c.are_signed.ensures.signed anchor is).0 c.if-not-are_signed.false, tt),
        ),
      ),
    ),
  ),
  λ all. refl,
)
