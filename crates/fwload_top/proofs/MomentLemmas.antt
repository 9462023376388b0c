-- The commands that are one word with a moment.
use Rattle.std.proofs.Common.{◌≡◌, ◌⊎◌, inl, inr, ⊎_elim, ℕ, List, [], ◌∷◌, Option, Some, option_map, codes, refl, sym}
use Rattle.std.proofs.Common.{ap, ◌∙◌, subst}
use Rattle.der_core.specs.Decimal.{moment_digits}
use Rattle.der_core.specs.Moment.{IsMoment}
use Rattle.der_core.specs.Reads.{Reads}
use Rattle.fwload_top.specs.declared.words.Command.{Command}
use Rattle.fwload_top.specs.declared.words.Command.TheVariants as commands
use Rattle.fwload_top.specs.Words.{Denotes}
use Rattle.fwload_top.proofs.WordsLemmas.{IsNamed}

some_same : {a b : Command} → ◌≡◌ {A = Option Command} (Some a) (Some b) → a ≡ b
some_same same = cc

first : {a b d e : List ℕ} → a ∷ (b ∷ []) ≡ d ∷ (e ∷ []) → a ≡ d
first same = cc

second : {a b d e : List ℕ} → a ∷ (b ∷ []) ≡ d ∷ (e ∷ []) → b ≡ e
second same = cc

one_or_two : {a b d : List ℕ} → a ∷ (b ∷ []) ≡ d ∷ [] → ⊥
one_or_two same = cc

-- ---- what two words say

-- The word is this text, the digits are a moment, and the command is that of the moment.
record IsOf (word digits text : List ℕ) (of : ℕ → Command) (c : Command) : Type 0 where
  at : ℕ
  valid : IsMoment at
  digits_are : digits ≡ moment_digits at
  word_is : word ≡ text
  is : c ≡ of at

abbrev IsOneOf : List ℕ → List ℕ → Command → Type 0
IsOneOf word digits c =
    IsOf word digits (codes "rehearse") (λ at. commands.Rehearse at) c
    ⊎ (IsOf word digits (codes "explain") (λ at. commands.Explain at) c
    ⊎ IsOf word digits (codes "load") (λ at. commands.Load at) c)

-- a word and digits that are a command are one of these three
by_word : (word digits : List ℕ) (c : Command) → Denotes (word ∷ (digits ∷ [])) c → IsOneOf word digits c
by_word word digits commands.Ident named = absurd (one_or_two named.1)
by_word word digits commands.Sigcheck named = absurd (one_or_two named.1)
by_word word digits commands.KeyNew named = absurd (one_or_two named.1)
by_word word digits commands.Make named = absurd (one_or_two named.1)
by_word word digits commands.List named = absurd (one_or_two named.1)
by_word word digits commands.Issue named = absurd (one_or_two named.1)
by_word word digits commands.Pack named = absurd (one_or_two named.1)
by_word word digits (commands.Rehearse at) named = inl (record {
  at = at;
  valid = named.0;
  digits_are = second named.1;
  word_is = first named.1;
  is = refl;
})
by_word word digits (commands.Explain at) named = inr (inl (record {
  at = at;
  valid = named.0;
  digits_are = second named.1;
  word_is = first named.1;
  is = refl;
}))
by_word word digits (commands.Load at) named = inr (inr (record {
  at = at;
  valid = named.0;
  digits_are = second named.1;
  word_is = first named.1;
  is = refl;
}))

-- ---- no command

-- a word with digits that are no moment is no command
pub no_moment : (word digits : List ℕ) → ((at : ℕ) → IsMoment at → digits ≡ moment_digits at → ⊥) → (c : Command)
    → Denotes (word ∷ (digits ∷ [])) c → ⊥
no_moment word digits none c named =
    ⊎_elim (λ of. none of.at of.valid of.digits_are)
    (λ more. ⊎_elim (λ of. none of.at of.valid of.digits_are) (λ of. none of.at of.valid of.digits_are) more)
    (by_word word digits c named)

-- a moment's digits behind another word are no command
pub no_word : (word digits : List ℕ) → (word ≡ codes "rehearse" → ⊥) → (word ≡ codes "explain" → ⊥)
    → (word ≡ codes "load" → ⊥) → (c : Command) → Denotes (word ∷ (digits ∷ [])) c → ⊥
no_word word digits rehearse explain load c named =
    ⊎_elim (λ of. rehearse of.word_is)
    (λ more. ⊎_elim (λ of. explain of.word_is) (λ of. load of.word_is) more)
    (by_word word digits c named)

-- ---- the command

-- the word with a moment's digits is the command of that moment alone
named_by : (word digits text : List ℕ) (of : ℕ → Command) (at : ℕ) → word ≡ text
    → Reads moment_digits IsMoment digits (Some at)
    → ((t : ℕ) → IsMoment t → Denotes (text ∷ (moment_digits t ∷ [])) (of t))
    → ((c : Command) → Denotes (word ∷ (digits ∷ [])) c → IsOf word digits text of c)
    → IsNamed (Some (of at)) (word ∷ (digits ∷ []))
named_by word digits text of at is reads denotes only c =
    ((λ e. subst (Denotes (word ∷ (digits ∷ []))) (some_same e) forth), back)
  where
    forth : Denotes (word ∷ (digits ∷ [])) (of at)
    forth =
        let read = (reads at).0 refl in
        subst (λ (w : List ℕ). Denotes (w ∷ (digits ∷ [])) (of at)) (sym is)
        (subst (λ (ds : List ℕ). Denotes (text ∷ (ds ∷ [])) (of at)) (sym read.1) (denotes at read.0))

    back : Denotes (word ∷ (digits ∷ [])) c → ◌≡◌ {A = Option Command} (Some (of at)) (Some c)
    back named =
        let one : IsOf word digits text of c = only c named in
        ap (option_map of) ((reads one.at).1 (one.valid, one.digits_are))
        ∙ ap (λ (d : Command). Some d) (sym one.is)

other_text : {word text other : List ℕ} → (text ≡ other → ⊥) → word ≡ text → word ≡ other → ⊥
other_text differ is also = differ (sym is ∙ also)

rehearse_explain : codes "rehearse" ≡ codes "explain" → ⊥
rehearse_explain same = cc

rehearse_load : codes "rehearse" ≡ codes "load" → ⊥
rehearse_load same = cc

explain_load : codes "explain" ≡ codes "load" → ⊥
explain_load same = cc

pub one_rehearsal : (word digits : List ℕ) (at : ℕ) → word ≡ codes "rehearse"
    → Reads moment_digits IsMoment digits (Some at)
    → IsNamed (Some (commands.Rehearse at)) (word ∷ (digits ∷ []))
one_rehearsal word digits at is reads =
    named_by word digits (codes "rehearse") (λ at. commands.Rehearse at) at is reads (λ t valid. (valid, refl))
    (λ c named. ⊎_elim (λ of. of)
    (λ more. ⊎_elim (λ of. absurd (other_text rehearse_explain is of.word_is))
    (λ of. absurd (other_text rehearse_load is of.word_is)) more)
    (by_word word digits c named))

pub one_explanation : (word digits : List ℕ) (at : ℕ) → word ≡ codes "explain"
    → Reads moment_digits IsMoment digits (Some at)
    → IsNamed (Some (commands.Explain at)) (word ∷ (digits ∷ []))
one_explanation word digits at is reads =
    named_by word digits (codes "explain") (λ at. commands.Explain at) at is reads (λ t valid. (valid, refl))
    (λ c named. ⊎_elim (λ of. absurd (other_text (λ same. rehearse_explain (sym same)) is of.word_is))
    (λ more. ⊎_elim (λ of. of) (λ of. absurd (other_text explain_load is of.word_is)) more)
    (by_word word digits c named))

pub one_load : (word digits : List ℕ) (at : ℕ) → word ≡ codes "load"
    → Reads moment_digits IsMoment digits (Some at)
    → IsNamed (Some (commands.Load at)) (word ∷ (digits ∷ []))
one_load word digits at is reads =
    named_by word digits (codes "load") (λ at. commands.Load at) at is reads (λ t valid. (valid, refl))
    (λ c named. ⊎_elim (λ of. absurd (other_text (λ same. rehearse_load (sym same)) is of.word_is))
    (λ more. ⊎_elim (λ of. absurd (other_text (λ same. explain_load (sym same)) is of.word_is)) (λ of. of) more)
    (by_word word digits c named))
