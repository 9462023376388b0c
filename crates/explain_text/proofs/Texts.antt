-- Texts one after the other, and that lines are of one text.
use Rattle.std.proofs.Common.{◌≡◌, ℕ, List, [], ◌∷◌, ◌++◌, Option, Some, None, refl, sym, ap, ap₂, subst, ◌∙◌, append_assoc}
use Rattle.std.specs.Prelude.{codes, OnOk, Result, Ok, Err, option_map}
use Rattle.std.proofs.lemmas.List.{append-nil}
use Rattle.std.proofs.lemmas.Option.{none-some}
use Rattle.der_core.specs.Attribute.{Attribute}
use Rattle.der_core.proofs.Numbers.{some_is}
use Rattle.cert_fields.specs.Constraints.{ContentConstraint}
use Rattle.constraint_meet.specs.Grants.{Members}
use Rattle.constraint_meet.specs.Permits.{any_content}
use Rattle.report_text.specs.Dotted.{dotted_of}
use Rattle.explain_text.specs.Granted.{sources_of, constrained_by}
use Rattle.explain_text.specs.GrantText.{kind_line, allow_line, deny_line, IsKindLine, AreKindLines, AreTypeLines, AreLinesOf, IsGrantText}
use Rattle.explain_text.specs.Ordered.{Adds, AreTexts}
use Rattle.explain_text.proofs.Orders.{one_list}

-- ---- one after the other

module _ {X : Type 0} (IsText : X → List ℕ → Type 0) where
  -- one more
  pub texts_more : (xs : List X) (x : X) (texts text : List ℕ) → AreTexts IsText xs texts → IsText x text
      → AreTexts IsText (xs ++ x ∷ []) (texts ++ text)
  texts_more [] x texts text none is = (text, [], is, refl, ap (λ (front : List ℕ). front ++ text) none ∙ sym (append-nil text))
  texts_more (y ∷ ys) x texts text (first, rest, one, more, all) is = (
    first,
    rest ++ text,
    one,
    texts_more ys x rest text more is,
    ap (λ (front : List ℕ). front ++ text) all ∙ append_assoc first rest text,
  )

  -- there is one text of a list where there is one of each element
  pub one_of_each : ((x : X) (text other : List ℕ) → IsText x text → IsText x other → text ≡ other)
      → (xs : List X) (text other : List ℕ) → AreTexts IsText xs text → AreTexts IsText xs other → text ≡ other
  one_of_each one [] text other none none' = none ∙ sym none'
  one_of_each one (x ∷ xs) text other (first, rest, is, more, all) (first', rest', is', more', all') =
      all ∙ ap₂ (λ (front back : List ℕ). front ++ back) (one x first first' is is') (one_of_each one xs rest rest' more more')
      ∙ sym all'

-- the same texts in other words
pub texts_also : {X : Type 0} {IsText IsOther : X → List ℕ → Type 0}
    → ((x : X) (text : List ℕ) → IsText x text → IsOther x text) → (xs : List X) (text : List ℕ)
    → AreTexts IsText xs text → AreTexts IsOther xs text
texts_also step [] text none = none
texts_also step (x ∷ xs) text (first, rest, is, more, all) =
    (first, rest, step x first is, texts_also step xs rest more, all)

-- ---- what is added

-- what follows where a call answers Ok
pub on_ok : {T E P Q : Type 0} (result : Result T E) → OnOk result P → (P → Q) → OnOk result Q
on_ok (Ok x) p follows = follows p
on_ok (Err e) p follows = tt

-- a text behind another is a text
pub adds_behind : {IsText IsWhole : List ℕ → Type 0} (before between after front : List ℕ) → between ≡ before ++ front
    → ((text : List ℕ) → IsText text → IsWhole (front ++ text)) → Adds IsText between after → Adds IsWhole before after
adds_behind before between after front is whole (text, one, added) = (
  front ++ text,
  whole text one,
  added ∙ ap (λ (so_far : List ℕ). so_far ++ text) is ∙ append_assoc before front text,
)

-- the text of one more element
pub adds_more : {X : Type 0} (IsText : X → List ℕ → Type 0) (xs : List X) (x : X) (before between after : List ℕ)
    → Adds (AreTexts IsText xs) before between → Adds (IsText x) between after
    → Adds (AreTexts IsText (xs ++ x ∷ [])) before after
adds_more IsText xs x before between after (texts, are, so_far) (text, is, added) = (
  texts ++ text,
  texts_more IsText xs x texts text are is,
  added ∙ ap (λ (front : List ℕ). front ++ text) so_far ∙ append_assoc before texts text,
)

-- ---- lines

one_kind_line : (constrained : List Attribute) (kind text other : List ℕ) → IsKindLine constrained kind text
    → IsKindLine constrained kind other → text ≡ other
one_kind_line constrained kind text other (values, are, is) (values', are', is') =
    is ∙ ap (kind_line kind) (one_list values values' are are') ∙ sym is'

one_of_kinds : (constrained : List Attribute) (text other : List ℕ) → AreKindLines constrained text
    → AreKindLines constrained other → text ≡ other
one_of_kinds constrained text other (kinds, are, lines) (kinds', are', lines') =
    one_of_each (IsKindLine constrained) (one_kind_line constrained) kinds' text other
    (subst (λ (ks : List (List ℕ)). AreTexts (IsKindLine constrained) ks text) (one_list kinds kinds' are are') lines) lines'

one_of_type : (name : List ℕ) (sources : Option (List ContentConstraint)) (text other : List ℕ)
    → AreTypeLines name sources text → AreTypeLines name sources other → text ≡ other
one_of_type name None text other is is' = is ∙ sym is'
one_of_type name (Some sources) text other (kinds, lines, is) (kinds', lines', is') =
    is ∙ ap (λ (back : List ℕ). allow_line name ++ back) (one_of_kinds (constrained_by sources) kinds kinds' lines lines')
    ∙ sym is'

pub one_of_grant : (members : Members) (text other : List ℕ) → IsGrantText members text → IsGrantText members other
    → text ≡ other
one_of_grant members text other these those =
    these.is ∙ ap₂ (λ (front back : List ℕ). front ++ back) each
    (one_of_type (codes "other") (sources_of any_content members) these.other those.other these.rest those.rest)
    ∙ sym those.is
  where
    each : these.each ≡ those.each
    each =
        one_of_each (AreLinesOf members)
        (λ content line line' is is'. one_of_type (dotted_of content) (sources_of content members) line line' is is')
        those.types these.each those.each
        (subst (λ (types : List (List ℕ)). AreTexts (AreLinesOf members) types these.each)
        (one_list these.types those.types these.named those.named) these.lines) those.lines

-- ---- the lines of a content type

pub allowed : (name : List ℕ) (sources : Option (List ContentConstraint)) (constrained : List Attribute) (kinds : List ℕ)
    → option_map constrained_by sources ≡ Some constrained → AreKindLines constrained kinds
    → AreTypeLines name sources (allow_line name ++ kinds)
allowed name None constrained kinds is lines = absurd (none-some constrained is)
allowed name (Some sources) constrained kinds is lines =
    (kinds, subst (λ (all : List Attribute). AreKindLines all kinds) (sym (some_is _ _ is)) lines, refl)

pub denied : (name : List ℕ) (sources : Option (List ContentConstraint)) → option_map constrained_by sources ≡ None
    → AreTypeLines name sources (deny_line name)
denied name None is = refl
denied name (Some sources) is = absurd (none-some (constrained_by sources) (sym is))
