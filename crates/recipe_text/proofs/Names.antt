-- Words that lines begin with.
use Rattle.std.proofs.Common.{◌≡◌, ℕ, Bool, true, false, not, List, [], ◌∷◌, ◌++◌, Option, Some, None, refl, sym, ◌∙◌, ap}
use Rattle.std.proofs.Common.{cond, eqb, eq-eqb, ne_eqb, inl, inr, subst}
use Rattle.std.specs.List.{list_all}
use Rattle.std.proofs.lemmas.Bool.{cases_Bool, and_parts, false≢true}
use Rattle.std.proofs.lemmas.Option.{none-some}
use Rattle.der_core.proofs.Numbers.{some_is}
use Rattle.recipe_text.specs.Reading.{cut, is_word}
use Rattle.recipe_text.proofs.Cuts.{Without, cut_again}
use Rattle.recipe_text.proofs.KeyLines.{word_is}

-- no octet is this one
abbrev pub lacks : ℕ → List ℕ → Bool
lacks c word = list_all (λ o. not (eqb o c)) word

pub without : (c : ℕ) (word : List ℕ) → lacks c word ≡ true → Without c word
without c [] h = tt
without c (o ∷ os) h =
    let b = and_parts (not (eqb o c)) (list_all (λ o. not (eqb o c)) os) h in
    ((λ same. false≢true (sym (ap not (eq-eqb o c same)) ∙ b.0)), without c os b.1)

pub word_same : (word : List ℕ) → is_word word word ≡ true
word_same [] = refl
word_same (o ∷ os) = rw (eq-eqb o o refl, word_same os) refl

pub isnt_word : (word this : List ℕ) (b : Bool) → b ≡ is_word word this → b ≡ false → word ≡ this → ⊥
isnt_word word this b is isnt same =
    false≢true (sym isnt ∙ is ∙ subst (λ (t : List ℕ). is_word t this ≡ true) (sym same) (word_same this))

-- the word of a kind, where it is this one or what else the rest gives
pub one_of : {K : Type 0} (name_of : K → List ℕ) (word this : List ℕ) (k l : K) (rest : Option K) → this ≡ name_of k
    → cond (is_word word this) (Some k) rest ≡ Some l → (rest ≡ Some l → word ≡ name_of l) → word ≡ name_of l
one_of name_of word this k l rest spelled e others = elim (cases_Bool (is_word word this)) [
  | inl is ↦ word_is word this is ∙ spelled ∙ ap name_of (some_is k l (rw is at e))
  | inr isnt ↦ others (rw isnt at e)
]

-- a line that begins with a word and a space is cut behind them alone
pub cut_is : (line name text word rest : List ℕ) → cut 32 line ≡ Some (name, text) → Without 32 word
    → line ≡ word ++ 32 ∷ rest → (name ≡ word) × (text ≡ rest)
cut_is line name text word rest e free is =
    let both : Some (name, text) ≡ Some (word, rest) = sym e ∙ ap (cut 32) is ∙ cut_again 32 word rest free in
    let parts = some_is _ _ both in
    (ap (λ x. x.0) parts, ap (λ x. x.1) parts)

pub not_cut : (line word rest : List ℕ) → cut 32 line ≡ None → Without 32 word → line ≡ word ++ 32 ∷ rest → ⊥
not_cut line word rest e free is = none-some (word, rest) (sym e ∙ ap (cut 32) is ∙ cut_again 32 word rest free)

pub uncut : (c : ℕ) (word : List ℕ) → Without c word → cut c word ≡ None
unfolding cut
uncut c [] h = refl
uncut c (o ∷ os) h = rw (ne_eqb o c h.0, uncut c os h.1) refl
