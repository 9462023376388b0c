-- Key lines are read exactly.
use Rattle.std.proofs.Common.{◌≡◌, ℕ, ◌<◌, ◌≤◌, true, List, [], ◌∷◌, ◌++◌, length, Option, Some, None, Result, Ok}
use Rattle.std.proofs.Common.{Err, refl, sym, ◌∙◌, ap, subst, arith, cond, eqb-true, inl, inr}
use Rattle.std.specs.Prelude.{codes, ◌↔◌, nat_eq}
use Rattle.std.specs.Result.{result_ok}
use Rattle.std.specs.List.{list_all}
use Rattle.std.specs.Cmp.Lexicographic.{pointwise}
use Rattle.std.proofs.lemmas.Bool.{cases_Bool, and_parts, false≢true}
use Rattle.std.proofs.lemmas.List.Sums.{list_all-from_AllPass}
use Rattle.std.proofs.lemmas.Option.{cond_some, none-some}
use Rattle.der_core.specs.Reads.{Answers}
use Rattle.der_core.proofs.Numbers.{some_bind, some_is}
use Rattle.hex.specs.Hex.{decode_sized, is_hex_digit}
use Rattle.hex.specs.declared.error.FromHexError.{FromHexError}
use Rattle.hex.proofs.HexLemmas.{decode_of-ok, decode_sized-ok, decode_sized-twice}
use Rattle.lms_verify.specs.declared.kind.LmsKind.{LmsKind}
use Rattle.lms_verify.specs.declared.kind.LmsKind.TheVariants.{H5, H10, H15, H20, H25}
use Rattle.lms_verify.specs.declared.kind.OtsKind.{OtsKind}
use Rattle.lms_verify.specs.declared.kind.OtsKind.TheVariants.{W1, W2, W4, W8}
use Rattle.lms_verify.specs.Kinds.{height}
use Rattle.lms_sign.specs.declared.key.SignKey.{SignKey}
use Rattle.lms_sign.specs.PublicKeys.{IsSignKey}
use Rattle.module_record.specs.Reading.{KeyParts, view}
use Rattle.module_record.proofs.KeyLaws.{same_key}
use Rattle.recipe_text.specs.Lines.{IsHex, spaced}
use Rattle.recipe_text.specs.KeyRecipe.{IsKeyLine, tree_word, ots_word}
use Rattle.recipe_text.specs.Reading.{cut, is_word, tree_of, ots_of, decoded, parts_of, key_of}
use Rattle.recipe_text.proofs.Cuts.{Without, cut_takes, cut_again}

-- ---- words

pub word_is : (word this : List ℕ) → is_word word this ≡ true → word ≡ this
word_is [] [] e = refl
word_is [] (y ∷ ys) e = absurd (false≢true e)
word_is (x ∷ xs) [] e = absurd (false≢true e)
word_is (x ∷ xs) (y ∷ ys) e =
    let b = and_parts (nat_eq x y) (pointwise nat_eq xs ys) e in
    rw (eqb-true x y b.0, word_is xs ys b.1) refl

tree_of-word : (kind : LmsKind) → height kind ≤ 10 → tree_of (tree_word kind) ≡ Some kind
unfolding tree_of
tree_of-word H5 low = refl
tree_of-word H10 low = refl
tree_of-word H15 low = absurd (omega (arith, low))
tree_of-word H20 low = absurd (omega (arith, low))
tree_of-word H25 low = absurd (omega (arith, low))

tree_of-some : (word : List ℕ) (kind : LmsKind) → tree_of word ≡ Some kind → word ≡ tree_word kind
unfolding tree_of
tree_of-some word kind e = elim (cases_Bool (is_word word (codes "H5"))) [
  | inl is ↦ word_is word (codes "H5") is ∙ ap tree_word (some_is H5 kind (rw is at e))
  | inr isnt ↦
      let g = cond_some (is_word word (codes "H10")) H10 kind (rw isnt at e) in
      word_is word (codes "H10") g.0 ∙ ap tree_word g.1
]

ots_of-word : (ots : OtsKind) → ots_of (ots_word ots) ≡ Some ots
unfolding ots_of
ots_of-word W1 = refl
ots_of-word W2 = refl
ots_of-word W4 = refl
ots_of-word W8 = refl

-- the word of a kind, where it is this one or what else the rest gives
one_of : (word this : List ℕ) (kind ots : OtsKind) (rest : Option OtsKind) → this ≡ ots_word kind
    → cond (is_word word this) (Some kind) rest ≡ Some ots → (rest ≡ Some ots → word ≡ ots_word ots)
    → word ≡ ots_word ots
one_of word this kind ots rest spelled e others = elim (cases_Bool (is_word word this)) [
  | inl is ↦ word_is word this is ∙ spelled ∙ ap ots_word (some_is kind ots (rw is at e))
  | inr isnt ↦ others (rw isnt at e)
]

ots_of-some : (word : List ℕ) (ots : OtsKind) → ots_of word ≡ Some ots → word ≡ ots_word ots
unfolding ots_of
ots_of-some word ots e =
    one_of word (codes "W1") W1 ots _ refl e (λ e.
    one_of word (codes "W2") W2 ots _ refl e (λ e.
    one_of word (codes "W4") W4 ots _ refl e (λ e.
    one_of word (codes "W8") W8 ots None refl e (λ e. absurd (none-some ots e)))))

-- ---- HEX

pub ok_of : {V : Type 0} (r : Result V FromHexError) (v : V) → result_ok r ≡ Some v → r ≡ Ok v
ok_of (Ok w) v e = ap Ok (some_is w v e)
ok_of (Err f) v e = absurd (none-some v e)

pub decoded-some : (size : ℕ) (word octets : List ℕ) → 0 < size → decoded size word ≡ Some octets
    → IsHex word octets × (length octets ≡ size)
unfolding decoded
decoded-some size word octets some e =
    let ok = ok_of (decode_sized word size) octets e in
    let long = decode_sized-ok word size octets ok in
    let is = sym (decode_sized-twice word size long) ∙ ok in
    let twice = decode_of-ok word octets is in
    ((omega (arith, some, long), is), omega (arith, long, twice.2))

pub decoded-hex : (size : ℕ) (word octets : List ℕ) → IsHex word octets → length octets ≡ size
    → decoded size word ≡ Some octets
unfolding decoded
decoded-hex size word octets hex same =
    let twice = decode_of-ok word octets hex.1 in
    ap result_ok (decode_sized-twice word size (omega (arith, twice.2, same)) ∙ hex.1)

digits_only : (word : List ℕ) → list_all is_hex_digit word ≡ true → Without 32 word
digits_only [] h = tt
digits_only (o ∷ os) h =
    let b = and_parts (is_hex_digit o) (list_all is_hex_digit os) h in
    (λ e. false≢true (subst (λ (x : ℕ). is_hex_digit x ≡ true) e b.0), digits_only os b.1)

pub hex_only : (word octets : List ℕ) → IsHex word octets → Without 32 word
hex_only word octets hex =
    digits_only word (list_all-from_AllPass is_hex_digit word (decode_of-ok word octets hex.1).1)

-- ---- key lines

tree_only : (kind : LmsKind) → Without 32 (tree_word kind)
tree_only H5 = ((λ e. omega (arith, e)), ((λ e. omega (arith, e)), tt))
tree_only H10 = ((λ e. omega (arith, e)), ((λ e. omega (arith, e)), ((λ e. omega (arith, e)), tt)))
tree_only H15 = ((λ e. omega (arith, e)), ((λ e. omega (arith, e)), ((λ e. omega (arith, e)), tt)))
tree_only H20 = ((λ e. omega (arith, e)), ((λ e. omega (arith, e)), ((λ e. omega (arith, e)), tt)))
tree_only H25 = ((λ e. omega (arith, e)), ((λ e. omega (arith, e)), ((λ e. omega (arith, e)), tt)))

ots_only : (ots : OtsKind) → Without 32 (ots_word ots)
ots_only W1 = ((λ e. omega (arith, e)), ((λ e. omega (arith, e)), tt))
ots_only W2 = ((λ e. omega (arith, e)), ((λ e. omega (arith, e)), tt))
ots_only W4 = ((λ e. omega (arith, e)), ((λ e. omega (arith, e)), tt))
ots_only W8 = ((λ e. omega (arith, e)), ((λ e. omega (arith, e)), tt))

key_only : Without 32 (codes "key")
key_only = ((λ e. omega (arith, e)), ((λ e. omega (arith, e)), ((λ e. omega (arith, e)), tt)))

pub key_of-line : (line : List ℕ) (key : SignKey) → IsKeyLine line key → key_of line ≡ Some (view key)
unfolding key_of parts_of
key_of-line line key h = ap key_of h.spelled ∙ rw (
  cut_again 32 (codes "key") (spaced (tree_word key.kind ∷ ots_word key.ots ∷ h.seed ∷ h.id ∷ [])) key_only,
  cut_again 32 (tree_word key.kind) (spaced (ots_word key.ots ∷ h.seed ∷ h.id ∷ [])) (tree_only key.kind),
  cut_again 32 (ots_word key.ots) (spaced (h.seed ∷ h.id ∷ [])) (ots_only key.ots),
  cut_again 32 h.seed h.id (hex_only h.seed key.seed h.seed_hex),
  decoded-hex 32 h.seed key.seed h.seed_hex h.valid.seed,
  decoded-hex 16 h.id key.id h.id_hex h.valid.id,
  tree_of-word key.kind h.valid.low,
  ots_of-word key.ots,
) refl

-- words that are known one after the other
spelled_so : (words tree-word tree rest ots-word ots last seed id : List ℕ) → words ≡ tree ++ 32 ∷ rest
    → tree ≡ tree-word → rest ≡ ots ++ 32 ∷ last → ots ≡ ots-word → last ≡ seed ++ 32 ∷ id
    → words ≡ tree-word ++ 32 ∷ (ots-word ++ 32 ∷ (seed ++ 32 ∷ id))
spelled_so words tree-word tree rest ots-word ots last seed id a b c d e = a ∙ rw (b, c, d, e) refl

-- what stands behind `key` is these words
words_of : (words : List ℕ) (key : SignKey) → parts_of words ≡ Some (view key)
    → (seed : List ℕ) × (id : List ℕ) × IsSignKey key × IsHex seed key.seed × IsHex id key.id
    × (words ≡ spaced (tree_word key.kind ∷ ots_word key.ots ∷ seed ∷ id ∷ []))
unfolding parts_of
words_of words key e =
    let tree = some_bind (cut 32 words) _ (view key) e in
    let ots = some_bind (cut 32 tree.0.1) _ (view key) tree.2 in
    let last = some_bind (cut 32 ots.0.1) _ (view key) ots.2 in
    let seed = some_bind (decoded 32 last.0.0) _ (view key) last.2 in
    let id = some_bind (decoded 16 last.0.1) _ (view key) seed.2 in
    let kind = some_bind (tree_of tree.0.0) _ (view key) id.2 in
    let w = some_bind (ots_of ots.0.0) _ (view key) kind.2 in
    let parts = some_is _ (view key) w.2 in
    let seed-is : seed.0 ≡ key.seed = ap (λ (p : KeyParts). p.seed) parts in
    let id-is : id.0 ≡ key.id = ap (λ (p : KeyParts). p.id) parts in
    let kind-is : kind.0 ≡ key.kind = ap (λ (p : KeyParts). p.kind) parts in
    let ots-is : w.0 ≡ key.ots = ap (λ (p : KeyParts). p.ots) parts in
    let seed-hex = decoded-some 32 last.0.0 key.seed (omega arith) (seed.1 ∙ ap Some seed-is) in
    let id-hex = decoded-some 16 last.0.1 key.id (omega arith) (id.1 ∙ ap Some id-is) in
    let tree-word : tree.0.0 ≡ tree_word key.kind = tree_of-some tree.0.0 key.kind (kind.1 ∙ ap Some kind-is) in
    let ots-word' : ots.0.0 ≡ ots_word key.ots = ots_of-some ots.0.0 key.ots (w.1 ∙ ap Some ots-is) in
    let last-takes = cut_takes 32 ots.0.1 last.0 last.1 in
    let ots-takes = cut_takes 32 tree.0.1 ots.0 ots.1 in
    let tree-takes = cut_takes 32 words tree.0 tree.1 in (
      last.0.0,
      last.0.1,
      record { seed = seed-hex.1; id = id-hex.1; low = key.low },
      seed-hex.0,
      id-hex.0,
      spelled_so words _ _ _ _ _ _ _ _ tree-takes.1 tree-word ots-takes.1 ots-word' last-takes.1,
    )

named_so : (line name rest words : List ℕ) → line ≡ name ++ 32 ∷ rest → name ≡ codes "key" → rest ≡ words
    → line ≡ codes "key" ++ 32 ∷ words
named_so line name rest words a b c = a ∙ rw (b, c) refl

behind_key : (name rest : List ℕ) (p : KeyParts)
    → cond (is_word name (codes "key")) (parts_of rest) None ≡ Some p → (name ≡ codes "key") × (parts_of rest ≡ Some p)
behind_key name rest p e = elim (cases_Bool (is_word name (codes "key"))) [
  | inl is ↦ (word_is name (codes "key") is, rw is at e)
  | inr isnt ↦ absurd (none-some p (rw isnt at e))
]

pub line_of : (line : List ℕ) (key : SignKey) → key_of line ≡ Some (view key) → IsKeyLine line key
unfolding key_of
line_of line key e =
    let name = some_bind (cut 32 line) _ (view key) e in
    let after = behind_key name.0.0 name.0.1 (view key) name.2 in
    let w = words_of name.0.1 key after.1 in
    let takes = cut_takes 32 line name.0 name.1 in
    record {
      valid = w.2;
      seed = w.0;
      id = w.1;
      seed_hex = w.3;
      id_hex = w.4;
      spelled = named_so line name.0.0 name.0.1 _ takes.1 after.0 w.5;
    }

pub one_key : (line : List ℕ) (k l : SignKey) → IsKeyLine line k → IsKeyLine line l → k ≡ l
one_key line k l x y = same_key k l (some_is _ _ (sym (key_of-line line k x) ∙ key_of-line line l y))

pub line_reads : (line : List ℕ) (result : Option SignKey) → Answers view result (key_of line)
    → (key : SignKey) → (result ≡ Some key) ↔ IsKeyLine line key
line_reads line (Some x) e key = (
  λ is. subst (IsKeyLine line) (some_is x key is) (line_of line x e),
  λ h. ap Some (one_key line x key (line_of line x e) h),
)
line_reads line None e key = (
  λ is. absurd (none-some key is),
  λ h. absurd (none-some (view key) (sym e ∙ key_of-line line key h)),
)

behind_so : (words : List ℕ) → key_of (spaced (codes "key" ∷ words ∷ [])) ≡ parts_of words
unfolding key_of
behind_so words = rw (cut_again 32 (codes "key") words key_only) refl

-- the words behind `key` are read as the line is
pub words_read : (words : List ℕ) (result : Option SignKey) → Answers view result (parts_of words)
    → (key : SignKey) → (result ≡ Some key) ↔ IsKeyLine (spaced (codes "key" ∷ words ∷ [])) key
words_read words result e =
    let line = spaced (codes "key" ∷ words ∷ []) in
    line_reads line result (subst (Answers view result) (sym (behind_so words)) e)
