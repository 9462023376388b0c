use Rattle.std.proofs.Common.{◌≡◌, ◌≢◌, ◌+◌, [], ◌∷◌, ◌++◌, length, None, refl, sym, ◌∙◌, ap, arith, rules}
use Rattle.std.proofs.Common.{length-append}
use Rattle.std.proofs.lemmas.Option.{none-some}
use Rattle.std.proofs.lemmas.List.{nil_from_length}
use Rattle.recipe_text.proofs.KeyRecipes.{good_of_ok, bad_of_ok, good_of_err, bad_of_err, no_line, no_key, passed_one}
use Rattle.recipe_text.proofs.KeyRecipes.{another, left_over, whole, some_of, none_of}
use Rattle.recipe_text.proofs.key_recipe.read_key_recipe.Goals as goal

-- no line counts
pub returns-in_default : goal.returns-in_default
returns-in_default c =
    let text = c.args.text.now in
    let f = c.in_default.ensures.none in
    let bad = no_line text c.next.new.self.rest f.1 (rw c.new-lines.ensures.rest at f.2) f.0 in
    record {
      good = good_of_err text _ c.behind.result bad;
      bad = bad_of_err text _ c.behind.result.0 (omega (arith, c.behind.ensures, f.3, c.new-lines.ensures.number)) bad;
    }

-- the first that counts is no key line
pub returns-in_default-key_on : goal.returns-in_default-key_on
returns-in_default-key_on c =
    let text = c.args.text.now in
    let f = c.in-Some.ensures.found in
    let none : c.key_on.result ≡ None = search rules in
    let bad = no_key text c.in-Some.line.now c.next.new.self.rest f.2 (rw c.new-lines.ensures.rest at f.3) f.0 f.1
    (λ key says. none-some key (sym none ∙ (c.key_on.ensures.spelled key).1 says)) in
    record {
      good = good_of_err text _ c.here.result bad;
      bad = bad_of_err text _ c.here.result.0 (omega (arith, c.here.ensures, f.4, c.new-lines.ensures.number)) bad;
    }

-- another line counts
pub returns-then-is_some : goal.returns-then-is_some
returns-then-is_some c =
    let text = c.args.text.now in
    let line = c.in-Some.line.now in
    let key = c.in-Some-key_on.key in
    let f = c.in-Some.ensures.found in
    let says = (c.in-Some-key_on.ensures.spelled key).0 refl in
    let g = some_of c.next-2.result _ (sym c.is_some.ensures ∙ c.if-is_some.true) c.next-2.ensures.found in
    let passed = passed_one text line c.next.new.self.rest _ key f.2 g.1.2 (rw c.new-lines.ensures.rest at f.3) f.0 f.1
    says g.1.3 in
    let bad = another text g.0.now c.next-2.new.self.rest key _ passed g.1.0 g.1.1 in
    record {
      good = good_of_err text _ c.here-then-is_some.result bad;
      bad =
          bad_of_err text (length ((f.2 ++ line ∷ []) ++ g.1.2) + 1) c.here-then-is_some.result.0
          (omega (
            arith,
            c.here-then-is_some.ensures,
            g.1.4,
            f.4,
            c.new-lines.ensures.number,
            length-append (f.2 ++ line ∷ []) g.1.2,
            length-append f.2 (line ∷ []),
          )) bad;
    }

-- something is left behind the last line
pub returns-then-not-at_end : goal.returns-then-not-at_end
returns-then-not-at_end c =
    let text = c.args.text.now in
    let line = c.in-Some.line.now in
    let key = c.in-Some-key_on.key in
    let f = c.in-Some.ensures.found in
    let says = (c.in-Some-key_on.ensures.spelled key).0 refl in
    let g = none_of c.next-2.result _ (sym c.is_some.ensures ∙ c.if-is_some.false) c.next-2.ensures.none in
    let passed = passed_one text line c.next.new.self.rest _ key f.2 g.1 (rw c.new-lines.ensures.rest at f.3) f.0 f.1
    says g.2 in
    let more : length c.next-2.new.self.rest ≢ 0 = grind arith in
    let bad = left_over text c.next-2.new.self.rest key _ passed g.0 (λ nothing. more (ap length nothing)) in
    record {
      good = good_of_err text _ c.behind-then-not-at_end.result bad;
      bad =
          bad_of_err text (length ((f.2 ++ line ∷ []) ++ g.1) + 1) c.behind-then-not-at_end.result.0
          (omega (
            arith,
            c.behind-then-not-at_end.ensures,
            g.3,
            f.4,
            c.new-lines.ensures.number,
            length-append (f.2 ++ line ∷ []) g.1,
            length-append f.2 (line ∷ []),
          )) bad;
    }

-- nothing is left
pub returns : goal.returns
returns c =
    let text = c.args.text.now in
    let key = c.in-Some-key_on.key in
    let f = c.in-Some.ensures.found in
    let says = (c.in-Some-key_on.ensures.spelled key).0 refl in
    let g = none_of c.next-2.result _ (sym c.is_some.ensures ∙ c.if-is_some.false) c.next-2.ensures.none in
    let passed = passed_one text c.in-Some.line.now c.next.new.self.rest _ key f.2 g.1
    (rw c.new-lines.ensures.rest at f.3) f.0 f.1 says g.2 in
    let nothing : length c.next-2.new.self.rest ≡ 0 = grind arith in
    let recipe = whole text c.next-2.new.self.rest key _ passed (nil_from_length _ nothing) in
    record { good = good_of_ok text key recipe; bad = bad_of_ok text key recipe }
