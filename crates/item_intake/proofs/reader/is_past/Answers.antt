use Rattle.std.proofs.Common.{◌≡◌, ℕ, ◌<◌, ◌≤◌, Option, Some, None, sym, subst, ◌∙◌, refl, inl, arith, nat_lt, true, false}
use Rattle.std.proofs.lemmas.Bool.{false≢true}
use Rattle.std.proofs.lemmas.Bool.Decides.{nat_tests}
use Rattle.item_intake.proofs.reader.is_past.Goals as goal

above : (m n : ℕ) → nat_lt m n ≡ true → m < n
above m n is = grind (arith, nat_tests)

below : (m n : ℕ) → nat_lt m n ≡ false → n ≤ m
below m n is = grind (arith, nat_tests)

same : (m n : ℕ) → ◌≡◌ {A = Option ℕ} (Some m) (Some n) → m ≡ n
same m n is = cc

none : (n : ℕ) → ◌≡◌ {A = Option ℕ} None (Some n) → ⊥
none n is = cc

pub returns-in-Some : goal.returns-in-Some
returns-in-Some c = record {
  was = λ e. absurd (false≢true (sym c.if-skips.false ∙ e));
  past = λ item was sees rest is.
      inl (c.in-Some.size, (c.in-Some.ensures.declared item sees c.in-Some.size).0 refl, above 17825792 c.in-Some.size is);
  kept = λ item sees is size d.
      subst (λ (n : ℕ). n ≤ 17825792) (same c.in-Some.size size ((c.in-Some.ensures.declared item sees size).1 d))
      (below 17825792 c.in-Some.size is);
}

pub returns-in-None : goal.returns-in-None
returns-in-None c = record {
  was = λ e. absurd (false≢true (sym c.if-skips.false ∙ e));
  past = λ item was sees rest is. absurd (false≢true is);
  kept = λ item sees is size d. absurd (none size ((c.in-None.ensures.declared item sees size).1 d));
}
