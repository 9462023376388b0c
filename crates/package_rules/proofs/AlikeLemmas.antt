-- Lists of conditions that hold or fail alike.
use Rattle.std.proofs.Common.{◌≡◌, ◌↔◌, ℕ, List, [], ◌∷◌, ◌≤◌, inl, inr, refl, sym, subst, ◌∙◌}
use Rattle.std.proofs.lemmas.List.{length-map}
use Rattle.der_core.specs.Asked.{Asked, AllHold, FirstFail}
use Rattle.package_attrs.specs.Description.{Description}
use Rattle.config_table.specs.State.{State, entry_with, state_with}
use Rattle.dependency_check.proofs.NeedLemmas.{AllInstalled-state_with, AllMet-state_with, Unbroken-state_with}
use Rattle.package_rules.specs.Module.{Module}
use Rattle.package_rules.specs.Conditions.{module_conditions, overflow_conditions}

-- conditions of the same numbers, each of which holds where the other does
AreAlike : List Asked → List Asked → Type 0
AreAlike [] [] = Unit {0}
AreAlike [] (d ∷ ds) = ⊥
AreAlike (c ∷ cs) [] = ⊥
AreAlike (c ∷ cs) (d ∷ ds) = (c.number ≡ d.number) × (c.holds ↔ d.holds) × AreAlike cs ds

all_alike : (a b : List Asked) → AreAlike a b → AllHold a ↔ AllHold b
unfolding AreAlike
all_alike [] [] alike = (λ all. all, λ all. all)
all_alike [] (d ∷ ds) alike = absurd alike
all_alike (c ∷ cs) [] alike = absurd alike
all_alike (c ∷ cs) (d ∷ ds) alike =
    let rest = all_alike cs ds alike.2 in
    (λ all. (alike.1.0 all.0, rest.0 all.1), λ all. (alike.1.1 all.0, rest.1 all.1))

first_alike : (a b : List Asked) (n : ℕ) → AreAlike a b → FirstFail a n ↔ FirstFail b n
unfolding AreAlike
first_alike [] [] n alike = (λ fails. fails, λ fails. fails)
first_alike [] (d ∷ ds) n alike = absurd alike
first_alike (c ∷ cs) [] n alike = absurd alike
first_alike (c ∷ cs) (d ∷ ds) n alike = let rest = first_alike cs ds n alike.2 in (to rest.0, back rest.1)
  where
    to : (FirstFail cs n → FirstFail ds n) → FirstFail (c ∷ cs) n → FirstFail (d ∷ ds) n
    to rest (inl f) = inl (f.0 ∙ alike.0, λ holds. f.1 (alike.1.1 holds))
    to rest (inr f) = inr (alike.1.0 f.0, rest f.1)

    back : (FirstFail ds n → FirstFail cs n) → FirstFail (d ∷ ds) n → FirstFail (c ∷ cs) n
    back rest (inl f) = inl (f.0 ∙ sym alike.0, λ holds. f.1 (alike.1.0 holds))
    back rest (inr f) = inr (alike.1.1 f.0, rest f.1)

-- what holds holds
same : {A : Type 0} → A ↔ A
same = (λ a. a, λ a. a)

module _ {I J : Type 0} (f : I → J) where
  modules_alike : (m : Module) (described : Description) (before after : State I)
      → AreAlike (module_conditions m described (state_with f before) (state_with f after))
      (module_conditions m described before after)
  unfolding AreAlike
  modules_alike m described before after = (
    refl,
    same,
    (
      refl,
      same,
      (
        refl,
        same,
        (
          refl,
          same,
          (
            refl,
            AllInstalled-state_with f described.info.dependencies before,
            (
              refl,
              AllMet-state_with f described.info.dependencies before,
              (refl, Unbroken-state_with f described.identifier.name before after, tt),
            ),
          ),
        ),
      ),
    ),
  )

  pub modules_hold : (m : Module) (described : Description) (before after : State I)
      → AllHold (module_conditions m described (state_with f before) (state_with f after))
      ↔ AllHold (module_conditions m described before after)
  modules_hold m described before after = all_alike _ _ (modules_alike m described before after)

  pub modules_first : (m : Module) (described : Description) (before after : State I) (n : ℕ)
      → FirstFail (module_conditions m described (state_with f before) (state_with f after)) n
      ↔ FirstFail (module_conditions m described before after) n
  modules_first m described before after n = first_alike _ _ n (modules_alike m described before after)

  limits_alike : (after : State I) → AreAlike (overflow_conditions (state_with f after)) (overflow_conditions after)
  unfolding AreAlike
  limits_alike after =
      let count = length-map after.packages (entry_with f) in
      (refl, (λ fits. subst (λ n. n ≤ 64) count fits, λ fits. subst (λ n. n ≤ 64) (sym count) fits), (refl, same, tt))

  pub limits_hold : (after : State I)
      → AllHold (overflow_conditions (state_with f after)) ↔ AllHold (overflow_conditions after)
  limits_hold after = all_alike _ _ (limits_alike after)

  pub limits_first : (after : State I) (n : ℕ)
      → FirstFail (overflow_conditions (state_with f after)) n ↔ FirstFail (overflow_conditions after) n
  limits_first after n = first_alike _ _ n (limits_alike after)
