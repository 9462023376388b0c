-- A run of `load` among those of all commands.
use Rattle.std.proofs.Common.{◌≡◌, ◌∙◌, ℕ, ◌≤◌, List, length, Option, Some, None, ap, refl, subst, sym, arith, length-append}
use Rattle.std.specs.Prelude.{IfSome}
use Rattle.std.specs.Option.{IsSomeAnd}
use Rattle.loader_core.specs.declared.loading.Ending.{Ending}
use Rattle.loader_core.specs.declared.loading.Ending.TheVariants as endings
use Rattle.loader_core.specs.Loading.{load_limit}
use Rattle.fwload_top.specs.declared.status.Status.{Status}
use Rattle.fwload_top.specs.declared.status.Status.TheVariants as statuses
use Rattle.fwload_top.specs.Status.{IsFinished, IsSilent}
use Rattle.fwload_top.specs.Seen.{Seen}
use Rattle.fwload_top.specs.HasCauses.{HasCauses, Undisturbed}
use Rattle.fwload_top.specs.Load.{RunsLoad, IsLoadReady, status_of}

-- ---- statuses

-- the ending that a status is of
abbrev ending_of : Status → Ending
ending_of statuses.Done = endings.Done
ending_of statuses.SomeRefused = endings.SomeRefused
ending_of statuses.NotAModule = endings.NotAModule
ending_of statuses.DeviceFault = endings.DeviceFault
ending_of statuses.SourceFault = endings.SourceFault
ending_of statuses.InputTooLong = endings.InputTooLong
ending_of statuses.NoMemory = endings.NoMemory
ending_of statuses.Usage = endings.NoMemory
ending_of statuses.Refused = endings.NoMemory
ending_of statuses.KeySpent = endings.NoMemory

ending_back : (e : Ending) → ending_of (status_of e) ≡ e
ending_back endings.Done = refl
ending_back endings.SomeRefused = refl
ending_back endings.NotAModule = refl
ending_back endings.DeviceFault = refl
ending_back endings.SourceFault = refl
ending_back endings.InputTooLong = refl
ending_back endings.NoMemory = refl

pub no_load_usage : (e : Ending) → status_of e ≡ statuses.Usage → ⊥
no_load_usage endings.Done is = cc
no_load_usage endings.SomeRefused is = cc
no_load_usage endings.NotAModule is = cc
no_load_usage endings.DeviceFault is = cc
no_load_usage endings.SourceFault is = cc
no_load_usage endings.InputTooLong is = cc
no_load_usage endings.NoMemory is = cc

silent_ending : (e : Ending) → IsSilent (status_of e) → e ≡ endings.NotAModule
silent_ending endings.NotAModule silent = refl
silent_ending endings.Done silent = absurd silent
silent_ending endings.SomeRefused silent = absurd silent
silent_ending endings.DeviceFault silent = absurd silent
silent_ending endings.SourceFault silent = absurd silent
silent_ending endings.InputTooLong silent = absurd silent
silent_ending endings.NoMemory silent = absurd silent

-- ---- causes

pub load_causes : (at : ℕ) (r : Seen) → RunsLoad at r → HasCauses load_limit r
load_causes at r run = record {
  source_count = run.runs.causes.source_count;
  device_count = run.runs.causes.device_count;
  source_fault = λ is. run.runs.causes.source_fault (ending is);
  device_fault = λ is. run.runs.causes.device_fault (ending is);
  source_calm = λ calm. run.runs.causes.source_calm (λ is. calm (status is));
  device_calm = λ calm. run.runs.causes.device_calm (λ is. calm (status is));
  too_long = λ low.
      let long = run.runs.causes.too_long low in
      ((λ is. long.0 (ending is)), λ more. status (long.1 more));
  most = run.runs.causes.most;
  silent = λ silent. run.runs.causes.silent (silent_ending run.ending (subst IsSilent run.status silent));
}
  where
    ending : {e : Ending} → r.status ≡ status_of e → run.ending ≡ e
    ending {e} is = sym (ending_back run.ending) ∙ ap ending_of (sym run.status ∙ is) ∙ ending_back e

    status : {e : Ending} → run.ending ≡ e → r.status ≡ status_of e
    status is = run.status ∙ ap status_of is

-- ---- what brings it to its end

input_few : (left : Option (List ℕ)) (input : List ℕ) → IfSome left (λ told. told ≡ input)
    → IsSomeAnd left (λ told. length told ≤ load_limit) → length input ≤ load_limit
input_few None input told few = absurd few
input_few (Some xs) input told few = omega (arith, few, ap length told)

pub load_completes : (at : ℕ) (r : Seen) → RunsLoad at r → IsLoadReady r → Undisturbed r → IsFinished r.status
load_completes at r run ready calm = subst IsFinished (sym run.status) (by_ending run.ending refl)
  where
    few : length run.runs.input ≤ load_limit
    few = input_few r.source.left run.runs.input run.runs.takes.told ready.input

    by_ending : (e : Ending) → run.ending ≡ e → IsFinished (status_of e)
    by_ending endings.Done is = tt
    by_ending endings.SomeRefused is = tt
    by_ending endings.NoMemory is = tt
    by_ending endings.NotAModule is =
        run.runs.no_module ready.tells is ready.module_is.0 ready.module_is.1 ready.module_is.2
    by_ending endings.DeviceFault is = calm.device (run.runs.causes.device_fault is)
    by_ending endings.SourceFault is = calm.source (run.runs.causes.source_fault is)
    by_ending endings.InputTooLong is =
        omega (
          arith,
          few,
          run.runs.too_much is,
          ap length run.runs.takes.parts,
          length-append run.runs.taken run.runs.rest,
        )
