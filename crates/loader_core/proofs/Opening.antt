-- A run that opened no store, or found no memory for its input: nothing was taken or sent.
use Rattle.std.proofs.Common.{◌≡◌, ◌⊎◌, ⊎_elim, inl, inr, ℕ, ◌+◌, ◌<◌, ◌≤◌, ◌^◌, List, [], ◌∷◌, ◌++◌, Bool, false, length, refl, sym, ◌∙◌, ap, subst, arith, append-nil, Option, Some, None, IfSome, IsSomeAnd}
use Rattle.edge_board.specs.Board.{View, IsHonest, IsSettled, SameTest}
use Rattle.edge_board.specs.Causes.{Rose}
use Rattle.edge_board.specs.Runs.{LeavesOnly}
use Rattle.edge_board.specs.Supply.{Supply}
use Rattle.der_core.proofs.Sequences.{none_of_none}
use Rattle.module_record.specs.declared.module.Module.{Module}
use Rattle.bank_layout.specs.declared.bank.Bank.{Bank}
use Rattle.bank_layout.specs.Manifest.{Manifest}
use Rattle.bank_layout.specs.Recovery.{Standing, Recovers, HoldsModule, standing_of}
use Rattle.bank_layout.specs.Recovery.Holder.{module_board}
use Rattle.module_store.specs.Store.{HoldsNoModule}
use Rattle.module_store.specs.declared.fault.OpenFault.{OpenFault}
use Rattle.module_store.specs.declared.fault.OpenFault.TheVariants as opens
use Rattle.load_claims.specs.Boards.{Loads, LeavesRun}
use Rattle.load_claims.proofs.Serving.{cuts_keep}
use Rattle.load_claims.proofs.Steps.{opens as opening}
use Rattle.loader_core.specs.declared.loading.Ending.TheVariants as endings
use Rattle.loader_core.specs.Endings.{open_ending}
use Rattle.loader_core.specs.Loading.{LoadRuns, LoadCauses, EndsAs, Untouched, HasNoModule, load_seen}

-- what opening leaves
pub record Opened (told : Type 0) (v0 v1 : View) : Type 0 where
  pub blocks : v1.blocks ≡ v0.blocks
  pub cells : told → v1.cells ≡ v0.cells
  pub silent : SameTest v0.sent v1.sent
  pub images : told → IsSettled v0 → LeavesOnly v0 v1 (λ image s. (image ≡ v0.cells) × v0.sent s)
  pub erased : v1.erased ≡ v0.erased

nothing_read : (left : Option (List ℕ)) (known : List ℕ) → IfSome left (λ l. l ≡ known) → IfSome left (λ l. IsSomeAnd left (λ now. now ≡ known))
nothing_read None known h = tt
nothing_read (Some xs) known h = h

known_of : (left : Option (List ℕ)) → (input : List ℕ) × IfSome left (λ l. l ≡ input)
known_of None = ([], tt)
known_of (Some xs) = (xs, refl)

module _ {told moments : Type 0} (at : ℕ) (v0 v1 : View) (s0 : Supply) (honest0 : IsHonest told moments v0) (o : Opened told v0 v1) where
  none_loaded : told → (m : Module) (start : Standing) → Recovers v0.cells (module_board m start) → Loads m at start start [] false v0 v1
  none_loaded tells m start found = record {
    verdicts = [];
    judged = tt;
    all = refl;
    refused_is = refl;
    end_is = refl;
    sent = λ p h. subst v1.sent (sym (append-nil p)) (o.silent.forth p h);
    found = subst (λ (c : List ℕ). Recovers c (module_board m start)) (sym (o.cells tells)) found;
  }

  stopped_causes : (f : OpenFault) → v0.faults ≤ v1.faults → (¬ (f ≡ opens.Fault) → v1.faults ≡ v0.faults) → (f ≡ opens.Fault → Rose v0.faults v1.faults)
      → LoadCauses (load_seen told moments (open_ending f) s0 s0 v0 v1)
  stopped_causes opens.NotAModule later calm fault = record {
    source_count = omega arith;
    device_count = later;
    source_fault = λ e. absurd cc;
    device_fault = λ e. absurd cc;
    source_calm = λ e. refl;
    device_calm = λ e. calm (λ x. absurd cc);
    too_long = λ small. (λ e. absurd cc, λ lt. absurd (omega (arith, lt)));
    most = λ small. omega arith;
    silent = λ e. o.silent;
  }
  stopped_causes opens.Fault later calm fault = record {
    source_count = omega arith;
    device_count = later;
    source_fault = λ e. absurd cc;
    device_fault = λ e. fault refl;
    source_calm = λ e. refl;
    device_calm = λ e. absurd (e refl);
    too_long = λ small. (λ e. absurd cc, λ lt. absurd (omega (arith, lt)));
    most = λ small. omega arith;
    silent = λ e. o.silent;
  }
  stopped_causes opens.Memory later calm fault = record {
    source_count = omega arith;
    device_count = later;
    source_fault = λ e. absurd cc;
    device_fault = λ e. absurd cc;
    source_calm = λ e. refl;
    device_calm = λ e. calm (λ x. absurd cc);
    too_long = λ small. (λ e. absurd cc, λ lt. absurd (omega (arith, lt)));
    most = λ small. omega arith;
    silent = λ e. o.silent;
  }

  stopped_ends : (f : OpenFault) → (f ≡ opens.NotAModule → told → HoldsNoModule v0.cells) → told → (m : Module) (start : Standing)
      → Recovers v0.cells (module_board m start) → (items : List (List ℕ)) (rest : List ℕ)
      → EndsAs (open_ending f) m at start items [] rest (load_seen told moments (open_ending f) s0 s0 v0 v1)
  stopped_ends opens.NotAModule none tells m start (running, manifest, holds, is) items rest = none refl tells m running manifest holds
  stopped_ends opens.Fault none tells m start found items rest =
      ([], tt, (0, omega arith, λ p h. subst v1.sent (sym (append-nil p)) (o.silent.forth p h)))
  stopped_ends opens.Memory none tells m start found items rest =
      ([], [], record { whole = refl; each = tt; goes_on = none_of_none }, (0, omega arith, (start, false, none_loaded tells m start found)))

  stopped_untouched : (f : OpenFault) → told → Untouched (load_seen told moments (open_ending f) s0 s0 v0 v1)
  stopped_untouched opens.NotAModule tells = record { source = refl; silent = o.silent; cells = o.cells tells; not_done = (λ e. absurd cc, λ e. absurd cc); not_read = (λ e. absurd cc, λ e. absurd cc) }
  stopped_untouched opens.Fault tells = record { source = refl; silent = o.silent; cells = o.cells tells; not_done = (λ e. absurd cc, λ e. absurd cc); not_read = (λ e. absurd cc, λ e. absurd cc) }
  stopped_untouched opens.Memory tells = record { source = refl; silent = o.silent; cells = o.cells tells; not_done = (λ e. absurd cc, λ e. absurd cc); not_read = (λ e. absurd cc, λ e. absurd cc) }

  not_source : (f : OpenFault) → open_ending f ≡ endings.SourceFault → ⊥
  not_source opens.NotAModule e = cc
  not_source opens.Fault e = cc
  not_source opens.Memory e = cc

  not_too_long : (f : OpenFault) → open_ending f ≡ endings.InputTooLong → ⊥
  not_too_long opens.NotAModule e = cc
  not_too_long opens.Fault e = cc
  not_too_long opens.Memory e = cc

  not_a_module : (f : OpenFault) → open_ending f ≡ endings.NotAModule → f ≡ opens.NotAModule
  not_a_module opens.NotAModule e = refl
  not_a_module opens.Fault e = absurd cc
  not_a_module opens.Memory e = absurd cc

  pub stopped : (f : OpenFault) → v0.faults ≤ v1.faults → (¬ (f ≡ opens.Fault) → v1.faults ≡ v0.faults) → (f ≡ opens.Fault → Rose v0.faults v1.faults)
      → (f ≡ opens.NotAModule → told → HoldsNoModule v0.cells) → LoadRuns at (load_seen told moments (open_ending f) s0 s0 v0 v1)
  stopped f later calm fault none =
      let known = known_of s0.left in
      record {
        causes = stopped_causes f later calm fault;
        blocks = o.blocks;
        input = known.0;
        taken = [];
        rest = known.0;
        takes = record { told = known.1; untaken = nothing_read s0.left known.0 known.1; parts = refl; count = λ small. omega arith };
        too_much = λ e. absurd (not_too_long f e);
        no_module = λ tells e m standing found. none (not_a_module f e) tells m found.0 found.1 found.2;
        ends = λ tells m start found items is. stopped_ends f none tells m start found items known.0;
        untouched = λ tells no. stopped_untouched f tells;
        moments = λ t settled m start found items is. cuts_keep m at start items v0 v1 (opening v0 v1 m at start items found (o.images (honest0.whole t) settled));
        only_image = λ t settled no. o.images (honest0.whole t) settled;
        rises = omega (arith, o.erased);
        erased = λ t items is. omega (arith, o.erased);
        stores = λ t e m start found. absurd (not_source f e);
      }
