use Rattle.fwload_top.proofs.LeafLemmas.{leaves_ascend}
use Rattle.fwload_top.proofs.RoundLemmas.{rounds_are_runs, rounds_of_module}
use Rattle.fwload_top.proofs.laws.no_leaf_is_used_twice.Goals as goal

pub returns : goal.returns
returns g c = record {
  runs = λ told key image rounds holds are.
      rounds_are_runs c.each_image_has_one_holder.ensures.one told key image rounds holds are;
  loads = λ told m from image rounds found are tells.
      rounds_of_module c.each_image_has_one_holder.ensures.one c.cuts_are_rounds.ensures.rounds
      c.one_list_of_items.ensures.read told m from image rounds found are tells;
  ascends = leaves_ascend;
}
