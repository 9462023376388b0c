-- The plan that a schedule keeps.
use Rattle.edge_board.specs.BoardPlan.{BoardPlan}
use Rattle.edge_board.specs.declared.schedule.Schedule.{Schedule}

-- the plan of a schedule
abbrev pub plan_of : Schedule → BoardPlan
plan_of schedule = record {
  made = schedule.made;
  failing = schedule.failing.items;
  calls = schedule.calls;
  room = schedule.room;
  faults = schedule.faults;
}
