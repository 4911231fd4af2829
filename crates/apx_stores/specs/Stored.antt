-- What contracts see of a run with its devices.
use Rattle.apx_course.specs.Course.{Standing}

-- the devices themselves, since what they hold and count are functions of them, and where the run stands
pub record Stored (K V P F : Type 0) : Type 0 where
  -- the sink's store
  pub keeper : K
  -- the checkpoint store
  pub vault : V
  -- the maker of spools
  pub spools : P
  -- where the run stands
  pub course : Standing F
