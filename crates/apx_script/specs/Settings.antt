-- What a run is told beside its files.
use Rattle.std.specs.Prelude.{ℕ, ◌≤◌}
use Rattle.apx_script.specs.declared.settings.Settings.{Settings}

-- the settings of a run that is told none
abbrev pub usual : Settings
usual = record { base = 1000000000; every = 60; block = 65536; keep = 64 }

-- the numbers are within their limits
pub record IsSettings (settings : Settings) : Type 0 where
  -- the identifiers of all windows fit
  pub base : settings.base ≤ 4294959295
  -- there are 1 to 1,000 windows from one checkpoint to the next
  pub some_windows : 1 ≤ settings.every
  -- not more than these
  pub few_windows : settings.every ≤ 1000
  -- a block holds the greatest message
  pub wide : 1040 ≤ settings.block
  -- and is no longer than 1 MiB
  pub narrow : settings.block ≤ 1048576
  -- 1 to 1,000,000 blocks of a list stay in memory
  pub some_blocks : 1 ≤ settings.keep
  -- not more than these
  pub few_blocks : settings.keep ≤ 1000000
