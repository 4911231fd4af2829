-- The files of a generated example.
use Rattle.std.specs.Prelude.{◌≡◌, ℕ, List, Option, Some, codes}
use Rattle.apx_gen.specs.Generated.{generator_of, lines_text, application_text, script_text}

-- a folder has the files of the example of a number with so many lines
pub record HasExample (number size : ℕ) (told : List ℕ → Option (List ℕ)) : Type 0 where
  -- the application
  pub app : told (codes "app.json") ≡ Some application_text
  -- the lines that it reads
  pub lines : told (codes "gen.txt") ≡ Some (lines_text size (generator_of number))
  -- the script
  pub script : told (codes "script.txt") ≡ Some (script_text size)
