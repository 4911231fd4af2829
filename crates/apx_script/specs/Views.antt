-- Commands without where their names lie in memory.
use Rattle.std.specs.Prelude.{ℕ, List}
use Rattle.std.specs.Borrow.{Bor}
use Rattle.apx_pass.specs.Script as script
use Rattle.apx_script.specs.declared.act.Act.{Act}
use Rattle.apx_script.specs.declared.act.Act.TheVariants.{Kill, Repartition}
use Rattle.apx_script.specs.declared.act.Point.{Point}
use Rattle.apx_script.specs.declared.act.Point.TheVariants.{Before, Staged, Written, Done}

-- a point of a window
abbrev pub point_view : Point → script.Point
point_view Before = script.Before
point_view Staged = script.Staged
point_view Written = script.Written
point_view Done = script.Done

-- what a line commands
abbrev pub act_view : Act → script.Act
act_view (Kill point window part name) = script.Kill (point_view point) window part name
act_view (Repartition window count name) = script.Repartition window count name

-- two lent parts
abbrev pub parts_of : Bor (List ℕ) × Bor (List ℕ) → List ℕ × List ℕ
parts_of p = (p.0.now, p.1.now)

-- a kill with a lent name
abbrev pub kill_from : Point × ℕ × ℕ × Bor (List ℕ) → script.Act
kill_from k = script.Kill (point_view k.0) k.1 k.2 k.3.now

-- a repartition with a lent name
abbrev pub repartition_from : ℕ × ℕ × Bor (List ℕ) → script.Act
repartition_from r = script.Repartition r.0 r.1 r.2.now
