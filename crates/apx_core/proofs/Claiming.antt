-- A partition that may begin a window: its sources can lend, and its claim has what the window's work asks for.
use Rattle.std.specs.Prelude.{IfSome}
use Rattle.std.proofs.Common.{◌≡◌, ℕ, ◌-◌, ◌<◌, Bool, true, false, List, [], length, get_or, Option, Some, IsTrue, refl, sym, ap, subst, ◌∙◌, arith}
use Rattle.apx_tuple.specs.declared.progress.Progress.{Progress}
use Rattle.apx_tuple.specs.Progress.{progress_size}
use Rattle.apx_device.specs.declared.vault.SaveId.{SaveId}
use Rattle.apx_history.specs.Plan.{reads, boundary_at, number}
use Rattle.apx_history.specs.State.{State, oper, parts, slot, IsPart}
use Rattle.apx_history.specs.Conditions.{CanStart}
use Rattle.apx_history.specs.Kept.{IsPlan, Kept}
use Rattle.apx_history.proofs.Frames.{in_epoch}
use Rattle.apx_machine.specs.Small.{IsSmall}
use Rattle.apx_machine.proofs.Few.{parts_few}
use Rattle.apx_list.specs.declared.block.Block.{Block}
use Rattle.apx_pass.specs.Graph.{node_at}
use Rattle.apx_pass.specs.Pass.{sink_of}
use Rattle.apx_job.specs.Job.{plan_of, boundary_of, in_force}
use Rattle.apx_shares.specs.Given.{part_progress}
use Rattle.apx_part.specs.Fed.{plan_in, IsFed}
use Rattle.apx_dag.specs.Valid.{IsGraph}
use Rattle.apx_course.specs.Run.{Run}
use Rattle.apx_held.specs.Holding.{Holding, holding}
use Rattle.apx_held.specs.Partition.{parts_from, progress_at}
use Rattle.apx_held.specs.Fits.{Telling, FitsList, Fits}
use Rattle.apx_held.specs.Lent.{AreLent}
use Rattle.apx_held.proofs.Feeding.{lent_some, lent_all}
use Rattle.apx_core.specs.Claim.{AreWhole, IsClaim}
use Rattle.apx_core.specs.Ports.{reads_left, reads_right, CanLendAll, IsPort}
use Rattle.apx_core.proofs.Graphs.{by_ports, left_read, right_read, left_inner, right_inner}
use Rattle.apx_core.proofs.Planned.{windows_are, operators_are, boundary_is, force_is}
use Rattle.apx_core.proofs.Sources.{IsRead, is_read}

module _ (run : Run) (tells : Telling) (reads_told : Bool) (at : SaveId → Option (List ℕ)) (m : State) (hs : List (List Holding)) (o i w : ℕ)
    (planned : run.plan ≡ plan_of run.job) (is : IsPlan run.plan) (small : IsSmall run.plan) (kept : Kept run.plan m) (graph : IsGraph run.job.flow.nodes)
    (fits : Fits run.job tells at m hs) (can : CanStart run.plan m o i w) where
  pub op_there : o < length run.job.flow.nodes
  op_there = let a = can.part.0 in let b = kept.ops in let d = operators_are run.plan run.job planned in omega (arith, a, b, d)

  -- ---- a source

  module _ (s : ℕ) (read_s : reads run.plan o s ≡ true) (inner : s ≡ sink_of run.job.flow.nodes → ⊥) where
    read : IsRead run.plan m s w
    read = is_read run.plan is m kept o i w s can read_s

    part_of : (j : ℕ) → j < length (get_or hs s []) → IsPart m s j
    part_of j lt = (read.there, let a = fits.sizes s read.there in omega (arith, lt, a))

    list_of : (j : ℕ) → j < length (get_or hs s []) → FitsList run.job tells.all s (oper m s).boundary j (slot m s j) (holding hs s j).list
    list_of j lt = (fits.each s j (part_of j lt)).list inner

    pub can_lend : CanLendAll (plan_in run.job) hs s w
    can_lend = record {
      there = let a = read.there in let b = fits.ops in omega (arith, a, b);
      few = let a = fits.sizes s read.there in let b = parts_few run.plan m small kept s read.there in omega (arith, a, b);
      windows = λ j lt.
          let list = list_of j lt in
          let within = read.within j (part_of j lt) in
          record {
            kept = let a = list.floor in let b = within.0 in omega (arith, a, b);
            whole = let a = list.top in let b = within.1 in omega (arith, a, b);
          };
      cuts = λ j lt. (list_of j lt).cut;
    }

    pub source_whole : (lists : List (List Block)) → AreLent reads_told w (get_or hs s []) lists → AreWhole run w lists
    source_whole lists lent = lent_some (plan_in run.job) reads_told w (get_or hs s []) lists lent (λ j lt. (list_of j lt).cut)

    pub source_fed : (lists : List (List Block)) → IsTrue tells.all → IsTrue reads_told → AreLent reads_told w (get_or hs s []) lists → IsFed run.job w lists s
    source_fed lists t r lent =
        let epoch : boundary_of run.job s w ≡ (oper m s).boundary = sym (boundary_is run.plan run.job planned s w) ∙ read.boundary in
        let there : s < length run.job.flow.nodes = (let a = read.there in let b = kept.ops in let d = operators_are run.plan run.job planned in omega (arith, a, b, d)) in
        let count : length (oper m s).parts ≡ in_force run.job s w = read.count ∙ force_is run.plan run.job planned s w there in
        lent_all run.job tells reads_told at m hs s w lists fits read.there inner read.within epoch count t r lent

  -- ---- both ports

  pub left_lends : reads_left (node_at run.job.flow.nodes o).role ≡ true → CanLendAll (plan_in run.job) hs (node_at run.job.flow.nodes o).left w
  left_lends h = can_lend (node_at run.job.flow.nodes o).left (left_read run.plan run.job planned o op_there h) (left_inner run.job.flow.nodes graph o op_there h)

  pub right_lends : reads_right (node_at run.job.flow.nodes o).role ≡ true → CanLendAll (plan_in run.job) hs (node_at run.job.flow.nodes o).right w
  right_lends h = can_lend (node_at run.job.flow.nodes o).right (right_read run.plan run.job planned o op_there h) (right_inner run.job.flow.nodes graph o op_there h)

  none_whole : (lists : List (List Block)) → lists ≡ [] → AreWhole run w lists
  none_whole lists e = subst (λ ls. AreWhole run w ls) (sym e) ([], tt)

  port_whole : (b : Bool) (s : ℕ) (lists : List (List Block)) → IsPort reads_told b w (get_or hs s []) lists
      → (b ≡ true → AreLent reads_told w (get_or hs s []) lists → AreWhole run w lists) → AreWhole run w lists
  port_whole true s lists port by = by refl port
  port_whole false s lists port by = none_whole lists port

  port_lent : (b : Bool) (s : ℕ) (lists : List (List Block)) → IsPort reads_told b w (get_or hs s []) lists → b ≡ true → AreLent reads_told w (get_or hs s []) lists
  port_lent true s lists port e = port
  port_lent false s lists port e = absurd (let f : false ≡ true = e in cc)

  port_none : (b : Bool) (s : ℕ) (lists : List (List Block)) → IsPort reads_told b w (get_or hs s []) lists → b ≡ false → lists ≡ []
  port_none true s lists port e = absurd (let f : true ≡ false = e in cc)
  port_none false s lists port e = port

  carried_as : boundary_of run.job o w ≡ (oper m o).boundary → (slot m o i).at ≡ w - 1
      → progress_at run.job o (oper m o).boundary i (slot m o i).at ≡ part_progress run.job.flow (in_force run.job o w) i (w - 1) o
  unfolding progress_at
  carried_as boundary before =
      ap (λ b. part_progress run.job.flow (parts_from run.job o b) i (slot m o i).at o) (sym boundary) ∙ ap (λ k. part_progress run.job.flow (in_force run.job o w) i k o) before

  -- ---- the claim

  pub claim_is : (u : ℕ) (state : Progress) (left right : List (List Block)) → (holding hs o i).state ≡ Some state → progress_size state < 4294967232
      → (IsTrue tells.all → IsTrue reads_told)
      → (IsTrue run.told → IsTrue tells.all)
      → IsPort reads_told (reads_left (node_at run.job.flow.nodes o).role) w (get_or hs (node_at run.job.flow.nodes o).left []) left
      → IsPort reads_told (reads_right (node_at run.job.flow.nodes o).role) w (get_or hs (node_at run.job.flow.nodes o).right []) right
      → IsClaim run (record { op = o; part = i; window = w; worker = u; state = Some state; left = left; right = right })
  claim_is u state left right state_is size spools told left_port right_port =
      let node = node_at run.job.flow.nodes o in
      let sound = kept.each o i can.part in
      let base = (sound.saved (slot m o i).rc sound.rc_saved).2 in
      let above : (oper m o).boundary < w = (let a = base in let b = sound.rc in let d = can.next in omega (arith, a, b, d)) in
      let epoch : boundary_at run.plan o w ≡ (oper m o).boundary = in_epoch run.plan is m kept o w can.part.0 above can.limit in
      let boundary : boundary_of run.job o w ≡ (oper m o).boundary = sym (boundary_is run.plan run.job planned o w) ∙ epoch in
      let force : parts m o ≡ in_force run.job o w = kept.number o can.part.0 ∙ (ap (λ k. number run.plan o k) (sym epoch) ∙ force_is run.plan run.job planned o w op_there) in
      record {
        there = op_there;
        low = let a = can.next in omega (arith, a);
        high = let a = can.windows in let b = windows_are run.plan run.job planned in omega (arith, a, b);
        in_epoch = let a = can.part.1 in omega (arith, a, force);
        small = size;
        left_whole = port_whole (reads_left node.role) node.left left left_port
            (λ h lent. source_whole node.left (left_read run.plan run.job planned o op_there h) (left_inner run.job.flow.nodes graph o op_there h) left lent);
        right_whole = port_whole (reads_right node.role) node.right right right_port
            (λ h lent. source_whole node.right (right_read run.plan run.job planned o op_there h) (right_inner run.job.flow.nodes graph o op_there h) right lent);
        left_none = port_none (reads_left node.role) node.left left left_port;
        right_none = port_none (reads_right node.role) node.right right right_port;
        carried = λ t.
            let is_kept : IfSome (holding hs o i).state (λ g. g ≡ progress_at run.job o (oper m o).boundary i (slot m o i).at) = (fits.each o i can.part).state (told t) in
            let was : state ≡ progress_at run.job o (oper m o).boundary i (slot m o i).at = subst (λ s. IfSome s (λ g. g ≡ progress_at run.job o (oper m o).boundary i (slot m o i).at)) state_is is_kept in
            let before : (slot m o i).at ≡ w - 1 = (let a = can.next in omega (arith, a)) in
            was ∙ carried_as boundary before;
        fed = λ t. by_ports node.role (IsFed run.job w left node.left) (IsFed run.job w right node.right)
            (λ h. source_fed node.left (left_read run.plan run.job planned o op_there h) (left_inner run.job.flow.nodes graph o op_there h) left (told t) (spools (told t)) (port_lent (reads_left node.role) node.left left left_port h))
            (λ h. source_fed node.right (right_read run.plan run.job planned o op_there h) (right_inner run.job.flow.nodes graph o op_there h) right (told t) (spools (told t)) (port_lent (reads_right node.role) node.right right right_port h));
      }
