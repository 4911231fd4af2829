-- A journal that was written down is legal for each job of the same files whose checkpoints come at the same windows.
use Rattle.std.proofs.Common.{◌≡◌, ℕ, ◌≤◌, List, length, Option, Some, refl, sym, ap, subst, ◌∙◌}
use Rattle.std.specs.List.{AllByRecursion}
use Rattle.apx_history.specs.declared.Entry.{Entry}
use Rattle.apx_history.specs.Plan.{Plan}
use Rattle.apx_history.specs.Laws.{IsHistory}
use Rattle.apx_script.specs.declared.settings.Settings as code
use Rattle.apx_pass.specs.Graph.{Node}
use Rattle.apx_pass.specs.Groups.{Input}
use Rattle.apx_pass.specs.Script.{Line, RefusedLine}
use Rattle.apx_pass.specs.Job.{Job}
use Rattle.apx_job.specs.Job.{plan_of, refused_line, reason, named_reason, split_reason, late_reason}
use Rattle.apx_job.specs.Prepared.{job_of}
use Rattle.apx_audit.specs.Text.{journal_text, IsEntry}
use Rattle.apx_load.specs.Refusals.{by_files}
use Rattle.apx_load.specs.Laws.{WrittenIsLegal}

module _ (nodes : List Node) (inputs : List Input) (lines : List Line) where
  -- the job with settings
  abbrev job_with : (base every block keep : ℕ) → Job
  job_with base every block keep = record {
    flow = record { nodes = nodes; inputs = inputs };
    script = lines;
    settings = record { base = base; every = every; block = block; keep = keep };
  }

  -- which lines it refuses depends on the checkpoints alone
  refused_by_every : (s t : code.Settings) → t.every ≡ s.every → refused_line (job_of nodes inputs lines t) ≡ refused_line (job_of nodes inputs lines s)
  unfolding refused_line reason named_reason split_reason late_reason
  refused_by_every s t same =
      let own : refused_line (job_with t.base t.every t.block t.keep) ≡ refused_line (job_with s.base t.every s.block s.keep) = refl in
      own ∙ ap (λ (every : ℕ). refused_line (job_with s.base every s.block s.keep)) same

  -- and so does its plan
  plan_by_every : (s t : code.Settings) → t.every ≡ s.every → plan_of (job_of nodes inputs lines t) ≡ plan_of (job_of nodes inputs lines s)
  plan_by_every s t same = ap (λ (every : ℕ). plan_of (job_with s.base every s.block s.keep)) same

pub written-is-legal : WrittenIsLegal
written-is-legal job app script settings es numbers history told journal other is same found few =
    let flow = is.0 in
    let scripted = is.2 in
    let plan : plan_of job ≡ plan_of (job_of flow.nodes flow.inputs scripted.lines other) =
    ap plan_of scripted.is ∙ sym (plan_by_every flow.nodes flow.inputs scripted.lines settings other same) in (
      job_of flow.nodes flow.inputs scripted.lines other,
      (
        flow,
        is.1,
        record {
          lines = scripted.lines;
          read = scripted.read;
          judged = refused_by_every flow.nodes flow.inputs scripted.lines settings other same ∙ scripted.judged;
          is = refl;
        },
      ),
      record {
        text = journal_text es;
        read = (found, few);
        legal = record {
          entries = numbers;
          legal = subst (λ (p : Plan). IsHistory p 0 0 es) plan history;
          is = refl;
        };
      },
    )
