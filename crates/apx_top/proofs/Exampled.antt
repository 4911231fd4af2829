-- The files of an example are those of its job.
use Rattle.std.proofs.Common.{◌≡◌, ℕ, List, [], ◌∷◌, refl, subst}
use Rattle.std.specs.Prelude.{Result, Ok, Err, Option, Some, None, MatchResult, codes}
use Rattle.apx_device.specs.Folder.{Answer, AreTold}
use Rattle.apx_gen.specs.Generated.{generator_of, lines_text, application_text, script_text}
use Rattle.apx_pass.specs.Job.{Job}
use Rattle.apx_script.specs.declared.settings.Settings.{Settings}
use Rattle.apx_script.specs.Settings.{usual}
use Rattle.apx_example.specs.Application.{application, nodes}
use Rattle.apx_example.specs.Example.{example_input, example_lines, example_job, IsAcceptedExample}
use Rattle.apx_load.specs.declared.refusal.Refusal.{Refusal}
use Rattle.apx_load.specs.declared.stop.Stop.{Stop}
use Rattle.apx_load.specs.declared.stop.Stop.TheVariants.{Refused, CannotRead, VaultFailed, StoreFailed, SpoolFailed, StateDamaged, BlockDamaged, OutputFailed, Memory, Large}
use Rattle.apx_load.specs.Jobs.{IsJob, IsJobRefusal}
use Rattle.apx_load.specs.Refusals.{by_answers, by_files, AreInputs}
use Rattle.apx_load.specs.Stops.{IsCaused, reading_causes}
use Rattle.apx_load.proofs.Readings.{by-told, of-job, of-job-refusal}
use Rattle.apx_load.proofs.Unique.{job-unique, job-or-refused}
use Rattle.apx_top.specs.Example.{HasExample}

-- the settings of an example
abbrev pub example_settings : Settings
example_settings = record usual { every = 4 }

module _ (number size : ℕ) (files : List ℕ → Option (List ℕ)) (has : HasExample number size files) (is : IsAcceptedExample number size) where
  inputs : AreInputs (by_files files) nodes (example_input number size ∷ [])
  inputs = record {
    each = Some (example_input number size) ∷ None ∷ None ∷ None ∷ [];
    read = (
      (lines_text size (generator_of number), record { is_file = (has.lines, is.lines_short); accepted = is.input }, refl),
      (refl, (refl, (refl, tt))),
    );
    are = refl;
  }

  -- they are accepted, and this is their job
  accepted : IsJob (by_files files) (codes "app.json") (Some (codes "script.txt")) example_settings (example_job number size)
  accepted = (
    (example_job number size).flow,
    record {
      application = record { text = application_text; file = (has.app, is.app_short); app = record { app = application; read = is.read; graph = is.graph } };
      inputs = inputs;
    },
    record {
      lines = example_lines size;
      read = (script_text size, (has.script, is.script_short), is.script);
      judged = is.job;
      is = refl;
    },
  )

  module _ (answers : List Answer) (told : AreTold files answers) (folder : Type 0) (kept : folder → ⊥) where
    same : (job : Job) → IsJob (by_answers answers) (codes "app.json") (Some (codes "script.txt")) example_settings job → job ≡ example_job number size
    same job read =
        job-unique files (codes "app.json") (Some (codes "script.txt")) example_settings job (example_job number size)
        (of-job (by_answers answers) (by_files files) (by-told files answers told) (codes "app.json") (Some (codes "script.txt")) example_settings job read) accepted

    unrefused : (r : Refusal) → IsJobRefusal (by_answers answers) (codes "app.json") (Some (codes "script.txt")) example_settings r → ⊥
    unrefused r refused =
        job-or-refused files (codes "app.json") (Some (codes "script.txt")) example_settings (example_job number size) r accepted
        (of-job-refusal (by_answers answers) (by_files files) (by-told files answers told) (codes "app.json") (Some (codes "script.txt")) example_settings r refused)

    stops : (stop : Stop) → IsCaused (reading_causes (IsJobRefusal (by_answers answers) (codes "app.json") (Some (codes "script.txt")) example_settings) answers folder) stop → stop ≡ Memory
    stops (Refused r) caused = absurd (unrefused r caused)
    stops (CannotRead name) caused = absurd (kept caused.0)
    stops VaultFailed caused = absurd caused
    stops StoreFailed caused = absurd caused
    stops SpoolFailed caused = absurd caused
    stops StateDamaged caused = absurd caused
    stops BlockDamaged caused = absurd caused
    stops OutputFailed caused = absurd caused
    stops Memory caused = refl
    stops Large caused = absurd caused

    -- what is made of them is its job, unless there is no memory
    exampled : (made : Result Job Stop) → MatchResult made (λ job. IsJob (by_answers answers) (codes "app.json") (Some (codes "script.txt")) example_settings job) (IsCaused (reading_causes (IsJobRefusal (by_answers answers) (codes "app.json") (Some (codes "script.txt")) example_settings) answers folder)) → MatchResult made (λ job. job ≡ example_job number size) (λ stop. stop ≡ Memory)
    exampled (Ok job) read = same job read
    exampled (Err stop) caused = stops stop caused

    -- told by names and settings that are those
    pub exampled_by : (app : List ℕ) (script : Option (List ℕ)) (settings : Settings) → app ≡ codes "app.json" → script ≡ Some (codes "script.txt") → settings ≡ example_settings → (made : Result Job Stop) → MatchResult made (λ job. IsJob (by_answers answers) app script settings job) (IsCaused (reading_causes (IsJobRefusal (by_answers answers) app script settings) answers folder)) → MatchResult made (λ job. job ≡ example_job number size) (λ stop. stop ≡ Memory)
    exampled_by app script settings same_app same_script same_settings made is =
        let R : List ℕ → Option (List ℕ) → Settings → Type 0 = λ a s t. MatchResult made (λ job. IsJob (by_answers answers) a s t job) (IsCaused (reading_causes (IsJobRefusal (by_answers answers) a s t) answers folder)) in
        exampled made
        (subst (λ (t : Settings). R (codes "app.json") (Some (codes "script.txt")) t) same_settings
        (subst (λ (s : Option (List ℕ)). R (codes "app.json") s settings) same_script
        (subst (λ (a : List ℕ). R a script settings) same_app is)))
