-- What the exported job promises: `JobPromise`, with numbers in place of the `Result`.
use Rattle.std.specs.Prelude.{List, ℕ}
use Rattle.definition.specs.Job.{job_answered, listing_over}
use Rattle.numbers.specs.Exported.{Exported}
use Rattle.numbers.specs.Numbers.{job_numbers}
use Rattle.numbers.specs.declared.JobNumbers.{JobNumbers}

abbrev pub JobExported : List ℕ → List ℕ → JobNumbers → List ℕ → Type 0
JobExported bytes before answer after = Exported job_numbers (job_answered bytes before) (listing_over bytes (job_answered bytes before) before) answer after
