-- What a call's outcome is as its answer.
use Rattle.std.specs.Prelude.{ℕ, Result, Ok, Err}
use Rattle.checks.specs.declared.outcome.Refusal.{Refusal}
use Rattle.checks.specs.Answer.{says, done, refused}
use Rattle.fieldday.specs.declared.FieldDay.{FieldDay}
use Rattle.fieldday.specs.declared.FieldAnswer.{FieldAnswer}

-- a first number and the day after the call, or a refusal, after which the day is as it was given
abbrev pub came : FieldDay → Result (ℕ × FieldDay) Refusal → FieldAnswer
came given (Ok outcome) = record { answer = says done outcome.0 0; held = outcome.1 }
came given (Err refusal) = record { answer = refused refusal; held = given }
