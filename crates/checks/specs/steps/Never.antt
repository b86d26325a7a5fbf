-- The check of a function that is called after the checks.
use Rattle.checks.specs.declared.Answer.{Answer}

-- a check that refuses nothing
pub data Never (a : Answer) : Type 0 where
