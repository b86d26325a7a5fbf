-- `streams::call::repeated` meets its contract: each turn adds an interrupted call, or is the last. Assumes nothing.
use Rattle.std.proofs.Common.{rules, arith}
use Rattle.streams.specs.steps.Repeats.{over, again}
use Rattle.streams.proofs.Repeats.{gives, made_again, is_over}
use Rattle.streams.proofs.call.repeated.Goals as goal

pub returns-then-not-is_interrupted : goal.returns-then-not-is_interrupted
returns-then-not-is_interrupted g c =
    c.loop.invariant c.call-answer.result (c.call-answer.new.arg2, c.call-answer.new.arg3)
    (over c.loop.counter (c.loop.stream, c.loop.room) (c.call-answer.new.arg2, c.call-answer.new.arg3) c.call-answer.result c.call-answer.result
    (gives _ _ _ _ _ c.call-answer.ensures)
    (is_over c.call-answer.result c.loop.counter (λ i. let t = c.is_interrupted.ensures.1 i in search rules)))

pub loop-preserved : goal.loop-preserved
loop-preserved g c came after rest =
    c.loop.invariant came after
    (again c.loop.counter (c.loop.stream, c.loop.room) (c.call-answer.new.arg2, c.call-answer.new.arg3) after c.call-answer.result came
    (gives _ _ _ _ _ c.call-answer.ensures) (made_again c.call-answer.result c.loop.counter (c.is_interrupted.ensures.0 (search rules)) (omega arith)) rest)

pub returns : goal.returns
returns g c =
    c.loop.invariant c.call.result (c.call.new.arg2, c.call.new.arg3)
    (over c.loop.counter (c.loop.stream, c.loop.room) (c.call.new.arg2, c.call.new.arg3) c.call.result c.call.result (gives _ _ _ _ _ c.call.ensures)
    (is_over c.call.result c.loop.counter (λ i. omega arith)))
