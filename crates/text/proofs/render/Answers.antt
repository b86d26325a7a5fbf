-- `text::render` meets its contract. Assumes nothing.
use Rattle.text.specs.Lines.{plan_line, slots_line}
use Rattle.text.proofs.Append.{appended_join}
use Rattle.text.proofs.Lines.{lines_done, lines_refused}
use Rattle.text.proofs.render.Goals as goal

pub returns-then-answer-ne-DONE : goal.returns-then-answer-ne-DONE
unfolding plan_line
returns-then-answer-ne-DONE c =
    rw (lines_refused c.args.answer _ _ _ c.if-answer-ne-DONE.true) (c.line.ensures.puts.goes_on _ c.empty-text.ensures)

pub returns : goal.returns
unfolding plan_line slots_line
returns c =
    rw (lines_done c.args.answer _ _ _ c.if-answer-ne-DONE.false)
    ((appended_join c.line.ensures.puts (appended_join (rw c.shown.ensures at c.rows.ensures.puts) c.line-2.ensures.puts)).goes_on
    _ c.empty-text.ensures)
