-- Bytes put at the end of a text.
use Rattle.std.specs.Prelude.{ℕ, ◌+◌, ◌≡◌, List, ◌++◌, length}
use Rattle.text.specs.declared.Text.{Text}
use Rattle.text.specs.Lines.{Prints}

-- whatever the text held, it holds these bytes after it, and is longer by as many
pub record Appended (bytes : List ℕ) (old new : Text) : Type 0 where
  pub ends : new.len ≡ old.len + length bytes
  pub goes_on : (before : List ℕ) → Prints before old → Prints (before ++ bytes) new
