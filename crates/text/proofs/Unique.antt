-- Only one text has given bytes. Assumes nothing.
use Prim.Native.Nat.{ℕ}
use mathlib.Core.Path.{◌≡◌, sym, ◌∙◌, ap}
use mathlib.Core.List.{List}
use Rattle.text.specs.declared.Text.{Text}
use Rattle.text.specs.Lines.{Prints}

pub prints_unique : (bytes : List ℕ) (s t : Text) → Prints bytes s → Prints bytes t → s ≡ t
prints_unique bytes s t p q =
    let text : List ℕ → ℕ → Text = λ bytes len. record { bytes = bytes; len = len } in
    ap (λ (held : List ℕ). text held s.len) (p.holds ∙ sym q.holds) ∙ ap (text t.bytes) (p.len ∙ sym q.len)
